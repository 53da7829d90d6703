-- The walk of a key's tree, as far as it went: what it met of the sorted pairs of the key, and its pages.
use Rattle.std.specs.Prelude.{◌≡◌, ◌+◌, ◌&&◌, ℕ, Bool, true, false, not, is_none, List, [], ◌∷◌, length, map, drop, Option, None}
use Rattle.std.specs.Option.{option_map, option_or}
use Rattle.std.specs.List.{list_all}
use Rattle.std.specs.Ordering.{is_eq}
use Rattle.myi_base.specs.Holding.{Holding}
use Rattle.myi_base.specs.Ranges.{Range}
use Rattle.myi_keys.specs.declared.values.KeySeg.{KeySeg}
use Rattle.myi_keylist.specs.declared.pair.Pair.{Pair}
use Rattle.myi_keylist.specs.PairOrder.{pair_cmp}
use Rattle.myi_keycache.specs.Caching.{Caching}
use Rattle.myi_btree.specs.declared.place.Place.{Place}
use Rattle.myi_btree.specs.Visit.{page_range}
use Rattle.myi_btree.specs.Events.{Event, first_bad, pages_in}
use Rattle.myi_btree.specs.Used.{up_to_used}
use Rattle.myi_btree.specs.TreeEvents.{tree_events}
use Rattle.myi_btree.specs.Serving.{View, nodes_at}
use Rattle.myi_btree.specs.Walking.{Walking, walk_at, IsStillMet, MayGo}
use Rattle.myi_pair.specs.Trees.{node_at, total}
use Rattle.myi_pair.specs.FirstBad.{repeats_last, walk_bad}
use Rattle.myi_pair.specs.Findings.{told}
use Rattle.myi_check.specs.declared.pairs_met.PairsMet.{PairsMet}
use Rattle.myi_check.specs.declared.busy.BusyPages.{BusyPages}
use Rattle.myi_check.specs.declared.walks.TreeKey.{TreeKey}
use Rattle.myi_check.specs.declared.walks.TreeWalk.{TreeWalk}
use Rattle.myi_check.specs.WalksBusy.{AreBusy}

-- what a walk meets, or is left for it to meet
abbrev pub EventList : Type 0
EventList = List Event

-- the pair is the next one, and does not repeat the complete key of the one before it in a unique key
abbrev pub is_next : Bool → Option (List KeySeg) → List Pair → Pair → Bool
is_next unique last [] p = false
is_next unique last (q ∷ qs) p = is_eq (pair_cmp p q) && not (unique && repeats_last last p.key)

-- the key of the last pair that was met
abbrev pub last_key : PairsMet → Option (List KeySeg)
last_key met = option_map (λ (p : Pair). p.key) met.last

-- the page of the first bad thing, where this was met of the pairs and these events are left
abbrev pub bad_with : Bool → List Pair → PairsMet → List Event → Option ℕ
bad_with unique pairs met left = option_or met.bad (walk_bad unique (last_key met) (drop met.count pairs) left)

-- how many bytes the pages have that are met
abbrev pub bytes_met : ℕ → List Event → ℕ
bytes_met block es = total (map (page_range block) (pages_in es))

-- What a walk met, and what is left for it to meet, is all: the first bad thing, whether it meets a bad place, and
-- where it met none the bytes of its pages and their places. Where it met one, nothing counts that is left.
pub record Shows (unique : Bool) (block : ℕ) (pairs : List Pair) (walk : TreeWalk) (all left : List Event) : Type 0 where
  pub cut : walk.is_cut ≡ true → is_none walk.met.bad ≡ false
  pub bad : walk_bad unique None pairs all ≡ bad_with unique pairs walk.met left
  pub whole : is_none (first_bad all) ≡ (not walk.is_cut && is_none (first_bad left))
  pub bytes : walk.is_cut ≡ false → told (bytes_met block all) ≡ told (walk.bytes + bytes_met block left)
  pub places : walk.is_cut ≡ false → (test : ℕ → Bool) → list_all test (pages_in all) ≡ (list_all test walk.places.keys && list_all test (pages_in left))

-- the same of events up to the first page that has a busy byte
abbrev pub ShowsApart : TreeKey → List Pair → BusyPages → TreeWalk → List Event → List Event → Type 0
ShowsApart key pairs busy walk all left = (ranges : List Range) → AreBusy ranges busy
    → Shows key.unique key.place.block_length pairs walk (up_to_used key.place.block_length ranges all) (up_to_used key.place.block_length ranges left)

-- a walk that is under way: it may go on, and this holds of all that it meets and of what is left for it to meet
pub record GoesOn (Of : EventList → EventList → Type 0) (place : Place) (v : View) (held : Option Holding) (cache : Caching) (now : Walking) : Type 0 where
  pub seen : List ℕ
  pub may : MayGo place v held cache seen now
  pub back : (left : List Event) → IsStillMet place.block_length (nodes_at place v) seen now left
      → (all : List Event) × IsStillMet place.block_length (nodes_at place v) [] (walk_at place) all × Of all left

-- the events of a tree's walk in an index file
abbrev pub events_in : Place → List ℕ → List Event
events_in place x = tree_events (length x) place.block_length (node_at place.rec_ref place.block_length x) place.root
