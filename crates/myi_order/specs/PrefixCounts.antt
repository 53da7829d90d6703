-- What was counted of pairs that come in order.
use Rattle.std.specs.Prelude.{◌≡◌, ◌+◌, ◌<◌, ◌≤◌, ℕ, List, [], ◌∷◌, ◌++◌, length, map, slice_index, IsSorted, Option, Some, None}
use Rattle.std.specs.List.{AllByRecursion}
use Rattle.myi_keylist.specs.declared.pair.Pair.{Pair}
use Rattle.myi_keylist.specs.PairOrder.{pair_cmp}
use Rattle.myi_keylist.specs.Repeats.{keys_of}
use Rattle.myi_btree.specs.declared.place.Place.{Place}
use Rattle.myi_btree.specs.Events.{Event, pairs_in}
use Rattle.myi_check.specs.Walks.{events_in}
use Rattle.myi_order.specs.Prefixes.{per_each, prefix_ends}
use Rattle.myi_order.specs.Shared.{shared}
use Rattle.myi_order.specs.declared.prefixes.PrefixCount.{PrefixCount}

-- all keys have so many segments
abbrev pub HaveSegments : ℕ → List Pair → Type 0
HaveSegments n pairs = AllByRecursion (λ (p : Pair). length p.key ≡ n) pairs

-- the last pair, if any, and pairs behind it
abbrev pub with_last : Option Pair → List Pair → List Pair
with_last None rest = rest
with_last (Some last) rest = last ∷ rest

-- how many segments of the last pair's key the next one shares; all where there is none
abbrev pub shared_by_last : Option Pair → ℕ → Pair → ℕ
shared_by_last None all next = all
shared_by_last (Some last) all next = shared last.key next.key

-- These pairs came: with those prefixes of theirs that ended, and with what ends at the last and at any pairs behind it, are all
-- counted.
pub record HasCounted (seen : List Pair) (c : PrefixCount) : Type 0 where
  pub rows : c.rows ≡ length seen
  pub segments : (n : ℕ) → HaveSegments n seen → HaveSegments n (with_last c.last [])
  pub ended : (rest : List Pair) → HaveSegments (length c.ended.items) (seen ++ rest) → (j : ℕ) → j < length c.ended.items
      → slice_index c.ended.items j + prefix_ends (j + 1) (keys_of (with_last c.last rest)) ≡ prefix_ends (j + 1) (keys_of (seen ++ rest))

-- no more prefixes ended than pairs came before the last
abbrev pub HasRoom : PrefixCount → Type 0
HasRoom c = (j : ℕ) → j < length c.ended.items → slice_index c.ended.items j + length (with_last c.last []) ≤ c.rows

-- ---- of a tree

-- the pairs of events, without their pages
abbrev pub pairs_of : List Event → List Pair
pairs_of es = map (λ x. x.0) (pairs_in es)

-- the pairs that the walk of a tree meets
abbrev pub tree_pairs : Place → List ℕ → List Pair
tree_pairs place x = pairs_of (events_in place x)

-- the pairs among these events came, but for those that are left
pub record CountsTo (c : PrefixCount) (all left : List Event) : Type 0 where
  pub seen : List Pair
  pub pairs : pairs_of all ≡ seen ++ pairs_of left
  pub has : HasCounted seen c

-- so many rows go to one prefix, if the pairs of the tree are in order and have so many segments
abbrev pub CountsTree : Place → ℕ → List ℕ → List ℕ → Type 0
CountsTree place segments x per = IsSorted pair_cmp (tree_pairs place x) → HaveSegments segments (tree_pairs place x)
    → per ≡ per_each segments (keys_of (tree_pairs place x))
