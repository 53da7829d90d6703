-- The walk of a tree of which each pair is asked of its row, as far as it went.
use Rattle.std.specs.Prelude.{◌≡◌, ◌≤◌, ◌+◌, ◌*◌, ◌&&◌, ℕ, Bool, false, true, is_none, List, [], ◌∷◌, ◌++◌, length, take, drop, Option, Some, None}
use Rattle.std.specs.List.{AllByRecursion, Contains}
use Rattle.std.specs.declared.cmp.Ordering.TheVariants.{Less}
use Rattle.myi_base.specs.Holding.{Holding, IfTold}
use Rattle.myi_defs.specs.declared.types.Defs.{Defs}
use Rattle.myi_defs.specs.Sound.{IsSound}
use Rattle.myi_data.specs.Keys.{IsKeyNumber}
use Rattle.myi_keylist.specs.declared.pair.Pair.{Pair}
use Rattle.myi_keylist.specs.PairOrder.{pair_cmp, sorted}
use Rattle.myi_btree.specs.Events.{Event}
use Rattle.myi_pair.specs.FirstBad.{repeats_last}
use Rattle.myi_pair.specs.KeyList.{pairs_of}
use Rattle.myi_check.specs.Rows.{IsScanned, rows_in}
use Rattle.myi_check.specs.declared.busy.BusyPages.{BusyPages}
use Rattle.myi_check.specs.declared.pairs_met.PairsMet.{PairsMet}
use Rattle.myi_check.specs.declared.walks.TreeKey.{TreeKey}
use Rattle.myi_check.specs.declared.walks.TreeWalk.{TreeWalk}
use Rattle.myi_check.specs.declared.keys.KeysSoFar.{KeysSoFar}
use Rattle.myi_check.specs.declared.row_reads.RowsKey.{RowsKey}
use Rattle.myi_check.specs.declared.asking.AskedKey.{AskedKey}
use Rattle.myi_check.specs.Walks.{last_key, ShowsApart, events_in}
use Rattle.myi_check.specs.Keys.{Adds}

-- these are the bytes of the slot of that number, by slots of a length
pub record IsSlot (size number : ℕ) (x bytes : List ℕ) : Type 0 where
  pub inside : number * size + size ≤ length x
  pub is : bytes ≡ take size (drop (number * size) x)

-- the pairs of the readable rows of a data file in the key of that number
abbrev pub row_pairs : Defs → ℕ → List ℕ → List Pair
row_pairs d k x = pairs_of d k (rows_in d x)

-- where the files are told, and the data file was scanned, the pair is that of a readable row in it
abbrev pub IsOfRow : Option Holding → RowsKey → Pair → Type 0
IsOfRow told key p = IfTold told (λ m. (x : List ℕ) → m key.file.name.now ≡ Some x → IsScanned key.defs.now key.file x → Contains (row_pairs key.defs.now key.number x) p)

-- the pair is above the last one, if any
abbrev pub IsAbove : Option Pair → Pair → Type 0
IsAbove None p = Unit {0}
IsAbove (Some last) p = pair_cmp last p ≡ Less

-- all of these pairs are below this one
abbrev pub AreBelow : List Pair → Pair → Type 0
AreBelow pairs p = AllByRecursion (λ q. pair_cmp q p ≡ Less) pairs

-- each pair is below all behind it
abbrev pub AreRising : List Pair → Type 0
AreRising [] = Unit {0}
AreRising (p ∷ ps) = AllByRecursion (λ q. pair_cmp p q ≡ Less) ps × AreRising ps

-- A pair may be met next: it is above the last one, does not repeat its complete key in a unique key, and is one of
-- these.
pub record IsNextAsked (Of : Pair → Type 0) (unique : Bool) (met : PairsMet) (p : Pair) : Type 0 where
  pub above : IsAbove met.last p
  pub apart : (unique && repeats_last (last_key met) p.key) ≡ false
  pub of : Of p

-- What a walk met that met nothing bad, and what is left for it to meet, is all: it met these pairs, each above those
-- before it and one of those that are asked for. With any pairs behind them they are met one after the other.
pub record AsksApart (Of : Pair → Type 0) (key : TreeKey) (busy : BusyPages) (walk : TreeWalk) (all left : List Event) : Type 0 where
  pub seen : List Pair
  pub count : walk.met.count ≡ length seen
  pub rising : AreRising seen
  pub below : (p : Pair) → IsAbove walk.met.last p → AreBelow seen p
  pub of : AllByRecursion Of seen
  pub shows : (rest : List Pair) → ShowsApart key (seen ++ rest) busy walk all left

-- the walk met nothing bad
abbrev pub IsGood : TreeWalk → Type 0
IsGood walk = is_none walk.met.bad ≡ true

-- ---- a key of a table

-- the definitions are sound, and have a key of that number
pub record CanBeAsked (key : AskedKey) : Type 0 where
  pub sound : IsSound key.of_rows.defs.now
  pub number : IsKeyNumber key.of_rows.defs.now key.of_rows.number

-- where the files are told, the pair is that of a readable row for the key
abbrev pub OfKey : Option Holding → AskedKey → Pair → Type 0
OfKey told key p = IsOfRow told key.of_rows p

-- Where the data file was scanned, the walk of the key's tree in the index file was added,
-- beside the key list.
abbrev pub AddsAsked : List ℕ → AskedKey → KeysSoFar → KeysSoFar → Holding → Type 0
AddsAsked index key old new m = (x d : List ℕ) → m index ≡ Some x → m key.of_rows.file.name.now ≡ Some d
    → IsScanned key.of_rows.defs.now key.of_rows.file d
    → Adds key.tree (sorted (row_pairs key.of_rows.defs.now key.of_rows.number d)) (events_in key.tree.place x) old new
