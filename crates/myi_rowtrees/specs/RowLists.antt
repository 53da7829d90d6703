-- The lists of pairs that the trees of a table have, one for each key, and the pairs of a row in them.
use Rattle.std.specs.Prelude.{◌≢◌, ◌<◌, ◌^◌, ℕ, if◌then◌else◌, List, [], ◌∷◌, map}
use Rattle.std.specs.List.{AllByRecursion}
use Rattle.std.specs.Ordering.{is_eq}
use Rattle.myi_defs.specs.declared.types.Defs.{Defs}
use Rattle.myi_pack.specs.Packed.{Values}
use Rattle.myi_keys.specs.Order.{key_cmp}
use Rattle.myi_keylist.specs.declared.pair.Pair.{Pair}
use Rattle.myi_keylist.specs.PairOrder.{pair_with, put_pair}
use Rattle.myi_btree.specs.declared.place.Place.{Place}
use Rattle.myi_insertion.specs.Removal.{without_pair}
use Rattle.myi_data.specs.Keys.{key_of}
use Rattle.myi_state.specs.State.{StoredRow}
use Rattle.myi_pair.specs.FirstRows.{key_numbers}
use Rattle.myi_tablestate.specs.Listed.{listed}

-- the lists of these rows
abbrev pub lists_of : Defs → List StoredRow → List (List Pair)
lists_of d rows = map (λ k. listed d k rows) (key_numbers d)

-- the pairs of a row with a pointer
abbrev pub row_pairs : Defs → Values → ℕ → List Pair
row_pairs d values pointer = map (λ k. pair_with (key_of d k values) pointer) (key_numbers d)

-- each pair put into the list of its key
abbrev pub put_each : List Pair → List (List Pair) → List (List Pair)
put_each [] lists = lists
put_each (p ∷ ps) [] = []
put_each (p ∷ ps) (xs ∷ lists) = put_pair p xs ∷ put_each ps lists

-- each pair taken out of it
abbrev pub take_each : List Pair → List (List Pair) → List (List Pair)
take_each [] lists = lists
take_each (p ∷ ps) [] = []
take_each (p ∷ ps) (xs ∷ lists) = without_pair p xs ∷ take_each ps lists

-- a pair in place of another one, but where both have one key nothing is changed
abbrev pub moved_in : Pair → Pair → List Pair → List Pair
moved_in was now xs = if is_eq (key_cmp was.key now.key) then xs else put_pair now (without_pair was xs)

-- each pair in place of the one before, in the list of its key
abbrev pub move_each : List Pair → List Pair → List (List Pair) → List (List Pair)
move_each [] news lists = lists
move_each (p ∷ olds) [] lists = lists
move_each (p ∷ olds) (q ∷ news) [] = []
move_each (p ∷ olds) (q ∷ news) (xs ∷ lists) = moved_in p q xs ∷ move_each olds news lists

-- no pair of the lists has this pointer
abbrev pub LackPointer : ℕ → List (List Pair) → Type 0
LackPointer pointer lists = AllByRecursion (λ xs. AllByRecursion (λ (p : Pair). p.row ≢ pointer) xs) lists

-- no pair of the lists has the pointer of one of these
abbrev pub LackPointers : List Pair → List (List Pair) → Type 0
LackPointers pairs lists = AllByRecursion (λ (p : Pair). LackPointer p.row lists) pairs

-- the pointers of these pairs have room in the pages of the trees
abbrev pub ArePointers : List Place → List Pair → Type 0
ArePointers places pairs = AllByRecursion (λ (p : Pair). AllByRecursion (λ (place : Place). p.row < 256 ^ place.rec_ref) places) pairs
