-- The pairs of a table's rows, a list for each key. Until rows have their row pointers each has its number, from 0.
use Rattle.std.specs.Prelude.{◌≡◌, ◌+◌, ◌&&◌, ◌||◌, ℕ, Bool, true, false, if◌then◌else◌, List, [], ◌∷◌, ◌++◌, length, map, slice_index_or}
use Rattle.myi_defs.specs.declared.types.Key.{Key}
use Rattle.myi_defs.specs.declared.types.Defs.{Defs}
use Rattle.myi_keys.specs.declared.values.KeySeg.{KeySeg}
use Rattle.myi_keylist.specs.declared.pair.Pair.{Pair}
use Rattle.myi_keylist.specs.PairOrder.{pair_with, sorted}
use Rattle.myi_keylist.specs.Repeats.{has_repeat}
use Rattle.myi_keylist.specs.FirstBy.{KeyOf}
use Rattle.myi_keylist.specs.Classes.{Columns}
use Rattle.myi_keylist.specs.Columns.{IsColumn, numbered, key_by_number, pairs_with}
use Rattle.myi_data.specs.Stored.{SizedRow}
use Rattle.myi_rowkeys.specs.TableKeys.{key_numbers, is_unique, key_in}

-- each list with one more pair: the key of that list, and the pointer or number
abbrev pub with_pairs : ℕ → List (List KeySeg) → List (List Pair) → List (List Pair)
with_pairs row [] lists = lists
with_pairs row (key ∷ keys) [] = []
with_pairs row (key ∷ keys) (pairs ∷ lists) = (pairs ++ pair_with key row ∷ []) ∷ with_pairs row keys lists

-- the lists of unique keys sorted, the others as they are
abbrev pub sorted_unique : List Key → List (List Pair) → List (List Pair)
sorted_unique [] lists = lists
sorted_unique (key ∷ keys) [] = []
sorted_unique (key ∷ keys) (pairs ∷ lists) = (if key.unique then sorted pairs else pairs) ∷ sorted_unique keys lists

-- in a list of a unique key two pairs, one behind the other, have one complete key
abbrev pub any_repeat : List Key → List (List Pair) → Bool
any_repeat [] lists = false
any_repeat (key ∷ keys) [] = false
any_repeat (key ∷ keys) (pairs ∷ lists) = (key.unique && has_repeat pairs) || any_repeat keys lists

abbrev pub no_row : SizedRow
no_row = record { values = []; sizes = [] }

-- the pairs of these rows with their numbers
abbrev pub number_pairs : Defs → List SizedRow → List (List Pair)
number_pairs d rows = map (λ k. numbered (key_by_number rows no_row (key_in d k)) (length rows)) (key_numbers d)

-- the pairs of these rows with these pointers
abbrev pub pointer_pairs : Defs → List SizedRow → List ℕ → List (List Pair)
pointer_pairs d rows pointers = map (λ k. pairs_with (key_in d k) rows pointers) (key_numbers d)

-- the lists have the pairs of these rows with their numbers; those of unique keys are sorted
pub record AreNumberLists (d : Defs) (rows : List SizedRow) (lists : List (List Pair)) : Type 0 where
  pub same : map sorted lists ≡ map sorted (number_pairs d rows)
  pub unique : (i : ℕ) → is_unique d (i + 1) ≡ true → slice_index_or lists i [] ≡ sorted (slice_index_or lists i [])

-- ---- what serves private contracts

-- the class numbers of so many rows in a unique key were added, and nothing where the key is not unique
abbrev pub AddsColumn : Bool → List Pair → ℕ → ℕ → ℕ → Columns → Columns → Type 0
AddsColumn true list rows last next old new = (numbers : List ℕ) × (new ≡ old ++ numbers ∷ []) × ((key : KeyOf ℕ) → list ≡ sorted (numbered key rows) → IsColumn key rows last next numbers)
AddsColumn false list rows last next old new = (next ≡ last) × (new ≡ old)
