-- Class numbers of the unique keys of a table, key by key, and row numbers that become row pointers.
use Rattle.std.specs.Prelude.{◌≡◌, ◌&&◌, ◌==◌, ◌<◌, ◌≤◌, ◌⊎◌, ℕ, Bool, true, false, not, List, [], ◌∷◌, length, map, slice_index, slice_index_or}
use Rattle.std.specs.List.{range_with_len}
use Rattle.myi_keylist.specs.declared.pair.Pair.{Pair}
use Rattle.myi_keylist.specs.PairOrder.{pair_with}
use Rattle.myi_keylist.specs.Repeats.{is_same_key}
use Rattle.myi_keylist.specs.FirstBy.{KeyOf}
use Rattle.myi_keylist.specs.Classes.{Columns}

-- the numbers of the rows in one unique key: two rows share one other than 0 exactly where they have one complete key, and the
-- numbers other than 0 are above those that are taken, up to the last
pub record IsColumn (key : KeyOf ℕ) (rows taken last : ℕ) (numbers : List ℕ) : Type 0 where
  pub decides : (i j : ℕ) → i < rows → j < rows → is_same_key (key i) (key j) ≡ (not (slice_index numbers i == 0) && (slice_index numbers j == slice_index numbers i))
  pub within : (i : ℕ) → (slice_index numbers i ≡ 0) ⊎ ((taken < slice_index numbers i) × (slice_index numbers i ≤ last))
  pub above : taken ≤ last

-- the pairs of so many rows with their numbers, from 0
abbrev pub numbered : KeyOf ℕ → ℕ → List Pair
numbered key rows = map (λ row. pair_with (key row) row) (range_with_len 0 rows)

-- the columns of these keys, in each of which numbers go on behind those of the key before, up to the last
abbrev pub AreColumns : List (KeyOf ℕ) → ℕ → ℕ → ℕ → Columns → Type 0
AreColumns [] rows taken last [] = taken ≡ last
AreColumns [] rows taken last (numbers ∷ columns) = ⊥
AreColumns (key ∷ keys) rows taken last [] = ⊥
AreColumns (key ∷ keys) rows taken last (numbers ∷ columns) = (next : ℕ) × (IsColumn key rows taken next numbers × AreColumns keys rows next last columns)

-- the key of the row that stands at a number
abbrev pub key_by_number : {Row : Type 0} → List Row → Row → KeyOf Row → KeyOf ℕ
key_by_number rows some key i = key (slice_index_or rows i some)

-- each pointer is above those before it
abbrev pub AreRising : List ℕ → Type 0
AreRising pointers = (i j : ℕ) → i < j → j < length pointers → slice_index pointers i < slice_index pointers j

-- the pair of a row number with the pointer that stands at it
abbrev pub pointed : List ℕ → Pair → Pair
pointed pointers p = pair_with p.key (slice_index pointers p.row)

-- the pair's row, by its number, has a flag that is set
abbrev pub has_flag : List Bool → Pair → Bool
has_flag flags p = slice_index_or flags p.row false

-- of rows whose flag is set each has a pointer above those before it
abbrev pub AreRisingAt : List Bool → List ℕ → Type 0
AreRisingAt flags pointers = (i j : ℕ) → i < j → slice_index_or flags i false ≡ true → slice_index_or flags j false ≡ true → slice_index pointers i < slice_index pointers j

-- the pairs of rows with their pointers
abbrev pub pairs_with : {Row : Type 0} → KeyOf Row → List Row → List ℕ → List Pair
pairs_with key [] pointers = []
pairs_with key (row ∷ rows) [] = []
pairs_with key (row ∷ rows) (pointer ∷ pointers) = pair_with (key row) pointer ∷ pairs_with key rows pointers
