-- Which rows are kept, by class numbers. A row has a number in each unique key: 0 where its key there is not complete, and else
-- one that it shares with the rows of the same key in the same unique key, and with no others.
use Rattle.std.specs.Prelude.{◌≡◌, ◌&&◌, ◌==◌, ◌<◌, ℕ, zero, suc, Bool, true, false, not, if◌then◌else◌, List, [], ◌∷◌, ◌++◌, length, slice_index, slice_index_or}
use Rattle.std.specs.List.{list_any, AllByRecursion}

-- the class numbers of all rows, for each unique key
abbrev pub Columns : Type 0
Columns = List (List ℕ)

-- all numbers are below an end
abbrev pub AreBelow : ℕ → Columns → Type 0
AreBelow end columns = AllByRecursion (AllByRecursion (λ c. c < end)) columns

-- a row has this number in one of the keys
abbrev pub has_class : Columns → ℕ → ℕ → Bool
has_class columns c row = list_any (λ numbers. slice_index numbers row == c) columns

-- two rows share a number other than 0
abbrev pub share_class : Columns → ℕ → ℕ → Bool
share_class columns row other = list_any (λ numbers. not (slice_index numbers row == 0) && has_class columns (slice_index numbers row) other) columns

-- two rows of a list share a number exactly where one repeats the other
abbrev pub AreClasses : {Row : Type 0} → (Row → Row → Bool) → List Row → Columns → Type 0
AreClasses {Row} repeats rows columns =
    (i j : ℕ) (other : Row) → i < length rows → j < length rows → repeats (slice_index_or rows i other) (slice_index_or rows j other) ≡ share_class columns i j

-- whether each of n rows from a number on is kept, behind those that are kept already
abbrev pub keeps_from : (ℕ → ℕ → Bool) → List ℕ → ℕ → ℕ → List Bool
keeps_from repeats kept row zero = []
keeps_from repeats kept row (suc n) =
    if list_any (repeats row) kept then false ∷ keeps_from repeats kept (suc row) n else true ∷ keeps_from repeats (kept ++ row ∷ []) (suc row) n

-- whether each of n rows is kept: one that shares a number with none kept before it
abbrev pub class_flags : Columns → ℕ → List Bool
class_flags columns n = keeps_from (share_class columns) [] 0 n

-- the rows with a true flag
abbrev pub picked : {Row : Type 0} → List Bool → List Row → List Row
picked [] rows = []
picked (b ∷ flags) [] = []
picked (true ∷ flags) (row ∷ rows) = row ∷ picked flags rows
picked (false ∷ flags) (row ∷ rows) = picked flags rows

-- a number other than 0 that is taken
abbrev pub is_taken : List Bool → ℕ → Bool
is_taken taken c = not (c == 0) && slice_index_or taken c false

-- the numbers of these rows are taken
abbrev pub AreTaken : Columns → List Bool → List ℕ → Type 0
AreTaken columns taken kept = (c : ℕ) → c < length taken → slice_index_or taken c false ≡ list_any (has_class columns c) kept
