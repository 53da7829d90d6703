-- Which rows of a list are kept: those that repeat none kept before them. A row that is not kept takes none away.
use Rattle.std.specs.Prelude.{Bool, if◌then◌else◌, List, [], ◌∷◌, ◌++◌, map}
use Rattle.std.specs.List.{list_any, AllByRecursion}
use Rattle.myi_keys.specs.declared.values.KeySeg.{KeySeg}
use Rattle.myi_keylist.specs.Repeats.{is_same_key, AreApart}

-- what a row's key is, in one of the keys of a table
abbrev pub KeyOf : Type 0 → Type 0
KeyOf Row = Row → List KeySeg

-- the rows of a list that are kept, behind those that are kept already
abbrev pub first_after : {Row : Type 0} → (Row → Row → Bool) → List Row → List Row → List Row
first_after repeats kept [] = []
first_after repeats kept (row ∷ rows) = if list_any (repeats row) kept then first_after repeats kept rows else row ∷ first_after repeats (kept ++ row ∷ []) rows

-- the rows of a list that are kept
abbrev pub first_by : {Row : Type 0} → (Row → Row → Bool) → List Row → List Row
first_by repeats rows = first_after repeats [] rows

-- the row has, in one of these unique keys, the complete key of the other
abbrev pub repeats_in : {Row : Type 0} → List (KeyOf Row) → Row → Row → Bool
repeats_in keys row other = list_any (λ key. is_same_key (key row) (key other)) keys

-- in none of these keys do two rows have one complete key
abbrev pub AreDistinctIn : {Row : Type 0} → List (KeyOf Row) → List Row → Type 0
AreDistinctIn keys rows = AllByRecursion (λ key. AreApart [] (map key rows)) keys
