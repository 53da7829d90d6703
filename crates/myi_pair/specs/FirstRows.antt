-- The first rows of unique keys (MySQL Reference Manual, "CREATE TABLE": the values of a UNIQUE index are distinct, but
-- NULL may stand several times). A row is kept unless it has, in a unique key, the complete key of a row that is kept
-- before it. A row that is not kept takes none away.
use Rattle.std.specs.Prelude.{◌≡◌, ◌&&◌, ℕ, Bool, false, List, [], ◌∷◌, ◌++◌}
use Rattle.std.specs.List.{list_any}
use Rattle.myi_defs.specs.declared.types.Defs.{Defs}
use Rattle.myi_pack.specs.Packed.{Values}
use Rattle.myi_keylist.specs.Repeats.{is_same_key}
use Rattle.myi_keylist.specs.FirstBy.{first_by}
use Rattle.myi_data.specs.Keys.{key_of}
use Rattle.myi_data.specs.Stored.{SizedRow}
-- the keys of a table by their numbers
pub use Rattle.myi_rowkeys.specs.TableKeys.{numbers_from, key_numbers, is_unique}

-- the row has the complete key of the other in the unique key of that number
abbrev pub repeats_key : Defs → Values → Values → ℕ → Bool
repeats_key d row other k = is_unique d k && is_same_key (key_of d k row) (key_of d k other)

-- the row has the complete key of the other in a unique key
unfoldable pub repeats : Defs → Values → Values → Bool
repeats d row other = list_any (repeats_key d row other) (key_numbers d)

-- the same of rows with the sizes of their blocks
abbrev pub repeats_row : Defs → SizedRow → SizedRow → Bool
repeats_row d row other = repeats d row.values other.values

-- the rows of a list that are kept
unfoldable pub first_rows : Defs → List SizedRow → List SizedRow
first_rows d rows = first_by (repeats_row d) rows

-- no row of the list repeats one before it, or one of those before the list
abbrev pub AreDistinct : Defs → List Values → List Values → Type 0
AreDistinct d before [] = Unit {0}
AreDistinct d before (row ∷ rows) = (list_any (repeats d row) before ≡ false) × AreDistinct d (before ++ row ∷ []) rows
