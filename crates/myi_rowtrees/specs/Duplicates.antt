-- The first unique key in which another row has the complete key of a row.
use Rattle.std.specs.Prelude.{◌≡◌, ◌==◌, ℕ, true, if◌then◌else◌, List, Option, Some, None, option_map}
use Rattle.myi_defs.specs.declared.types.Defs.{Defs}
use Rattle.myi_pack.specs.Packed.{Values}
use Rattle.myi_state.specs.State.{StoredRow, rows_without}
use Rattle.myi_keys.specs.Limits.{is_complete}
use Rattle.myi_data.specs.Keys.{IsKeyNumber, key_of}
use Rattle.myi_pair.specs.FirstRows.{key_numbers, is_unique}
use Rattle.myi_tablestate.specs.Keyed.{Holder, first_holder}
use Rattle.myi_tablestate.specs.Listed.{position}
use Rattle.myi_rowtrees.specs.declared.duplicates.Duplicate.{Duplicate}

-- the rows but the one with a pointer, where one is given
abbrev pub others : Defs → Option ℕ → List StoredRow → List StoredRow
others d None rows = rows
others d (Some pointer) rows = rows_without (position d pointer) rows

-- a pointer that is not the given one
abbrev pub another : Option ℕ → Option ℕ → Option ℕ
another own None = None
another None (Some row) = Some row
another (Some own) (Some row) = if row == own then None else Some row

-- a key, by its number, and the position of the row with a pointer
abbrev pub held_at : Defs → Duplicate → Holder
held_at d found = (found.key, position d found.row)

-- the first unique key in which one of these rows has the complete key of a row, and a row that has it
abbrev pub IsFirstHeld : Defs → Values → List StoredRow → Option Duplicate → Type 0
IsFirstHeld d values rows found = option_map (held_at d) found ≡ first_holder d values rows (key_numbers d)

-- the number, from 1, of a unique key
abbrev pub IsUniqueKey : Defs → ℕ → Type 0
IsUniqueKey d k = IsKeyNumber d k × (is_unique d k ≡ true)

-- the key of this number is unique, and a row's key in it complete, so that another row may not have it
abbrev pub MayRepeat : Defs → Values → ℕ → Type 0
MayRepeat d values k = IsUniqueKey d k × (is_complete (key_of d k values) ≡ true)
