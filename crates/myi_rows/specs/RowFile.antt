-- The data file of a table that changes, in either format, as one kind of object: a static file is one of which no positions are
-- noted. What stands at a position, and how many reads it may count for, by the format.
use Rattle.std.specs.Prelude.{◌≡◌, ◌+◌, ◌≤◌, ℕ, true, List, Option, Some, None, is_some}
use Rattle.myi_base.specs.Holding.{Holding, bytes_of, blocks}
use Rattle.myi_defs.specs.declared.types.RowFormat.{RowFormat}
use Rattle.myi_defs.specs.declared.types.RowFormat.TheVariants.{Static, Dynamic}
use Rattle.myi_pack.specs.Packed.{Values}
use Rattle.myi_slots.specs.SlotBytes.{is_row, row_there}
use Rattle.myi_slots.specs.SlotFile.{SlotFile}
use Rattle.myi_slots.specs.declared.fault.DataFault.{DataFault}
use Rattle.myi_slots.specs.declared.fault.DataFault.TheVariants as fault
use Rattle.myi_blocks.specs.Places.{NotedFile}
use Rattle.myi_blocks.specs.RowReading as dynamic
use Rattle.myi_rows.specs.declared.row_file.Rows.{Rows}
use Rattle.myi_rows.specs.declared.row_file.Rows.TheVariants as rows

-- a file with its noted positions, of which a static one has none
abbrev pub noted_of : Rows → NotedFile
noted_of (rows.Static f) = record { file = f; places = None }
noted_of (rows.Dynamic f) = f

-- slots are those of a static table, and blocks those of a dynamic one
abbrev pub AreInFormat : Rows → Type 0
AreInFormat (rows.Static f) = f.defs.format ≡ Static
AreInFormat (rows.Dynamic f) = f.file.defs.format ≡ Dynamic

-- a row stands at a position
abbrev pub HasRowBy : RowFormat → SlotFile → ℕ → Holding → Type 0
HasRowBy Static f at m = is_row f.defs (bytes_of f.name m) at ≡ true
HasRowBy Dynamic f at m = dynamic.HasRow f at m

abbrev pub HasRow : SlotFile → ℕ → Holding → Type 0
HasRow f at m = HasRowBy f.defs.format f at m

-- these are the values of the row that stands there
abbrev pub IsRowBy : RowFormat → SlotFile → ℕ → Values → Holding → Type 0
IsRowBy Static f at values m = Some values ≡ row_there f.defs (bytes_of f.name m) at
IsRowBy Dynamic f at values m = dynamic.IsRowAt f at values m

abbrev pub IsRowAt : SlotFile → ℕ → Values → Holding → Type 0
IsRowAt f at values m = IsRowBy f.defs.format f at values m

-- It is known where rows stand without a scan of the file: in a static one by its slots, and in a dynamic one where positions are
-- noted.
abbrev pub KnowsRowsBy : RowFormat → Option (List ℕ) → Type 0
KnowsRowsBy Static places = Unit {0}
KnowsRowsBy Dynamic places = is_some places ≡ true

abbrev pub KnowsRows : NotedFile → Type 0
KnowsRows f = KnowsRowsBy f.file.defs.format f.places

-- it was read, and counted for no more reads than a slot may, or its blocks
abbrev pub ReadsFewBy : RowFormat → SlotFile → ℕ → ℕ → ℕ → Holding → Type 0
ReadsFewBy Static f at reads now m = now ≤ reads + blocks f.defs.slot_length
ReadsFewBy Dynamic f at reads now m = dynamic.ReadsFew f at reads now m

abbrev pub ReadsFew : SlotFile → ℕ → ℕ → ℕ → Holding → Type 0
ReadsFew f at reads now m = ReadsFewBy f.defs.format f at reads now m

-- the position is said to be that of no row
abbrev pub SaysNoRow : DataFault → Type 0
SaysNoRow fault.Full = ⊥
SaysNoRow (fault.NoRow at) = Unit {0}
SaysNoRow (fault.Damaged at) = ⊥
SaysNoRow fault.File = ⊥
SaysNoRow fault.Memory = ⊥
