-- A scan of a table's data file: what of the file is left, in either format, when the file is as the scan knows it, and
-- what its calls answer and leave. A call is asked for items, or for rows alone; the answer of a call for rows is seen as
-- that of one for items.
use Rattle.std.specs.Prelude.{◌≡◌, ◌≤◌, ◌+◌, ℕ, Bool, List, length, drop, Option, Result}
use Rattle.myi_base.specs.Holding.{Holding, bytes_of}
use Rattle.myi_base.specs.Ranges.{Range}
use Rattle.myi_defs.specs.declared.types.RowFormat.{RowFormat}
use Rattle.myi_defs.specs.declared.types.RowFormat.TheVariants.{Static, Dynamic}
use Rattle.myi_defs.specs.declared.types.Defs.{Defs}
use Rattle.myi_frames.specs.Block.{block_of}
use Rattle.myi_chain.specs.declared.piece.Item.{Item}
use Rattle.myi_chain.specs.declared.piece.Item.TheVariants as item
use Rattle.myi_chain.specs.declared.piece.ScanFault.{ScanFault}
use Rattle.myi_chain.specs.Readable.{Row, rows_of, rest}
use Rattle.myi_chain.specs.Readable as chains
use Rattle.myi_chain.specs.Pieces.{piece_bytes}
use Rattle.myi_chain.specs.declared.piece.Wanted.{Wanted}
use Rattle.myi_chain.specs.ScanModel.{Scanning, scanned, KeptStands, Passes, MayLack, Says, Leaves, GoesOnPlain}
use Rattle.myi_data.specs.Readable.{packs, items_at}

-- A scan of a table's data file up to its end: its `test` is the definitions of the table.
abbrev pub TableScan : Type 0
TableScan = Scanning Defs

-- what is left of a file of these bytes from a place on
abbrev pub left_by : RowFormat → Defs → Bool → ℕ → List Range → List ℕ → List chains.Item
left_by Static d extend place used x = items_at (packs d) d.slot_length place (drop place x)
left_by Dynamic d extend place used x = rest extend (block_of x) (length x) (packs d) place used

-- what is ahead of the scan, where the files hold this
abbrev pub items_ahead : TableScan → Holding → List chains.Item
items_ahead s m = left_by s.test.format s.test s.extend s.place s.used (scanned s m)

-- the rows that are ahead, where the files hold this
abbrev pub rows_ahead : TableScan → Holding → List Row
rows_ahead s m = rows_of (items_ahead s m)

-- the file is as the scan knows it: what is kept of it stands there, and that of a dynamic table is long enough
pub record IsAsKnown (s : TableScan) (m : Holding) : Type 0 where
  pub kept : KeptStands s m
  pub long : s.test.format ≡ Dynamic → s.end ≤ length (bytes_of s.name m)

-- so many bytes at a place are as many as a slot has and lie in the file, if the table is static
abbrev pub IsSlotAt : TableScan → ℕ → ℕ → Type 0
IsSlotAt s at size = s.test.format ≡ Static → (size ≡ s.test.slot_length) × (at + s.test.slot_length ≤ s.end)

-- what is answered of a static table has the length of a slot and lies in the file; where the files tell, it is one (`Answers`)
abbrev pub IsSlotItem : TableScan → Item → Type 0
IsSlotItem s (item.Row at p) = IsSlotAt s at (length (piece_bytes p))
IsSlotItem s (item.Free at size) = IsSlotAt s at size

-- an answered row packs a row of the table, and what is answered of a static table is as long as a slot
abbrev pub IsOfTable : TableScan → Item → Type 0
IsOfTable s found = Passes (packs s.test) found × IsSlotItem s found

-- A call takes memory only of a dynamic table; there, where the files tell what they hold, only if no row comes next for
-- which none is taken.
abbrev pub MayLackMemory : Option Holding → TableScan → Type 0
MayLackMemory holds s = (s.test.format ≡ Dynamic) × MayLack packs holds s

-- what a call answers, and the scan after it
abbrev pub FindsInTable : Wanted → Option Holding → TableScan → Result (Option Item) ScanFault → Type 0
FindsInTable wanted holds old result = Says (IsOfTable old) (MayLackMemory holds old) wanted old result

abbrev pub AfterTable : Wanted → Option Holding → TableScan → Result (Option Item) ScanFault → TableScan → Type 0
AfterTable wanted holds old result new = Leaves items_ahead IsAsKnown wanted holds old result new × (old.test.format ≡ Dynamic → GoesOnPlain packs holds old result new)
