-- The parts of a sharing: what holds of each from the call that makes them to the one that takes them back.
use Rattle.std.specs.Prelude.{◌≡◌, ℕ, List, All, Option, None, Some}
use Rattle.myi_base.specs.Holding.{Holding, IfTold}
use Rattle.myi_adapters.specs.TwoReaders.{told_by}
use Rattle.myi_pack.specs.Packed.{Values}
use Rattle.myi_keyedrows.specs.declared.keyed_rows.KeyedRows.{KeyedRows}
use Rattle.myi_keyedrows.specs.KeyedRows.{HoldTable}
use Rattle.myi_table.specs.Table.{OpenTable, defs_in, IsKept, IfHolds}
use Rattle.myi_table.specs.Folding.{CanFold}
use Rattle.myi_tail.specs.Seats.{TailId}
use Rattle.myi_readers.specs.declared.file_reader.Reader.{Reader}
use Rattle.myi_readers.specs.declared.reader.TableReader.{TableReader}
use Rattle.myi_readers.specs.Reader.{IsReader}
use Rattle.myi_inserter.specs.declared.file_inserter.Inserter.{Inserter}
use Rattle.myi_inserter.specs.declared.inserter.TableInserter.{TableInserter}
use Rattle.myi_inserter.specs.Inserter.{IsInserter}
use Rattle.myi_share.specs.declared.sharing.Shared.{Shared}

-- what the parts of one sharing have in common: the table, the tail, and how many changes were made before
pub record Sharing : Type 0 where
  pub table : OpenTable
  pub tail : TailId
  pub number : ℕ

-- Where the files tell what they hold, two reader objects tell it, and for each state that the table stands for the object on them
-- stands, too.
abbrev pub StandsBeside : Option Holding → OpenTable → Option Holding → KeyedRows → Type 0
StandsBeside told table objects rows = IfHolds told table (λ m s. (n : Holding) × (objects ≡ Some n) × (own : ℕ → ℕ) × HoldTable rows own s n)

-- It is an inserter of the sharing, and these are the rows that it put: each was accepted behind those before it. Where the files tell
-- nothing, its reader objects tell nothing.
pub record IsInserterOf (of : Sharing) (told objects : Option Holding) (i : TableInserter) (rows : List Values) : Type 0 where
  pub ready : IsInserter i rows
  pub defs : i.defs ≡ defs_in of.table
  pub tail : i.appender.tail ≡ of.tail
  pub number : i.number ≡ of.number
  pub stands : StandsBeside told of.table objects i.rows
  pub can : IfHolds told of.table (λ m s. CanFold (defs_in of.table) s rows)
  pub untold : told ≡ None → objects ≡ None

-- it is a reader of the sharing; where the files tell nothing, its reader objects tell nothing
pub record IsReaderOf (of : Sharing) (told objects : Option Holding) (r : TableReader) : Type 0 where
  pub ready : IsReader r
  pub defs : r.defs ≡ defs_in of.table
  pub tail : r.seat.tail ≡ of.tail
  pub number : r.number ≡ of.number
  pub stands : StandsBeside told of.table objects r.rows
  pub untold : told ≡ None → objects ≡ None

-- the sharing that an inserter and the rest are of
abbrev pub sharing_of : OpenTable → TableInserter → Sharing
sharing_of table i = record { table = table; tail = i.appender.tail; number = i.number }

-- These are parts of one sharing of a table that is not broken, and stands for a state where the files tell what they hold, and these are the
-- rows that were put in it. The two files of the table hold what they held when it was shared. Readers may be missing.
pub record ArePartsBeside {R : Type 0} (shows : R → Option (List ℕ)) (table : OpenTable) (told : Option Holding) (i : Inserter R) (rs : List (Reader R)) (rows : List Values) : Type 0 where
  pub whole : table.broken ≡ None
  pub kept : IsKept told table
  pub inserter : IsInserterOf (sharing_of table i.table) told (told_by shows i.files) i.table rows
  pub readers : All (λ r. IsReaderOf (sharing_of table i.table) told (told_by shows r.files) r.table) rs

-- The parts are of one sharing, and these are the rows that were put in it; the table is not broken, and stands for a state where the
-- files tell what they hold. The two files of the table hold what they held when it was shared. Readers may be missing.
pub record ArePartsOf {R : Type 0} (shows : R → Option (List ℕ)) (of : Sharing) (told : Option Holding) (s : Shared R) (rows : List Values) : Type 0 where
  pub rest : s.rest ≡ of.table
  pub whole : of.table.broken ≡ None
  pub kept : IsKept told of.table
  pub inserter : IsInserterOf of told (told_by shows s.inserter.files) s.inserter.table rows
  pub readers : All (λ r. IsReaderOf of told (told_by shows r.files) r.table) s.readers.items

-- Other files, or the same at another time, tell of the two files of a table what these tell; and they tell nothing where these do not.
pub record TellsSame (table : OpenTable) (told next : Option Holding) : Type 0 where
  pub tells : IfTold next (λ n. (m : Holding) × (told ≡ Some m)
      × (n table.rows.rows.file.name ≡ m table.rows.rows.file.name) × (n table.rows.trees.cache.name ≡ m table.rows.trees.cache.name))
  pub nothing : next ≡ None → told ≡ None
