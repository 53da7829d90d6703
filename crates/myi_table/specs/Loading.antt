-- Loading a table: why it is refused, and what stands then.
use Rattle.std.specs.Prelude.{◌≡◌, ◌⊎◌, ℕ, Bool, true, false, List, Result, Ok, Err}
use Rattle.myi_base.specs.Holding.{Holding}
use Rattle.myi_header.specs.StateOf.{state_of, has_mark}
use Rattle.myi_state.specs.State.{TableState}
use Rattle.myi_tablestate.specs.Standing.{StandForTable}
use Rattle.myi_opening.specs.Names.{rows_file, index_file}
use Rattle.myi_opening.specs.declared.fault.TableFault.{TableFault}
use Rattle.myi_opening.specs.Opening.{Table}
use Rattle.myi_opening.specs.Opening as opening
use Rattle.myi_table.specs.declared.fault.LoadFault.{LoadFault}
use Rattle.myi_table.specs.declared.fault.LoadFault.TheVariants.{Foreign, File, Memory}
use Rattle.myi_table.specs.Faults.{of_opening}
use Rattle.myi_table.specs.Table.{OpenTable, defs_in, HoldState}

abbrev pub marked_by : Bool → Table → Result Table LoadFault
marked_by true t = Ok t
marked_by false t = Err Foreign

-- by the table that was opened, or why it was not
abbrev pub loaded_by : Result Table TableFault → Result Table LoadFault
loaded_by (Err f) = Err (of_opening f)
loaded_by (Ok t) = marked_by (has_mark t.defs t.index) t

-- the table of this name, or why it is not loaded: a file is missing, the definitions are refused, the mark is missing
unfoldable pub table_in : List ℕ → Holding → Result Table LoadFault
table_in name m = loaded_by (opening.table_in (index_file name) (rows_file name) m)

-- a fault that is no refusal of the table
abbrev pub IsCutOff : LoadFault → Type 0
IsCutOff f = (f ≡ File) ⊎ (f ≡ Memory)

abbrev pub IsRefused : List ℕ → LoadFault → Holding → Type 0
IsRefused name f m = table_in name m ≡ Err f

-- the table that was loaded is the one of these files, with the state of their header, and stands for each state that the files stand for
pub record IsLoaded (name : List ℕ) (t : OpenTable) (m : Holding) : Type 0 where
  pub files : Table
  pub is : table_in name m ≡ Ok files
  pub defs : defs_in t ≡ files.defs
  pub header : t.header ≡ state_of files.defs files.index
  pub stands : (s : TableState) → StandForTable files.defs s files.rows files.index → HoldState t s m
