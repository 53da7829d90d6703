-- A table that is opened: its two files, and the definitions that the index file begins with (MySQL Reference Manual, "The
-- MyISAM Storage Engine"; that the index file is looked for first is this project's own).
use Rattle.std.specs.Prelude.{◌≡◌, ◌⊎◌, ℕ, List, length, Option, Some, None, Result, Ok, Err}
use Rattle.myi_base.specs.Holding.{Holding}
use Rattle.myi_defs.specs.declared.types.Defs.{Defs}
use Rattle.myi_defs.specs.declared.types.DefFault.{DefFault}
use Rattle.myi_defs.specs.ReadDefs.{read_defs}
use Rattle.myi_opening.specs.declared.fault.TableFile.TheVariants.{Index, Data}
use Rattle.myi_opening.specs.declared.fault.TableFault.{TableFault}
use Rattle.myi_opening.specs.declared.fault.TableFault.TheVariants.{Absent, Def, File, Memory}

-- the definitions of a table, its data file and its index file
pub record Table : Type 0 where
  pub defs : Defs
  pub rows : List ℕ
  pub index : List ℕ

abbrev pub table : Defs → List ℕ → List ℕ → Table
table defs rows index = record { defs = defs; rows = rows; index = index }

-- by what is read of the index file
abbrev pub table_by : Result Defs DefFault → List ℕ → List ℕ → Result Table TableFault
table_by (Err f) rows index = Err (Def f)
table_by (Ok defs) rows index = Ok (table defs rows index)

-- by the index file and the data file
abbrev pub table_of : Option (List ℕ) → Option (List ℕ) → Result Table TableFault
table_of None rows = Err (Absent Index)
table_of (Some x) None = Err (Absent Data)
table_of (Some x) (Some d) = table_by (read_defs x) d x

-- the table of the files of these two names, or why it is not opened
unfoldable pub table_in : List ℕ → List ℕ → Holding → Result Table TableFault
table_in index rows m = table_of (m index) (m rows)

-- the table of the files of these two names has these definitions and a data file of that length
pub record HasTable (index rows : List ℕ) (defs : Defs) (size : ℕ) (m : Holding) : Type 0 where
  pub data_file : List ℕ
  pub index_file : List ℕ
  pub is : table_in index rows m ≡ Ok (table defs data_file index_file)
  pub long : size ≡ length data_file

-- it is not opened for this reason
abbrev pub HasNoTable : List ℕ → List ℕ → TableFault → Holding → Type 0
HasNoTable index rows fault m = table_in index rows m ≡ Err fault

-- a fault that is no refusal of the table
abbrev pub IsCutOff : TableFault → Type 0
IsCutOff fault = (fault ≡ File) ⊎ (fault ≡ Memory)
