-- Whether a table can be repaired, and why not.
use Rattle.std.specs.Prelude.{◌≡◌, ◌⊎◌, ℕ, List, length, Result, Ok, Err, if◌then◌else◌}
use Rattle.myi_base.specs.Holding.{Holding}
use Rattle.myi_defs.specs.declared.types.Defs.{Defs}
use Rattle.myi_defs.specs.Addressable.{is_addressable}
use Rattle.myi_opening.specs.declared.fault.TableFault.{TableFault}
use Rattle.myi_opening.specs.Opening as opening
use Rattle.myi_repair.specs.declared.fault.RepairFault.{RepairFault}
use Rattle.myi_repair.specs.declared.fault.RepairFault.TheVariants.{TooLong, File, Memory}
use Rattle.myi_repair.specs.Faults.{repair_fault}
use Rattle.myi_repair.specs.Names.{FourNames}

-- the definitions of a table and its data file
abbrev pub Table : Type 0
Table = Defs × List ℕ

-- by the table that was opened, or why it was not: row pointers reach its whole data file
abbrev pub table_by : Result opening.Table TableFault → Result Table RepairFault
table_by (Err f) = Err (repair_fault f)
table_by (Ok t) = if is_addressable t.defs (length t.rows) then Ok (t.defs, t.rows) else Err TooLong

-- the table of these files, or why it cannot be repaired
unfoldable pub table_in : FourNames → Holding → Result Table RepairFault
table_in t m = table_by (opening.table_in t.index t.rows m)

-- the table of these files has these definitions, this data file, and can be repaired
abbrev pub IsTable : FourNames → Defs → List ℕ → Holding → Type 0
IsTable t defs d m = table_in t m ≡ Ok (defs, d)

-- the table of these files has these definitions and a data file of that length, and can be repaired
abbrev pub HasTable : FourNames → Defs → ℕ → Holding → Type 0
HasTable t defs size m = (d : List ℕ) × IsTable t defs d m × (size ≡ length d)

-- the table of these files is refused for this reason
abbrev pub Refuses : FourNames → RepairFault → Holding → Type 0
Refuses t fault m = table_in t m ≡ Err fault

-- a fault that is no refusal of the table
abbrev pub CutsOff : RepairFault → Type 0
CutsOff fault = (fault ≡ File) ⊎ (fault ≡ Memory)
