-- What a repair leaves of a table's files.
use Rattle.std.specs.Prelude.{◌≡◌, ◌⊎◌, ℕ, Bool, List, Some, Result, Ok, Err}
use Rattle.myi_base.specs.Holding.{Holding}
use Rattle.myi_defs.specs.declared.types.Defs.{Defs}
use Rattle.myi_data.specs.Stored.{SizedRow, stored_file}
use Rattle.myi_pair.specs.RebuiltBytes.{rebuilt_index}
use Rattle.myi_pair.specs.RecoveredBytes.{new_data, new_index}
use Rattle.myi_pair.specs.Recovered.{Recovered}
use Rattle.myi_repair.specs.declared.report.Report.{Report}
use Rattle.myi_repair.specs.declared.gathering.Gathered.{Gathered}
use Rattle.myi_repair.specs.Names.{FourNames, names_for, Holds, KeepsBoth}
use Rattle.myi_repair.specs.declared.fault.RepairFault.{RepairFault}
use Rattle.myi_repair.specs.Opening.{Table, table_in, IsTable}
use Rattle.myi_repair.specs.Gathering.{report_of, IsOfRows}
use Rattle.myi_repair.specs.Finishing.{IsWhole}

-- the files are the recovered bytes, the working files are gone, and this is said of it
pub record Repaired (name : List ℕ) (extend : Bool) (now : ℕ) (defs : Defs) (d : List ℕ) (said : Report) (n : Holding) : Type 0 where
  pub holds : Holds (names_for name) (new_data defs extend d) (new_index defs extend d now) n
  pub recovered : Recovered defs extend d now (new_data defs extend d) (new_index defs extend d now)
  pub report : said ≡ report_of defs extend d

abbrev pub LeavesRepaired : List ℕ → Bool → ℕ → Report → Holding → Holding → Type 0
LeavesRepaired name extend now said m n = (defs : Defs) × (d : List ℕ) × IsTable (names_for name) defs d m × Repaired name extend now defs d said n

-- the files of a table that cannot be repaired are the old ones; of another the data file may be the new one, beside the
-- old index file or the new one
abbrev pub OldOrNewOf : List ℕ → Bool → ℕ → Result Table RepairFault → Holding → Holding → Type 0
OldOrNewOf name extend now (Err f) m n = KeepsBoth (names_for name) m n
OldOrNewOf name extend now (Ok t) m n = IsWhole (names_for name) (new_data t.0 extend t.1) (new_index t.0 extend t.1 now) m n

abbrev pub OldOrNew : List ℕ → Bool → ℕ → Holding → Holding → Type 0
OldOrNew name extend now m n = OldOrNewOf name extend now (table_in (names_for name) m) m n

-- what was gathered was completed: where the working data file held the rows, the files are those of a table made anew of them
abbrev pub Completes : FourNames → Gathered → ℕ → Holding → Holding → Type 0
Completes t g now m n = (rows : List SizedRow) → IsOfRows rows g → m t.new_rows ≡ Some (stored_file g.defs rows) → Holds t (stored_file g.defs rows) (rebuilt_index g.defs rows now) n

abbrev pub CompletesPart : FourNames → Gathered → ℕ → Holding → Holding → Type 0
CompletesPart t g now m n = (rows : List SizedRow) → IsOfRows rows g → m t.new_rows ≡ Some (stored_file g.defs rows) → IsWhole t (stored_file g.defs rows) (rebuilt_index g.defs rows now) m n

-- the data file is the old one, or what the working data file was
abbrev pub KeepsOrTakesRows : FourNames → Holding → Holding → Type 0
KeepsOrTakesRows t m n = (n t.rows ≡ m t.rows) ⊎ ((d : List ℕ) × (m t.new_rows ≡ Some d) × (n t.rows ≡ Some d))
