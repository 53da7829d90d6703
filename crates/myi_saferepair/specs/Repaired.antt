-- What a repair row by row does to the files of a table.
use Rattle.std.specs.Prelude.{◌≡◌, ◌⊎◌, ℕ, Bool, List, Result, Ok, Err}
use Rattle.myi_base.specs.Holding.{Holding}
use Rattle.myi_defs.specs.declared.types.Defs.{Defs}
use Rattle.myi_pair.specs.RecoveredBytes.{new_data}
use Rattle.myi_repair.specs.declared.fault.RepairFault.{RepairFault}
use Rattle.myi_repair.specs.declared.report.Report.{Report}
use Rattle.myi_repair.specs.Names.{names_for, Holds, KeepsBoth}
use Rattle.myi_repair.specs.Opening.{Table, table_in, IsTable}
use Rattle.myi_repair.specs.Gathering.{report_of}
use Rattle.myi_repair.specs.Finishing.{Replaces}
use Rattle.myi_saferepair.specs.Recovered.{SafelyRecovered}

-- the data file is the recovered one, the index file is one that is recovered with it, the working files are gone, and this is said
-- of it
pub record Repaired (name : List ℕ) (extend : Bool) (now : ℕ) (defs : Defs) (d : List ℕ) (said : Report) (n : Holding) : Type 0 where
  pub index : List ℕ
  pub holds : Holds (names_for name) (new_data defs extend d) index n
  pub recovered : SafelyRecovered defs extend d now (new_data defs extend d) index
  pub report : said ≡ report_of defs extend d

abbrev pub LeavesRepaired : List ℕ → Bool → ℕ → Report → Holding → Holding → Type 0
LeavesRepaired name extend now said m n = (defs : Defs) × (d : List ℕ) × IsTable (names_for name) defs d m × Repaired name extend now defs d said n

-- the data file is the new one, beside the old index file or one that is recovered with it
pub record ReplacesData (name : List ℕ) (extend : Bool) (now : ℕ) (defs : Defs) (d : List ℕ) (m n : Holding) : Type 0 where
  pub index : List ℕ
  pub recovered : SafelyRecovered defs extend d now (new_data defs extend d) index
  pub replaces : Replaces (names_for name) (new_data defs extend d) index m n

-- the files of a table that cannot be repaired are the old ones; of another the data file may be the new one
abbrev pub OldOrNewOf : List ℕ → Bool → ℕ → Result Table RepairFault → Holding → Holding → Type 0
OldOrNewOf name extend now (Err f) m n = KeepsBoth (names_for name) m n
OldOrNewOf name extend now (Ok t) m n = KeepsBoth (names_for name) m n ⊎ ReplacesData name extend now t.0 t.1 m n

abbrev pub OldOrNew : List ℕ → Bool → ℕ → Holding → Holding → Type 0
OldOrNew name extend now m n = OldOrNewOf name extend now (table_in (names_for name) m) m n
