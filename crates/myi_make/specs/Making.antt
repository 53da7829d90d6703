-- How the table is made, and what stands in the end (the words are this project's own).
use Rattle.std.specs.Prelude.{◌≡◌, ℕ, false, List, []}
use Rattle.myi_base.specs.Holding.{Holding}
use Rattle.myi_repair.specs.Repaired.{Repaired}
use Rattle.myi_make.specs.declared.make.Made.{Made}
use Rattle.myi_make.specs.MadeTable.{defs, damaged_file}

-- the table was repaired as one of exactly the damaged data file, and a check found nothing
pub record LeavesMade (name : List ℕ) (count seed now : ℕ) (made : Made) (m n : Holding) : Type 0 where
  pub repaired : Repaired name false now defs (damaged_file count seed) made.report n
  pub found : made.found.items ≡ []
