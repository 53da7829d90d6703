-- The faults of a repair: those of opening its table, and how many faults of the files a call met.
use Rattle.std.specs.Prelude.{◌≤◌, ◌<◌, ◌+◌, ◌-◌, ◌^◌, ℕ}
use Rattle.myi_opening.specs.declared.fault.TableFault.{TableFault}
use Rattle.myi_opening.specs.declared.fault.TableFault.TheVariants as table
use Rattle.myi_repair.specs.declared.fault.RepairFault.{RepairFault}
use Rattle.myi_repair.specs.declared.fault.RepairFault.TheVariants as repair

-- the fault of a repair that one of opening its table is
abbrev pub repair_fault : TableFault → RepairFault
repair_fault (table.Absent f) = repair.Absent f
repair_fault (table.Def f) = repair.Def f
repair_fault table.File = repair.File
repair_fault table.Memory = repair.Memory

-- how many faults of the files an answer tells of
abbrev pub faults_told : RepairFault → ℕ
faults_told (repair.Absent f) = 0
faults_told (repair.Def f) = 0
faults_told repair.TooLong = 0
faults_told repair.File = 1
faults_told repair.Memory = 0

-- in a call the files' count of faults rose by no more than this, and not to the end of its type
abbrev pub RoseAtMost : ℕ → ℕ → ℕ → Type 0
RoseAtMost n before now = (now ≤ before + n) × (now < 2 ^ 64 - 1)
