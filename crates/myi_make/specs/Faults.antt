-- Why a table is not made, by the faults of the calls that make it. Where files tell what they hold, nothing but a failed file call
-- or want of memory is in the way.
use Rattle.std.specs.Prelude.{◌≡◌, ◌⊎◌}
use Rattle.myi_opening.specs.declared.fault.TableFault.{TableFault}
use Rattle.myi_opening.specs.declared.fault.TableFault.TheVariants as check
use Rattle.myi_repair.specs.declared.fault.RepairFault.{RepairFault}
use Rattle.myi_repair.specs.declared.fault.RepairFault.TheVariants as repair
use Rattle.myi_table.specs.declared.fault.LoadFault.{LoadFault}
use Rattle.myi_table.specs.declared.fault.LoadFault.TheVariants as load
use Rattle.myi_table.specs.declared.fault.ChangeFault.{ChangeFault}
use Rattle.myi_table.specs.declared.fault.ChangeFault.TheVariants as change
use Rattle.myi_make.specs.declared.fault.MakeFault.{MakeFault}
use Rattle.myi_make.specs.declared.fault.MakeFault.TheVariants as make

-- a failed file call or want of memory
abbrev pub CutsOff : MakeFault → Type 0
CutsOff fault = (fault ≡ make.File) ⊎ (fault ≡ make.Memory)

-- the table is not loaded
abbrev pub of_load : LoadFault → MakeFault
of_load (load.Absent file) = make.Absent file
of_load (load.Def fault) = make.Def fault
of_load load.Foreign = make.Damaged 0
of_load load.File = make.File
of_load load.Memory = make.Memory

-- a row is not put, or the table not closed
abbrev pub of_change : ChangeFault → MakeFault
of_change (change.Broken cause) = make.Memory
of_change (change.NoRow at) = make.Damaged at
of_change (change.Duplicate key at) = make.Damaged at
of_change change.Full = make.TooLong
of_change (change.Damaged at) = make.Damaged at
of_change change.File = make.File
of_change change.Memory = make.Memory

-- the table is not recovered
abbrev pub of_repair : RepairFault → MakeFault
of_repair (repair.Absent file) = make.Absent file
of_repair (repair.Def fault) = make.Def fault
of_repair repair.TooLong = make.TooLong
of_repair repair.File = make.File
of_repair repair.Memory = make.Memory

-- the table is not checked
abbrev pub of_check : TableFault → MakeFault
of_check (check.Absent file) = make.Absent file
of_check (check.Def fault) = make.Def fault
of_check check.File = make.File
of_check check.Memory = make.Memory
