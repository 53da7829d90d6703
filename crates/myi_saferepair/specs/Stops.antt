-- Why new files are not made row by row, by the faults of the parts.
use Rattle.myi_btree.specs.declared.fault.TreeFault.{TreeFault}
use Rattle.myi_btree.specs.declared.fault.TreeFault.TheVariants as tree
use Rattle.myi_repair.specs.declared.fault.RepairFault.TheVariants as repair
use Rattle.myi_repair.specs.Opening.{CutsOff}
use Rattle.myi_saferepair.specs.declared.fault.Stop.{Stop}
use Rattle.myi_saferepair.specs.declared.fault.Stop.TheVariants.{Damaged, Cut}

abbrev pub stop_of : TreeFault → Stop
stop_of (tree.Damaged at) = Damaged
stop_of tree.File = Cut repair.File
stop_of tree.Memory = Cut repair.Memory

-- a fault that it tells of is no refusal of the table
abbrev pub TellsOfNone : Stop → Type 0
TellsOfNone Damaged = Unit {0}
TellsOfNone (Cut fault) = CutsOff fault
