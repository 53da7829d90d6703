-- How the refusals of the calls on the two files are told.
use Rattle.myi_btree.specs.declared.fault.TreeFault.{TreeFault}
use Rattle.myi_btree.specs.declared.fault.TreeFault.TheVariants as tree
use Rattle.myi_slots.specs.declared.fault.DataFault.{DataFault}
use Rattle.myi_slots.specs.declared.fault.DataFault.TheVariants as read
use Rattle.myi_keyedrows.specs.declared.fault.KeyedFault.{KeyedFault}
use Rattle.myi_keyedrows.specs.declared.fault.KeyedFault.TheVariants as fault

abbrev pub data_fault : DataFault → KeyedFault
data_fault (read.NoRow at) = fault.NoRow at
data_fault read.Full = fault.Full
data_fault (read.Damaged at) = fault.Damaged at
data_fault read.File = fault.File
data_fault read.Memory = fault.Memory

abbrev pub tree_fault : TreeFault → KeyedFault
tree_fault (tree.Damaged at) = fault.Damaged at
tree_fault tree.File = fault.File
tree_fault tree.Memory = fault.Memory
