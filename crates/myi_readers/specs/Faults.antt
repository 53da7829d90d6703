-- How the refusals of the calls below are told.
use Rattle.myi_chain.specs.declared.piece.ScanFault.{ScanFault}
use Rattle.myi_chain.specs.declared.piece.ScanFault.TheVariants as scan
use Rattle.myi_btree.specs.declared.fault.TreeFault.TheVariants as tree
use Rattle.myi_slots.specs.declared.fault.DataFault.TheVariants as data_of
use Rattle.myi_ranges.specs.declared.fault.RangeFault.{RangeFault}
use Rattle.myi_ranges.specs.declared.fault.RangeFault.TheVariants as range
use Rattle.myi_readers.specs.declared.fault.SeenFault.{SeenFault}
use Rattle.myi_readers.specs.declared.fault.SeenFault.TheVariants as seen

abbrev pub of_scan : ScanFault → SeenFault
of_scan scan.File = seen.File
of_scan scan.Memory = seen.Memory

abbrev pub of_range : RangeFault → SeenFault
of_range (range.Index (tree.Damaged at)) = seen.Damaged at
of_range (range.Index tree.File) = seen.File
of_range (range.Index tree.Memory) = seen.Memory
of_range (range.Data (data_of.NoRow at)) = seen.Damaged at
of_range (range.Data data_of.Full) = seen.Memory
of_range (range.Data (data_of.Damaged at)) = seen.Damaged at
of_range (range.Data data_of.File) = seen.File
of_range (range.Data data_of.Memory) = seen.Memory

-- nothing is damaged: a file call failed, or memory was wanting
abbrev pub IsCutOff : SeenFault → Type 0
IsCutOff (seen.Damaged at) = ⊥
IsCutOff seen.File = Unit {0}
IsCutOff seen.Memory = Unit {0}
