use Rattle.std.proofs.Common.{take}
use Rattle.myi_merge.specs.Merged.{AreWhole}
use Rattle.myi_merge.proofs.merge.Merge.refuse_reading.Given as goal

abbrev pub invariant-loop-table : goal.invariant-loop-table
invariant-loop-table l = AreWhole (take l.table-index l.self.tables)
