use Rattle.std.proofs.Common.{◌≡◌, take}
use Rattle.myi_pair.specs.Trees.{total}
use Rattle.myi_check.proofs.held_bytes.bytes_of.Given as goal

abbrev pub invariant-loop-index : goal.invariant-loop-index
invariant-loop-index l = l.bytes ≡ total (take l.index l.ranges)
