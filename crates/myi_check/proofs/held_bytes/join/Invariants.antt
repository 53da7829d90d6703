use Rattle.std.proofs.Common.{◌≡◌, [], drop}
use Rattle.myi_check.specs.HeldBytes.{join_all}
use Rattle.myi_check.proofs.held_bytes.join.Given as goal

abbrev pub invariant-loop-index : goal.invariant-loop-index
invariant-loop-index l = join_all l.joined.items (drop l.index l.ranges) ≡ join_all [] l.ranges
