use Rattle.std.proofs.Common.{◌≡◌, ◌≤◌, length, take}
use Rattle.myi_chain.specs.Used.{without}
use Rattle.myi_chain.specs.Chain.{ranges_at}
use Rattle.myi_chain.proofs.ranges.take_out.Given as goal

abbrev pub invariant-loop-left : goal.invariant-loop-left
invariant-loop-left l = record {
  rest : without l.far.entries (ranges_at (take l.left l.blocks)) ≡ without l.initial.far.entries (ranges_at l.blocks);
  within : l.left ≤ length l.blocks;
}

abbrev pub decreases-loop-left : goal.decreases-loop-left
decreases-loop-left l = l.left
