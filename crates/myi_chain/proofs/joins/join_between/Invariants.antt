use Rattle.std.proofs.Common.{◌≤◌}
use Rattle.myi_chain.specs.Used.{AreInOrder, SameFrom}
use Rattle.myi_chain.proofs.joins.join_between.Given as goal

abbrev pub invariant-loop-from : goal.invariant-loop-from
invariant-loop-from l = record {
  order : AreInOrder 0 l.far.entries;
  same : SameFrom l.high l.far.entries l.fn.far.entries;
  within : l.at ≤ l.high;
}

abbrev pub decreases-loop-from : goal.decreases-loop-from
decreases-loop-from l = l.at
