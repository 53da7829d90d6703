use Rattle.std.proofs.Common.{◌-◌, ◌++◌}
use Rattle.myi_chain.specs.Used.{AreInOrder, SameFrom, joined}
use Rattle.myi_chain.proofs.joins.take_up.Given as goal

abbrev pub invariant-loop-end : goal.invariant-loop-end
invariant-loop-end l = record {
  order : AreInOrder 0 l.far.entries;
  same : SameFrom l.place (joined l.end ++ l.far.entries) (joined l.front ++ l.fn.far.entries);
}

abbrev pub decreases-loop-end : goal.decreases-loop-end
decreases-loop-end l = l.place - l.end
