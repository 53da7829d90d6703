use Rattle.std.proofs.Common.{◌≤◌, ◌<◌, ◌+◌, ◌-◌, length}
use Rattle.myi_window.specs.declared.window.TheConstants.{WINDOW}
use Rattle.myi_order.proofs.nearby.run_from.Given as goal

-- the run reaches less than a window behind its first row
abbrev pub invariant-loop-behind : goal.invariant-loop-behind
invariant-loop-behind l = record {
  rises : l.from ≤ l.last;
  near : l.last < l.from + WINDOW;
  inside : l.behind ≤ length l.order;
}

abbrev pub decreases-loop-behind : goal.decreases-loop-behind
decreases-loop-behind l = length l.order - l.behind
