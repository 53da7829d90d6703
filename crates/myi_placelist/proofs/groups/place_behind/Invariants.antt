use Rattle.std.proofs.Common.{◌≡◌, ◌≤◌, ◌+◌, ◌*◌, ◌^◌, length}
use Rattle.std.specs.List.{sum}
use Rattle.myi_placelist.proofs.groups.place_behind.Given as goal

abbrev pub invariant-loop-step : goal.invariant-loop-step
invariant-loop-step l = record {
  so_far : l.place + sum l.left ≡ l.base + sum l.fn.steps;
  room : l.place + 256 * length l.left ≤ l.base + 2 ^ 16;
}

abbrev pub decreases-loop-step : goal.decreases-loop-step
decreases-loop-step l = length l.left
