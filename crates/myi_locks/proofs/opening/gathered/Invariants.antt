use Rattle.std.proofs.Common.{◌≡◌, take}
use Rattle.myi_locks.specs.Placing.{all_placed}
use Rattle.myi_locks.proofs.opening.gathered.Given as goal

abbrev pub invariant-loop-step : goal.invariant-loop-step
invariant-loop-step l = l.sessions.items ≡ all_placed (take l.step-index l.steps)
