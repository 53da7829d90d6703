use Rattle.std.proofs.Common.{◌≡◌, take, fold}
use Rattle.myi_locks.specs.Done.{stepped}
use Rattle.myi_locks.proofs.done.do_run.Given as goal

abbrev pub invariant-loop-step : goal.invariant-loop-step
invariant-loop-step l = l.sessions ≡ fold stepped l.fn.sessions (take l.step-index l.steps)
