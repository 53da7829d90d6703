use Rattle.std.proofs.Common.{◌≡◌, take, drop, ◌++◌}
use Rattle.myi_locks.specs.Done.{stepped}
use Rattle.myi_locks.proofs.done.do_step.Given as goal

abbrev pub invariant-loop-session : goal.invariant-loop-session
invariant-loop-session l = l.sessions ≡ stepped (take l.session-index l.fn.sessions) l.step ++ drop l.session-index l.fn.sessions
