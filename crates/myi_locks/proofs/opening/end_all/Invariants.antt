use Rattle.std.proofs.Common.{◌≡◌, ◌++◌, map, take, drop}
use Rattle.myi_locks.specs.Placing.{ended}
use Rattle.myi_locks.proofs.opening.end_all.Given as goal

abbrev pub invariant-loop-session : goal.invariant-loop-session
invariant-loop-session l = l.session-items ≡ map ended (take l.session-index l.fn.sessions.items) ++ drop l.session-index l.fn.sessions.items
