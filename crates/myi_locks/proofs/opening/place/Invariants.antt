use Rattle.std.proofs.Common.{◌≡◌, ◌≤◌, ◌++◌, ◌-◌, take, drop, vec_len}
use Rattle.myi_locks.specs.Placing.{placed}
use Rattle.myi_locks.proofs.opening.place.Given as goal

abbrev pub invariant-loop-at : goal.invariant-loop-at
invariant-loop-at l = record { low : l.at ≤ vec_len l.sessions; same : take l.at l.sessions.items ++ placed l.step (drop l.at l.sessions.items) ≡ placed l.step l.sessions.items }

abbrev pub decreases-loop-at : goal.decreases-loop-at
decreases-loop-at l = vec_len l.sessions - l.at
