use Rattle.std.proofs.Common.{◌≡◌, not, ◌||◌, take}
use Rattle.myi_locks.specs.Sessions.{holds_any}
use Rattle.myi_locks.specs.Rounds.{reads}
use Rattle.myi_locks.proofs.rounds.reads.Given as goal

abbrev pub invariant-loop-session : goal.invariant-loop-session
invariant-loop-session l = l.runs.items ≡ reads (λ s. not l.holders || holds_any s.held) (take l.session-index l.sessions)
