use Rattle.std.proofs.Common.{length}
use Rattle.cases_locks.proofs.rounds.+are_sessions.Given as goal

abbrev pub decreases-are_sessions : goal.decreases-are_sessions
decreases-are_sessions l = length l.some.now
