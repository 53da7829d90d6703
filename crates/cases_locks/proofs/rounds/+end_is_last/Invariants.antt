use Rattle.std.proofs.Common.{length}
use Rattle.cases_locks.proofs.rounds.+end_is_last.Given as goal

abbrev pub decreases-end_is_last : goal.decreases-end_is_last
decreases-end_is_last l = length l.steps.now
