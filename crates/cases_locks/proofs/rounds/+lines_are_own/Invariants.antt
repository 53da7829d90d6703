use Rattle.std.proofs.Common.{length}
use Rattle.cases_locks.proofs.rounds.+lines_are_own.Given as goal

abbrev pub decreases-lines_are_own : goal.decreases-lines_are_own
decreases-lines_are_own l = length l.steps.now
