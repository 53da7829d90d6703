use Rattle.std.proofs.Common.{length}
use Rattle.cases_locks.proofs.rounds.+is_line_of.Given as goal

abbrev pub decreases-is_line_of : goal.decreases-is_line_of
decreases-is_line_of l = length l.steps.now
