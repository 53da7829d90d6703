use Rattle.std.proofs.Common.{length}
use Rattle.cases_locks.proofs.rounds.+lines_rise.Given as goal

abbrev pub decreases-lines_rise : goal.decreases-lines_rise
decreases-lines_rise l = length l.steps.now
