use Rattle.std.proofs.Common.{length}
use Rattle.cases_locks.proofs.rounds.+takes_follow.Given as goal

abbrev pub decreases-takes_follow : goal.decreases-takes_follow
decreases-takes_follow l = length l.steps.now
