use Rattle.myi_history.proofs.ReplayLemmas.{follows_history}
use Rattle.myi_history.proofs.laws.rounds_follow_the_history.Goals as goal

pub returns : goal.returns
returns c = follows_history
