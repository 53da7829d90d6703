use Rattle.myi_history.proofs.ReplayLemmas.{none_left, replay_all}
use Rattle.myi_history.proofs.laws.rounds_are_whole.Goals as goal

pub returns : goal.returns
returns c = record { done = none_left; table = replay_all }
