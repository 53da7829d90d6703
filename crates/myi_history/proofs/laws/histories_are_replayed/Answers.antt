use Rattle.myi_history.proofs.ReplayLemmas.{replay_append, replay_changes, replay_round}
use Rattle.myi_history.proofs.laws.histories_are_replayed.Goals as goal

pub returns : goal.returns
returns c = record { append = replay_append; steps = replay_changes; round = replay_round }
