use Rattle.myi_state.proofs.KeptLemmas.{history-replayed}
use Rattle.myi_state.proofs.laws.histories_are_replayed.Goals as goal

pub returns : goal.returns
returns c = history-replayed
