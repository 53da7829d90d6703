use Rattle.myi_tablestate.proofs.KeyedLemmas.{history_replayed}
use Rattle.myi_tablestate.proofs.laws.keyed_histories_are_replayed.Goals as goal

pub returns : goal.returns
returns c = history_replayed
