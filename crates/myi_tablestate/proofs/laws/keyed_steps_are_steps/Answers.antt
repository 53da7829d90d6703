use Rattle.myi_tablestate.proofs.KeyedLemmas.{steps_made, steps_refused}
use Rattle.myi_tablestate.proofs.laws.keyed_steps_are_steps.Goals as goal

pub returns : goal.returns
returns c = record { made = steps_made; refused = steps_refused }
