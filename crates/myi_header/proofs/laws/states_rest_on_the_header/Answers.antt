use Rattle.myi_header.proofs.CallerLemmas.{state-take, state-rest}
use Rattle.myi_header.proofs.laws.states_rest_on_the_header.Goals as goal

pub returns : goal.returns
returns c = record { front = state-take; rest = state-rest }
