use Rattle.myi_history.proofs.PastLemmas.{next_in_turn}
use Rattle.myi_history.proofs.running.rounds_go_on_in_turn.Goals as goal

pub returns : goal.returns
returns c = next_in_turn
