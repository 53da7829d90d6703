use Rattle.myi_history.proofs.SideLemmas.{side_by_side}
use Rattle.myi_history.proofs.running.rounds_go_on_side_by_side.Goals as goal

pub returns : goal.returns
returns c = side_by_side
