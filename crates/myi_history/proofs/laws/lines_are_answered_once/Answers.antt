use Rattle.myi_history.proofs.OnceLemmas.{answered_once}
use Rattle.myi_history.proofs.laws.lines_are_answered_once.Goals as goal

pub returns : goal.returns
returns c = answered_once
