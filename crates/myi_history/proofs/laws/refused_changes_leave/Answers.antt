use Rattle.myi_history.proofs.ReplayLemmas.{not_made, stays}
use Rattle.myi_history.proofs.laws.refused_changes_leave.Goals as goal

pub returns : goal.returns
returns c = record { history = not_made; state = stays }
