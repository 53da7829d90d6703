use Rattle.myi_history.proofs.RunLemmas.{has_begun}
use Rattle.myi_history.proofs.running.runs_begin.Goals as goal

pub returns : goal.returns
returns c = has_begun
