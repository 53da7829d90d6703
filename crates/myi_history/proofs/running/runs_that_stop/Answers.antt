use Rattle.myi_history.proofs.RunLemmas.{stops}
use Rattle.myi_history.proofs.running.runs_that_stop.Goals as goal

pub returns : goal.returns
returns c = stops
