use Rattle.myi_history.proofs.LineLemmas.{steps_run}
use Rattle.myi_history.proofs.GrammarLemmas.{lines_run}
use Rattle.myi_history.proofs.laws.scripts_may_run.Goals as goal

pub returns : goal.returns
returns c = record { lines = lines_run; steps = steps_run }
