use Rattle.myi_rounds.proofs.FitLemmas.{rising, of_take, all_said}
use Rattle.myi_rounds.proofs.laws.jobs_fit_their_runs.Goals as goal

pub returns : goal.returns
returns c = record {
  rising = rising;
  taken = of_take;
  said = all_said;
}
