use Rattle.myi_rounds.proofs.InsertLemmas.{none_inserted, same_changes, same_said}
use Rattle.myi_rounds.proofs.laws.jobs_insert_as_their_runs.Goals as goal

pub returns : goal.returns
returns c = record {
  begun = none_inserted;
  changes = same_changes;
  said = same_said;
}
