use Rattle.myi_history.proofs.ReadLemmas.{are_matching, matching_once}
use Rattle.myi_history.proofs.laws.ranges_find_matching_rows.Goals as goal

pub returns : goal.returns
returns c = record { matching = are_matching; once = matching_once }
