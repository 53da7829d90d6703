use Rattle.myi_history.proofs.MergedLemmas.{merged_once}
use Rattle.myi_history.proofs.laws.ranges_find_merged_rows.Goals as goal

pub returns : goal.returns
returns c = merged_once
