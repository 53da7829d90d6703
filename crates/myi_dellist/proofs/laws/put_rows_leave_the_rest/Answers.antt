use Rattle.myi_dellist.proofs.StandLemmas.{block-apart}
use Rattle.myi_dellist.proofs.laws.put_rows_leave_the_rest.Goals as goal

pub returns : goal.returns
returns c = block-apart
