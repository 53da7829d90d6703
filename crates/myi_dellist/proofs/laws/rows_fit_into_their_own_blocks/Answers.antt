use Rattle.myi_dellist.proofs.AgainLemmas.{own-row}
use Rattle.myi_dellist.proofs.laws.rows_fit_into_their_own_blocks.Goals as goal

pub returns : goal.returns
returns c = own-row
