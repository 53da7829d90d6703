use Rattle.myi_dellist.proofs.RowLemmas.{update-holds, end-holds}
use Rattle.myi_dellist.proofs.laws.placed_rows_are_chains.Goals as goal

pub returns : goal.returns
returns c = record { placed = update-holds; at_end = end-holds }
