use Rattle.myi_blocks.proofs.RowAtLemmas.{row-stands}
use Rattle.myi_blocks.proofs.laws.rows_of_states_stand.Goals as goal

pub returns : goal.returns
returns c = row-stands
