use Rattle.myi_blocks.proofs.FreedLemmas.{released-stands}
use Rattle.myi_blocks.proofs.laws.released_rows_leave_states.Goals as goal

pub returns : goal.returns
returns c = released-stands
