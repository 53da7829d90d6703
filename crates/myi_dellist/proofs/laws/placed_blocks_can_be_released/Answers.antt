use Rattle.myi_dellist.proofs.CallerLemmas.{update-freeable, end-freeable}
use Rattle.myi_dellist.proofs.laws.placed_blocks_can_be_released.Goals as goal

pub returns : goal.returns
returns c = record { placed = update-freeable; at_end = end-freeable }
