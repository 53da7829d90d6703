use Rattle.myi_dellist.proofs.UpdateLemmas.{update-writable}
use Rattle.myi_dellist.proofs.laws.placed_blocks_can_be_written.Goals as goal

pub returns : goal.returns
returns c = update-writable
