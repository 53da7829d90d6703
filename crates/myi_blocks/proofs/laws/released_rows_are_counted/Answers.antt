use Rattle.myi_blocks.proofs.FreedLemmas.{released-counts}
use Rattle.myi_blocks.proofs.laws.released_rows_are_counted.Goals as goal

pub returns : goal.returns
returns c = released-counts
