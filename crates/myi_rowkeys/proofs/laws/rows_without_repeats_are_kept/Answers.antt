use Rattle.myi_rowkeys.proofs.ListLemmas.{none_repeats}
use Rattle.myi_rowkeys.proofs.laws.rows_without_repeats_are_kept.Goals as goal

pub returns : goal.returns
returns c = none_repeats
