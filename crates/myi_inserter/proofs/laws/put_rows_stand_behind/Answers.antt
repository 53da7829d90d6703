use Rattle.myi_inserter.proofs.PutLemmas.{stored}
use Rattle.myi_inserter.proofs.laws.put_rows_stand_behind.Goals as goal

pub returns : goal.returns
returns c = stored
