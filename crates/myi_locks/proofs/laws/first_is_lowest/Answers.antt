use Rattle.myi_locks.proofs.FirstLemmas.{is_first}
use Rattle.myi_locks.proofs.laws.first_is_lowest.Goals as goal

pub returns : goal.returns
returns c = is_first
