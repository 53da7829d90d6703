use Rattle.myi_btree.proofs.Once.{one_walk}
use Rattle.myi_btree.proofs.laws.walks_exist_once.Goals as goal

pub returns : goal.returns
returns c = one_walk
