use Rattle.myi_btree.proofs.LaidWalks.{laid_walks}
use Rattle.myi_btree.proofs.laws.laid_pages_walk.Goals as goal

pub returns : goal.returns
returns c = laid_walks
