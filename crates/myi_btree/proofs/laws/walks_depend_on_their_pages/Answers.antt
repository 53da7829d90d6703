use Rattle.myi_btree.proofs.Frames.{same_walk}
use Rattle.myi_btree.proofs.laws.walks_depend_on_their_pages.Goals as goal

pub returns : goal.returns
returns c = same_walk
