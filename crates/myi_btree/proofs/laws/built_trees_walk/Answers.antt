use Rattle.myi_btree.proofs.LaidRead.{built_once}
use Rattle.myi_btree.proofs.laws.built_trees_walk.Goals as goal

pub returns : goal.returns
returns c = built_once
