use Rattle.myi_btree.proofs.DepthLaws.{tree_met}
use Rattle.myi_btree.proofs.laws.trees_have_events.Goals as goal

pub returns : goal.returns
returns c = tree_met
