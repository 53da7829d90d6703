use Rattle.myi_btree.proofs.NodeShape.{node_shape, lent_shape}
use Rattle.myi_btree.proofs.laws.pages_are_nodes.Goals as goal

pub returns : goal.returns
returns c = record { bytes = node_shape; lent = lent_shape }
