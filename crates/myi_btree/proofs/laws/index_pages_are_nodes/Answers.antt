use Rattle.myi_btree.proofs.Shallow.{depth_bound}
use Rattle.myi_btree.specs.Nodes.{node_at}
use Rattle.myi_btree.proofs.NodesAt.{at_shape}
use Rattle.myi_btree.proofs.laws.index_pages_are_nodes.Goals as goal

pub returns : goal.returns
returns c = record { nodes = at_shape; shallow = λ rec_ref block x height place w walk. depth_bound (node_at rec_ref block x) height place w (at_shape rec_ref block x) walk }
