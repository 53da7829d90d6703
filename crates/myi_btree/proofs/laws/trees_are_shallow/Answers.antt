use Rattle.myi_btree.specs.CachedTrees.{node_lent}
use Rattle.myi_btree.proofs.NodeShape.{lent_shape}
use Rattle.myi_btree.proofs.Shallow.{depth_bound}
use Rattle.myi_btree.proofs.laws.trees_are_shallow.Goals as goal

pub returns : goal.returns
returns c = record {
  nodes = depth_bound;
  lent = λ place cache m height at w walk. depth_bound (node_lent place cache m) height at w (lent_shape place cache m) walk;
}
