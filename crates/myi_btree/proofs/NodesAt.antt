-- What an index file has at a place is a node.
use Rattle.std.proofs.Common.{◌≡◌, ℕ, ◌%◌, Bool, true, false, cond, eqb, Some, None, List}
use Rattle.myi_keycache.specs.Lent.{bytes_at}
use Rattle.myi_btree.specs.Walk.{◌>>=◌, Node, IsNode, AreNodes}
use Rattle.myi_btree.specs.Nodes.{node_in, node_at}
use Rattle.myi_btree.proofs.Frames.{bind_some}
use Rattle.myi_btree.proofs.NodeShape.{node_shape}

pub at_shape : (rec_ref block : ℕ) (x : List ℕ) → AreNodes (node_at rec_ref block x)
unfolding node_at
at_shape rec_ref block x = λ at node e. by (eqb (at % 1024) 0) at node e
  where
    by : (b : Bool) (at : ℕ) (node : Node) → cond b (bytes_at x at block >>= node_in rec_ref) None ≡ Some node → IsNode node
    by true at node e = let a = bind_some (bytes_at x at block) (node_in rec_ref) node e in node_shape rec_ref a.0 node a.2
    by false at node e = absurd cc
