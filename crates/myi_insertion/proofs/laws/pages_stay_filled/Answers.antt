use Rattle.myi_btree.specs.CachedTrees.{node_lent}
use Rattle.myi_insertion.specs.Filled.{below_root}
use Rattle.myi_insertion.proofs.KeptLaws.{filled_on}
use Rattle.myi_insertion.proofs.laws.pages_stay_filled.Goals as goal

pub returns : goal.returns
returns c = λ place old m olds told new root xs most tree all were at here.
    filled_on place most (node_lent place old m) (node_lent place new tree.now) (below_root olds) at (tree.filled most at all here) (were at)
