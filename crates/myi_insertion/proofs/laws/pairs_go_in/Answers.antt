use Rattle.myi_insertion.proofs.InsertLaws.{in_leaf, goes_into, node_grows}
use Rattle.myi_insertion.proofs.laws.pairs_go_in.Goals as goal

pub returns-clause-leaf : goal.returns-clause-leaf
returns-clause-leaf c = in_leaf

pub returns-clause-child : goal.returns-clause-child
returns-clause-child c = goes_into

pub returns-clause-node : goal.returns-clause-node
returns-clause-node c = node_grows
