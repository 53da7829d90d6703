use Rattle.myi_btree.specs.Building.{AreKeys}
use Rattle.cases_trees.proofs.trees.numbered_pairs.Given as goal

abbrev pub invariant-loop-number : goal.invariant-loop-number
invariant-loop-number l = AreKeys l.pairs
