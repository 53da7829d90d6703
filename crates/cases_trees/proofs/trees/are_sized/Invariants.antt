use Rattle.std.proofs.Common.{take}
use Rattle.std.specs.Prelude.{All}
use Rattle.myi_btree.specs.Sizes.{IsSized}
use Rattle.myi_btree.specs.Nodes.{entry_of}
use Rattle.cases_trees.proofs.trees.are_sized.Given as goal

abbrev pub invariant-loop-i : goal.invariant-loop-i
invariant-loop-i l = All (λ p. IsSized l.place (entry_of p)) (take l.i l.pairs)
