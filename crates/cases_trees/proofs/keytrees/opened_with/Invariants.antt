use Rattle.std.specs.List.{AllByRecursion}
use Rattle.myi_btree.specs.Sizes.{IsPlaced}
use Rattle.cases_trees.proofs.keytrees.opened_with.Given as goal

abbrev pub invariant-loop-length : goal.invariant-loop-length
invariant-loop-length l = AllByRecursion IsPlaced l.places.items
