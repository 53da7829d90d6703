use Rattle.std.proofs.Common.{◌≡◌, map}
use Rattle.myi_parallel.specs.KeyTrees.{asked_of}
use Rattle.myi_parallel.proofs.working.lay_trees.Given as goal

abbrev pub invariant-loop-i : goal.invariant-loop-i
invariant-loop-i g l = map asked_of l.trees ≡ map asked_of l.initial.trees
