use Rattle.myi_btree.specs.Sizes.{IsPlaced}
use Rattle.cases_trees.proofs.trees.push_events.Given as goal

abbrev pub invariant-loop : goal.invariant-loop
invariant-loop l = record { placed : IsPlaced l.events.place }
