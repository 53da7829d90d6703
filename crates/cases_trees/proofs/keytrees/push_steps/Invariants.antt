use Rattle.myi_insertion.specs.Rooms.{IsWhole}
use Rattle.cases_trees.proofs.keytrees.push_steps.Given as goal

abbrev pub invariant-loop-step : goal.invariant-loop-step
invariant-loop-step l = IsWhole l.opened.trees.room
