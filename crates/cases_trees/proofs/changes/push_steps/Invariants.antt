use Rattle.myi_btree.specs.Sizes.{IsPlaced}
use Rattle.myi_insertion.specs.Rooms.{IsWhole}
use Rattle.cases_trees.proofs.changes.push_steps.Given as goal

abbrev pub invariant-loop-step : goal.invariant-loop-step
invariant-loop-step l = record { placed : IsPlaced l.changed.place; whole : IsWhole l.changed.room }
