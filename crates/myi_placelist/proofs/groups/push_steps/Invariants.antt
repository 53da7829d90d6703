use Rattle.std.proofs.Common.{◌≡◌, ◌++◌, length}
use Rattle.myi_placelist.specs.Groups.{AreClose, steps_of, Extends}
use Rattle.myi_placelist.proofs.groups.push_steps.Given as goal

abbrev pub invariant-loop-place : goal.invariant-loop-place
invariant-loop-place l = record {
  close : AreClose l.before l.left;
  so_far : l.steps.items ++ steps_of l.before l.left ≡ l.fn.steps.items ++ steps_of l.base l.fn.places;
  kept : Extends l.fn.steps.items l.steps.items;
}

abbrev pub decreases-loop-place : goal.decreases-loop-place
decreases-loop-place l = length l.left
