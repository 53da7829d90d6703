use Rattle.std.proofs.Common.{length}
use Rattle.myi_placelist.specs.Groups.{AreClose}
use Rattle.myi_placelist.proofs.groups.are_close.Given as goal

-- where those that are left are close, all are
abbrev pub invariant-loop-place : goal.invariant-loop-place
invariant-loop-place l = AreClose l.before l.left → AreClose l.base l.fn.places

abbrev pub decreases-loop-place : goal.decreases-loop-place
decreases-loop-place l = length l.left
