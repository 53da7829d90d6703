use Rattle.std.specs.List.{AllByRecursion}
use Rattle.std.proofs.Common.{length}
use Rattle.myi_placelist.specs.Groups.{IsNear}
use Rattle.myi_placelist.proofs.groups.are_near.Given as goal

-- where those that are left are near, all are
abbrev pub invariant-loop-place : goal.invariant-loop-place
invariant-loop-place l = AllByRecursion (IsNear l.base) l.left → AllByRecursion (IsNear l.base) l.fn.places

abbrev pub decreases-loop-place : goal.decreases-loop-place
decreases-loop-place l = length l.left
