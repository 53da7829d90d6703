use Rattle.std.proofs.Common.{◌≡◌, ◌++◌, length}
use Rattle.std.specs.List.{AllByRecursion}
use Rattle.myi_placelist.specs.Groups.{IsNear, lows_of, Extends}
use Rattle.myi_placelist.proofs.groups.push_near.Given as goal

abbrev pub invariant-loop-place : goal.invariant-loop-place
invariant-loop-place l = record {
  near : AllByRecursion (IsNear l.base) l.left;
  so_far : l.near.items ++ lows_of l.base l.left ≡ l.fn.near.items ++ lows_of l.base l.fn.places;
  kept : Extends l.fn.near.items l.near.items;
}

abbrev pub decreases-loop-place : goal.decreases-loop-place
decreases-loop-place l = length l.left
