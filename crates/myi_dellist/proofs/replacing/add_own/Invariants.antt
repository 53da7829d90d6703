use Rattle.std.proofs.Common.{◌≡◌, ◌^◌, ◌++◌, length}
use Rattle.std.specs.List.{flat_map}
use Rattle.myi_dellist.specs.Placing.{areas_of}
use Rattle.myi_dellist.specs.Rows.{AreBelow}
use Rattle.myi_dellist.specs.Replacing.{parts_for}
use Rattle.myi_dellist.proofs.replacing.add_own.Given as goal

abbrev pub invariant-loop-block : goal.invariant-loop-block
invariant-loop-block l = record {
  below : AreBelow (2 ^ 64) l.left;
  so_far : areas_of l.areas.items ++ flat_map (parts_for l.len) (areas_of l.left) ≡ flat_map (parts_for l.len) (areas_of l.fn.own);
}

abbrev pub decreases-loop-block : goal.decreases-loop-block
decreases-loop-block l = length l.left
