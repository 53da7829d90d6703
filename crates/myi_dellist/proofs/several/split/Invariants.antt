use Rattle.std.proofs.Common.{◌≡◌, ◌^◌, ◌++◌, length}
use Rattle.myi_dellist.specs.Rows.{AreBelow}
use Rattle.myi_dellist.specs.Freed.{parts_in, freed_parts}
use Rattle.myi_dellist.proofs.several.split.Given as goal

abbrev pub invariant-loop-block : goal.invariant-loop-block
invariant-loop-block l = record {
  below : AreBelow (2 ^ 64) l.left;
  so_far : parts_in l.parts.items ++ freed_parts l.left ≡ parts_in l.fn.parts.items ++ freed_parts l.fn.own;
}

abbrev pub decreases-loop-block : goal.decreases-loop-block
decreases-loop-block l = length l.left
