use Rattle.std.proofs.Common.{◌≡◌, ◌^◌, ◌<◌, ◌≤◌, [], length}
use Rattle.std.specs.List.{AllByRecursion}
use Rattle.myi_dellist.specs.Placing.{IsUsable, areas_of}
use Rattle.myi_dellist.specs.Rows.{AreBelow}
use Rattle.myi_dellist.proofs.ReplaceLemmas.{TakesOn}
use Rattle.myi_dellist.proofs.replacing.take_own.Given as goal

abbrev pub invariant-loop-block : goal.invariant-loop-block
invariant-loop-block l = record {
  some : 0 < l.left;
  less : l.left ≤ l.len;
  nothing : l.parts.items ≡ [];
  usable : AllByRecursion (IsUsable l.len) (areas_of l.rest);
  below : AreBelow (2 ^ 64) l.rest;
  so_far : TakesOn l.len (areas_of l.areas) l.pieces.items l.left (areas_of l.rest);
}

abbrev pub decreases-loop-block : goal.decreases-loop-block
decreases-loop-block l = length l.rest
