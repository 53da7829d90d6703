use Rattle.std.proofs.Common.{◌≡◌, ◌+◌, ◌-◌, ◌^◌, ◌≤◌, length}
use Rattle.std.specs.Prelude.{min}
use Rattle.myi_dellist.specs.Placing.{sizes_of}
use Rattle.myi_dellist.proofs.pieces.sizes_of.Given as goal

abbrev pub invariant-loop-piece : goal.invariant-loop-piece
invariant-loop-piece l = record { so_far : min (l.bytes + sizes_of l.left) (2 ^ 64 - 1) ≡ min (sizes_of l.fn.pieces) (2 ^ 64 - 1); few : l.bytes ≤ 2 ^ 64 - 1 }

abbrev pub decreases-loop-piece : goal.decreases-loop-piece
decreases-loop-piece l = length l.left
