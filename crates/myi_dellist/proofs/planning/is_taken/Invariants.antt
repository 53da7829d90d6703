use Rattle.std.proofs.Common.{◌≡◌, length}
use Rattle.myi_dellist.specs.Planning.{is_taken}
use Rattle.myi_dellist.proofs.planning.is_taken.Given as goal

abbrev pub invariant-loop-piece : goal.invariant-loop-piece
invariant-loop-piece l = record { so_far : is_taken l.at l.left ≡ is_taken l.at l.fn.pieces }

abbrev pub decreases-loop-piece : goal.decreases-loop-piece
decreases-loop-piece l = length l.left
