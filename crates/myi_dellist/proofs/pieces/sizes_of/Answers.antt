use Rattle.std.proofs.Common.{arith}
use Rattle.myi_dellist.proofs.PieceLemmas.{none-sized}
use Rattle.myi_dellist.proofs.pieces.sizes_of.Goals as goal

pub returns : goal.returns
returns c = omega (arith, c.loop-piece.invariant.so_far, c.loop-piece.invariant.few, none-sized c.loop-piece.left.now c.in_default.ensures.cases)
