use Rattle.myi_btree.proofs.LaidMoves.{laid_moves}
use Rattle.myi_btree.proofs.laws.laid_pages_move.Goals as goal

pub returns : goal.returns
returns c = laid_moves
