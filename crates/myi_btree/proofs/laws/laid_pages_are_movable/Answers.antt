use Rattle.myi_btree.proofs.MoveLaws.{laid_movable, laid_moved, laid_stored}
use Rattle.myi_btree.proofs.laws.laid_pages_are_movable.Goals as goal

pub returns : goal.returns
returns c = record { movable = laid_movable; moved = laid_moved; bytes = laid_stored }
