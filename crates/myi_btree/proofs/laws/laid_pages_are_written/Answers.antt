use Rattle.myi_btree.proofs.CallerLemmas.{laid_written, written_read}
use Rattle.myi_btree.proofs.laws.laid_pages_are_written.Goals as goal

pub returns : goal.returns
returns c = record { written = laid_written; read = written_read }
