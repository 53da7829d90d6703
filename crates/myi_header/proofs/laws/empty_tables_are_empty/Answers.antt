use Rattle.myi_header.proofs.CallerLemmas.{empty-header, empty-read, empty-again}
use Rattle.myi_header.proofs.laws.empty_tables_are_empty.Goals as goal

pub returns : goal.returns
returns c = record { header = empty-header; read = empty-read; again = empty-again }
