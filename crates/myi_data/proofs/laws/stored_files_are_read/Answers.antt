use Rattle.myi_data.proofs.StoredLemmas.{stored_read}
use Rattle.myi_data.proofs.laws.stored_files_are_read.Goals as goal

pub returns : goal.returns
returns c = stored_read
