use Rattle.myi_readers.proofs.KnownLaws.{first_known}
use Rattle.myi_readers.proofs.laws.first_inserted_rows_are_known.Goals as goal

pub returns : goal.returns
returns c = first_known
