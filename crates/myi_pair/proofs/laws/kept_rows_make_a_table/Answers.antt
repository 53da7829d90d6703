use Rattle.myi_pair.proofs.KeptLaws.{readable_storable, kept_each, data_of}
use Rattle.myi_pair.proofs.RecoveredLaws.{can_keep, index_of}
use Rattle.myi_pair.proofs.laws.kept_rows_make_a_table.Goals as goal

pub returns : goal.returns
returns c = record { readable = readable_storable; storable = kept_each; table = can_keep; data_file = data_of; index_file = index_of }
