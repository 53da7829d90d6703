use Rattle.std.proofs.Common.{length}
use Rattle.myi_defs.proofs.CallerLemmas.{sound}
use Rattle.myi_data.specs.Stored.{stored_file}
use Rattle.myi_pair.proofs.KeptLaws.{rows_read, values_read}
use Rattle.myi_pair.proofs.ShorterLaws.{near_reached}
use Rattle.myi_pair.proofs.RebuiltLaws.{is_rebuilt}
use Rattle.myi_pair.proofs.laws.rebuilt_files_are_a_table.Goals as goal

pub returns : goal.returns
returns c = record {
  table = is_rebuilt;
  read = λ d rows now can any. rows_read d any rows (sound d can.defined) can.storable (near_reached d (length (stored_file d rows)) can.reached);
  values = λ d rows now can any. values_read d any rows (sound d can.defined) can.storable (near_reached d (length (stored_file d rows)) can.reached);
}
