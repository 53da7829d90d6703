use Rattle.std.proofs.Common.{length}
use Rattle.myi_defs.proofs.CallerLemmas.{sound}
use Rattle.myi_data.specs.Stored.{stored_file}
use Rattle.myi_pair.proofs.KeptLaws.{settled}
use Rattle.myi_pair.proofs.ShorterLaws.{near_reached}
use Rattle.myi_pair.proofs.SecondLaws.{data_settles, index_settles, second_data, second_index}
use Rattle.myi_pair.proofs.laws.repairs_of_rebuilt_files_settle.Goals as goal

pub returns : goal.returns
returns c = record {
  kept = λ d rows now can any. settled d any rows (sound d can.defined) can.storable can.distinct (near_reached d (length (stored_file d rows)) can.reached);
  data_file = data_settles;
  index_file = index_settles;
  data_again = second_data;
  index_again = second_index;
}
