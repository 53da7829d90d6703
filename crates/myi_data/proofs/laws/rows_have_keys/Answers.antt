use Rattle.myi_data.proofs.CallerLemmas.{can_weigh, key_is, key_is_at, segments_at, values_fit, spelling_some}
use Rattle.myi_data.proofs.laws.rows_have_keys.Goals as goal

pub returns : goal.returns
returns c = record {
  weighed = can_weigh;
  key = key_is;
  numbered = key_is_at;
  segments = segments_at;
  fields = values_fit;
  spelled = spelling_some;
}
