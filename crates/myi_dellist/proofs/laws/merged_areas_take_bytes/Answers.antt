use Rattle.myi_dellist.proofs.MergeLemmas.{merge-keeps-bytes}
use Rattle.myi_dellist.proofs.laws.merged_areas_take_bytes.Goals as goal

pub returns : goal.returns
returns c = merge-keeps-bytes
