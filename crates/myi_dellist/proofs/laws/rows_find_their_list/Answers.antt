use Rattle.myi_dellist.proofs.SoundLemmas.{never-bad}
use Rattle.myi_dellist.proofs.PutRowLemmas.{long-placed}
use Rattle.myi_dellist.proofs.laws.rows_find_their_list.Goals as goal

pub returns : goal.returns
returns c = record { long = long-placed; sound = never-bad }
