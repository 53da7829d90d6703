use Rattle.myi_dellist.proofs.TakenLemmas.{first-taken, written-elsewhere}
use Rattle.myi_dellist.proofs.laws.taken_blocks_leave_their_list.Goals as goal

pub returns : goal.returns
returns c = record { taken = first-taken; elsewhere = written-elsewhere }
