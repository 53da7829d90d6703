use Rattle.myi_dellist.proofs.ReleasedLemmas.{taken-off-leaves, release-stands, others-stay}
use Rattle.myi_dellist.proofs.laws.lists_stand_in_files.Goals as goal

pub returns : goal.returns
returns c = record { taken_off = taken-off-leaves; released = release-stands; others = others-stay }
