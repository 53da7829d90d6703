use Rattle.myi_keylist.proofs.RepeatLaws.{apart}
use Rattle.myi_keylist.proofs.laws.repeats_are_neighbours.Goals as goal

pub returns : goal.returns
returns c = apart
