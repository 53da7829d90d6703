use Rattle.myi_keylist.proofs.TogetherLaws.{stand_together}
use Rattle.myi_keylist.proofs.laws.equal_keys_stand_together.Goals as goal

pub returns : goal.returns
returns c = λ pairs i j k other order low high few same. stand_together pairs i j k other order low high few same
