use Rattle.myi_keys.proofs.Breaks.{breaks_off, breaks_read}
use Rattle.myi_keys.proofs.laws.faults_at_first_place.Goals as goal

pub returns : goal.returns
returns c = λ bytes fault fits. (breaks_off bytes fault fits, breaks_read bytes fault)
