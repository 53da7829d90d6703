use Rattle.myi_history.proofs.ForcedLemmas.{forced_once, one_session}
use Rattle.myi_history.proofs.laws.numbers_are_forced.Goals as goal

pub returns : goal.returns
returns c = record { round = forced_once; alone = one_session }
