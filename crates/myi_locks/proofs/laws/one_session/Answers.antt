use Rattle.myi_locks.specs.Rounds.{next_round}
use Rattle.myi_locks.proofs.SingleLemmas.{one_kind, still_one}
use Rattle.myi_locks.proofs.laws.one_session.Goals as goal

pub returns : goal.returns
returns c = record { kind = one_kind; kept = λ r holes ok. still_one r (next_round r holes) }
