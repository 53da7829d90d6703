use Rattle.myi_locks.proofs.HoldLemmas.{finished, hold_steps}
use Rattle.myi_locks.proofs.OpeningLemmas.{finishes}
use Rattle.myi_locks.proofs.laws.rounds_hold_steps.Goals as goal

pub returns : goal.returns
returns c = record { finished = finished; done = finishes; some = hold_steps }
