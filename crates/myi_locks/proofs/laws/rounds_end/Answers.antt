use Rattle.myi_locks.proofs.EndLemmas.{kept, fewer}
use Rattle.myi_locks.proofs.OpeningLemmas.{opens, rounds_end}
use Rattle.myi_locks.proofs.laws.rounds_end.Goals as goal

pub returns : goal.returns
returns c = record { opens = opens; kept = kept; fewer = fewer; ends = rounds_end }
