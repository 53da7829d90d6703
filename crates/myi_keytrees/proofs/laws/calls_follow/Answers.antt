use Rattle.myi_keytrees.proofs.FlushLaws.{stand_start, stand_follow, stand_search}
use Rattle.myi_keytrees.proofs.laws.calls_follow.Goals as goal

pub returns : goal.returns
returns c = record { start = stand_start; follow = stand_follow; search = stand_search }
