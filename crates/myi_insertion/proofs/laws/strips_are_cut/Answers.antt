use Rattle.myi_insertion.proofs.SettleLaws.{cut_parts, stand_join}
use Rattle.myi_insertion.proofs.laws.strips_are_cut.Goals as goal

pub returns-clause-cut : goal.returns-clause-cut
returns-clause-cut c = cut_parts

pub returns-clause-joined : goal.returns-clause-joined
returns-clause-joined c = stand_join
