use Rattle.std.proofs.Common.{rules}
use Rattle.myi_tail.proofs.StepLemmas.{may_join}
use Rattle.myi_tail.proofs.closing.ClosingAppender.join.Goals as goal

pub join_seat-requires : goal.join_seat-requires
join_seat-requires c = (search rules, search rules, search rules, search rules, may_join _ _ _ _ _ _ _ _ _ _ _ c.self.invariant.view c.reader.invariant.view)
