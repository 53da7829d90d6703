use Rattle.std.proofs.Common.{rules}
use Rattle.myi_tail.proofs.StepLemmas.{may_look}
use Rattle.myi_tail.proofs.closing.ClosingAppender.look_at_count.Goals as goal

pub load-requires : goal.load-requires
load-requires c = (search rules, search rules, may_look _ _ _ _ _ _ _ c.self.invariant.view)
