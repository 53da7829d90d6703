use Rattle.std.proofs.Common.{rules}
use Rattle.myi_tail.proofs.StepLemmas.{may_publish}
use Rattle.myi_tail.proofs.appender.Appender.publish.Goals as goal

pub store-requires : goal.store-requires
store-requires c = (search rules, search rules, may_publish _ _ _ _ _ _ _ _ c.self.invariant.view (search rules))
