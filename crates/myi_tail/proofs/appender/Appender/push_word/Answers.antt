use Rattle.std.proofs.Common.{rules}
use Rattle.myi_tail.proofs.StepLemmas.{may_store}
use Rattle.myi_tail.proofs.appender.Appender.push_word.Goals as goal

pub store-requires : goal.store-requires
store-requires c = (search rules, search rules, may_store _ _ _ _ _ _ _ _ _ c.self.invariant.view (search rules) (search rules))
