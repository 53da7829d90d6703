use Rattle.std.proofs.Common.{rules}
use Rattle.myi_tail.proofs.StepLemmas.{may_load}
use Rattle.myi_tail.proofs.reader.ReaderSeat.catch_up.Goals as goal

pub load-word-requires : goal.load-word-requires
load-word-requires c = (search rules, search rules, may_load _ _ _ _ _ _ _ c.loop-self.invariant.kept.view (search rules) (search rules))
