use Rattle.std.proofs.Common.{rules}
use Rattle.myi_tail.proofs.StepLemmas.{may_count}
use Rattle.myi_tail.proofs.reader.ReaderSeat.lock.Goals as goal

pub load-count-requires : goal.load-count-requires
load-count-requires c = (search rules, search rules, may_count _ _ _ _ _ _ c.self.invariant.view)
