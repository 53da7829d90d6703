use Rattle.myi_order.proofs.CountLaws.{Raised}
use Rattle.myi_order.proofs.prefixes.count_longer.Given as goal

-- those from the shared ones up to here were raised
abbrev pub invariant-loop-index : goal.invariant-loop-index
invariant-loop-index l = Raised l.fn.counts l.counts l.shared l.index
