use Rattle.std.proofs.Common.{arith}
use Rattle.myi_order.specs.Shared.{average}
use Rattle.myi_order.proofs.CountLaws.{one_more}
use Rattle.myi_order.proofs.prefixes.divide.Goals as goal

pub loop-count-preserved : goal.loop-count-preserved
loop-count-preserved c = one_more (average c.args.rows) c.args.counts.now _ _ 0 _ (omega arith) c.loop-count.invariant c.average.ensures
