use Rattle.std.proofs.Common.{refl, arith}
use Rattle.myi_order.proofs.CountLaws.{raise, raised}
use Rattle.myi_order.proofs.prefixes.count_longer.Goals as goal

pub loop-index-init : goal.loop-index-init
loop-index-init c = record {
  below = λ j few. refl;
  done = λ j few more. absurd (omega (arith, few, more));
  left = λ j few. refl;
  long = refl;
}

pub loop-index-preserved : goal.loop-index-preserved
loop-index-preserved c = raise c.args.counts.now c.loop-index.counts c.args.shared c.loop-index.index (omega arith) (omega arith) c.loop-index.invariant

pub returns : goal.returns
returns c = raised c.args.counts.now c.loop-index.counts c.args.shared c.loop-index.index (omega arith) c.loop-index.invariant
