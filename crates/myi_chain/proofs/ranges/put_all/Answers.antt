use Rattle.std.proofs.Common.{arith}
use Rattle.myi_chain.proofs.MapLemmas.{puts_one}
use Rattle.myi_chain.proofs.ranges.put_all.Goals as goal

pub loop-i-preserved : goal.loop-i-preserved
loop-i-preserved c =
    let next = puts_one c.args.blocks.now c.args.far.now.entries c.loop-i.far.entries c.insert.new.self.entries c.loop-i.i _ (omega arith) c.loop-i.invariant.on c.loop-i.invariant.some c.in-Ok.ensures.entries in
    record { on = next.0; some = next.1 }
