use Rattle.std.proofs.Common.{arith, take, ◌-◌, sym, ap, ◌∙◌}
use Rattle.myi_chain.specs.Used.{without}
use Rattle.myi_chain.specs.Chain.{ranges_at}
use Rattle.myi_chain.proofs.MapLemmas.{takes_last}
use Rattle.myi_chain.proofs.ranges.take_out.Goals as goal

pub loop-left-preserved : goal.loop-left-preserved
loop-left-preserved c =
    let step = takes_last c.args.blocks.now c.loop-left.far.entries (c.loop-left.left - 1) c.loop-left.left _ (omega arith) c.loop-left.invariant.within in
    record {
      rest = ap (λ es. without es (ranges_at (take (c.loop-left.left - 1) c.args.blocks.now))) c.remove.ensures.entries ∙ sym step ∙ c.loop-left.invariant.rest;
      within = omega (arith, c.loop-left.invariant.within);
    }
