use Rattle.std.proofs.Common.{arith, sym}
use Rattle.myi_chain.proofs.NearLemmas.{reach_last}
use Rattle.myi_chain.proofs.ranges.reach.Goals as goal

pub returns : goal.returns
returns c = sym (reach_last 0 c.args.near.now _ _ (omega (arith, c.if-count-eq0.false)))
