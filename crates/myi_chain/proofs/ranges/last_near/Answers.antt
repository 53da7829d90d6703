use Rattle.std.proofs.Common.{arith, sym}
use Rattle.myi_chain.proofs.NearLemmas.{before_none, before_count}
use Rattle.myi_chain.proofs.ranges.last_near.Goals as goal

pub returns-then-count-eq0 : goal.returns-then-count-eq0
returns-then-count-eq0 c = sym (before_none c.args.end c.args.near.now _ c.count_before-count.ensures.point c.if-count-eq0.true)

pub returns : goal.returns
returns c = sym (before_count c.args.end c.args.near.now _ _ _ c.count_before-count.ensures.point (omega (arith, c.if-count-eq0.false)) c.count_before-count.ensures.bound)
