use Rattle.myi_dellist.proofs.ReplaceLemmas.{own-all}
use Rattle.myi_dellist.proofs.replacing.add_own.Goals as goal

pub returns-clause-areas : goal.returns-clause-areas
returns-clause-areas c = own-all c.args.len c.loop-block.areas.items c.loop-block.left.now c.args.own.now c.in_default.ensures.cases c.loop-block.invariant.so_far
