use Rattle.std.proofs.Common.{arith}
use Rattle.myi_check.proofs.LinkLemmas.{slot_says, block_says}
use Rattle.myi_check.proofs.link.link_of.Goals as goal

pub returns-in-Static : goal.returns-in-Static
returns-in-Static c = λ d long is pointed.
    slot_says c.args.defs.now d _ c.args.place c.args.before c.slot_link.result c.in-Static.is c.requires.sound.rec_ref_most (omega (arith, (pointed c.in-Static.is).0, long)) is c.slot_link.ensures.names

pub returns-in-Dynamic : goal.returns-in-Dynamic
returns-in-Dynamic c = λ d long is pointed.
    block_says c.args.defs.now d c.args.place c.args.before c.block_link.result c.in-Dynamic.is (c.block_link.ensures.named d long is) (c.block_link.ensures.next c.args.defs.now d long is)
