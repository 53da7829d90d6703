use Rattle.std.proofs.Common.{arith}
use Rattle.myi_chain.proofs.SourceLemmas.{header_still}
use Rattle.myi_chain.proofs.source.Source.hold.Goals as goal

pub returns-then-size-le-WINDOW-clause-inside : goal.returns-then-size-le-WINDOW-clause-inside
returns-then-size-le-WINDOW-clause-inside g c is = header_still c.args.block.now.head.at _ _ c.args.block.now c.requires.block (c.in_ok-there.ensures.inside is) c.ready.ensures.reads.falls

pub returns-then-size-le-WINDOW-clause-short : goal.returns-then-size-le-WINDOW-clause-short
returns-then-size-le-WINDOW-clause-short g c is m held = absurd (omega (arith, c.in_ok-there.ensures.short is, c.ready.ensures.reads.end m held, c.requires.block.place.inside))

pub returns-in_ok-there-in-Whole-clause-inside : goal.returns-in_ok-there-in-Whole-clause-inside
returns-in_ok-there-in-Whole-clause-inside g c is = header_still c.args.block.now.head.at _ _ c.args.block.now c.requires.block (c.in_ok-there-in-Whole.ensures.inside is) c.reach.ensures.reads.falls

pub returns-in_ok-there-in-Whole-clause-short : goal.returns-in_ok-there-in-Whole-clause-short
returns-in_ok-there-in-Whole-clause-short g c is m held = absurd (omega (arith, c.in_ok-there-in-Whole.ensures.short is, c.reach.ensures.reads.end m held, c.requires.block.place.inside))
