use Rattle.std.proofs.Common.{refl, arith}
use Rattle.myi_dellist.proofs.FreedLemmas.{push-short, push-long}
use Rattle.myi_dellist.proofs.several.push_parts.Goals as goal

pub returns-then-block-le-MOST_SIZE-clause-parts :
    goal.returns-then-block-le-MOST_SIZE-clause-parts
returns-then-block-le-MOST_SIZE-clause-parts c = push-short c.args.parts.now.items c.push.new.self.items c.args.block.now (omega (arith, c.if-block-le-MOST_SIZE.true)) c.in_ok-push.ensures.items

pub returns-clause-parts : goal.returns-clause-parts
returns-clause-parts c = push-long c.args.parts.now.items c.push-2.new.self.items c.push-3.new.self.items c.args.block.now _ _ (omega (arith, c.if-block-le-MOST_SIZE.false)) refl refl c.in_ok-push-2.ensures.items c.in_ok-push-3.ensures.items
