use Rattle.std.proofs.Common.{rules, arith}
use Rattle.myi_base.specs.Holding.{bytes_of}
use Rattle.myi_dellist.proofs.NeedLemmas.{behind_none, behind_long, behind_some}
use Rattle.myi_dellist.specs.Several.{seen_in}
use Rattle.myi_dellist.proofs.linked.hole_behind.Goals as goal

pub returns-in_default-clause-told : goal.returns-in_default-clause-told
returns-in_default-clause-told g c m held long = behind_none (seen_in c.args.sight.now (bytes_of c.args.name.now m)) c.args.at c.args.size c.in_ok-hole.field-0 (c.in_ok-hole.ensures.told m held long) (search rules)

pub returns-then-size-hole-gt-MOST_SIZE-clause-told : goal.returns-then-size-hole-gt-MOST_SIZE-clause-told
returns-then-size-hole-gt-MOST_SIZE-clause-told g c m held long = behind_long (seen_in c.args.sight.now (bytes_of c.args.name.now m)) c.args.at c.args.size c.in_ok-hole.field-0 c.in-Some.hole (c.in_ok-hole.ensures.told m held long) c.in-Some.is (omega (arith, c.if-size-hole-gt-MOST_SIZE.true))

pub returns-clause-told : goal.returns-clause-told
returns-clause-told g c m held long = behind_some (seen_in c.args.sight.now (bytes_of c.args.name.now m)) c.args.at c.args.size c.in_ok-hole.field-0 c.in-Some.hole (c.in_ok-hole.ensures.told m held long) c.in-Some.is (omega (arith, c.if-size-hole-gt-MOST_SIZE.false))
