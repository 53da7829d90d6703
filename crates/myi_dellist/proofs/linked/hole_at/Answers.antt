use Rattle.std.proofs.Common.{arith, refl, length-drop}
use Rattle.std.specs.Prelude.{replicate}
use Rattle.myi_base.specs.Holding.{bytes_of}
use Rattle.myi_dellist.proofs.HoleLemmas.{short_none, read_part}
use Rattle.myi_dellist.proofs.linked.hole_at.Goals as goal

pub returns-then-count-lt-LEAST_SIZE-clause-told : goal.returns-then-count-lt-LEAST_SIZE-clause-told
returns-then-count-lt-LEAST_SIZE-clause-told g c m held long =
    let d = bytes_of c.args.name.now m in
    short_none d c.args.at (omega (arith, c.in_ok-count.ensures.told m held, c.if-count-lt-LEAST_SIZE.true, length-drop c.args.at d))

pub returns-clause-told : goal.returns-clause-told
returns-clause-told g c m held long =
    let d = bytes_of c.args.name.now m in
    c.hole_of.ensures.told d long (read_part c.read_at.new.into (replicate 20 0) d c.args.at refl (omega (arith, c.in_ok-count.ensures.told m held, c.if-count-lt-LEAST_SIZE.false)) (c.in_ok-count.ensures.bytes m held))
