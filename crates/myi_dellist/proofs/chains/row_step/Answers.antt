use Rattle.std.proofs.Common.{arith, refl, length-drop}
use Rattle.myi_base.specs.Holding.{bytes_of}
use Rattle.myi_dellist.proofs.ChainLemmas.{step-short}
use Rattle.myi_dellist.proofs.chains.row_step.Goals as goal

pub returns-then-count-lt-LEAST_SIZE-clause-bad : goal.returns-then-count-lt-LEAST_SIZE-clause-bad
returns-then-count-lt-LEAST_SIZE-clause-bad g c m held long =
    let d = bytes_of c.args.name.now m in
    (step-short d c.args.link.now (omega (arith, c.in_ok-count.ensures.told m held, c.if-count-lt-LEAST_SIZE.true, length-drop c.args.link.now.at d)), refl)
