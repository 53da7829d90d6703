use Rattle.std.proofs.Common.{subst, inr}
use Rattle.myi_base.specs.Holding.{Measures}
use Rattle.myi_check.proofs.CheckLemmas.{no_index}
use Rattle.myi_check.proofs.checking.check_opened.Goals as goal

pub returns-in_default-clause-refused : goal.returns-in_default-clause-refused
returns-in_default-clause-refused g c = inr (λ m held. no_index c.args.index.now c.args.rows.now m (subst (Measures (m c.args.index.now)) c.in_default.is (c.in_ok-size.ensures.told m held)))
