use Rattle.std.proofs.lemmas.Result.{IfOk-weaker}
use Rattle.myi_check.proofs.asking.is_next.Goals as goal

pub returns-clause-next : goal.returns-clause-next
returns-clause-next g c = IfOk-weaker c.has_pair.result _ _ (λ is row yes_it_is. record { above = c.rises_to.ensures.above c.if-not-rises_to.false; apart = c.rises_to.ensures.apart c.if-not-rises_to.false; of = row yes_it_is }) c.has_pair.ensures.row
