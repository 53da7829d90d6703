use Rattle.std.proofs.Common.{ap, arith, Some}
use Rattle.myi_script.proofs.form.Form.greatest.Goals as goal

pub returns-in-Signed-clause-value : goal.returns-in-Signed-clause-value
returns-in-Signed-clause-value c = rw c.in-Signed.is (ap (λ q. Some q) (omega (arith, c.greatest_of.ensures.half)))
