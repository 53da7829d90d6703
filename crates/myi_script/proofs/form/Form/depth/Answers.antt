use Rattle.std.proofs.Common.{ap, Some, inl, inr}
use Rattle.myi_script.proofs.form.Form.depth.Goals as goal

pub returns-in-Signed : goal.returns-in-Signed
returns-in-Signed c = elim c.in-Signed.is [ inl p ↦ rw p (ap (λ q. Some q) c.greatest_of.ensures.half) | inr p ↦ rw p (ap (λ q. Some q) c.greatest_of.ensures.half) ]
