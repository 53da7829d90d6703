use Rattle.std.proofs.Common.{◌∙◌}
use Rattle.std.proofs.lemmas.Result.{IfOk-weaker}
use Rattle.myi_check.proofs.checking.keys_found.Goals as goal

pub returns-clause-found : goal.returns-clause-found
returns-clause-found g c = IfOk-weaker c.compare_keys.result _ _ (λ r was m held x d there file roots records marked. was m (c.in_ok-found.ensures.holds ∙ held) x d there file (c.as_slice-roots.ensures ∙ roots)) c.compare_keys.ensures.found
