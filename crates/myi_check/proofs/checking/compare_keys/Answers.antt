use Rattle.std.proofs.Common.{◌∙◌, refl}
use Rattle.std.proofs.lemmas.Result.{IfOk-weaker}
use Rattle.myi_check.specs.Rows.{rows_in}
use Rattle.myi_check.proofs.checking.compare_keys.Goals as goal

pub returns-clause-found : goal.returns-clause-found
returns-clause-found g c = IfOk-weaker c.check_keys.result _ _ (λ r was m held x d there file roots.
    was m (c.in_ok-keys.ensures.holds ∙ held) x (rows_in c.args.opened.now.defs d) there roots (c.into_lists.ensures ∙ (c.in_ok-keys.ensures.found m held d file).keys refl)) c.check_keys.ensures.found
