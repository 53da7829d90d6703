use Rattle.std.proofs.Common.{◌⊎◌, ◌∙◌, Err, ap, inl, inr}
use Rattle.std.proofs.lemmas.Result.{err_from_is_err_and, IfOk-weaker, IfErr-weaker}
use Rattle.myi_check.proofs.CheckLemmas.{refuses, finds}
use Rattle.myi_check.proofs.StoredLemmas.{err_is}
use Rattle.myi_check.proofs.checking.check.Goals as goal

other : {A B C : Type 0} → A ⊎ B → (B → C) → A ⊎ C
other (inl a) go = inl a
other (inr b) go = inr (go b)

pub returns-in_err-opened-clause-refused : goal.returns-in_err-opened-clause-refused
returns-in_err-opened-clause-refused g c =
    let e = err_from_is_err_and c.from_residual-in_err-opened.result c.from_residual-in_err-opened.ensures.1 in
    err_is c.from_residual-in_err-opened.result _ (e.1 ∙ ap Err e.2) (other c.in_err-opened.ensures.refused (λ none m held.
    refuses c.args.name.now _ _ _ m (c.as_str.ensures.value ∙ c.in_ok-index.ensures) (c.as_str-2.ensures.value ∙ c.in_ok-rows.ensures) (none m held)))

pub returns-clause-findings : goal.returns-clause-findings
returns-clause-findings g c =
    IfOk-weaker c.check_opened.result _ _ (λ found was m held.
    finds c.args.name.now _ _ found.items m (c.as_str-3.ensures.value ∙ c.in_ok-index.ensures) (c.as_str-4.ensures.value ∙ c.in_ok-rows.ensures) (was m (c.in_ok-opened.ensures.holds ∙ held))) c.check_opened.ensures.findings

pub returns-clause-refused : goal.returns-clause-refused
returns-clause-refused g c =
    IfErr-weaker c.check_opened.result _ _ (λ f was. other was (λ none m held.
    refuses c.args.name.now _ _ f m (c.as_str-3.ensures.value ∙ c.in_ok-index.ensures) (c.as_str-4.ensures.value ∙ c.in_ok-rows.ensures) (none m (c.in_ok-opened.ensures.holds ∙ held)))) c.check_opened.ensures.refused
