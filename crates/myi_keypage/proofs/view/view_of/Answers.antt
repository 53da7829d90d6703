use Rattle.std.proofs.Common.{◌≢◌, ◌∙◌, sym, ap, length, arith}
use Rattle.std.proofs.lemmas.Bool.{eqb-true, eqb-false}
use Rattle.std.proofs.lemmas.List.{length-append}
use Rattle.myi_keypage.proofs.view.view_of.Goals as goal
use Rattle.myi_keypage.proofs.ItemForms.{child_part}
use Rattle.myi_keypage.proofs.ItemLaws.{child_takes}
use Rattle.myi_keypage.proofs.PageIs.{shown_none, shown_empty, shown_failed, shown_passed}

pub returns-in_default : goal.returns-in_default
returns-in_default c = sym (shown_none _ _ _ (sym c.in_default.ensures))

pub returns-then-is_empty : goal.returns-then-is_empty
returns-then-is_empty c = sym (shown_empty _ _ _ _ (sym c.in-Some.ensures) (eqb-true _ _ (sym c.is_empty.ensures ∙ c.if-is_empty.true)))

pub all_pass-requires-clause-len : goal.all_pass-requires-clause-len
all_pass-requires-clause-len c =
    let t = child_takes c.args.node c.args.body.now _ _ (λ i. omega (arith, c.type_inv.body i)) (sym c.in-Some.ensures) in
    omega (arith, ap length t.0.parts ∙ length-append (child_part c.in-Some.first) c.in-Some.items.now)

pub returns-then-not-all_pass : goal.returns-then-not-all_pass
returns-then-not-all_pass c = sym (shown_failed _ c.args.rec_ref _ _ (sym c.in-Some.ensures) (sym c.all_pass.ensures ∙ c.if-not-all_pass.true))

pub invariant_of-result : goal.invariant_of-result
invariant_of-result c =
    let ne : length c.in-Some.items.now ≢ 0 = eqb-false _ _ (sym c.is_empty.ensures ∙ c.if-is_empty.false) in
    let k = shown_passed _ c.args.rec_ref _ _ (λ i. omega (arith, c.type_inv.body i)) (sym c.in-Some.ensures) (omega arith) (sym c.all_pass.ensures ∙ c.if-not-all_pass.false) in
    (c.requires.narrow, k.1, k.2)

pub returns : goal.returns
returns c =
    let ne : length c.in-Some.items.now ≢ 0 = eqb-false _ _ (sym c.is_empty.ensures ∙ c.if-is_empty.false) in
    let k = shown_passed _ c.args.rec_ref _ _ (λ i. omega (arith, c.type_inv.body i)) (sym c.in-Some.ensures) (omega arith) (sym c.all_pass.ensures ∙ c.if-not-all_pass.false) in
    sym k.0
