use Rattle.std.proofs.Common.{◌∙◌, Ok, Err, sym, ap, subst}
use Rattle.std.proofs.lemmas.Result.{err_from_is_err_and}
use Rattle.myi_base.specs.Holding.{bytes_of}
use Rattle.myi_dellist.specs.declared.linked.ReleasePlan.{ReleasePlan}
use Rattle.myi_dellist.specs.Freeing.{hole_in, IsPlanIn}
use Rattle.myi_dellist.specs.Merging.{merge_in}
use Rattle.myi_dellist.proofs.NeedLemmas.{err_any}
use Rattle.myi_dellist.proofs.PlanningLemmas.{rest_ok, rest_err, rest_holes}
use Rattle.myi_dellist.proofs.planning.plan_rest.Goals as goal

pub returns-in_err-joined-clause-told : goal.returns-in_err-joined-clause-told
returns-in_err-joined-clause-told g c m held long =
    let d = bytes_of c.args.name.now m in
    let s = c.args.spare.now in
    let e = err_from_is_err_and c.from_residual.result c.from_residual.ensures.1 in
    err_any c.from_residual.result c.in_err-joined.field-0.0 (merge_in (hole_in d) c.args.list.now.head s.at s.size) _ (e.1 ∙ ap Err e.2) (λ p f. rest_err d c.args.list.now.head c.args.pieces.now s c.args.next p f) (c.in_err-joined.ensures.told m held long)

pub returns-clause-told : goal.returns-clause-told
returns-clause-told g c m held long = rest_ok (bytes_of c.args.name.now m) c.args.list.now.head c.args.pieces.now c.args.spare.now c.args.next c.in_ok-joined.joined (c.in_ok-joined.ensures.told m held long)
    ∙ ap (λ (x : ReleasePlan). Ok (record { at = c.args.spare.now.at; size = c.args.spare.now.size; plan = x })) (sym c.rest_plan.ensures)

pub returns-clause-holes : goal.returns-clause-holes
returns-clause-holes g c = record { place = c.requires.place; most = c.requires.most; plan = subst (λ (x : ReleasePlan). IsPlanIn c.args.list.now.end c.args.spare.now.size x) (sym c.rest_plan.ensures) (rest_holes c.args.list.now.end c.args.spare.now.size c.args.pieces.now c.args.spare.now.last c.args.next c.in_ok-joined.joined c.requires.next c.in_ok-joined.ensures.holes c.in_ok-joined.ensures.short) }
