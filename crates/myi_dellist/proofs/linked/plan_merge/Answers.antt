use Rattle.std.proofs.Common.{◌≡◌, ◌∙◌, Err, ap, rules}
use Rattle.std.proofs.lemmas.Result.{err_from_is_err_and}
use Rattle.myi_base.specs.Holding.{bytes_of}
use Rattle.myi_dellist.specs.Freeing.{hole_in, block_linked}
use Rattle.myi_dellist.specs.Merging.{some_linked}
use Rattle.myi_dellist.proofs.NeedLemmas.{err_any}
use Rattle.myi_dellist.proofs.MergeLemmas.{merge_none, merge_some}
use Rattle.myi_dellist.proofs.linked.plan_merge.Goals as goal

pub returns-in_default-clause-told : goal.returns-in_default-clause-told
returns-in_default-clause-told g c m held long =
    merge_none (bytes_of c.args.name.now m) c.args.head c.args.at c.args.size c.in_ok-hole.field-0 (c.in_ok-hole.ensures.told m held long) (search rules)

pub returns-in_err-linked-clause-told : goal.returns-in_err-linked-clause-told
returns-in_err-linked-clause-told g c m held long =
    let d = bytes_of c.args.name.now m in
    let e = err_from_is_err_and c.from_residual-in_err-linked.result c.from_residual-in_err-linked.ensures.1 in
    let same : c.from_residual-in_err-linked.result ≡ Err c.in_err-linked.field-0.0 = e.1 ∙ ap Err e.2 in
    let is = merge_some d c.args.head c.args.at c.args.size c.in_ok-hole.field-0 c.in-Some.hole (c.in_ok-hole.ensures.told m held long) c.in-Some.is in
    err_any c.from_residual-in_err-linked.result c.in_err-linked.field-0.0 (block_linked (hole_in d) c.args.head c.in-Some.hole) _ same (λ p f. is ∙ ap some_linked f) (c.in_err-linked.ensures.told m (c.hole_behind.ensures.holds ∙ held) long)

pub returns-clause-told : goal.returns-clause-told
returns-clause-told g c m held long =
    let d = bytes_of c.args.name.now m in
    let is = merge_some d c.args.head c.args.at c.args.size c.in_ok-hole.field-0 c.in-Some.hole (c.in_ok-hole.ensures.told m held long) c.in-Some.is in
    is ∙ ap some_linked (c.in_ok-linked.ensures.told m (c.hole_behind.ensures.holds ∙ held) long)
