use Rattle.std.proofs.Common.{◌≡◌, ◌≤◌, ◌∙◌, ◌+◌, subst, Some, None, Err, sym, ap, rules}
use Rattle.std.proofs.lemmas.Result.{err_from_is_err_and}
use Rattle.myi_base.specs.Holding.{bytes_of}
use Rattle.myi_frames.specs.declared.head.Head.{Head}
use Rattle.myi_dellist.specs.Releasing.{most_size}
use Rattle.myi_dellist.specs.Freeing.{block_named, block_linked, first_without, with_joined, plan_linked}
use Rattle.myi_dellist.specs.Several.{seen_in}
use Rattle.myi_dellist.proofs.NeedLemmas.{err_any, plan_none, plan_some, some_has}
use Rattle.myi_dellist.proofs.linked.see_release.Goals as goal

pub returns-in_err-alone-clause-told : goal.returns-in_err-alone-clause-told
returns-in_err-alone-clause-told g c m held long =
    let d = bytes_of c.args.name.now m in
    let e = err_from_is_err_and c.from_residual-in_err-alone.result c.from_residual-in_err-alone.ensures.1 in
    let same : c.from_residual-in_err-alone.result ≡ Err c.in_err-alone.field-0.0 = e.1 ∙ ap Err e.2 in
    let is = plan_none (seen_in c.args.sight.now d) c.args.head c.args.at c.args.size c.in_ok-hole.field-0 (c.in_ok-hole.ensures.told m held long) (search rules) in
    err_any c.from_residual-in_err-alone.result c.in_err-alone.field-0.0 (block_named (seen_in c.args.sight.now d) None c.args.head) _ same (λ p f. is ∙ ap (with_joined None) f) (c.in_err-alone.ensures.told m (c.hole_behind.ensures.holds ∙ held) long)

pub returns-in_default-clause-told : goal.returns-in_default-clause-told
returns-in_default-clause-told g c m held long =
    let d = bytes_of c.args.name.now m in
    plan_none (seen_in c.args.sight.now d) c.args.head c.args.at c.args.size c.in_ok-hole.field-0 (c.in_ok-hole.ensures.told m held long) (search rules) ∙ ap (with_joined None) (c.in_ok-alone.ensures.told m (c.hole_behind.ensures.holds ∙ held) long)

pub returns-in_err-linked-clause-told : goal.returns-in_err-linked-clause-told
returns-in_err-linked-clause-told g c m held long =
    let d = bytes_of c.args.name.now m in
    let e = err_from_is_err_and c.from_residual-in_err-linked.result c.from_residual-in_err-linked.ensures.1 in
    let same : c.from_residual-in_err-linked.result ≡ Err c.in_err-linked.field-0.0 = e.1 ∙ ap Err e.2 in
    let is = plan_some (seen_in c.args.sight.now d) c.args.head c.args.at c.args.size c.in_ok-hole.field-0 c.in-Some.hole (c.in_ok-hole.ensures.told m held long) c.in-Some.is in
    err_any c.from_residual-in_err-linked.result c.in_err-linked.field-0.0 (block_linked (seen_in c.args.sight.now d) c.args.head c.in-Some.hole) _ same (λ p f. is ∙ ap (plan_linked (seen_in c.args.sight.now d) c.args.head) f) (c.in_err-linked.ensures.told m (c.hole_behind.ensures.holds ∙ held) long)

pub returns-in_err-first-clause-told : goal.returns-in_err-first-clause-told
returns-in_err-first-clause-told g c m held long =
    let d = bytes_of c.args.name.now m in
    let e = err_from_is_err_and c.from_residual-in_err-first.result c.from_residual-in_err-first.ensures.1 in
    let same : c.from_residual-in_err-first.result ≡ Err c.in_err-first.field-0.0 = e.1 ∙ ap Err e.2 in
    let is = plan_some (seen_in c.args.sight.now d) c.args.head c.args.at c.args.size c.in_ok-hole.field-0 c.in-Some.hole (c.in_ok-hole.ensures.told m held long) c.in-Some.is in
    let link = is ∙ ap (plan_linked (seen_in c.args.sight.now d) c.args.head) (c.in_ok-linked.ensures.told m (c.hole_behind.ensures.holds ∙ held) long) in
    err_any c.from_residual-in_err-first.result c.in_err-first.field-0.0 (first_without (seen_in c.args.sight.now d) c.args.head c.in_ok-linked.linked) _ same (λ p f. link ∙ ap (with_joined (Some c.in_ok-linked.linked)) f) (c.in_err-first.ensures.told m (c.link.ensures.holds ∙ c.hole_behind.ensures.holds ∙ held) long)

pub returns-clause-told : goal.returns-clause-told
returns-clause-told g c m held long =
    let d = bytes_of c.args.name.now m in
    let is = plan_some (seen_in c.args.sight.now d) c.args.head c.args.at c.args.size c.in_ok-hole.field-0 c.in-Some.hole (c.in_ok-hole.ensures.told m held long) c.in-Some.is in
    let link = is ∙ ap (plan_linked (seen_in c.args.sight.now d) c.args.head) (c.in_ok-linked.ensures.told m (c.hole_behind.ensures.holds ∙ held) long) in
    link ∙ ap (with_joined (Some c.in_ok-linked.linked)) (c.in_ok-first.ensures.told m (c.link.ensures.holds ∙ c.hole_behind.ensures.holds ∙ held) long)

pub returns-clause-holes : goal.returns-clause-holes
returns-clause-holes g c =
    let short = some_has (λ (h : Head). c.args.size + h.size ≤ most_size) c.in_ok-hole.field-0 c.in-Some.hole c.in_ok-hole.ensures.short c.in-Some.is in
    record {
      joined = c.in_ok-linked.ensures.holes;
      short = subst (λ (h : Head). c.args.size + h.size ≤ most_size) (sym c.in_ok-linked.ensures.same) short;
      first = c.in_ok-first.ensures.hole;
    }
