use Rattle.std.proofs.Common.{◌≡◌, ◌<◌, ℕ, Option, Err, sym, ap, subst, ◌∙◌, rules, arith}
use Rattle.std.specs.Prelude.{IfSome}
use Rattle.std.proofs.lemmas.Result.{err_from_is_err_and}
use Rattle.myi_base.specs.Holding.{bytes_of}
use Rattle.myi_dellist.specs.Freeing.{if_says, names_prev}
use Rattle.myi_dellist.specs.Several.{seen_in}
use Rattle.myi_dellist.proofs.NeedLemmas.{err_given, given_ok, named_none, named_some}
use Rattle.myi_dellist.proofs.linked.see_named.Goals as goal

pub returns-in_default-clause-told : goal.returns-in_default-clause-told
returns-in_default-clause-told g c m held long = named_none (seen_in c.args.sight.now (bytes_of c.args.name.now m)) c.args.prev c.args.link (search rules)

pub returns-in_err-named-clause-told : goal.returns-in_err-named-clause-told
returns-in_err-named-clause-told g c m held long =
    let d = bytes_of c.args.name.now m in
    let at = c.in-Some.at in
    let e = err_from_is_err_and c.from_residual.result c.from_residual.ensures.1 in
    let same : c.from_residual.result ≡ Err c.in_err-named.field-0.0 = e.1 ∙ ap Err e.2 in
    err_given c.from_residual.result c.in_err-named.field-0.0 (if_says (names_prev c.args.prev) at (seen_in c.args.sight.now d at)) _ same (named_some (seen_in c.args.sight.now d) c.args.prev c.args.link at c.in-Some.is) (c.in_err-named.ensures.told m held long)

pub returns-clause-told : goal.returns-clause-told
returns-clause-told g c m held long =
    let d = bytes_of c.args.name.now m in
    let at = c.in-Some.at in
    sym (named_some (seen_in c.args.sight.now d) c.args.prev c.args.link at c.in-Some.is) ∙ given_ok c.in_ok-named.named (if_says (names_prev c.args.prev) at (seen_in c.args.sight.now d at)) (c.in_ok-named.ensures.told m held long)

pub returns-in_default-clause-inside : goal.returns-in_default-clause-inside
returns-in_default-clause-inside g c = subst (λ (o : Option ℕ). IfSome o (λ at. at < c.args.sight.now.end)) (sym c.in_default.is) tt

pub returns-clause-inside : goal.returns-clause-inside
returns-clause-inside g c = subst (λ (o : Option ℕ). IfSome o (λ at. at < c.args.sight.now.end)) (sym c.in-Some.is) (omega (arith, c.in_ok-named.ensures.hole.place.least, c.in_ok-named.ensures.hole.place.inside))
