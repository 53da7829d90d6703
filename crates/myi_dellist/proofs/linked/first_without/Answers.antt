use Rattle.std.proofs.Common.{◌≡◌, ◌∙◌, None, Ok, Err, sym, ap, rules}
use Rattle.std.proofs.lemmas.Result.{err_from_is_err_and}
use Rattle.myi_base.specs.Holding.{bytes_of}
use Rattle.myi_dellist.specs.Freeing.{block_named}
use Rattle.myi_dellist.specs.Several.{seen_in}
use Rattle.myi_dellist.proofs.NeedLemmas.{err_any, first_none, first_err, first_ok}
use Rattle.myi_dellist.proofs.linked.first_without.Goals as goal

pub returns-in_default-clause-told : goal.returns-in_default-clause-told
returns-in_default-clause-told g c m held long = first_none (seen_in c.args.sight.now (bytes_of c.args.name.now m)) c.args.head c.args.linked.now (search rules) ∙ ap Ok (sym c.without_prev.ensures)

pub returns-in_err-first-clause-told : goal.returns-in_err-first-clause-told
returns-in_err-first-clause-told g c m held long =
    let d = bytes_of c.args.name.now m in
    let e = err_from_is_err_and c.from_residual.result c.from_residual.ensures.1 in
    let same : c.from_residual.result ≡ Err c.in_err-first.field-0.0 = e.1 ∙ ap Err e.2 in
    err_any c.from_residual.result c.in_err-first.field-0.0 (block_named (seen_in c.args.sight.now d) None c.args.head) _ same (first_err (seen_in c.args.sight.now d) c.args.head c.args.linked.now c.in-Some.before c.in-Some.is) (c.in_err-first.ensures.told m held long)

pub returns-clause-told : goal.returns-clause-told
returns-clause-told g c m held long =
    first_ok (seen_in c.args.sight.now (bytes_of c.args.name.now m)) c.args.head c.args.linked.now c.in-Some.before c.in_ok-first.first c.in-Some.is (c.in_ok-first.ensures.told m held long) ∙ ap Ok (sym c.next_past.ensures)
