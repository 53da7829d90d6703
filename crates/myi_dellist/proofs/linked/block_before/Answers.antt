use Rattle.std.proofs.Common.{◌≡◌, Some, Err, sym, ap, ◌∙◌, true, false, rules}
use Rattle.std.proofs.lemmas.Result.{err_from_is_err_and}
use Rattle.myi_base.specs.Holding.{bytes_of}
use Rattle.myi_dellist.specs.Freeing.{if_says, names_next}
use Rattle.myi_dellist.specs.Several.{seen_in}
use Rattle.myi_dellist.proofs.NeedLemmas.{err_given, given_ok, before_none, before_some}
use Rattle.myi_dellist.proofs.linked.block_before.Goals as goal

pub returns-then-not-is_same-clause-told : goal.returns-then-not-is_same-clause-told
returns-then-not-is_same-clause-told g c m held long = before_none (seen_in c.args.sight.now (bytes_of c.args.name.now m)) c.args.head c.args.hole.now (search rules) false (sym c.if-not-is_same.ensures)

pub returns-in_default-clause-told : goal.returns-in_default-clause-told
returns-in_default-clause-told g c m held long = before_none (seen_in c.args.sight.now (bytes_of c.args.name.now m)) c.args.head c.args.hole.now (search rules) true (sym c.if-not-is_same.ensures)

pub returns-in_err-before-clause-told : goal.returns-in_err-before-clause-told
returns-in_err-before-clause-told g c m held long =
    let d = bytes_of c.args.name.now m in
    let at = c.in-Some.at in
    let e = err_from_is_err_and c.from_residual.result c.from_residual.ensures.1 in
    let same : c.from_residual.result ≡ Err c.in_err-before.field-0.0 = e.1 ∙ ap Err e.2 in
    err_given c.from_residual.result c.in_err-before.field-0.0 (if_says (names_next (Some c.args.hole.now.at)) at (seen_in c.args.sight.now d at)) _ same (before_some (seen_in c.args.sight.now d) c.args.head c.args.hole.now at c.in-Some.is) (c.in_err-before.ensures.told m held long)

pub returns-clause-told : goal.returns-clause-told
returns-clause-told g c m held long =
    let d = bytes_of c.args.name.now m in
    let at = c.in-Some.at in
    sym (before_some (seen_in c.args.sight.now d) c.args.head c.args.hole.now at c.in-Some.is) ∙ given_ok c.in_ok-before.before (if_says (names_next (Some c.args.hole.now.at)) at (seen_in c.args.sight.now d at)) (c.in_ok-before.ensures.told m held long)
