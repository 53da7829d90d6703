use Rattle.std.proofs.Common.{◌≡◌, ◌∙◌, Some, Err, ap}
use Rattle.std.proofs.lemmas.Result.{err_from_is_err_and}
use Rattle.myi_base.specs.Holding.{bytes_of}
use Rattle.myi_dellist.specs.Freeing.{block_before, block_named}
use Rattle.myi_dellist.specs.Several.{seen_in}
use Rattle.myi_dellist.proofs.NeedLemmas.{err_any, link_first, link_second, link_both}
use Rattle.myi_dellist.proofs.linked.link.Goals as goal

pub returns-in_err-before-clause-told : goal.returns-in_err-before-clause-told
returns-in_err-before-clause-told g c m held long =
    let d = bytes_of c.args.name.now m in
    let e = err_from_is_err_and c.from_residual.result c.from_residual.ensures.1 in
    let same : c.from_residual.result ≡ Err c.in_err-before.field-0.0 = e.1 ∙ ap Err e.2 in
    err_any c.from_residual.result c.in_err-before.field-0.0 (block_before (seen_in c.args.sight.now d) c.args.head c.args.hole) _ same (link_first (seen_in c.args.sight.now d) c.args.head c.args.hole) (c.in_err-before.ensures.told m held long)

pub returns-in_err-behind-clause-told : goal.returns-in_err-behind-clause-told
returns-in_err-behind-clause-told g c m held long =
    let d = bytes_of c.args.name.now m in
    let e = err_from_is_err_and c.from_residual-in_err-behind.result c.from_residual-in_err-behind.ensures.1 in
    let same : c.from_residual-in_err-behind.result ≡ Err c.in_err-behind.field-0.0 = e.1 ∙ ap Err e.2 in
    err_any c.from_residual-in_err-behind.result c.in_err-behind.field-0.0 (block_named (seen_in c.args.sight.now d) (Some c.args.hole.at) c.args.hole.next) _ same (link_second (seen_in c.args.sight.now d) c.args.head c.args.hole c.in_ok-before.before (c.in_ok-before.ensures.told m held long)) (c.in_err-behind.ensures.told m (c.block_before.ensures.holds ∙ held) long)

pub returns-clause-told : goal.returns-clause-told
returns-clause-told g c m held long =
    link_both (seen_in c.args.sight.now (bytes_of c.args.name.now m)) c.args.head c.args.hole c.in_ok-before.before c.in_ok-behind.behind (c.in_ok-before.ensures.told m held long) (c.in_ok-behind.ensures.told m (c.block_before.ensures.holds ∙ held) long)
