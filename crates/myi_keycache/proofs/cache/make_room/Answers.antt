use Rattle.std.proofs.Common.{◌≡◌, Option, Err, refl, sym, ap, ◌∙◌, arith}
use Rattle.std.proofs.lemmas.Result.{err_from_is_err_and}
use Rattle.std.specs.Prelude.{is_some}
use Rattle.std.proofs.lemmas.Bool.{leb-true}
use Rattle.myi_keycache.proofs.OrderLemmas.{split}
use Rattle.myi_keycache.proofs.LoadLemmas.{first_written}
use Rattle.myi_keycache.specs.declared.setup.CacheFault.{CacheFault}
use Rattle.myi_keycache.specs.Kept.{Page}
use Rattle.myi_keycache.specs.Order.{counts_one}
use Rattle.myi_keycache.proofs.FlagLemmas.{wrote_none, wrote_first}
use Rattle.myi_keycache.proofs.OneLemmas.{due_full, due_free, count_none, one_none, one_full}
use Rattle.myi_keycache.proofs.cache.make_room.Goals as goal

pub returns-in_ok-write_page-clause-ok : goal.returns-in_ok-write_page-clause-ok
returns-in_ok-write_page-clause-ok g c full =
    let le = leb-true _ _ (sym c.is_full.ensures.full ∙ c.if-is_full.true) in
    let some = c.is_full.ensures.ordered.setup.some_block in
    let s = split c.args.blocks.now.pages 0 (omega (arith, le, some)) in
    first_written c.args.blocks.now c.write_page.new.blocks s (c.in_ok-write_page.ensures.ok 0 c.first-first.ensures s)

pub returns-in_ok-write_page-clause-one : goal.returns-in_ok-write_page-clause-one
returns-in_ok-write_page-clause-one g c = one_full _ _ c.args.name.now c.args.blocks.now _ (sym c.is_full.ensures.full ∙ c.if-is_full.true) (c.in_ok-write_page.ensures.one 0 c.first-first.ensures)

pub returns-in_ok-write_page-clause-quiet : goal.returns-in_ok-write_page-clause-quiet
returns-in_ok-write_page-clause-quiet g c none = c.in_ok-write_page.ensures.quiet 0 c.first-first.ensures (sym (due_full c.args.blocks.now (sym c.is_full.ensures.full ∙ c.if-is_full.true)) ∙ none)

pub returns-in_ok-write_page-clause-counted : goal.returns-in_ok-write_page-clause-counted
returns-in_ok-write_page-clause-counted g c =
    c.in_ok-write_page.ensures.counted 0 c.first-first.ensures ∙ ap (λ (p : Option Page). counts_one p c.args.counters.now) (sym (due_full c.args.blocks.now (sym c.is_full.ensures.full ∙ c.if-is_full.true)))

pub returns-in_err-write_page-clause-one : goal.returns-in_err-write_page-clause-one
returns-in_err-write_page-clause-one g c =
    let fault : CacheFault = c.in_err-write_page.field-0.0 in
    let e = err_from_is_err_and c.from_residual.result c.from_residual.ensures.1 in
    let same : c.from_residual.result ≡ Err fault = e.1 ∙ ap Err e.2 in
    rw same (one_full _ _ c.args.name.now c.args.blocks.now _ (sym c.is_full.ensures.full ∙ c.if-is_full.true) (c.in_err-write_page.ensures.one 0 c.first-first.ensures))

pub returns-in_err-write_page-clause-quiet : goal.returns-in_err-write_page-clause-quiet
returns-in_err-write_page-clause-quiet g c none = c.in_err-write_page.ensures.quiet 0 c.first-first.ensures (sym (due_full c.args.blocks.now (sym c.is_full.ensures.full ∙ c.if-is_full.true)) ∙ none)

pub returns-else-is_full-clause-one : goal.returns-else-is_full-clause-one
returns-else-is_full-clause-one g c = one_none _ _ c.args.name.now _ _ (due_free c.args.blocks.now (sym c.is_full.ensures.full ∙ c.if-is_full.false)) refl

pub returns-else-is_full-clause-counted : goal.returns-else-is_full-clause-counted
returns-else-is_full-clause-counted g c = count_none c.args.counters.now _ c.requires.writes (due_free c.args.blocks.now (sym c.is_full.ensures.full ∙ c.if-is_full.false))

pub returns-in_ok-write_page-clause-wrote : goal.returns-in_ok-write_page-clause-wrote
returns-in_ok-write_page-clause-wrote g c =
    let le = leb-true _ _ (sym c.is_full.ensures.full ∙ c.if-is_full.true) in
    let some = c.is_full.ensures.ordered.setup.some_block in
    let s = split c.args.blocks.now.pages 0 (omega (arith, le, some)) in
    wrote_first c.args.blocks.now c.write_page.new.blocks s (sym c.is_full.ensures.full ∙ c.if-is_full.true) c.is_full.ensures.ordered.differ (c.in_ok-write_page.ensures.ok 0 c.first-first.ensures s)

pub returns-else-is_full-clause-wrote : goal.returns-else-is_full-clause-wrote
returns-else-is_full-clause-wrote g c = wrote_none _ _ (due_free c.args.blocks.now (sym c.is_full.ensures.full ∙ c.if-is_full.false))

pub first-first-requires : goal.first-first-requires
first-first-requires g c =
    let le = leb-true _ _ (sym c.is_full.ensures.full ∙ c.if-is_full.true) in
    let some = c.is_full.ensures.ordered.setup.some_block in
    omega (arith, le, some)

pub write_page-requires-clause-kept : goal.write_page-requires-clause-kept
write_page-requires-clause-kept g c κs within = ap is_some c.first-first.ensures
