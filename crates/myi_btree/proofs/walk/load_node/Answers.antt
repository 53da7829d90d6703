use Rattle.std.proofs.Common.{Some, None, refl, sym, ap, ◌∙◌}
use Rattle.std.specs.Prelude.{option_map}
use Rattle.std.proofs.lemmas.Result.{err_from_is_err_and}
use Rattle.myi_base.proofs.CallerLemmas.{told_same}
use Rattle.myi_keycache.proofs.CallerLemmas.{stays_start}
use Rattle.myi_btree.specs.Nodes.{node_view}
use Rattle.myi_btree.proofs.WalkLaws.{same_place, lent_off, lent_none, lent_is, short_only, if_err}
use Rattle.myi_btree.proofs.ServeLaws.{can_ask, shown_now}
use Rattle.myi_btree.proofs.walk.load_node.Goals as goal

pub returns-then-at-ne0-clause-damaged : goal.returns-then-at-ne0-clause-damaged
returns-then-at-ne0-clause-damaged g c = λ p e. (same_place c.args.at p e, λ v k. lent_off c.args.setup.place v.first v.start c.args.at c.if-at-ne0.true)

pub returns-then-at-ne0-clause-stays : goal.returns-then-at-ne0-clause-stays
returns-then-at-ne0-clause-stays g c = told_same _ _ _ refl (λ m held can. stays_start c.args.cache.now m can.current)

pub returns-in_err-bytes-clause-damaged : goal.returns-in_err-bytes-clause-damaged
returns-in_err-bytes-clause-damaged g c =
    let e = err_from_is_err_and c.from_residual.result c.from_residual.ensures.1 in
    if_err c.from_residual.result e.0 _ e.1
    (λ p d.
    let short = c.in_err-bytes.ensures.short p (short_only c.in_err-bytes.field-0.0 e.0 p e.2 d) in (
      short.0,
      λ v k.
          sym (shown_now c.args.setup.place v (g.F.Files.holds c.args.files.now) c.args.cache.now c.args.at k)
          ∙ lent_none c.args.setup.place c.args.cache.now k.serves.now c.args.at c.if-at-ne0.false (short.1 k.serves.now k.serves.held (can_ask c.args.setup.place v (g.F.Files.holds c.args.files.now) c.args.cache.now c.args.at k)),
    ))

pub returns-in-Some-clause-node : goal.returns-in-Some-clause-node
returns-in-Some-clause-node g c = λ v k.
    sym (shown_now c.args.setup.place v (g.F.Files.holds c.args.files.now) c.args.cache.now c.args.at k)
    ∙ lent_is c.args.setup.place c.args.cache.now k.serves.now c.args.at c.in_ok-bytes.bytes.now (Some (node_view c.in-Some.node)) c.if-at-ne0.false (c.in_ok-bytes.ensures.page k.serves.now k.serves.held (can_ask c.args.setup.place v (g.F.Files.holds c.args.files.now) c.args.cache.now c.args.at k))
    (sym (ap (option_map node_view) c.in-Some.is) ∙ c.in_ok-node.ensures)

pub returns-in-None-clause-damaged : goal.returns-in-None-clause-damaged
returns-in-None-clause-damaged g c = λ p e. (
  same_place c.args.at p e,
  λ v k.
      sym (shown_now c.args.setup.place v (g.F.Files.holds c.args.files.now) c.args.cache.now c.args.at k)
      ∙ lent_is c.args.setup.place c.args.cache.now k.serves.now c.args.at c.in_ok-bytes.bytes.now None c.if-at-ne0.false (c.in_ok-bytes.ensures.page k.serves.now k.serves.held (can_ask c.args.setup.place v (g.F.Files.holds c.args.files.now) c.args.cache.now c.args.at k))
      (sym (ap (option_map node_view) c.in-None.is) ∙ c.in_ok-node.ensures),
)
