use Rattle.std.proofs.Common.{Some, None, sym, ap, ◌∙◌}
use Rattle.std.specs.Prelude.{option_map}
use Rattle.std.proofs.lemmas.Result.{err_from_is_err_and}
use Rattle.myi_insertion.specs.Written.{page_node}
use Rattle.myi_insertion.proofs.DamageLaws.{shows_told}
use Rattle.myi_insertion.proofs.LoadLaws.{same_place, lent_off, lent_none, lent_is, short_only, if_err}
use Rattle.myi_insertion.proofs.load.load.Goals as goal

pub returns-then-at-ne0-clause-damaged : goal.returns-then-at-ne0-clause-damaged
returns-then-at-ne0-clause-damaged g c = λ p e. (same_place c.args.at p e, λ m held can. lent_off c.args.setup.place c.args.cache.now m c.args.at c.if-at-ne0.true)

pub returns-in_err-bytes-clause-damaged : goal.returns-in_err-bytes-clause-damaged
returns-in_err-bytes-clause-damaged g c =
    let e = err_from_is_err_and c.from_residual.result c.from_residual.ensures.1 in
    if_err c.from_residual.result e.0 _ e.1
    (λ p d.
    let short = c.in_err-bytes.ensures.short p (short_only c.in_err-bytes.field-0.0 e.0 p e.2 d) in (
      short.0,
      λ m held can. lent_none c.args.setup.place c.args.cache.now m c.args.at c.if-at-ne0.false (short.1 m held can),
    ))

pub returns-in-Some-clause-node : goal.returns-in-Some-clause-node
returns-in-Some-clause-node g c = λ m held can.
    lent_is c.args.setup.place c.args.cache.now m c.args.at c.in_ok-bytes.bytes.now (Some (page_node c.in-Some.page)) c.if-at-ne0.false (c.in_ok-bytes.ensures.page m held can) (sym (ap (option_map page_node) c.in-Some.is) ∙ c.in_ok-page.ensures.node)

pub returns-in-None-clause-damaged : goal.returns-in-None-clause-damaged
returns-in-None-clause-damaged g c = λ p e. (
  same_place c.args.at p e,
  λ m held can. lent_is c.args.setup.place c.args.cache.now m c.args.at c.in_ok-bytes.bytes.now None c.if-at-ne0.false (c.in_ok-bytes.ensures.page m held can) (sym (ap (option_map page_node) c.in-None.is) ∙ c.in_ok-page.ensures.node),
)

pub returns-in_err-bytes-clause-shown : goal.returns-in_err-bytes-clause-shown
returns-in_err-bytes-clause-shown g c =
    let after = c.get.follows.holds-at-none in
    shows_told c.args.setup.place (g.F.Files.holds c.args.files.now) (g.F.Files.holds c.get.new.files) c.args.cache.now c.get.follows.lender-at-none c.args.at c.get.ensures.clean after.told after.unwritten after.name

pub returns-in_err-page-clause-shown : goal.returns-in_err-page-clause-shown
returns-in_err-page-clause-shown g c =
    let after = c.get.follows.holds-at-none in
    shows_told c.args.setup.place (g.F.Files.holds c.args.files.now) (g.F.Files.holds c.get.new.files) c.args.cache.now c.get.follows.lender-at-none c.args.at c.get.ensures.clean after.told after.unwritten after.name

pub returns-in-Some-clause-shown : goal.returns-in-Some-clause-shown
returns-in-Some-clause-shown g c =
    let after = c.get.follows.holds-at-none in
    shows_told c.args.setup.place (g.F.Files.holds c.args.files.now) (g.F.Files.holds c.get.new.files) c.args.cache.now c.get.follows.lender-at-none c.args.at c.get.ensures.clean after.told after.unwritten after.name

pub returns-in-None-clause-shown : goal.returns-in-None-clause-shown
returns-in-None-clause-shown g c =
    let after = c.get.follows.holds-at-none in
    shows_told c.args.setup.place (g.F.Files.holds c.args.files.now) (g.F.Files.holds c.get.new.files) c.args.cache.now c.get.follows.lender-at-none c.args.at c.get.ensures.clean after.told after.unwritten after.name
