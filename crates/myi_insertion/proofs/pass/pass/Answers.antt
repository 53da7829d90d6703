use Rattle.std.proofs.Common.{◌≡◌, ℕ, List, None, refl, sym, ap, subst, ◌∙◌}
use Rattle.std.specs.Prelude.{is_some, IsTrue}
use Rattle.std.proofs.lemmas.Result.{err_from_is_err_and}
use Rattle.myi_keys.specs.Comparing.{key_front}
use Rattle.myi_keylist.specs.declared.pair.Pair.{Pair}
use Rattle.myi_keylist.specs.PairOrder.{pair_with}
use Rattle.myi_btree.specs.Nodes.{node_in}
use Rattle.myi_insertion.specs.Spots.{IsOnPage, IsSpot}
use Rattle.myi_insertion.proofs.DamageLaws.{shows_told}
use Rattle.myi_insertion.proofs.LoadLaws.{same_place, lent_off, lent_none, lent_is, short_only, if_err}
use Rattle.myi_insertion.proofs.PageLaws.{pair_again}
use Rattle.myi_insertion.proofs.SplitLaws.{if_some, if_none}
use Rattle.myi_insertion.proofs.pass.pass.Goals as goal

pub returns-then-at-ne0-clause-damaged : goal.returns-then-at-ne0-clause-damaged
returns-then-at-ne0-clause-damaged g c = λ p e. (same_place c.args.at p e, λ m held can. lent_off c.args.task.now.setup.place c.args.cache.now m c.args.at c.if-at-ne0.true)

pub returns-in_err-bytes-clause-damaged : goal.returns-in_err-bytes-clause-damaged
returns-in_err-bytes-clause-damaged g c =
    let e = err_from_is_err_and c.from_residual.result c.from_residual.ensures.1 in
    if_err c.from_residual.result e.0 _ e.1
    (λ p d.
    let short = c.in_err-bytes.ensures.short p (short_only c.in_err-bytes.field-0.0 e.0 p e.2 d) in (
      short.0,
      λ m held can. lent_none c.args.task.now.setup.place c.args.cache.now m c.args.at c.if-at-ne0.false (short.1 m held can),
    ))

pub returns-clause-node : goal.returns-clause-node
returns-clause-node g c = λ m held can.
    lent_is c.args.task.now.setup.place c.args.cache.now m c.args.at c.in_ok-bytes.bytes.now (node_in c.args.task.now.setup.place.rec_ref c.in_ok-kept.kept.items) c.if-at-ne0.false (c.in_ok-bytes.ensures.page m held can) (ap (node_in c.args.task.now.setup.place.rec_ref) c.in_ok-kept.ensures)

pub returns-clause-page : goal.returns-clause-page
returns-clause-page g c =
    let rec_ref : ℕ = c.args.task.now.setup.place.rec_ref in
    subst (λ (t : List ℕ). IsOnPage rec_ref t c.in-Some.spot) (sym c.in_ok-kept.ensures) (if_some c.in_ok-found.found c.in-Some.spot (IsOnPage rec_ref c.in_ok-bytes.bytes.now) c.in-Some.is c.in_ok-found.ensures.page)

pub returns-clause-spot : goal.returns-clause-spot
returns-clause-spot g c = λ some.
    let rec_ref : ℕ = c.args.task.now.setup.place.rec_ref in
    let p : Pair = c.args.task.now.pair.now in
    let q : Pair = pair_with (key_front c.code.result.now) p.row in
    let same : q ≡ p = pair_again c.code.result.now p.row p c.code.ensures.key c.code.ensures.value refl in
    let there = if_some c.in_ok-found.found c.in-Some.spot (λ s. IsTrue (is_some (node_in rec_ref c.in_ok-bytes.bytes.now)) → IsSpot rec_ref c.in_ok-bytes.bytes.now q s) c.in-Some.is c.in_ok-found.ensures.spot in
    let spot = there (subst (λ (t : List ℕ). IsTrue (is_some (node_in rec_ref t))) c.in_ok-kept.ensures some) in
    subst (λ (x : Pair). IsSpot rec_ref c.in_ok-kept.kept.items x c.in-Some.spot) same (subst (λ (t : List ℕ). IsSpot rec_ref t q c.in-Some.spot) (sym c.in_ok-kept.ensures) spot)

pub returns-in_default-clause-damaged : goal.returns-in_default-clause-damaged
returns-in_default-clause-damaged g c = λ p e. (
  same_place c.args.at p e,
  λ m held can. lent_is c.args.task.now.setup.place c.args.cache.now m c.args.at c.in_ok-bytes.bytes.now None c.if-at-ne0.false (c.in_ok-bytes.ensures.page m held can) (sym (if_none c.in_ok-found.found (node_in c.args.task.now.setup.place.rec_ref c.in_ok-bytes.bytes.now ≡ None) c.in_default.is c.in_ok-found.ensures.none)),
)

pub returns-in_err-bytes-clause-shown : goal.returns-in_err-bytes-clause-shown
returns-in_err-bytes-clause-shown g c =
    let after = c.get.follows.holds-at-none in
    shows_told c.args.task.now.setup.place (g.F.Files.holds c.args.files.now) (g.F.Files.holds c.get.new.files) c.args.cache.now c.get.follows.lender-at-none c.args.at c.get.ensures.clean after.told after.unwritten after.name

pub returns-in_err-found-clause-shown : goal.returns-in_err-found-clause-shown
returns-in_err-found-clause-shown g c =
    let after = c.get.follows.holds-at-none in
    shows_told c.args.task.now.setup.place (g.F.Files.holds c.args.files.now) (g.F.Files.holds c.get.new.files) c.args.cache.now c.get.follows.lender-at-none c.args.at c.get.ensures.clean after.told after.unwritten after.name

pub returns-in_default-clause-shown : goal.returns-in_default-clause-shown
returns-in_default-clause-shown g c =
    let after = c.get.follows.holds-at-none in
    shows_told c.args.task.now.setup.place (g.F.Files.holds c.args.files.now) (g.F.Files.holds c.get.new.files) c.args.cache.now c.get.follows.lender-at-none c.args.at c.get.ensures.clean after.told after.unwritten after.name

pub returns-in_err-kept-clause-shown : goal.returns-in_err-kept-clause-shown
returns-in_err-kept-clause-shown g c =
    let after = c.get.follows.holds-at-none in
    shows_told c.args.task.now.setup.place (g.F.Files.holds c.args.files.now) (g.F.Files.holds c.get.new.files) c.args.cache.now c.get.follows.lender-at-none c.args.at c.get.ensures.clean after.told after.unwritten after.name

pub returns-clause-shown : goal.returns-clause-shown
returns-clause-shown g c =
    let after = c.get.follows.holds-at-none in
    shows_told c.args.task.now.setup.place (g.F.Files.holds c.args.files.now) (g.F.Files.holds c.get.new.files) c.args.cache.now c.get.follows.lender-at-none c.args.at c.get.ensures.clean after.told after.unwritten after.name
