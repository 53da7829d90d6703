use Rattle.std.proofs.Common.{◌⊎◌, ◌∙◌, sym, subst, inr}
use Rattle.std.specs.Prelude.{IfErr}
use Rattle.std.proofs.lemmas.Result.{err_from_is_err_and}
use Rattle.myi_base.specs.Holding.{IfTold}
use Rattle.myi_repair.specs.Names.{names_of}
use Rattle.myi_repair.specs.Opening.{CutsOff, Refuses}
use Rattle.myi_repair.proofs.OpenLaws.{opened_reached, opened_past, not_opened}
use Rattle.myi_repair.proofs.opening.open_reached.Goals as goal

pub returns-clause-table : goal.returns-clause-table
returns-clause-table g c m told =
    opened_reached (names_of c.args.table.now) _ _ c.as_str.ensures.value c.as_str-2.ensures.value _ _ m (sym c.addressable.ensures ∙ c.if-not-addressable.false) (c.in_ok-opened.ensures.table m told)

pub returns-then-not-addressable-clause-refused : goal.returns-then-not-addressable-clause-refused
returns-then-not-addressable-clause-refused g c = inr (λ m told.
    opened_past (names_of c.args.table.now) _ _ c.as_str.ensures.value c.as_str-2.ensures.value _ _ m (sym c.addressable.ensures ∙ c.if-not-addressable.true) (c.in_ok-opened.ensures.table m told))

pub returns-in_err-opened-clause-refused : goal.returns-in_err-opened-clause-refused
returns-in_err-opened-clause-refused g c =
    let e = err_from_is_err_and c.from_residual.result c.from_residual.ensures.1 in
    subst (λ r. IfErr r (λ f. CutsOff f ⊎ IfTold (g.F.Files.holds c.args.files.now) (Refuses (names_of c.args.table.now) f))) (sym e.1)
    (not_opened (names_of c.args.table.now) _ _ c.as_str.ensures.value c.as_str-2.ensures.value _ _ e.0 e.2 c.in_err-opened.ensures.refused)
