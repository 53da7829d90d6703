use Rattle.std.proofs.Common.{◌≡◌, ◌⊎◌, ◌∙◌, None, ap, sym, subst}
use Rattle.std.specs.Prelude.{IfErr}
use Rattle.std.proofs.lemmas.Result.{err_from_is_err_and}
use Rattle.myi_defs.specs.declared.types.Defs.{Defs}
use Rattle.myi_defs.specs.ReadDefs.{AreDefs}
use Rattle.myi_make.specs.Faults.{CutsOff}
use Rattle.myi_make.proofs.TextLaws.{defs_are}
use Rattle.myi_make.proofs.FillLaws.{same_defs, empty_told, load_refused, never_unlike}
use Rattle.myi_make.proofs.filling.empty_table.Goals as goal

pub create-requires-clause-defs : goal.create-requires-clause-defs
create-requires-clause-defs g c κs lives = subst AreDefs (sym c.requires.defs) defs_are

pub returns-in_err-table-clause-refused : goal.returns-in_err-table-clause-refused
returns-in_err-table-clause-refused g c =
    let e = err_from_is_err_and c.from_residual-in_err-table.result c.from_residual-in_err-table.ensures.1 in
    subst (λ r. IfErr r (λ f. CutsOff f ⊎ (g.F.Files.holds c.args.files.now ≡ None))) (sym e.1)
    (subst (λ f. CutsOff f ⊎ (g.F.Files.holds c.args.files.now ≡ None)) (sym e.2) (load_refused c.args.name.now c.args.defs.now _ _ _ c.requires.defs c.in_ok-create.ensures.made c.in_err-table.ensures.refused))

pub returns-then-not-have_one_header-clause-refused : goal.returns-then-not-have_one_header-clause-refused
returns-then-not-have_one_header-clause-refused g c =
    never_unlike c.args.name.now c.args.defs.now c.in_ok-table.table _ _ _ c.requires.defs c.in_ok-create.ensures.made c.in_ok-table.ensures.loaded
    (λ same. c.have_one_header.ensures.other c.if-not-have_one_header.true (ap (λ (d : Defs). d.raw) c.defs.ensures.defs ∙ same))

pub returns-clause-defs : goal.returns-clause-defs
returns-clause-defs g c =
    sym c.defs.ensures.defs ∙ same_defs c.defs.result.now c.defs.ensures.itself (c.have_one_header.ensures.same c.if-not-have_one_header.false ∙ ap (λ (d : Defs). d.raw) c.requires.defs)

pub returns-clause-made : goal.returns-clause-made
returns-clause-made g c = empty_told c.args.name.now c.args.defs.now c.in_ok-table.table _ _ _ c.requires.defs c.in_ok-table.ensures.name c.load.ensures.holds c.in_ok-create.ensures.made c.in_ok-table.ensures.loaded
