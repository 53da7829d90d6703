use Rattle.std.proofs.Common.{◌⊎◌, sym, subst}
use Rattle.std.specs.Prelude.{IfErr}
use Rattle.std.proofs.lemmas.Result.{err_from_is_err_and}
use Rattle.myi_make.specs.Faults.{CutsOff}
use Rattle.myi_make.specs.Filling.{RefusesRow}
use Rattle.myi_make.proofs.FillLaws.{row_reply}
use Rattle.myi_make.proofs.filling.insert_row.Goals as goal

pub returns-in_err-insert-clause-refused : goal.returns-in_err-insert-clause-refused
returns-in_err-insert-clause-refused g c =
    let told = g.F.Files.holds c.args.files.now in
    let e = err_from_is_err_and c.from_residual.result c.from_residual.ensures.1 in
    subst (λ r. IfErr r (λ f. CutsOff f ⊎ RefusesRow c.args.row.now told c.args.table.now)) (sym e.1)
    (subst (λ f. CutsOff f ⊎ RefusesRow c.args.row.now told c.args.table.now) (sym e.2) (row_reply c.args.row.now told c.args.table.now _ c.in_err-insert.ensures.refused))
