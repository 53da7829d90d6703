use Rattle.std.proofs.Common.{◌≡◌, ◌⊎◌, ◌∙◌, None, sym, subst}
use Rattle.std.specs.Prelude.{IfErr}
use Rattle.std.proofs.lemmas.Result.{err_from_is_err_and}
use Rattle.myi_make.specs.Faults.{CutsOff}
use Rattle.myi_make.proofs.FillLaws.{filled_told, close_refused, keeps_then}
use Rattle.myi_make.proofs.filling.fill_table.Goals as goal

pub returns-in_err-close-clause-refused : goal.returns-in_err-close-clause-refused
returns-in_err-close-clause-refused g c =
    let e = err_from_is_err_and c.from_residual-in_err-close.result c.from_residual-in_err-close.ensures.1 in
    subst (λ r. IfErr r (λ f. CutsOff f ⊎ (g.F.Files.holds c.args.files.now ≡ None))) (sym e.1)
    (subst (λ f. CutsOff f ⊎ (g.F.Files.holds c.args.files.now ≡ None)) (sym e.2)
    (close_refused c.args.count c.args.seed c.in_ok-blocks.blocks.items c.in_ok-table.table c.insert_rows.new.table _ _ _ _ c.in_ok-table.ensures.made c.in_ok-blocks.ensures.put (λ m told s hold. c.in_err-close.ensures.refused hold.whole)))

pub returns-clause-filled : goal.returns-clause-filled
returns-clause-filled g c =
    let others = keeps_then c.args.name.now c.insert_rows.new.table _ _ _ (c.in_ok-blocks.ensures.same.name ∙ c.in_ok-table.ensures.name) (keeps_then c.args.name.now c.in_ok-table.table _ _ _ c.in_ok-table.ensures.name c.empty_table.ensures.others c.insert_rows.ensures.others) c.close.ensures.others in
    filled_told c.args.name.now c.args.count c.args.seed c.in_ok-blocks.blocks.items c.in_ok-table.table c.insert_rows.new.table _ _ _ _ c.in_ok-table.ensures.name c.in_ok-table.ensures.defs c.in_ok-blocks.ensures.same c.in_ok-table.ensures.made c.in_ok-blocks.ensures.put others c.in_ok-close.ensures.rows c.in_ok-close.ensures.closed
