use Rattle.std.proofs.Common.{◌⊎◌, ◌∙◌, sym, subst, inr}
use Rattle.std.specs.Prelude.{IfErr}
use Rattle.std.proofs.lemmas.Result.{err_from_is_err_and}
use Rattle.myi_check.specs.Checking.{Finds}
use Rattle.myi_sortindex.specs.Refusals.{CutsOff, IsRefused}
use Rattle.myi_sortindex.proofs.CallLaws.{not_checked, damaged, begins}
use Rattle.myi_sortindex.proofs.sorting.sort_index.Goals as goal

pub returns-in_err-found-clause-refused : goal.returns-in_err-found-clause-refused
returns-in_err-found-clause-refused g c =
    let old = g.F.Files.holds c.args.files.now in
    let new = g.F.Files.holds c.check.new.files in
    let e = err_from_is_err_and c.from_residual.result c.from_residual.ensures.1 in
    subst (λ r. IfErr r (λ f. CutsOff f ⊎ IsRefused c.args.name.now f old new)) (sym e.1) (not_checked c.args.name.now old new _ e.0 e.2 c.check.ensures.holds c.in_err-found.ensures.refused)

pub returns-in-Some-clause-refused : goal.returns-in-Some-clause-refused
returns-in-Some-clause-refused g c =
    let name = c.args.name.now in
    let first = begins c.deref.result.now c.in-Some.finding.now c.in-Some.ensures.value in
    inr (record {
      reason = λ m told. damaged name c.in-Some.finding.now first.0 m (subst (λ xs. Finds name xs m) (sym c.deref.ensures.value ∙ first.1) (c.in_ok-found.ensures.findings m told));
      same = c.check.ensures.holds;
    })
