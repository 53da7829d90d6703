use Rattle.std.proofs.Common.{sym, ap, subst}
use Rattle.std.specs.Prelude.{IfErr}
use Rattle.std.proofs.lemmas.Result.{IfErr-weaker, err_from_is_err_and}
use Rattle.myi_base.specs.Holding.{Told}
use Rattle.myi_repair.specs.Faults as repair
use Rattle.myisamkit.specs.Stops.{status_of_stop}
use Rattle.myisamkit.specs.Statuses.{faults_told}
use Rattle.myisamkit.specs.Turns.{SortIndexCutOff}
use Rattle.myisamkit.proofs.SortIndexLaws.{sort_index_done, sorts_none, sorted_behind}
use Rattle.myisamkit.proofs.sort_index.sort_and_tell.Goals as goal

pub returns-in_ok-line-in-Ok-clause-done : goal.returns-in_ok-line-in-Ok-clause-done
returns-in_ok-line-in-Ok-clause-done g c = sort_index_done _ _ _ _ _ c.in-Ok.ensures.sorted c.in-Ok.ensures.others

pub returns-in-Err-clause-off : goal.returns-in-Err-clause-off
returns-in-Err-clause-off g c =
    IfErr-weaker c.not_sorted.result _ _ (λ s told. sorts_none _ _ _ _ _ _ _ c.in-Err.ensures.kept c.in-Err.ensures.others (λ rose. c.in-Err.ensures.cleared (subst (λ n. repair.RoseAtMost n (g.F.Files.faults c.args.files.now) (g.F.Files.faults c.sort_index.new.files)) told rose))) c.not_sorted.ensures.told

pub returns-in_err-line-in-Ok-clause-off : goal.returns-in_err-line-in-Ok-clause-off
returns-in_err-line-in-Ok-clause-off g c =
    let e = err_from_is_err_and c.from_residual.result c.from_residual.ensures.1 in
    let old = g.F.Files.holds c.args.files.now in
    let new = g.F.Files.holds c.sort_index.new.files in
    let before = g.F.Files.faults c.args.files.now in
    let after = g.F.Files.faults c.sort_index.new.files in
    subst (λ r. IfErr r (λ stop. Told old new (SortIndexCutOff c.args.options.now (faults_told (status_of_stop stop)) before after c.args.name.now))) (sym e.1)
    (sorted_behind _ _ _ _ _ _ _ (ap (λ stop. faults_told (status_of_stop stop)) e.2) (sort_index_done _ _ _ _ _ c.in-Ok.ensures.sorted c.in-Ok.ensures.others))
