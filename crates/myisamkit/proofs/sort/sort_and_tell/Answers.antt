use Rattle.std.proofs.Common.{◌+◌, subst}
use Rattle.std.proofs.lemmas.Result.{IfErr-weaker}
use Rattle.myi_repair.specs.Faults as repair
use Rattle.myisamkit.proofs.TurnLaws.{sort_done, sort_cut}
use Rattle.myisamkit.proofs.sort.sort_and_tell.Goals as goal

pub returns-in_ok-line-in-Ok-clause-done : goal.returns-in_ok-line-in-Ok-clause-done
returns-in_ok-line-in-Ok-clause-done g c = sort_done _ _ _ _ _ _ _ c.in-Ok.ensures.ordered c.in-Ok.ensures.ends.others

pub returns-in-Err-clause-off : goal.returns-in-Err-clause-off
returns-in-Err-clause-off g c =
    IfErr-weaker c.not_ordered.result _ _ (λ s told. sort_cut _ _ _ _ _ _ _ _ c.in-Err.ensures.files c.in-Err.ensures.ends.others (λ more rose. c.in-Err.ensures.ends.cleared more (subst (λ n. repair.RoseAtMost (n + more) (g.F.Files.faults c.args.files.now) (g.F.Files.faults c.sort_records.new.files)) told rose))) c.not_ordered.ensures.told
