use Rattle.std.proofs.Common.{◌+◌, subst}
use Rattle.std.proofs.lemmas.Result.{IfErr-weaker}
use Rattle.myi_repair.specs.Faults as repair
use Rattle.myisamkit.proofs.TurnLaws.{repair_done, repair_cut, refused_done}
use Rattle.myisamkit.proofs.recover.repair.Goals as goal

pub returns-in_ok-line-in-Ok-clause-done : goal.returns-in_ok-line-in-Ok-clause-done
returns-in_ok-line-in-Ok-clause-done g c = repair_done _ _ _ _ _ _ c.in-Ok.ensures.repaired c.in-Ok.ensures.ends.others

pub returns-in-Err-clause-done : goal.returns-in-Err-clause-done
returns-in-Err-clause-done g c = refused_done c.not_worked_on.result _ _ _ _ _ _ c.in-Err.ensures.ends.reason c.not_worked_on.ensures.refusal

pub returns-in-Err-clause-off : goal.returns-in-Err-clause-off
returns-in-Err-clause-off g c =
    IfErr-weaker c.not_worked_on.result _ _ (λ s told. repair_cut _ _ _ _ _ _ _ _ c.in-Err.ensures.files c.in-Err.ensures.ends.others (λ more rose. c.in-Err.ensures.ends.cleared more (subst (λ n. repair.RoseAtMost (n + more) (g.F.Files.faults c.args.files.now) (g.F.Files.faults c.recover_as_asked.new.files)) told rose))) c.not_worked_on.ensures.told
