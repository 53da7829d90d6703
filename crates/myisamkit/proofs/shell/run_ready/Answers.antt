use Rattle.std.proofs.Common.{Err, ap, subst, ◌∙◌}
use Rattle.myi_shell.specs.Running.{IsStopped}
use Rattle.myisamkit.specs.declared.status.Status.TheVariants as status
use Rattle.myisamkit.specs.Shells.{ShellLeaves}
use Rattle.myisamkit.proofs.ShellLaws.{kept}
use Rattle.myisamkit.proofs.ShellCloseLaws.{run_said, run_part, run_done, run_fails, ran_off, own_told, none_told}
use Rattle.myisamkit.proofs.shell.run_ready.Goals as goal

pub run_script-requires-clause-kept : goal.run_script-requires-clause-kept
run_script-requires-clause-kept g c κs live = kept c.clean_pairs_stand_for_tables.ensures.stands c.args.job.now.name.now c.args.job.now.script.now c.requires.runnable.list c.args.target c.args.script.lines _ (λ m held. g.met.F.Files.told_bytes c.args.files.now m held) c.requires.runnable.fresh c.requires.ready

pub returns-in-Ok-clause-said : goal.returns-in-Ok-clause-said
returns-in-Ok-clause-said g c = run_said c.clean_pairs_stand_for_tables.ensures.stands c.args.job.now.options.concurrent c.args.job.now.name.now c.args.job.now.script.now c.requires.runnable.list c.args.target c.args.script.lines _ _ _ (λ m held. g.met.F.Files.told_bytes c.args.files.now m held) c.requires.runnable.fresh c.requires.ready c.in-Ok.ensures.text

pub returns-in-Ok-clause-done : goal.returns-in-Ok-clause-done
returns-in-Ok-clause-done g c = run_done c.clean_pairs_stand_for_tables.ensures.stands c.clean_pairs_stand_for_tables.ensures.clean c.args.job.now.options.concurrent c.args.job.now.name.now c.args.job.now.script.now c.requires.runnable.list c.args.target c.args.script.lines _ _ (λ m held. g.met.F.Files.told_bytes c.args.files.now m held) c.requires.runnable.fresh c.requires.ready c.in-Ok.ensures.table c.run_script.ensures.others

pub returns-in-Err-File-clause-part : goal.returns-in-Err-File-clause-part
returns-in-Err-File-clause-part g c = run_part c.clean_pairs_stand_for_tables.ensures.stands c.args.job.now.options.concurrent c.args.job.now.name.now c.args.job.now.script.now c.requires.runnable.list c.args.target c.args.script.lines _ _ _ (λ m held. g.met.F.Files.told_bytes c.args.files.now m held) c.requires.runnable.fresh c.requires.ready c.in-Err-File.ensures.part

pub returns-in-Err-Sink-clause-part : goal.returns-in-Err-Sink-clause-part
returns-in-Err-Sink-clause-part g c = run_part c.clean_pairs_stand_for_tables.ensures.stands c.args.job.now.options.concurrent c.args.job.now.name.now c.args.job.now.script.now c.requires.runnable.list c.args.target c.args.script.lines _ _ _ (λ m held. g.met.F.Files.told_bytes c.args.files.now m held) c.requires.runnable.fresh c.requires.ready c.in-Err-Sink.ensures.part

pub returns-in-Err-Sink-clause-stops : goal.returns-in-Err-Sink-clause-stops
returns-in-Err-Sink-clause-stops g c = own_told c.args.job.now.name.now c.args.target (g.F.Files.holds c.args.files.now) (g.F.Files.holds c.run_script.new.files) (λ m held. (c.requires.ready m held).loaded) c.run_script.ensures.others

pub returns-in-Err-Sink-clause-fails : goal.returns-in-Err-Sink-clause-fails
returns-in-Err-Sink-clause-fails g c is = run_fails c.clean_pairs_stand_for_tables.ensures.stands c.clean_pairs_stand_for_tables.ensures.clean c.args.job.now.options.concurrent c.args.job.now.name.now c.args.job.now.script.now c.requires.runnable.list c.args.target c.args.script.lines _ _ _ _ (λ m held. g.met.F.Files.told_bytes c.args.files.now m held) c.requires.runnable.fresh c.requires.ready (c.run_script.ensures.closed (c.in-Err-Sink.is ∙ ap Err c.in-Err-Sink.field-0-is))

pub returns-clause-part : goal.returns-clause-part
returns-clause-part g c = run_part c.clean_pairs_stand_for_tables.ensures.stands c.args.job.now.options.concurrent c.args.job.now.name.now c.args.job.now.script.now c.requires.runnable.list c.args.target c.args.script.lines _ _ _ (λ m held. g.met.F.Files.told_bytes c.args.files.now m held) c.requires.runnable.fresh c.requires.ready c.in-Err-Memory.ensures.part

pub returns-in-Err-Damaged-clause-said : goal.returns-in-Err-Damaged-clause-said
returns-in-Err-Damaged-clause-said g c m held = absurd (subst (IsStopped (g.F.Files.holds c.args.files.now)) c.in-Err-Damaged.field-0-is c.in-Err-Damaged.ensures.refused m held)

pub returns-in-Err-Damaged-clause-done : goal.returns-in-Err-Damaged-clause-done
returns-in-Err-Damaged-clause-done g c = none_told (g.F.Files.holds c.args.files.now) (g.F.Files.holds c.run_script.new.files) (ShellLeaves c.args.job.now.options.concurrent c.args.job.now.name.now c.args.job.now.script.now status.Refused) (subst (IsStopped (g.F.Files.holds c.args.files.now)) c.in-Err-Damaged.field-0-is c.in-Err-Damaged.ensures.refused) (own_told c.args.job.now.name.now c.args.target (g.F.Files.holds c.args.files.now) (g.F.Files.holds c.run_script.new.files) (λ m held. (c.requires.ready m held).loaded) c.run_script.ensures.others).untold

pub returns-in-Err-File-clause-stops : goal.returns-in-Err-File-clause-stops
returns-in-Err-File-clause-stops g c = ran_off c.clean_pairs_stand_for_tables.ensures.stands c.args.job.now.options.concurrent c.args.job.now.name.now c.args.job.now.script.now c.requires.runnable.list c.args.target c.args.script.lines _ _ (λ m held. g.met.F.Files.told_bytes c.args.files.now m held) c.requires.runnable.fresh c.requires.ready c.run_script.ensures.others c.run_script.ensures.idle

pub returns-clause-stops : goal.returns-clause-stops
returns-clause-stops g c = ran_off c.clean_pairs_stand_for_tables.ensures.stands c.args.job.now.options.concurrent c.args.job.now.name.now c.args.job.now.script.now c.requires.runnable.list c.args.target c.args.script.lines _ _ (λ m held. g.met.F.Files.told_bytes c.args.files.now m held) c.requires.runnable.fresh c.requires.ready c.run_script.ensures.others c.run_script.ensures.idle
