use Rattle.std.proofs.Common.{sym, subst, string_bytes, ◌∙◌}
use Rattle.myi_base.specs.Holding.{IfTold}
use Rattle.myi_base.specs.Output.{Appends, AppendsPart}
use Rattle.myisamkit.specs.ShellSteps.{IsFound}
use Rattle.myisamkit.proofs.SinkLaws.{on_err}
use Rattle.myisamkit.proofs.ShellRunLaws.{refused_said, refused_part, refused_fails}
use Rattle.myisamkit.proofs.shell.run_shell.Goals as goal

pub returns-in_err-say-in-Refused-clause-part : goal.returns-in_err-say-in-Refused-clause-part
returns-in_err-say-in-Refused-clause-part g c = on_err c.from_residual-in_err-say-in-Refused.result _ (refused_part c.args.job.now.options.concurrent c.args.job.now.name.now c.args.job.now.script.now (string_bytes c.in-Refused.line) c.in-Refused.status (g.F.Files.holds c.args.files.now) (g.O.Sink.written c.args.out.now) (g.O.Sink.written c.say.new.out) (subst (λ f. IfTold (g.F.Files.holds c.args.files.now) (IsFound c.args.job.now.name.now c.args.job.now.script.now f)) c.in-Refused.is c.in_ok-status.ensures.found) (subst (λ l. IfTold (g.O.Sink.written c.args.out.now) (AppendsPart l (g.O.Sink.written c.say.new.out))) c.as_str.ensures.value c.in_err-say-in-Refused.ensures.err))

pub returns-in_err-say-in-Refused-clause-fails : goal.returns-in_err-say-in-Refused-clause-fails
returns-in_err-say-in-Refused-clause-fails g c is = refused_fails c.args.job.now.options.concurrent c.args.job.now.name.now c.args.job.now.script.now (string_bytes c.in-Refused.line) c.in-Refused.status (g.F.Files.holds c.args.files.now) (g.F.Files.holds c.prepare.new.files) (g.O.Sink.written c.args.out.now) (g.O.Sink.written c.say.new.out) c.prepare.ensures.holds (subst (λ f. IfTold (g.F.Files.holds c.args.files.now) (IsFound c.args.job.now.name.now c.args.job.now.script.now f)) c.in-Refused.is c.in_ok-status.ensures.found)

pub run_ready-requires-clause-ready : goal.run_ready-requires-clause-ready
run_ready-requires-clause-ready g c κs within m held = subst (λ f. IsFound c.args.job.now.name.now c.args.job.now.script.now f m) c.in-Ready.is (c.in_ok-status.ensures.found m (sym c.prepare.ensures.holds ∙ held))

pub returns-in_ok-say-in-Refused-clause-said : goal.returns-in_ok-say-in-Refused-clause-said
returns-in_ok-say-in-Refused-clause-said g c = refused_said c.args.job.now.options.concurrent c.args.job.now.name.now c.args.job.now.script.now (string_bytes c.in-Refused.line) c.in-Refused.status (g.F.Files.holds c.args.files.now) (g.O.Sink.written c.args.out.now) (g.O.Sink.written c.say.new.out) (subst (λ f. IfTold (g.F.Files.holds c.args.files.now) (IsFound c.args.job.now.name.now c.args.job.now.script.now f)) c.in-Refused.is c.in_ok-status.ensures.found) (subst (λ l. IfTold (g.O.Sink.written c.args.out.now) (Appends l (g.O.Sink.written c.say.new.out))) c.as_str.ensures.value c.in_ok-say-in-Refused.ensures.ok)
