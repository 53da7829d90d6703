use Rattle.std.proofs.Common.{◌∙◌, Option, Some, Ok, refl, sym, ap, subst}
use Rattle.std.specs.Prelude.{IfSome}
use Rattle.std.specs.Option.{option_copied}
use Rattle.myi_script.specs.declared.types.Act.{Act}
use Rattle.myi_history.specs.Lines.{ReadsRange}
use Rattle.myi_shell.specs.Targets.{defs_in, script_on}
use Rattle.myi_shell.specs.declared.fault.ShellFault.{ShellFault}
use Rattle.myi_shell.specs.Stepping.{state_of, seen_by}
use Rattle.myi_shell.proofs.StatementLemmas.{act_meets}
use Rattle.myi_shell.proofs.LoopLemmas.{read_as}
use Rattle.myi_shell.proofs.DamageLemmas.{never_for, cause_for}
use Rattle.myi_shell.proofs.CarryLemmas.{carried_none}
use Rattle.myi_shell.proofs.TargetTouches.{untouched_none}
use Rattle.myi_shell.proofs.script_run.ScriptRun.read.Goals as goal

pub read-requires-clause-range : goal.read-requires-clause-range
read-requires-clause-range g c κs within =
    let d = defs_in c.args.target.now in
    subst (λ o. IfSome (option_copied o) (ReadsRange d)) c.in-Some.is (subst (λ (a : Option Act). IfSome a (ReadsRange d)) (sym c.act_of.ensures) (act_meets (ReadsRange d) c.args.lines.now c.args.step.now.line c.requires.lines.ranges))

pub returns-in-Ok-clause-said : goal.returns-in-Ok-clause-said
returns-in-Ok-clause-said g c =
    read_as {E = ShellFault} (g.F.Files.holds c.args.files.now) c.args.target.now (script_on c.args.target.now c.args.lines.now) (seen_by (state_of c.args.self.now)) c.args.self.now.texts c.read.new.texts c.args.step.now c.snapshot-view.result (Some c.in-Some.act.now) (Ok c.in-Ok.field-0) c.snapshot-view.ensures (ap option_copied (sym c.in-Some.is) ∙ c.act_of.ensures) c.in-Ok.ensures.said

pub returns-in-Err-clause-refused : goal.returns-in-Err-clause-refused
returns-in-Err-clause-refused g c = never_for (g.F.Files.holds c.args.files.now) c.in-Err.fault c.note_damage.result c.note_damage.ensures.same c.in-Err.ensures.refused

pub returns-in-Err-clause-cause : goal.returns-in-Err-clause-cause
returns-in-Err-clause-cause g c = cause_for _ _ _ c.read.result c.in-Err.fault c.note_damage.result refl c.in-Err.is c.note_damage.ensures.same c.read.ensures.cause

pub returns-in_err-read_nothing-clause-carried : goal.returns-in_err-read_nothing-clause-carried
returns-in_err-read_nothing-clause-carried g c = carried_none (g.F.Files.holds c.args.files.now) (g.F.Files.holds c.args.files.now) c.args.target.now refl c.requires.kept

pub returns-in_err-read_nothing-clause-untouched : goal.returns-in_err-read_nothing-clause-untouched
returns-in_err-read_nothing-clause-untouched g c = untouched_none (g.F.Files.holds c.args.files.now) (g.F.Files.holds c.args.files.now) c.args.target.now refl

pub returns-in_default-clause-carried : goal.returns-in_default-clause-carried
returns-in_default-clause-carried g c = carried_none (g.F.Files.holds c.args.files.now) (g.F.Files.holds c.args.files.now) c.args.target.now refl c.requires.kept

pub returns-in_default-clause-untouched : goal.returns-in_default-clause-untouched
returns-in_default-clause-untouched g c = untouched_none (g.F.Files.holds c.args.files.now) (g.F.Files.holds c.args.files.now) c.args.target.now refl
