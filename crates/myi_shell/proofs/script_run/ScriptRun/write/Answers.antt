use Rattle.std.proofs.Common.{◌≡◌, ◌+◌, ◌∙◌, ℕ, Option, Some, OnOk, sym, ap, subst, refl, arith}
use Rattle.std.specs.Prelude.{IfSome}
use Rattle.std.specs.Option.{option_copied}
use Rattle.myi_script.specs.declared.types.Act.{Act}
use Rattle.myi_history.specs.Lines.{BringsRow}
use Rattle.myi_shell.specs.Targets.{defs_in, taking, script_on, IsTouchedBy}
use Rattle.myi_shell.specs.declared.changes.Changed.{Changed}
use Rattle.myi_shell.specs.declared.script_run.ScriptRun.{ScriptRun}
use Rattle.myi_shell.specs.Changing.{IsChangedBy, count_by, count_changed}
use Rattle.myi_shell.specs.Stepping.{state_of}
use Rattle.myi_shell.proofs.StatementLemmas.{act_meets}
use Rattle.myi_shell.proofs.StepLemmas.{changed_steps, unchanged_step}
use Rattle.myi_shell.proofs.DamageLemmas.{never_for, cause_for}
use Rattle.myi_shell.proofs.CarryLemmas.{carried_none}
use Rattle.myi_shell.proofs.TargetTouches.{untouched_none, untouched_ok, touched_none, touched_from, touched_ok}
use Rattle.myi_shell.proofs.IdleLemmas.{leaves_none, asked_leaves}
use Rattle.myi_shell.proofs.script_run.ScriptRun.write.Goals as goal

pub change-requires-clause-row : goal.change-requires-clause-row
change-requires-clause-row g c κs within =
    let d = defs_in c.args.target.now in
    subst (λ o. IfSome (option_copied o) (BringsRow d)) c.in-Some.is (subst (λ (a : Option Act). IfSome a (BringsRow d)) (sym c.act_of.ensures) (act_meets (BringsRow d) c.args.lines.now c.args.step.now.line c.requires.lines.rows))

pub returns-in_default-changed-clause-done : goal.returns-in_default-changed-clause-done
returns-in_default-changed-clause-done g c = λ m held s h.
    let next = g.F.Files.holds c.change.new.files in
    let none = subst (λ (r : Option Changed). IsChangedBy (taking c.args.target.now) c.args.target.now s c.args.together (Some c.in-Some.act.now) next c.change.new.self r) c.in_default-changed.is (c.in-Ok.ensures.changed m held s h) in
    unchanged_step c.args.target.now (script_on c.args.target.now c.args.lines.now) c.args.together (state_of c.args.self.now) s c.args.step.now _ next c.change.new.self (state_of c.args.self.now)
    c.requires.kind (sym c.reads_only.ensures ∙ c.if-reads_only.false) (sym c.act_of.ensures ∙ ap option_copied c.in-Some.is) none refl refl

pub returns-clause-done : goal.returns-clause-done
returns-clause-done g c =
    let number = subst (λ (n : ℕ). OnOk c.count.result (c.count.new.self.number ≡ n + count_by c.in-Some-changed.changed.made)) (ap (λ (p : ScriptRun). p.number) c.say-2.ensures.only) c.count.ensures.number in
    changed_steps (g.F.Files.holds c.args.files.now) (g.F.Files.holds c.change.new.files) c.args.target.now c.change.new.self (script_on c.args.target.now c.args.lines.now) c.args.together (state_of c.args.self.now) (state_of c.count.new.self) c.args.step.now (Some c.in-Some.act.now) c.in-Some-changed.changed c.in-Ok.changed c.count.result
    c.requires.kind (sym c.reads_only.ensures ∙ c.if-reads_only.false) (sym c.act_of.ensures ∙ ap option_copied c.in-Some.is) c.in-Some-changed.is c.in-Ok.ensures.changed number (ap (λ (p : ScriptRun). p.texts) (c.count.ensures.only ∙ ap (λ (p : ScriptRun). record p { number = c.count.new.self.number }) c.in_ok-say.ensures.said))

pub returns-in-Err-clause-refused : goal.returns-in-Err-clause-refused
returns-in-Err-clause-refused g c = never_for (g.F.Files.holds c.args.files.now) c.in-Err.fault c.note_damage.result c.note_damage.ensures.same c.in-Err.ensures.refused

pub returns-in-Err-clause-cause : goal.returns-in-Err-clause-cause
returns-in-Err-clause-cause g c = cause_for _ _ _ c.change.result c.in-Err.fault c.note_damage.result refl c.in-Err.is c.note_damage.ensures.same c.change.ensures.cause

pub returns-then-reads_only-clause-touched : goal.returns-then-reads_only-clause-touched
returns-then-reads_only-clause-touched g c =
    let told = g.F.Files.holds c.args.files.now in
    untouched_ok told told c.args.target.now c.args.target.now c.args.self.now.number c.say.new.self.number c.say.result (ap (λ (p : ScriptRun). p.number) c.say.ensures.only) (untouched_none told told c.args.target.now refl)

pub returns-in_default-changed-clause-touched : goal.returns-in_default-changed-clause-touched
returns-in_default-changed-clause-touched g c =
    let told = g.F.Files.holds c.args.files.now in
    let next = g.F.Files.holds c.change.new.files in
    let none = subst (λ (r : Option Changed). IsTouchedBy told next c.args.target.now c.change.new.self 0 (count_changed r)) c.in_default-changed.is c.in-Ok.ensures.touched in
    touched_from told next c.args.target.now c.change.new.self c.args.self.now.number c.args.self.now.number 0 (omega arith) none

pub returns-clause-touched : goal.returns-clause-touched
returns-clause-touched g c =
    let told = g.F.Files.holds c.args.files.now in
    let next = g.F.Files.holds c.change.new.files in
    let made = subst (λ (r : Option Changed). IsTouchedBy told next c.args.target.now c.change.new.self 0 (count_changed r)) c.in-Some-changed.is c.in-Ok.ensures.touched in
    let number = subst (λ (n : ℕ). OnOk c.count.result (c.count.new.self.number ≡ n + count_by c.in-Some-changed.changed.made)) (ap (λ (p : ScriptRun). p.number) c.say-2.ensures.only) c.count.ensures.number in
    touched_ok told next c.args.target.now c.change.new.self c.args.self.now.number c.count.new.self.number (count_by c.in-Some-changed.changed.made) c.count.result number made

pub returns-then-reads_only-clause-carried : goal.returns-then-reads_only-clause-carried
returns-then-reads_only-clause-carried g c = carried_none (g.F.Files.holds c.args.files.now) (g.F.Files.holds c.args.files.now) c.args.target.now refl c.requires.kept

pub returns-in_default-clause-carried : goal.returns-in_default-clause-carried
returns-in_default-clause-carried g c = carried_none (g.F.Files.holds c.args.files.now) (g.F.Files.holds c.args.files.now) c.args.target.now refl c.requires.kept

pub returns-in_default-clause-touched : goal.returns-in_default-clause-touched
returns-in_default-clause-touched g c = touched_none (g.F.Files.holds c.args.files.now) (g.F.Files.holds c.args.files.now) c.args.target.now c.args.self.now.number refl

pub returns-then-reads_only-clause-idle : goal.returns-then-reads_only-clause-idle
returns-then-reads_only-clause-idle g c = leaves_none (g.F.Files.holds c.args.files.now) (g.F.Files.holds c.args.files.now) c.args.target.now c.args.lines.now refl

pub returns-in_default-clause-idle : goal.returns-in_default-clause-idle
returns-in_default-clause-idle g c = leaves_none (g.F.Files.holds c.args.files.now) (g.F.Files.holds c.args.files.now) c.args.target.now c.args.lines.now refl

pub returns-in-Err-clause-idle : goal.returns-in-Err-clause-idle
returns-in-Err-clause-idle g c = asked_leaves (g.F.Files.holds c.args.files.now) (g.F.Files.holds c.change.new.files) c.args.target.now c.args.lines.now c.args.step.now.line c.args.together c.in-Some.act.now (sym c.act_of.ensures ∙ ap option_copied c.in-Some.is) c.change.ensures.idle

pub returns-in_default-changed-clause-idle : goal.returns-in_default-changed-clause-idle
returns-in_default-changed-clause-idle g c = asked_leaves (g.F.Files.holds c.args.files.now) (g.F.Files.holds c.change.new.files) c.args.target.now c.args.lines.now c.args.step.now.line c.args.together c.in-Some.act.now (sym c.act_of.ensures ∙ ap option_copied c.in-Some.is) c.change.ensures.idle

pub returns-in_err-say-clause-idle : goal.returns-in_err-say-clause-idle
returns-in_err-say-clause-idle g c = asked_leaves (g.F.Files.holds c.args.files.now) (g.F.Files.holds c.change.new.files) c.args.target.now c.args.lines.now c.args.step.now.line c.args.together c.in-Some.act.now (sym c.act_of.ensures ∙ ap option_copied c.in-Some.is) c.change.ensures.idle

pub returns-clause-idle : goal.returns-clause-idle
returns-clause-idle g c = asked_leaves (g.F.Files.holds c.args.files.now) (g.F.Files.holds c.change.new.files) c.args.target.now c.args.lines.now c.args.step.now.line c.args.together c.in-Some.act.now (sym c.act_of.ensures ∙ ap option_copied c.in-Some.is) c.change.ensures.idle
