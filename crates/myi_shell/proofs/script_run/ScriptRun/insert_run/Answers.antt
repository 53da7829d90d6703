use Rattle.std.proofs.Common.{IfErr, refl, sym, ap, subst, ◌∙◌, arith}
use Rattle.std.proofs.lemmas.Result.{err_from_is_err_and}
use Rattle.myi_defs.specs.declared.types.Defs.{Defs}
use Rattle.myi_history.specs.Lines.{MayRun}
use Rattle.myi_shell.specs.Targets.{defs_in, script_on}
use Rattle.myi_shell.specs.Changing.{NothingDamaged}
use Rattle.myi_shell.specs.Damage.{IsNoted}
use Rattle.myi_shell.proofs.DamageLemmas.{if_err_by}
use Rattle.myi_shell.specs.declared.script_run.ScriptRun.{ScriptRun}
use Rattle.myi_shell.specs.Stepping.{state_of}
use Rattle.myi_shell.proofs.CarryLemmas.{carried_none, carried_then, never_before, cause_then}
use Rattle.myi_shell.proofs.LoopLemmas.{drop_none, half_begins, half_steps, half_ends, done_on}
use Rattle.myi_shell.proofs.TargetTouches.{touched_none, touched_then}
use Rattle.myi_shell.proofs.IdleLemmas.{leaves_none, leaves_then}
use Rattle.myi_shell.proofs.script_run.ScriptRun.insert_run.Goals as goal

pub loop-step-init : goal.loop-step-init
loop-step-init g c = record {
  only = refl;
  so_far = λ m held s h. half_begins (defs_in c.args.target.now) (script_on c.args.target.now c.args.lines.now) _ (state_of c.args.self.now) s c.args.steps.now (g.F.Files.holds c.args.files.now) c.args.target.now (m, held, h);
  touched = touched_none (g.F.Files.holds c.args.files.now) (g.F.Files.holds c.args.files.now) c.args.target.now c.args.self.now.number refl;
  idle = leaves_none (g.F.Files.holds c.args.files.now) (g.F.Files.holds c.args.files.now) c.args.target.now c.args.lines.now refl;
  carried = carried_none (g.F.Files.holds c.args.files.now) (g.F.Files.holds c.args.files.now) c.args.target.now refl c.requires.kept;
  whole = c.requires.whole;
  later = omega arith;
}

pub write-written-requires-clause-lines : goal.write-written-requires-clause-lines
write-written-requires-clause-lines g c κs within = subst (λ (d : Defs). MayRun d c.args.lines.now) (sym c.loop-step.invariant.carried.defs) c.requires.lines

pub write-written-requires-clause-kept : goal.write-written-requires-clause-kept
write-written-requires-clause-kept g c κs within = c.loop-step.invariant.carried.kept

pub write-written-requires-clause-whole : goal.write-written-requires-clause-whole
write-written-requires-clause-whole g c κs within = c.loop-step.invariant.whole

pub returns-in_err-written-clause-only : goal.returns-in_err-written-clause-only
returns-in_err-written-clause-only g c = c.write-written.ensures.only ∙ ap (λ (p : ScriptRun). record p { number = c.write-written.new.self.number; texts = c.write-written.new.self.texts }) c.loop-step.invariant.only

pub returns-in_err-written-clause-carried : goal.returns-in_err-written-clause-carried
returns-in_err-written-clause-carried g c = carried_then (g.F.Files.holds c.args.files.now) (g.F.Files.holds c.loop-step.files) (g.F.Files.holds c.write-written.new.files) c.args.target.now c.loop-step.target c.write-written.new.target c.loop-step.invariant.carried c.write-written.ensures.carried

pub returns-in_err-written-clause-refused : goal.returns-in_err-written-clause-refused
returns-in_err-written-clause-refused g c =
    let e = err_from_is_err_and c.from_residual.result c.from_residual.ensures.1 in
    let told = g.F.Files.holds c.args.files.now in
    subst (λ r. IfErr r (NothingDamaged told)) (sym e.1) (subst (NothingDamaged told) (sym e.2) (never_before told (g.F.Files.holds c.loop-step.files) c.args.target.now c.loop-step.target c.in_err-written.field-0.0 c.loop-step.invariant.carried c.in_err-written.ensures.refused))

pub returns-in_err-written-clause-cause : goal.returns-in_err-written-clause-cause
returns-in_err-written-clause-cause g c =
    let e = err_from_is_err_and c.from_residual.result c.from_residual.ensures.1 in
    cause_then _ _ _ _ _ _ c.loop-step.invariant.later e.1 e.2 c.in_err-written.was c.write-written.ensures.cause

pub loop-step-preserved : goal.loop-step-preserved
loop-step-preserved g c =
    let was = c.loop-step.invariant in
    let told = g.F.Files.holds c.args.files.now in
    let mid = g.F.Files.holds c.loop-step.files in
    let next = g.F.Files.holds c.write-written.new.files in
    let old = c.args.target.now in
    let half = c.loop-step.target in
    record {
      only = c.write-written.ensures.only ∙ ap (λ (p : ScriptRun). record p { number = c.write-written.new.self.number; texts = c.write-written.new.self.texts }) was.only;
      so_far = half_steps told mid next old half c.write-written.new.target (script_on c.args.target.now c.args.lines.now) (state_of c.args.self.now) (state_of c.loop-step.self) (state_of c.write-written.new.self) c.args.steps.now c.loop-step.step-index _ c.loop-step-test.true (ap (λ (p : ScriptRun). p.locks) was.only) was.carried.defs was.so_far (done_on mid next old half c.write-written.new.target was.carried.takes c.args.lines.now (state_of c.loop-step.self) (state_of c.write-written.new.self) _ c.in_ok-written.ensures.done);
      touched = touched_then told mid next old half c.write-written.new.target c.args.self.now.number c.loop-step.self.number c.write-written.new.self.number was.touched c.in_ok-written.ensures.touched;
      idle = leaves_then told mid next old half c.args.lines.now was.carried.same was.carried.takes was.idle c.write-written.ensures.idle;
      carried = carried_then told mid next old half c.write-written.new.target was.carried c.write-written.ensures.carried;
      whole = c.in_ok-written.ensures.whole;
      later = omega (arith, was.later, c.write-written.ensures.cause.later);
    }

pub returns-clause-done : goal.returns-clause-done
returns-clause-done g c = λ m held s h.
    half_ends (defs_in c.args.target.now) (script_on c.args.target.now c.args.lines.now) _ (state_of c.args.self.now) (state_of c.loop-step.self) s c.args.steps.now _ (g.F.Files.holds c.loop-step.files) c.loop-step.target (drop_none c.args.steps.now c.loop-step.step-index c.loop-step-test.false) (c.loop-step.invariant.so_far m held s h)

pub returns-clause-only : goal.returns-clause-only
returns-clause-only g c = c.loop-step.invariant.only

pub returns-clause-carried : goal.returns-clause-carried
returns-clause-carried g c = c.loop-step.invariant.carried

pub returns-clause-whole : goal.returns-clause-whole
returns-clause-whole g c = c.loop-step.invariant.whole

pub returns-clause-cause : goal.returns-clause-cause
returns-clause-cause g c = record { later = c.loop-step.invariant.later; cause = λ e. cc }

pub returns-in_err-written-clause-noted : goal.returns-in_err-written-clause-noted
returns-in_err-written-clause-noted g c =
    let e = err_from_is_err_and c.from_residual.result c.from_residual.ensures.1 in
    if_err_by (IsNoted c.write-written.new.self.texts) _ c.in_err-written.field-0.0 e.0 e.1 e.2 c.in_err-written.ensures.noted

pub returns-clause-touched : goal.returns-clause-touched
returns-clause-touched g c = c.loop-step.invariant.touched

pub returns-in_err-written-clause-idle : goal.returns-in_err-written-clause-idle
returns-in_err-written-clause-idle g c = leaves_then (g.F.Files.holds c.args.files.now) (g.F.Files.holds c.loop-step.files) (g.F.Files.holds c.write-written.new.files) c.args.target.now c.loop-step.target c.args.lines.now c.loop-step.invariant.carried.same c.loop-step.invariant.carried.takes c.loop-step.invariant.idle c.write-written.ensures.idle

pub returns-clause-idle : goal.returns-clause-idle
returns-clause-idle g c = c.loop-step.invariant.idle
