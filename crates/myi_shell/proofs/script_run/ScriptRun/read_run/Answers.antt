use Rattle.std.proofs.Common.{List, IfErr, refl, sym, ap, subst, ◌∙◌, arith, map}
use Rattle.std.proofs.lemmas.Result.{err_from_is_err_and}
use Rattle.myi_locks.specs.declared.steps.Step.{Step}
use Rattle.myi_defs.specs.declared.types.Defs.{Defs}
use Rattle.myi_history.specs.Lines.{MayRun}
use Rattle.myi_history.specs.RoundTexts.{texts_of}
use Rattle.myi_shell.specs.Targets.{defs_in, script_on}
use Rattle.myi_shell.specs.Changing.{NothingDamaged}
use Rattle.myi_shell.specs.Damage.{IsNoted}
use Rattle.myi_shell.proofs.DamageLemmas.{if_err_by}
use Rattle.myi_shell.specs.declared.script_run.ScriptRun.{ScriptRun}
use Rattle.myi_shell.specs.Stepping.{state_of, seen_by, read_by}
use Rattle.myi_shell.proofs.CarryLemmas.{carried_none, carried_then, still_none, still_then, never_before, cause_then}
use Rattle.myi_shell.proofs.LoopLemmas.{read_more_on, texts_end, drop_none}
use Rattle.myi_shell.proofs.TargetTouches.{untouched_none, untouched_then}
use Rattle.myi_shell.proofs.script_run.ScriptRun.read_run.Goals as goal

pub loop-step-init : goal.loop-step-init
loop-step-init g c = record {
  only = refl;
  so_far = λ m held s h. refl;
  still = still_none (g.F.Files.holds c.args.files.now) (g.F.Files.holds c.args.files.now) c.args.target.now refl;
  untouched = untouched_none (g.F.Files.holds c.args.files.now) (g.F.Files.holds c.args.files.now) c.args.target.now refl;
  carried = carried_none (g.F.Files.holds c.args.files.now) (g.F.Files.holds c.args.files.now) c.args.target.now refl c.requires.kept;
  whole = c.requires.whole;
  later = omega arith;
}

pub read-read-requires-clause-lines : goal.read-read-requires-clause-lines
read-read-requires-clause-lines g c κs within = subst (λ (d : Defs). MayRun d c.args.lines.now) (sym c.loop-step.invariant.carried.defs) c.requires.lines

pub read-read-requires-clause-kept : goal.read-read-requires-clause-kept
read-read-requires-clause-kept g c κs within = c.loop-step.invariant.carried.kept

pub read-read-requires-clause-whole : goal.read-read-requires-clause-whole
read-read-requires-clause-whole g c κs within = c.loop-step.invariant.whole

pub returns-in_err-read-clause-only : goal.returns-in_err-read-clause-only
returns-in_err-read-clause-only g c = c.read-read.ensures.only ∙ ap (λ (p : ScriptRun). record p { texts = c.read-read.new.self.texts }) c.loop-step.invariant.only

pub returns-in_err-read-clause-still : goal.returns-in_err-read-clause-still
returns-in_err-read-clause-still g c = still_then (g.F.Files.holds c.args.files.now) (g.F.Files.holds c.loop-step.files) (g.F.Files.holds c.read-read.new.files) c.args.target.now c.loop-step.target c.read-read.new.target c.loop-step.invariant.still c.read-read.ensures.still

pub returns-in_err-read-clause-carried : goal.returns-in_err-read-clause-carried
returns-in_err-read-clause-carried g c = carried_then (g.F.Files.holds c.args.files.now) (g.F.Files.holds c.loop-step.files) (g.F.Files.holds c.read-read.new.files) c.args.target.now c.loop-step.target c.read-read.new.target c.loop-step.invariant.carried c.read-read.ensures.carried

pub returns-in_err-read-clause-refused : goal.returns-in_err-read-clause-refused
returns-in_err-read-clause-refused g c =
    let e = err_from_is_err_and c.from_residual.result c.from_residual.ensures.1 in
    let told = g.F.Files.holds c.args.files.now in
    subst (λ r. IfErr r (NothingDamaged told)) (sym e.1) (subst (NothingDamaged told) (sym e.2) (never_before told (g.F.Files.holds c.loop-step.files) c.args.target.now c.loop-step.target c.in_err-read.field-0.0 c.loop-step.invariant.carried c.in_err-read.ensures.refused))

pub returns-in_err-read-clause-cause : goal.returns-in_err-read-clause-cause
returns-in_err-read-clause-cause g c =
    let e = err_from_is_err_and c.from_residual.result c.from_residual.ensures.1 in
    cause_then _ _ _ _ _ _ c.loop-step.invariant.later e.1 e.2 c.in_err-read.was c.read-read.ensures.cause

pub loop-step-preserved : goal.loop-step-preserved
loop-step-preserved g c =
    let was = c.loop-step.invariant in
    let told = g.F.Files.holds c.args.files.now in
    let mid = g.F.Files.holds c.loop-step.files in
    let next = g.F.Files.holds c.read-read.new.files in
    let old = c.args.target.now in
    let half = c.loop-step.target in
    record {
      only = c.read-read.ensures.only ∙ ap (λ (p : ScriptRun). record p { texts = c.read-read.new.self.texts }) was.only;
      so_far = read_more_on told mid old half c.args.lines.now (state_of c.args.self.now) (state_of c.loop-step.self) c.read-read.new.self.texts c.args.steps.now c.loop-step.step-index _ c.loop-step-test.true (ap state_of was.only) was.carried.defs was.carried.takes was.still was.so_far c.in_ok-read.ensures.said;
      still = still_then told mid next old half c.read-read.new.target was.still c.read-read.ensures.still;
      untouched = untouched_then told mid next old half c.read-read.new.target was.untouched c.read-read.ensures.untouched;
      carried = carried_then told mid next old half c.read-read.new.target was.carried c.read-read.ensures.carried;
      whole = c.read-read.ensures.whole;
      later = omega (arith, was.later, c.read-read.ensures.cause.later);
    }

pub returns-clause-said : goal.returns-clause-said
returns-clause-said g c = λ m held s h.
    texts_end (λ (xs : List Step). texts_of (map (read_by (defs_in c.args.target.now) (script_on c.args.target.now c.args.lines.now) (seen_by (state_of c.args.self.now)) s) xs)) c.args.self.now.texts c.loop-step.self.texts c.args.steps.now c.loop-step.step-index refl
    (drop_none c.args.steps.now c.loop-step.step-index c.loop-step-test.false) (c.loop-step.invariant.so_far m held s h)

pub returns-clause-only : goal.returns-clause-only
returns-clause-only g c = c.loop-step.invariant.only

pub returns-clause-still : goal.returns-clause-still
returns-clause-still g c = c.loop-step.invariant.still

pub returns-clause-carried : goal.returns-clause-carried
returns-clause-carried g c = c.loop-step.invariant.carried

pub returns-clause-whole : goal.returns-clause-whole
returns-clause-whole g c = c.loop-step.invariant.whole

pub returns-clause-cause : goal.returns-clause-cause
returns-clause-cause g c = record { later = c.loop-step.invariant.later; cause = λ e. cc }

pub returns-in_err-read-clause-noted : goal.returns-in_err-read-clause-noted
returns-in_err-read-clause-noted g c =
    let e = err_from_is_err_and c.from_residual.result c.from_residual.ensures.1 in
    if_err_by (IsNoted c.read-read.new.self.texts) _ c.in_err-read.field-0.0 e.0 e.1 e.2 c.in_err-read.ensures.noted

pub returns-in_err-read-clause-untouched : goal.returns-in_err-read-clause-untouched
returns-in_err-read-clause-untouched g c =
    untouched_then (g.F.Files.holds c.args.files.now) (g.F.Files.holds c.loop-step.files) (g.F.Files.holds c.read-read.new.files) c.args.target.now c.loop-step.target c.read-read.new.target c.loop-step.invariant.untouched c.read-read.ensures.untouched

pub returns-clause-untouched : goal.returns-clause-untouched
returns-clause-untouched g c = c.loop-step.invariant.untouched
