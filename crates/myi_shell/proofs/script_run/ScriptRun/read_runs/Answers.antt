use Rattle.std.proofs.Common.{◌≡◌, ◌++◌, List, IfErr, refl, sym, ap, subst, ◌∙◌, arith, map}
use Rattle.std.specs.List.{flat_map}
use Rattle.std.proofs.lemmas.Result.{err_from_is_err_and}
use Rattle.myi_locks.specs.declared.steps.Run.{Run}
use Rattle.myi_locks.specs.declared.steps.Step.{Step}
use Rattle.myi_history.specs.RoundTexts.{texts_of}
use Rattle.myi_shell.specs.Targets.{defs_in, script_on, IsWhole, IfHolds}
use Rattle.myi_shell.specs.Changing.{NothingDamaged}
use Rattle.myi_shell.specs.Damage.{IsNoted}
use Rattle.myi_shell.proofs.DamageLemmas.{if_err_by}
use Rattle.myi_shell.specs.declared.script_run.ScriptRun.{ScriptRun}
use Rattle.myi_shell.specs.Stepping.{state_of, seen_by, read_by}
use Rattle.myi_shell.proofs.CarryLemmas.{carried_none, carried_then, still_none, still_then, never_before}
use Rattle.myi_shell.proofs.LoopLemmas.{run_more, runs_said_on, texts_end, drop_none}
use Rattle.myi_shell.proofs.TargetTouches.{untouched_none, untouched_then}
use Rattle.myi_shell.proofs.script_run.ScriptRun.read_runs.Goals as goal

pub returns-in_err-read_run-clause-still : goal.returns-in_err-read_run-clause-still
returns-in_err-read_run-clause-still g c = still_then (g.F.Files.holds c.args.files.now) (g.F.Files.holds c.loop-run.files) (g.F.Files.holds c.read_run.new.files) c.args.target.now c.loop-run.target c.read_run.new.target c.loop-run.invariant.still c.read_run.ensures.still

pub returns-in_err-read_run-clause-refused : goal.returns-in_err-read_run-clause-refused
returns-in_err-read_run-clause-refused g c =
    let e = err_from_is_err_and c.from_residual.result c.from_residual.ensures.1 in
    let told = g.F.Files.holds c.args.files.now in
    subst (λ r. IfErr r (NothingDamaged told)) (sym e.1) (subst (NothingDamaged told) (sym e.2) (never_before told (g.F.Files.holds c.loop-run.files) c.args.target.now c.loop-run.target c.in_err-read_run.field-0.0 c.loop-run.invariant.carried c.in_err-read_run.ensures.refused))

pub loop-run-preserved : goal.loop-run-preserved
loop-run-preserved g c =
    let was = c.loop-run.invariant in
    let told = g.F.Files.holds c.args.files.now in
    let mid = g.F.Files.holds c.loop-run.files in
    let next = g.F.Files.holds c.read_run.new.files in
    let old = c.args.target.now in
    let half = c.loop-run.target in
    let Says : List Step → Type 0 = λ xs. IfHolds mid half (λ m s. c.read_run.new.self.texts ≡ c.loop-run.self.texts ++ texts_of (map (read_by (defs_in half) (script_on half c.args.lines.now) (seen_by (state_of c.loop-run.self)) s) xs)) in
    let said = subst (λ (r : Run). Says r.steps) c.run-item.is (subst Says c.as_slice.ensures c.in_ok-read_run.ensures.said) in
    record {
      only = c.read_run.ensures.only ∙ ap (λ (p : ScriptRun). record p { texts = c.read_run.new.self.texts }) was.only;
      so_far = run_more told mid old half (script_on c.args.target.now c.args.lines.now) (state_of c.args.self.now) (state_of c.loop-run.self) c.read_run.new.self.texts c.args.runs.now c.loop-run.run-index c.run-item.result c.loop-run-test.true (ap state_of was.only) was.carried.defs was.still was.so_far (runs_said_on mid old half was.carried.takes c.args.lines.now (seen_by (state_of c.loop-run.self)) c.loop-run.self.texts c.read_run.new.self.texts _ said);
      still = still_then told mid next old half c.read_run.new.target was.still c.read_run.ensures.still;
      untouched = untouched_then told mid next old half c.read_run.new.target was.untouched c.read_run.ensures.untouched;
      carried = carried_then told mid next old half c.read_run.new.target was.carried c.read_run.ensures.carried;
      whole = c.read_run.ensures.whole;
      later = omega (arith, was.later, c.read_run.ensures.cause.later);
    }

pub returns-clause-said : goal.returns-clause-said
returns-clause-said g c = λ m held s h.
    texts_end (λ (rs : List Run). texts_of (map (read_by (defs_in c.args.target.now) (script_on c.args.target.now c.args.lines.now) (seen_by (state_of c.args.self.now)) s) (flat_map (λ (r : Run). r.steps) rs))) c.args.self.now.texts c.loop-run.self.texts c.args.runs.now c.loop-run.run-index refl
    (drop_none c.args.runs.now c.loop-run.run-index c.loop-run-test.false) (c.loop-run.invariant.so_far m held s h)

pub returns-in_err-read_run-clause-noted : goal.returns-in_err-read_run-clause-noted
returns-in_err-read_run-clause-noted g c =
    let e = err_from_is_err_and c.from_residual.result c.from_residual.ensures.1 in
    if_err_by (IsNoted c.read_run.new.self.texts) _ c.in_err-read_run.field-0.0 e.0 e.1 e.2 c.in_err-read_run.ensures.noted

pub returns-in_err-read_run-clause-untouched : goal.returns-in_err-read_run-clause-untouched
returns-in_err-read_run-clause-untouched g c =
    untouched_then (g.F.Files.holds c.args.files.now) (g.F.Files.holds c.loop-run.files) (g.F.Files.holds c.read_run.new.files) c.args.target.now c.loop-run.target c.read_run.new.target c.loop-run.invariant.untouched c.read_run.ensures.untouched

pub returns-clause-untouched : goal.returns-clause-untouched
returns-clause-untouched g c = c.loop-run.invariant.untouched

pub loop-run-init : goal.loop-run-init
loop-run-init g c = record {
  only = refl;
  so_far = λ m held s h. refl;
  still = still_none (g.F.Files.holds c.args.files.now) (g.F.Files.holds c.args.files.now) c.args.target.now refl;
  untouched = untouched_none (g.F.Files.holds c.args.files.now) (g.F.Files.holds c.args.files.now) c.args.target.now refl;
  carried = carried_none (g.F.Files.holds c.args.files.now) (g.F.Files.holds c.args.files.now) c.args.target.now refl c.requires.kept;
  whole = c.requires.whole;
  later = omega arith;
}

pub returns-in_err-read_run-clause-carried : goal.returns-in_err-read_run-clause-carried
returns-in_err-read_run-clause-carried g c = carried_then (g.F.Files.holds c.args.files.now) (g.F.Files.holds c.loop-run.files) (g.F.Files.holds c.read_run.new.files) c.args.target.now c.loop-run.target c.read_run.new.target c.loop-run.invariant.carried c.read_run.ensures.carried
