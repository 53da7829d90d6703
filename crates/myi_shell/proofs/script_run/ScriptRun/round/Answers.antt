use Rattle.std.proofs.Common.{◌≡◌, ◌++◌, ◌∙◌, true, List, Option, Some, None, OnOk, map, refl, sym, ap, subst}
use Rattle.std.specs.List.{flat_map}
use Rattle.myi_locks.specs.declared.steps.Run.{Run}
use Rattle.myi_locks.specs.declared.steps.Step.{Step}
use Rattle.myi_locks.specs.declared.steps.Round.{Round}
use Rattle.myi_locks.specs.declared.steps.Round.TheVariants.{Together}
use Rattle.myi_history.specs.RoundTexts.{texts_of}
use Rattle.myi_shell.specs.Targets.{defs_in, script_on, IsWhole, IfHolds}
use Rattle.myi_shell.specs.Stepping.{state_of, seen_by, read_by, writes_by, HasItsKinds, AreDone}
use Rattle.myi_shell.proofs.CarryLemmas.{carried_none, carried_then, never_all}
use Rattle.myi_shell.proofs.LoopLemmas.{run_done_on}
use Rattle.myi_shell.proofs.DoneLemmas.{AreRounds, together_done, readers_done}
use Rattle.myi_shell.proofs.TargetTouches.{touched_none, touched_same, behind_ok}
use Rattle.myi_shell.specs.declared.script_run.ScriptRun.{ScriptRun}
use Rattle.myi_shell.proofs.IdleLemmas.{leaves_none, leaves_then, untouched_leaves}
use Rattle.myi_shell.proofs.script_run.ScriptRun.round.Goals as goal

pub returns-in-Alone-clause-done : goal.returns-in-Alone-clause-done
returns-in-Alone-clause-done g c =
    subst (λ (r : Round). OnOk c.step-stepped.result (AreRounds (g.F.Files.holds c.args.files.now) c.args.target.now (script_on c.args.target.now c.args.lines.now) (state_of c.args.self.now) c.args.counters r (g.F.Files.holds c.step-stepped.new.files) c.step-stepped.new.target (state_of c.step-stepped.new.self))) (sym c.in-Alone.is) c.step-stepped.ensures.done

pub returns-in-Some-clause-done : goal.returns-in-Some-clause-done
returns-in-Some-clause-done g c =
    let told = g.F.Files.holds c.args.files.now in
    let mid = g.F.Files.holds c.read_runs.new.files in
    let next = g.F.Files.holds c.insert_run.new.files in
    let old = c.args.target.now in
    let half = c.read_runs.new.target in
    let p = state_of c.args.self.now in
    let q = state_of c.read_runs.new.self in
    let readers = c.in-Together.readers in
    let is : c.args.round.now ≡ Together (Some c.in-Some.run') readers = c.in-Together.is ∙ ap (λ (o : Option Run). Together o readers) c.in-Some.is in
    let said = subst (λ (rs : List Run). IfHolds told old (λ m s. q.texts ≡ p.texts ++ texts_of (map (read_by (defs_in old) (script_on c.args.target.now c.args.lines.now) (seen_by p) s) (flat_map (λ (r : Run). r.steps) rs)))) c.as_slice.ensures c.in_ok-read_runs-in-Together.ensures.said in
    let written = run_done_on mid next old half c.insert_run.new.target c.read_runs.ensures.carried.takes c.args.lines.now q (state_of c.insert_run.new.self) c.in-Some.run'.steps c.insert_run.result
    (subst (λ (xs : List Step). OnOk c.insert_run.result (IfHolds mid half (λ m s. AreDone (defs_in half) (script_on half c.args.lines.now) true q s xs (writes_by (defs_in half) (script_on half c.args.lines.now) q.locks true s.table xs) next c.insert_run.new.target (state_of c.insert_run.new.self)))) c.as_slice-in-Some.ensures c.insert_run.ensures.done) in
    subst (λ (r : Round). OnOk c.insert_run.result (AreRounds told old (script_on c.args.target.now c.args.lines.now) p c.args.counters r next c.insert_run.new.target (state_of c.insert_run.new.self))) (sym is)
    (together_done told mid next old half c.insert_run.new.target (script_on c.args.target.now c.args.lines.now) p q (state_of c.insert_run.new.self) c.in-Some.run' readers c.args.counters c.insert_run.result
    (subst HasItsKinds is c.requires.kinds) (ap state_of c.read_runs.ensures.only) c.read_runs.ensures.carried.defs c.read_runs.ensures.still said written)

pub returns-in-Some-clause-refused : goal.returns-in-Some-clause-refused
returns-in-Some-clause-refused g c = never_all (g.F.Files.holds c.args.files.now) (g.F.Files.holds c.read_runs.new.files) c.args.target.now c.read_runs.new.target c.insert_run.result c.read_runs.ensures.carried c.insert_run.ensures.refused

pub returns-in-None-clause-done : goal.returns-in-None-clause-done
returns-in-None-clause-done g c =
    let told = g.F.Files.holds c.args.files.now in
    let next = g.F.Files.holds c.read_runs.new.files in
    let old = c.args.target.now in
    let p = state_of c.args.self.now in
    let new = state_of c.read_runs.new.self in
    let readers = c.in-Together.readers in
    let is : c.args.round.now ≡ Together None readers = c.in-Together.is ∙ ap (λ (o : Option Run). Together o readers) c.in-None.is in
    let said = subst (λ (rs : List Run). IfHolds told old (λ m s. new.texts ≡ p.texts ++ texts_of (map (read_by (defs_in old) (script_on c.args.target.now c.args.lines.now) (seen_by p) s) (flat_map (λ (r : Run). r.steps) rs)))) c.as_slice.ensures c.in_ok-read_runs-in-Together.ensures.said in
    subst (λ (r : Round). AreRounds told old (script_on c.args.target.now c.args.lines.now) p c.args.counters r next c.read_runs.new.target new) (sym is)
    (readers_done told next old c.read_runs.new.target (script_on c.args.target.now c.args.lines.now) p new readers c.args.counters (subst HasItsKinds is c.requires.kinds) (ap state_of c.read_runs.ensures.only) c.read_runs.ensures.still said)

pub returns-in-Some-clause-touched : goal.returns-in-Some-clause-touched
returns-in-Some-clause-touched g c =
    let told = g.F.Files.holds c.args.files.now in
    let mid = g.F.Files.holds c.read_runs.new.files in
    behind_ok told mid (g.F.Files.holds c.insert_run.new.files) c.args.target.now c.read_runs.new.target c.insert_run.new.target c.args.self.now.number c.read_runs.new.self.number c.insert_run.new.self.number c.insert_run.result
    (touched_same told mid c.args.target.now c.read_runs.new.target c.args.self.now.number c.read_runs.new.self.number (ap (λ (p : ScriptRun). p.number) c.read_runs.ensures.only) c.read_runs.ensures.untouched) c.insert_run.ensures.touched

pub returns-in-None-clause-touched : goal.returns-in-None-clause-touched
returns-in-None-clause-touched g c =
    touched_same (g.F.Files.holds c.args.files.now) (g.F.Files.holds c.read_runs.new.files) c.args.target.now c.read_runs.new.target c.args.self.now.number c.read_runs.new.self.number (ap (λ (p : ScriptRun). p.number) c.read_runs.ensures.only) c.read_runs.ensures.untouched

pub returns-in-Finished-clause-carried : goal.returns-in-Finished-clause-carried
returns-in-Finished-clause-carried g c = carried_none (g.F.Files.holds c.args.files.now) (g.F.Files.holds c.args.files.now) c.args.target.now refl c.requires.kept

pub returns-in-Finished-clause-touched : goal.returns-in-Finished-clause-touched
returns-in-Finished-clause-touched g c = touched_none (g.F.Files.holds c.args.files.now) (g.F.Files.holds c.args.files.now) c.args.target.now c.args.self.now.number refl

pub returns-in-Some-clause-carried : goal.returns-in-Some-clause-carried
returns-in-Some-clause-carried g c = carried_then (g.F.Files.holds c.args.files.now) (g.F.Files.holds c.read_runs.new.files) (g.F.Files.holds c.insert_run.new.files) c.args.target.now c.read_runs.new.target c.insert_run.new.target c.read_runs.ensures.carried c.insert_run.ensures.carried

pub returns-in-Finished-clause-idle : goal.returns-in-Finished-clause-idle
returns-in-Finished-clause-idle g c = leaves_none (g.F.Files.holds c.args.files.now) (g.F.Files.holds c.args.files.now) c.args.target.now c.args.lines.now refl

pub returns-in_err-read_runs-in-Together-clause-idle : goal.returns-in_err-read_runs-in-Together-clause-idle
returns-in_err-read_runs-in-Together-clause-idle g c = untouched_leaves (g.F.Files.holds c.args.files.now) (g.F.Files.holds c.read_runs.new.files) c.args.target.now c.read_runs.new.target c.args.lines.now c.read_runs.ensures.untouched c.read_runs.ensures.carried.others

pub returns-in-None-clause-idle : goal.returns-in-None-clause-idle
returns-in-None-clause-idle g c = untouched_leaves (g.F.Files.holds c.args.files.now) (g.F.Files.holds c.read_runs.new.files) c.args.target.now c.read_runs.new.target c.args.lines.now c.read_runs.ensures.untouched c.read_runs.ensures.carried.others

pub returns-in-Some-clause-idle : goal.returns-in-Some-clause-idle
returns-in-Some-clause-idle g c =
    leaves_then (g.F.Files.holds c.args.files.now) (g.F.Files.holds c.read_runs.new.files) (g.F.Files.holds c.insert_run.new.files) c.args.target.now c.read_runs.new.target c.args.lines.now c.read_runs.ensures.carried.same c.read_runs.ensures.carried.takes
    (untouched_leaves (g.F.Files.holds c.args.files.now) (g.F.Files.holds c.read_runs.new.files) c.args.target.now c.read_runs.new.target c.args.lines.now c.read_runs.ensures.untouched c.read_runs.ensures.carried.others) c.insert_run.ensures.idle
