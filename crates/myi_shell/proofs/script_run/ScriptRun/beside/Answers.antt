use Rattle.std.proofs.Common.{◌≡◌, ◌+◌, ◌++◌, List, map, true, drop, OnOk, refl, sym, ap, subst, ◌∙◌}
use Rattle.std.specs.List.{AllByRecursion, flat_map}
use Rattle.myi_locks.specs.declared.steps.Run.{Run}
use Rattle.myi_locks.specs.declared.steps.Step.{Step}
use Rattle.myi_locks.specs.Steps.{is_insert}
use Rattle.myi_history.specs.History.{Statements}
use Rattle.myi_history.specs.RoundTexts.{texts_of}
use Rattle.myi_rounds.specs.declared.round.WentReads.{WentReads}
use Rattle.myi_shell.specs.declared.script_run.ScriptRun.{ScriptRun}
use Rattle.myi_shell.specs.Targets.{defs_in, script_on, IfHolds}
use Rattle.myi_shell.specs.Stepping.{state_of, seen_by, read_by, writes_by, AreDone}
use Rattle.myi_shell.specs.Beside.{EachIsWithin, runs_left, noted_of}
use Rattle.myi_shell.proofs.CarryLemmas.{carried_then, on_ok_all}
use Rattle.myi_shell.proofs.LoopLemmas.{script_same}
use Rattle.myi_shell.proofs.TargetTouches.{touched_then, touched_from, touched_same}
use Rattle.myi_shell.proofs.IdleLemmas.{leaves_then, untouched_leaves}
use Rattle.myi_shell.proofs.ThreadLemmas.{in_one, within_long}
use Rattle.myi_shell.proofs.BesideLemmas.{all_drop, done_all}
use Rattle.myi_shell.proofs.script_run.ScriptRun.beside.Goals as goal

pub runs_left-requires-clause-long : goal.runs_left-requires-clause-long
runs_left-requires-clause-long g c = within_long c.args.runs.now _ (subst (λ (went : List WentReads). EachIsWithin c.args.runs.now went) (sym c.as_slice.ensures.value) c.in_ok-went.ensures.each)

pub insert_run-requires-clause-kinds : goal.insert_run-requires-clause-kinds
insert_run-requires-clause-kinds g c κs within =
    subst (λ xs. AllByRecursion (λ (x : Step). is_insert x.kind ≡ true) xs) (sym c.steps_behind-rest.ensures) (all_drop (λ (x : Step). is_insert x.kind ≡ true) c.in_ok-went.went.inserted c.args.inserts.now c.requires.kinds)

pub returns-in_err-insert_run-clause-idle : goal.returns-in_err-insert_run-clause-idle
returns-in_err-insert_run-clause-idle g c =
    leaves_then (g.F.Files.holds c.args.files.now) (g.F.Files.holds c.go.new.files) (g.F.Files.holds c.insert_run.new.files) c.args.target.now c.go.new.target c.args.lines.now c.go.ensures.carried.same c.go.ensures.carried.takes c.go.ensures.idle c.insert_run.ensures.idle

pub returns-in_err-insert_run-clause-carried : goal.returns-in_err-insert_run-clause-carried
returns-in_err-insert_run-clause-carried g c =
    carried_then (g.F.Files.holds c.args.files.now) (g.F.Files.holds c.go.new.files) (g.F.Files.holds c.insert_run.new.files) c.args.target.now c.go.new.target c.insert_run.new.target c.go.ensures.carried c.insert_run.ensures.carried

pub returns-clause-carried : goal.returns-clause-carried
returns-clause-carried g c =
    let told = g.F.Files.holds c.args.files.now in
    let half = g.F.Files.holds c.go.new.files in
    let mid = g.F.Files.holds c.insert_run.new.files in
    let next = g.F.Files.holds c.read_runs.new.files in
    carried_then told mid next c.args.target.now c.insert_run.new.target c.read_runs.new.target
    (carried_then told half mid c.args.target.now c.go.new.target c.insert_run.new.target c.go.ensures.carried c.insert_run.ensures.carried) c.read_runs.ensures.carried

pub returns-clause-idle : goal.returns-clause-idle
returns-clause-idle g c =
    let told = g.F.Files.holds c.args.files.now in
    let half = g.F.Files.holds c.go.new.files in
    let mid = g.F.Files.holds c.insert_run.new.files in
    let next = g.F.Files.holds c.read_runs.new.files in
    let old = c.args.target.now in
    let both = carried_then told half mid old c.go.new.target c.insert_run.new.target c.go.ensures.carried c.insert_run.ensures.carried in
    leaves_then told mid next old c.insert_run.new.target c.args.lines.now both.same both.takes
    (leaves_then told half mid old c.go.new.target c.args.lines.now c.go.ensures.carried.same c.go.ensures.carried.takes c.go.ensures.idle c.insert_run.ensures.idle)
    (untouched_leaves mid next c.insert_run.new.target c.read_runs.new.target c.args.lines.now c.read_runs.ensures.untouched c.read_runs.ensures.carried.others)

pub returns-clause-touched : goal.returns-clause-touched
returns-clause-touched g c =
    let told = g.F.Files.holds c.args.files.now in
    let half = g.F.Files.holds c.go.new.files in
    let mid = g.F.Files.holds c.insert_run.new.files in
    let next = g.F.Files.holds c.read_runs.new.files in
    let old = c.args.target.now in
    let p = c.args.self.now.number in
    let one = c.note.new.self.number in
    let two = c.insert_run.new.self.number in
    let new = c.read_runs.new.self.number in
    let begun = ap (λ (q : ScriptRun). q.number) c.in_ok-went.ensures.same in
    let first = touched_from told half old c.go.new.target p one c.in_ok-went.went.made (c.in_ok-note.ensures.number ∙ ap (λ n. n + c.in_ok-went.went.made) begun) c.in_ok-went.ensures.touched in
    let last = touched_same mid next c.insert_run.new.target c.read_runs.new.target two new (ap (λ (q : ScriptRun). q.number) c.read_runs.ensures.only) c.read_runs.ensures.untouched in
    on_ok_all c.read_runs.result (touched_then told mid next old c.insert_run.new.target c.read_runs.new.target p two new
    (touched_then told half mid old c.go.new.target c.insert_run.new.target p one two first c.in_ok-insert_run.ensures.touched) last)

pub returns-clause-done : goal.returns-clause-done
returns-clause-done g c =
    let told = g.F.Files.holds c.args.files.now in
    let half = g.F.Files.holds c.go.new.files in
    let mid = g.F.Files.holds c.insert_run.new.files in
    let next = g.F.Files.holds c.read_runs.new.files in
    let old = c.args.target.now in
    let first = c.go.new.target in
    let second = c.insert_run.new.target in
    let lines = c.args.lines.now in
    let ls : Statements = script_on old lines in
    let p = state_of c.args.self.now in
    let one = state_of c.note.new.self in
    let two = state_of c.insert_run.new.self in
    let new = state_of c.read_runs.new.self in
    let takes = c.go.ensures.carried.takes in
    let both = c.insert_run.ensures.carried.takes ∙ takes in
    let begun = c.in_ok-went.ensures.same in
    let w = c.in_ok-went.went in
    let rest = c.steps_behind-rest.result.now in
    done_all told half mid next old first second c.read_runs.new.target ls p one two new c.args.inserts.now rest c.args.runs.now c.as_slice-2.result.now w c.read_runs.result
    (in_one old c.requires.single) c.tables_are_sound.ensures c.in_ok-went.ensures.gone
    (ap state_of (c.note.ensures.only ∙ ap (λ (q : ScriptRun). record q { number = c.note.new.self.number; texts = c.note.new.self.texts }) begun))
    (c.in_ok-note.ensures.number ∙ ap (λ (q : ScriptRun). q.number + w.made) begun)
    (c.in_ok-note.ensures.texts ∙ ap (λ (q : ScriptRun). q.texts ++ noted_of w) begun)
    (ap state_of c.insert_run.ensures.only) c.go.ensures.carried.defs c.steps_behind-rest.ensures
    (subst (λ (z : Statements). IfHolds half first (λ m s. AreDone (defs_in first) z true one s rest (writes_by (defs_in first) z one.locks true s.table rest) mid second two)) (script_same old first lines takes) c.in_ok-insert_run.ensures.done)
    (ap state_of c.read_runs.ensures.only) c.read_runs.ensures.still (c.insert_run.ensures.carried.defs ∙ c.go.ensures.carried.defs)
    (c.as_slice-2.ensures.value ∙ c.in_ok-left.ensures ∙ ap (λ (went : List WentReads). runs_left c.args.runs.now went) c.as_slice.ensures.value)
    (subst (λ (z : Statements). OnOk c.read_runs.result (IfHolds mid second (λ m s. new.texts ≡ two.texts ++ texts_of (map (read_by (defs_in second) z (seen_by two) s) (flat_map (λ (r : Run). r.steps) c.as_slice-2.result.now))))) (script_same old second lines both) c.read_runs.ensures.said)
