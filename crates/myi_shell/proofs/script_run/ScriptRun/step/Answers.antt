use Rattle.std.proofs.Common.{◌≡◌, true, sym, ap, subst, refl}
use Rattle.myi_locks.specs.declared.steps.StepKind.{StepKind}
use Rattle.myi_locks.specs.Steps.{is_read}
use Rattle.myi_shell.specs.declared.script_run.ScriptRun.{ScriptRun}
use Rattle.myi_shell.specs.Targets.{script_on}
use Rattle.myi_shell.specs.Stepping.{state_of}
use Rattle.myi_shell.proofs.DoneLemmas.{reads_done_by, writes_done_by, kind_writes}
use Rattle.myi_shell.proofs.CarryLemmas.{carried_none}
use Rattle.myi_shell.proofs.TargetTouches.{untouched_none, untouched_ok, touched_none}
use Rattle.myi_shell.proofs.IdleLemmas.{leaves_none, untouched_leaves}
use Rattle.myi_shell.proofs.script_run.ScriptRun.step.Goals as goal

pub returns-in-Rows-clause-done : goal.returns-in-Rows-clause-done
returns-in-Rows-clause-done g c =
    reads_done_by (g.F.Files.holds c.args.files.now) (g.F.Files.holds c.read.new.files) c.args.target.now c.read.new.target (script_on c.args.target.now c.args.lines.now) (state_of c.args.self.now) (state_of c.read.new.self) c.args.step.now c.args.counters c.read.result
    (subst (λ (k : StepKind). is_read k ≡ true) (sym c.in-Rows.is) refl) (ap (λ (p : ScriptRun). p.number) c.read.ensures.only) c.read.ensures.still c.read.ensures.said

pub returns-in-Insert-clause-done : goal.returns-in-Insert-clause-done
returns-in-Insert-clause-done g c =
    writes_done_by (g.F.Files.holds c.args.files.now) (g.F.Files.holds c.write.new.files) c.args.target.now c.write.new.target (script_on c.args.target.now c.args.lines.now) (state_of c.args.self.now) (state_of c.write.new.self) c.args.step.now c.args.counters c.write.result
    (kind_writes c.args.step.now.kind c.in-Insert.is) c.write.ensures.done

pub returns-in-Rows-clause-touched : goal.returns-in-Rows-clause-touched
returns-in-Rows-clause-touched g c =
    untouched_ok (g.F.Files.holds c.args.files.now) (g.F.Files.holds c.read.new.files) c.args.target.now c.read.new.target c.args.self.now.number c.read.new.self.number c.read.result (ap (λ (p : ScriptRun). p.number) c.read.ensures.only) c.read.ensures.untouched

pub returns-in-Take-clause-touched : goal.returns-in-Take-clause-touched
returns-in-Take-clause-touched g c =
    let told = g.F.Files.holds c.args.files.now in
    untouched_ok told told c.args.target.now c.args.target.now c.args.self.now.number c.take.new.self.number c.take.result c.take.ensures.number (untouched_none told told c.args.target.now refl)

pub returns-in-Unlock-clause-touched : goal.returns-in-Unlock-clause-touched
returns-in-Unlock-clause-touched g c =
    let told = g.F.Files.holds c.args.files.now in
    untouched_ok told told c.args.target.now c.args.target.now c.args.self.now.number c.say.new.self.number c.say.result (ap (λ (p : ScriptRun). p.number) c.say.ensures.only) (untouched_none told told c.args.target.now refl)

pub returns-in-Stats-clause-touched : goal.returns-in-Stats-clause-touched
returns-in-Stats-clause-touched g c =
    let told = g.F.Files.holds c.args.files.now in
    untouched_ok told told c.args.target.now c.args.target.now c.args.self.now.number c.say-in-Stats.new.self.number c.say-in-Stats.result (ap (λ (p : ScriptRun). p.number) c.say-in-Stats.ensures.only) (untouched_none told told c.args.target.now refl)

pub returns-in-End-clause-touched : goal.returns-in-End-clause-touched
returns-in-End-clause-touched g c =
    let told = g.F.Files.holds c.args.files.now in
    untouched_ok told told c.args.target.now c.args.target.now c.args.self.now.number c.end.new.self.number c.end.result (ap (λ (p : ScriptRun). p.number) c.end.ensures.only) (untouched_none told told c.args.target.now refl)

pub returns-in-Release-clause-touched : goal.returns-in-Release-clause-touched
returns-in-Release-clause-touched g c = touched_none (g.F.Files.holds c.args.files.now) (g.F.Files.holds c.args.files.now) c.args.target.now c.args.self.now.number refl

pub returns-in-Release-clause-carried : goal.returns-in-Release-clause-carried
returns-in-Release-clause-carried g c = carried_none (g.F.Files.holds c.args.files.now) (g.F.Files.holds c.args.files.now) c.args.target.now refl c.requires.kept

pub returns-in-Take-clause-carried : goal.returns-in-Take-clause-carried
returns-in-Take-clause-carried g c = carried_none (g.F.Files.holds c.args.files.now) (g.F.Files.holds c.args.files.now) c.args.target.now refl c.requires.kept

pub returns-in-Unlock-clause-carried : goal.returns-in-Unlock-clause-carried
returns-in-Unlock-clause-carried g c = carried_none (g.F.Files.holds c.args.files.now) (g.F.Files.holds c.args.files.now) c.args.target.now refl c.requires.kept

pub returns-in-Stats-clause-carried : goal.returns-in-Stats-clause-carried
returns-in-Stats-clause-carried g c = carried_none (g.F.Files.holds c.args.files.now) (g.F.Files.holds c.args.files.now) c.args.target.now refl c.requires.kept

pub returns-in-End-clause-carried : goal.returns-in-End-clause-carried
returns-in-End-clause-carried g c = carried_none (g.F.Files.holds c.args.files.now) (g.F.Files.holds c.args.files.now) c.args.target.now refl c.requires.kept

pub returns-in-Release-clause-idle : goal.returns-in-Release-clause-idle
returns-in-Release-clause-idle g c = leaves_none (g.F.Files.holds c.args.files.now) (g.F.Files.holds c.args.files.now) c.args.target.now c.args.lines.now refl

pub returns-in-Take-clause-idle : goal.returns-in-Take-clause-idle
returns-in-Take-clause-idle g c = leaves_none (g.F.Files.holds c.args.files.now) (g.F.Files.holds c.args.files.now) c.args.target.now c.args.lines.now refl

pub returns-in-Unlock-clause-idle : goal.returns-in-Unlock-clause-idle
returns-in-Unlock-clause-idle g c = leaves_none (g.F.Files.holds c.args.files.now) (g.F.Files.holds c.args.files.now) c.args.target.now c.args.lines.now refl

pub returns-in-Stats-clause-idle : goal.returns-in-Stats-clause-idle
returns-in-Stats-clause-idle g c = leaves_none (g.F.Files.holds c.args.files.now) (g.F.Files.holds c.args.files.now) c.args.target.now c.args.lines.now refl

pub returns-in-End-clause-idle : goal.returns-in-End-clause-idle
returns-in-End-clause-idle g c = leaves_none (g.F.Files.holds c.args.files.now) (g.F.Files.holds c.args.files.now) c.args.target.now c.args.lines.now refl

pub returns-in-Rows-clause-idle : goal.returns-in-Rows-clause-idle
returns-in-Rows-clause-idle g c = untouched_leaves (g.F.Files.holds c.args.files.now) (g.F.Files.holds c.read.new.files) c.args.target.now c.read.new.target c.args.lines.now c.read.ensures.untouched c.read.ensures.carried.others
