use Rattle.std.proofs.Common.{List, Ok, refl, sym, subst}
use Rattle.myi_rounds.specs.declared.fault.RoundFault.{RoundFault}
use Rattle.myi_rounds.specs.declared.round.AskedReads.{AskedReads}
use Rattle.myi_shell.specs.Stepping.{state_of}
use Rattle.myi_shell.specs.Beside.{AreAsked}
use Rattle.myi_shell.proofs.ThreadLemmas.{gone_for, each_in}
use Rattle.myi_shell.proofs.script_run.ScriptRun.go.Goals as goal

pub returns-in-Ok-clause-gone : goal.returns-in-Ok-clause-gone
returns-in-Ok-clause-gone g c =
    let p = state_of c.args.self.now in
    gone_for {E = RoundFault} (g.F.Files.holds c.args.files.now) (g.F.Files.holds c.go_in.new.files) c.args.target.now c.go_in.new.target c.args.lines.now c.args.self.now.number p c.args.inserts.now c.args.inserts.now c.args.runs.now c.as_slice.result.now (Ok c.in-Ok.went) refl refl
    (subst (λ (asked : List AskedReads). AreAsked p c.args.runs.now asked) (sym c.as_slice.ensures.value) c.in_ok-reads.ensures) c.in-Ok.ensures.gone

pub returns-in-Ok-clause-each : goal.returns-in-Ok-clause-each
returns-in-Ok-clause-each g c =
    let p = state_of c.args.self.now in
    each_in p c.args.runs.now c.as_slice.result.now c.in-Ok.went.reads.items
    (subst (λ (asked : List AskedReads). AreAsked p c.args.runs.now asked) (sym c.as_slice.ensures.value) c.in_ok-reads.ensures) c.in-Ok.ensures.within.each c.in-Ok.ensures.within.reads
