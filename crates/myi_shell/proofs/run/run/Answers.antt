use Rattle.std.proofs.Common.{Bool, IfErr, sym, ap, subst, refl, ◌∙◌, arith}
use Rattle.std.proofs.lemmas.Result.{err_from_is_err_and}
use Rattle.myi_defs.specs.declared.types.Defs.{Defs}
use Rattle.myi_defs.specs.Sound.{IsSound}
use Rattle.myi_history.specs.History.{is_list}
use Rattle.myi_shell.specs.Targets.{taking, defs_in, script_on}
use Rattle.myi_shell.specs.Stepping.{state_of, begun}
use Rattle.myi_shell.specs.Running.{opening_on, standing, HasGoneOn, IsStopped}
use Rattle.myi_shell.proofs.CarryLemmas.{carried_none, carried_then, if_err}
use Rattle.myi_shell.proofs.RunLemmas.{nothing_printed, begins, begun_lawful, goes_on_by, stops_by, stands_by, sink_again, stopped_before}
use Rattle.myi_shell.specs.Damage.{IsPrintedDamage}
use Rattle.myi_shell.proofs.DamageLemmas.{extends_none, extends_then, damage_behind, if_err_by}
use Rattle.myi_shell.proofs.IdleLemmas.{leaves_none, leaves_then}
use Rattle.myi_shell.proofs.run.run.Goals as goal

pub returns-in_err-state-clause-part : goal.returns-in_err-state-clause-part
returns-in_err-state-clause-part g c = if_err c.from_residual.result (λ m held s h. nothing_printed (opening_on (defs_in c.args.target.now) (script_on c.args.target.now c.args.lines.now) c.args.setting s) (g.O.Sink.written c.args.out.now))

pub loop-state-init : goal.loop-state-init
loop-state-init g c = record {
  done = λ m held s h. begins c.args.lines.now c.args.setting s c.args.target.now (g.F.Files.holds c.args.files.now) m (g.O.Sink.written c.args.out.now) (state_of c.in_ok-state.state) held h (c.in_ok-state.ensures ∙ ap (λ (b : Bool). begun c.args.setting b c.args.lines.now c.length.result) c.is_list.ensures ∙ ap (begun c.args.setting (is_list (taking c.args.target.now)) c.args.lines.now) c.length.ensures);
  idle = leaves_none (g.F.Files.holds c.args.files.now) (g.F.Files.holds c.args.files.now) c.args.target.now c.args.lines.now refl;
  carried = carried_none (g.F.Files.holds c.args.files.now) (g.F.Files.holds c.args.files.now) c.args.target.now refl c.requires.kept;
  whole = c.requires.whole;
  sound = c.tables_are_sound.ensures;
  lawful = begun_lawful (defs_in c.args.target.now) c.args.lines.now c.args.setting c.is_list.result c.length.result (state_of c.in_ok-state.state) c.requires.lines c.in_ok-state.ensures;
  printed = extends_none (g.O.Sink.written c.args.out.now);
  file = omega arith;
  sink = omega arith;
}

pub returns-in_err-next_round-clause-part : goal.returns-in_err-next_round-clause-part
returns-in_err-next_round-clause-part g c =
    if_err c.from_residual-in_err-next_round.result
    (stops_by (g.F.Files.holds c.args.files.now) (g.F.Files.holds c.loop-state.files) c.args.target.now c.loop-state.target c.args.lines.now c.args.setting (standing (g.O.Sink.written c.args.out.now) (g.F.Files.holds c.args.files.now) c.args.target.now) (g.O.Sink.written c.loop-state.out) (g.O.Sink.written c.next_round.new.out) (state_of c.loop-state.state)
    c.loop-state.invariant.carried.defs c.loop-state.invariant.carried.takes c.loop-state.invariant.done c.in_err-next_round.ensures.stopped)

pub returns-in_err-next_round-clause-refused : goal.returns-in_err-next_round-clause-refused
returns-in_err-next_round-clause-refused g c =
    let e = err_from_is_err_and c.from_residual-in_err-next_round.result c.from_residual-in_err-next_round.ensures.1 in
    let told = g.F.Files.holds c.args.files.now in
    subst (λ r. IfErr r (IsStopped told)) (sym e.1) (subst (IsStopped told) (sym e.2) (stopped_before told (g.F.Files.holds c.loop-state.files) c.args.target.now c.loop-state.target c.in_err-next_round.field-0.0 c.loop-state.invariant.carried c.in_err-next_round.ensures.refused))

pub loop-state-preserved : goal.loop-state-preserved
loop-state-preserved g c =
    let was = c.loop-state.invariant in
    let told = g.F.Files.holds c.args.files.now in
    let mid = g.F.Files.holds c.loop-state.files in
    let next = g.F.Files.holds c.next_round.new.files in
    let old = c.args.target.now in
    let half = c.loop-state.target in
    let new = c.next_round.new.target in
    let start = g.O.Sink.written c.args.out.now in
    let printed = g.O.Sink.written c.next_round.new.out in
    record {
      done = λ m held s h. subst (λ (b : Bool). HasGoneOn b (opening_on (defs_in old) (script_on c.args.target.now c.args.lines.now) c.args.setting s) (standing start told old) next (state_of c.next_round.new.self) new printed) c.if-branch.true
          (goes_on_by told mid next old half new c.args.lines.now c.args.setting (standing start told old) (g.O.Sink.written c.loop-state.out) printed (state_of c.loop-state.state) (state_of c.next_round.new.self) c.in_ok-next_round.field-0 was.carried.defs was.carried.takes was.done c.in_ok-next_round.ensures.gone_on m held s h);
      idle = leaves_then told mid next old half c.args.lines.now was.carried.same was.carried.takes was.idle c.next_round.ensures.idle;
      carried = carried_then told mid next old half new was.carried c.next_round.ensures.carried;
      whole = c.in_ok-next_round.ensures.whole;
      sound = subst (λ (d : Defs). IsSound d) (sym c.next_round.ensures.carried.defs) was.sound;
      lawful = c.in_ok-next_round.ensures.lawful;
      printed = extends_then start (g.O.Sink.written c.loop-state.out) printed was.printed c.in_ok-next_round.ensures.extends;
      file = omega (arith, was.file, c.next_round.ensures.file.later);
      sink = omega (arith, was.sink, c.next_round.ensures.sink.later);
    }

pub returns-clause-ran : goal.returns-clause-ran
returns-clause-ran g c = λ m held s h.
    let was = c.loop-state.invariant in
    let told = g.F.Files.holds c.args.files.now in
    let next = g.F.Files.holds c.next_round.new.files in
    let old = c.args.target.now in
    let start = g.O.Sink.written c.args.out.now in
    let printed = g.O.Sink.written c.next_round.new.out in
    subst (λ (b : Bool). HasGoneOn b (opening_on (defs_in old) (script_on c.args.target.now c.args.lines.now) c.args.setting s) (standing start told old) next (state_of c.next_round.new.self) c.next_round.new.target printed) c.if-branch.false
    (goes_on_by (g.F.Files.holds c.args.files.now) (g.F.Files.holds c.loop-state.files) next old c.loop-state.target c.next_round.new.target c.args.lines.now c.args.setting (standing start told old) (g.O.Sink.written c.loop-state.out) printed (state_of c.loop-state.state) (state_of c.next_round.new.self) c.in_ok-next_round.field-0 was.carried.defs was.carried.takes was.done c.in_ok-next_round.ensures.gone_on m held s h)

pub returns-in_err-next_round-clause-stands : goal.returns-in_err-next_round-clause-stands
returns-in_err-next_round-clause-stands g c =
    let e = err_from_is_err_and c.from_residual-in_err-next_round.result c.from_residual-in_err-next_round.ensures.1 in
    λ failed. stands_by (g.F.Files.holds c.args.files.now) (g.F.Files.holds c.loop-state.files) (g.F.Files.holds c.next_round.new.files) c.args.target.now c.loop-state.target c.next_round.new.target c.args.lines.now c.args.setting (standing (g.O.Sink.written c.args.out.now) (g.F.Files.holds c.args.files.now) c.args.target.now) (g.O.Sink.written c.loop-state.out) (g.O.Sink.written c.next_round.new.out) (state_of c.loop-state.state)
    c.loop-state.invariant.carried.defs c.loop-state.invariant.carried.takes c.loop-state.invariant.done (c.next_round.ensures.stands (sink_again e.1 e.2 c.in_err-next_round.was failed))

pub returns-in_err-next_round-clause-damaged : goal.returns-in_err-next_round-clause-damaged
returns-in_err-next_round-clause-damaged g c =
    let e = err_from_is_err_and c.from_residual-in_err-next_round.result c.from_residual-in_err-next_round.ensures.1 in
    let start = g.O.Sink.written c.args.out.now in
    let printed = g.O.Sink.written c.next_round.new.out in
    if_err_by (IsPrintedDamage start printed) _ c.in_err-next_round.field-0.0 e.0 e.1 e.2 (damage_behind start (g.O.Sink.written c.loop-state.out) printed c.in_err-next_round.field-0.0 c.loop-state.invariant.printed c.in_err-next_round.ensures.damaged)

pub begin-requires-clause-lines : goal.begin-requires-clause-lines
begin-requires-clause-lines g c = c.scripts_may_run.ensures.steps (defs_in c.args.target.now) c.args.lines.now c.requires.lines c.is_list.result

pub returns-in_err-state-clause-carried : goal.returns-in_err-state-clause-carried
returns-in_err-state-clause-carried g c = carried_none (g.F.Files.holds c.args.files.now) (g.F.Files.holds c.args.files.now) c.args.target.now refl c.requires.kept

pub returns-in_err-next_round-clause-carried : goal.returns-in_err-next_round-clause-carried
returns-in_err-next_round-clause-carried g c = carried_then (g.F.Files.holds c.args.files.now) (g.F.Files.holds c.loop-state.files) (g.F.Files.holds c.next_round.new.files) c.args.target.now c.loop-state.target c.next_round.new.target c.loop-state.invariant.carried c.next_round.ensures.carried

pub returns-clause-carried : goal.returns-clause-carried
returns-clause-carried g c = carried_then (g.F.Files.holds c.args.files.now) (g.F.Files.holds c.loop-state.files) (g.F.Files.holds c.next_round.new.files) c.args.target.now c.loop-state.target c.next_round.new.target c.loop-state.invariant.carried c.next_round.ensures.carried

pub returns-in_err-state-clause-idle : goal.returns-in_err-state-clause-idle
returns-in_err-state-clause-idle g c = leaves_none (g.F.Files.holds c.args.files.now) (g.F.Files.holds c.args.files.now) c.args.target.now c.args.lines.now refl

pub returns-in_err-next_round-clause-idle : goal.returns-in_err-next_round-clause-idle
returns-in_err-next_round-clause-idle g c = leaves_then (g.F.Files.holds c.args.files.now) (g.F.Files.holds c.loop-state.files) (g.F.Files.holds c.next_round.new.files) c.args.target.now c.loop-state.target c.args.lines.now c.loop-state.invariant.carried.same c.loop-state.invariant.carried.takes c.loop-state.invariant.idle c.next_round.ensures.idle

pub returns-clause-idle : goal.returns-clause-idle
returns-clause-idle g c = leaves_then (g.F.Files.holds c.args.files.now) (g.F.Files.holds c.loop-state.files) (g.F.Files.holds c.next_round.new.files) c.args.target.now c.loop-state.target c.args.lines.now c.loop-state.invariant.carried.same c.loop-state.invariant.carried.takes c.loop-state.invariant.idle c.next_round.ensures.idle
