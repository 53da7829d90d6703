use Rattle.std.proofs.Common.{◌≡◌, ◌<◌, ◌∙◌, sym, ap, subst, refl}
use Rattle.std.proofs.lemmas.Result.{err_from_is_err_and}
use Rattle.myi_locks.specs.declared.steps.Round.{Round}
use Rattle.myi_locks.specs.Rounds.{LockState, next_round}
use Rattle.myi_locks.specs.Done.{advanced}
use Rattle.myi_locks.specs.Laws.{IsLawful, steps_left}
use Rattle.myi_locks.proofs.CallerLemmas.{kept, fewer}
use Rattle.myi_shell.specs.Stepping.{state_of, holes_in, HasItsKinds}
use Rattle.myi_shell.specs.declared.fault.ShellFault.{ShellFault}
use Rattle.myi_shell.specs.Running.{of_sink}
use Rattle.myi_shell.specs.Damage.{IsDamage, IsNoted}
use Rattle.myi_shell.proofs.KindLemmas.{has_its_kinds}
use Rattle.myi_shell.proofs.DamageLemmas.{if_err_by, sink_noted, sink_no_damage, written_extends}
use Rattle.myi_shell.proofs.CarryLemmas.{sink_cause, on_err}
use Rattle.myi_shell.proofs.RoundsLemmas.{round_on, round_part, round_behind, stops_between}
use Rattle.myi_shell.proofs.script_run.ScriptRun.do_round.Goals as goal

pub any_round-requires-clause-kinds : goal.any_round-requires-clause-kinds
any_round-requires-clause-kinds g c κs within = subst HasItsKinds (sym c.requires.next) (has_its_kinds c.args.self.now.locks (holes_in c.args.target.now))

pub returns-in_err-any_round-clause-stopped : goal.returns-in_err-any_round-clause-stopped
returns-in_err-any_round-clause-stopped g c =
    on_err c.from_residual.result (λ setting base from state w. stops_between _ from (g.F.Files.holds c.args.files.now) (g.O.Sink.written c.args.out.now) (g.O.Sink.written c.args.out.now) (state_of c.args.self.now) c.args.target.now w refl)

pub returns-in_err-write-clause-stopped : goal.returns-in_err-write-clause-stopped
returns-in_err-write-clause-stopped g c =
    on_err c.from_residual-in_err-write.result (λ setting base from state w.
    round_part c.args.target.now c.any_round.new.target c.args.lines.now setting base from (g.F.Files.holds c.args.files.now) (g.F.Files.holds c.any_round.new.files) (g.O.Sink.written c.args.out.now) (g.O.Sink.written c.write.new.out) (state_of c.args.self.now) (state_of c.any_round.new.self) c.args.round.now c.counters-counters.result
    (record { may = c.requires.lines; sound = c.requires.sound; state = state; lawful = c.requires.lawful; left = c.requires.left; counted = c.counters-counters.ensures.sum; fewer = c.counters-counters.ensures.fewer; next = c.requires.next })
    c.in_ok-any_round.ensures.done c.in_ok-any_round.ensures.taken c.in_err-write.ensures.err w)

pub returns-in_err-write-clause-sink : goal.returns-in_err-write-clause-sink
returns-in_err-write-clause-sink g c =
    let e = err_from_is_err_and c.from_residual-in_err-write.result c.from_residual-in_err-write.ensures.1 in
    sink_cause _ _ c.from_residual-in_err-write.result c.write.result e.0 c.in_err-write.field-0.0 e.1 e.2 c.in_err-write.was c.write.ensures.cause

pub returns-clause-gone_on : goal.returns-clause-gone_on
returns-clause-gone_on g c = λ setting base from state w.
    round_on c.args.target.now c.any_round.new.target c.args.lines.now setting base from (g.F.Files.holds c.args.files.now) (g.F.Files.holds c.any_round.new.files) (g.O.Sink.written c.args.out.now) (g.O.Sink.written c.write.new.out) (state_of c.args.self.now) (state_of c.any_round.new.self)
    (record (state_of c.any_round.new.self) { locks = c.advance.new.self; texts = c.write.new.self }) c.args.round.now c.counters-counters.result
    (record { may = c.requires.lines; sound = c.requires.sound; state = state; lawful = c.requires.lawful; left = c.requires.left; counted = c.counters-counters.ensures.sum; fewer = c.counters-counters.ensures.fewer; next = c.requires.next })
    c.in_ok-any_round.ensures.done c.in_ok-any_round.ensures.taken
    (ap (λ (z : LockState). record (state_of c.any_round.new.self) { locks = z; texts = c.write.new.self }) (c.advance.ensures ∙ ap (λ (z : LockState). advanced z c.args.round.now) c.in_ok-any_round.ensures.locks)
    ∙ ap (λ ts. record (state_of c.any_round.new.self) { locks = advanced c.args.self.now.locks c.args.round.now; texts = ts }) c.write.ensures.empty)
    c.any_round.ensures.carried c.in_ok-any_round.ensures.touched c.in_ok-write.ensures.ok w

pub returns-clause-lawful : goal.returns-clause-lawful
returns-clause-lawful g c =
    let r = c.args.self.now.locks in
    let b = holes_in c.args.target.now in
    let after : c.advance.new.self ≡ advanced r (next_round r b) = c.advance.ensures ∙ ap (λ (z : LockState). advanced z c.args.round.now) c.in_ok-any_round.ensures.locks ∙ ap (λ (x : Round). advanced r x) c.requires.next in
    subst (λ (z : LockState). IsLawful z.sessions) (sym after) (kept r b c.requires.lawful)

pub returns-clause-fewer : goal.returns-clause-fewer
returns-clause-fewer g c =
    let r = c.args.self.now.locks in
    let b = holes_in c.args.target.now in
    let after : c.advance.new.self ≡ advanced r (next_round r b) = c.advance.ensures ∙ ap (λ (z : LockState). advanced z c.args.round.now) c.in_ok-any_round.ensures.locks ∙ ap (λ (x : Round). advanced r x) c.requires.next in
    subst (λ (z : LockState). steps_left z.sessions < steps_left r.sessions) (sym after) (fewer r b c.requires.lawful c.requires.left)

pub returns-in_err-write-clause-stands : goal.returns-in_err-write-clause-stands
returns-in_err-write-clause-stands g c = λ failed setting base from state w.
    round_behind c.args.target.now c.any_round.new.target c.args.lines.now setting base from (g.F.Files.holds c.args.files.now) (g.F.Files.holds c.any_round.new.files) (g.O.Sink.written c.args.out.now) (g.O.Sink.written c.write.new.out) (state_of c.args.self.now) (state_of c.any_round.new.self) c.args.round.now c.counters-counters.result
    (record { may = c.requires.lines; sound = c.requires.sound; state = state; lawful = c.requires.lawful; left = c.requires.left; counted = c.counters-counters.ensures.sum; fewer = c.counters-counters.ensures.fewer; next = c.requires.next })
    c.in_ok-any_round.ensures.done c.in_ok-any_round.ensures.taken c.any_round.ensures.carried c.in_ok-any_round.ensures.touched c.in_err-write.ensures.err w

pub returns-in_err-any_round-clause-noted : goal.returns-in_err-any_round-clause-noted
returns-in_err-any_round-clause-noted g c =
    let e = err_from_is_err_and c.from_residual.result c.from_residual.ensures.1 in
    if_err_by (IsNoted c.any_round.new.self.texts) _ c.in_err-any_round.field-0.0 e.0 e.1 e.2 c.in_err-any_round.ensures.noted

pub returns-in_err-any_round-clause-unsaid : goal.returns-in_err-any_round-clause-unsaid
returns-in_err-any_round-clause-unsaid g c =
    let e = err_from_is_err_and c.from_residual.result c.from_residual.ensures.1 in
    if_err_by (λ (f : ShellFault). IsDamage f → g.O.Sink.written c.args.out.now ≡ g.O.Sink.written c.args.out.now) _ e.0 e.0 e.1 refl (λ damage. refl)

pub returns-in_err-write-clause-noted : goal.returns-in_err-write-clause-noted
returns-in_err-write-clause-noted g c =
    let e = err_from_is_err_and c.from_residual-in_err-write.result c.from_residual-in_err-write.ensures.1 in
    if_err_by (IsNoted c.write.new.self) _ (of_sink c.in_err-write.field-0.0) e.0 e.1 e.2 (sink_noted c.write.new.self c.in_err-write.field-0.0)

pub returns-in_err-write-clause-unsaid : goal.returns-in_err-write-clause-unsaid
returns-in_err-write-clause-unsaid g c =
    let e = err_from_is_err_and c.from_residual-in_err-write.result c.from_residual-in_err-write.ensures.1 in
    if_err_by (λ (f : ShellFault). IsDamage f → g.O.Sink.written c.write.new.out ≡ g.O.Sink.written c.args.out.now) _ (of_sink c.in_err-write.field-0.0) e.0 e.1 e.2 (λ damage. absurd (sink_no_damage c.in_err-write.field-0.0 damage))

pub returns-clause-extends : goal.returns-clause-extends
returns-clause-extends g c = written_extends (g.O.Sink.written c.args.out.now) (g.O.Sink.written c.write.new.out) c.any_round.new.self.texts c.in_ok-write.ensures.each
