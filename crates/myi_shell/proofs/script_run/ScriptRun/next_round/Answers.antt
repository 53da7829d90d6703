use Rattle.std.proofs.Common.{Err, ap, refl, ◌∙◌}
use Rattle.myi_shell.specs.Stepping.{state_of}
use Rattle.myi_shell.proofs.CarryLemmas.{carried_none, on_err}
use Rattle.myi_shell.proofs.RunLemmas.{err_is}
use Rattle.myi_shell.proofs.RoundsLemmas.{ends_run, stops_between, is_over, is_left}
use Rattle.myi_shell.proofs.DamageLemmas.{cut_stopped, cut_stands, cut_never, cut_damage, cut_file, cut_sink, extends_none}
use Rattle.myi_shell.proofs.IdleLemmas.{leaves_none}
use Rattle.myi_shell.proofs.script_run.ScriptRun.next_round.Goals as goal

pub returns-in_err-round-clause-stopped : goal.returns-in_err-round-clause-stopped
returns-in_err-round-clause-stopped g c =
    on_err c.from_residual.result (λ setting base from state w. stops_between _ from (g.F.Files.holds c.args.files.now) (g.O.Sink.written c.args.out.now) (g.O.Sink.written c.args.out.now) (state_of c.args.self.now) c.args.target.now w refl)

pub returns-in-Finished-clause-gone_on : goal.returns-in-Finished-clause-gone_on
returns-in-Finished-clause-gone_on g c = λ setting base from state w.
    ends_run _ from (g.F.Files.holds c.args.files.now) (g.O.Sink.written c.args.out.now) (state_of c.args.self.now) c.args.target.now w (is_over c.args.self.now.locks _ c.in_ok-round.round c.in_ok-round.ensures.rule c.in-Finished.is)

pub do_round-requires-clause-left : goal.do_round-requires-clause-left
do_round-requires-clause-left g c κs within = is_left c.args.self.now.locks _ c.in_ok-round.round c.in_ok-round.ensures.rule c.in_default.not-Finished

pub returns-in-Err-clause-stopped : goal.returns-in-Err-clause-stopped
returns-in-Err-clause-stopped g c = λ setting base from state w.
    cut_stopped _ from (g.F.Files.holds c.args.files.now) (g.O.Sink.written c.args.out.now) (g.O.Sink.written c.do_round.new.out) (g.O.Sink.written c.cut_off.new.out) (state_of c.args.self.now) c.args.target.now c.in-Err.fault c.in-Err.ensures.refused c.cut_off.ensures.unsaid w (c.in-Err.ensures.stopped setting base from state w)

pub returns-in-Err-clause-stands : goal.returns-in-Err-clause-stands
returns-in-Err-clause-stands g c = λ failed setting base from state w.
    cut_stands _ from (g.F.Files.holds c.args.files.now) (g.F.Files.holds c.do_round.new.files) (g.O.Sink.written c.args.out.now) (g.O.Sink.written c.do_round.new.out) (g.O.Sink.written c.cut_off.new.out) (state_of c.args.self.now) c.args.target.now c.do_round.new.target c.in-Err.fault c.cut_off.result
    (err_is failed) c.cut_off.ensures.told c.in-Err.ensures.refused c.cut_off.ensures.unsaid w (λ sank. c.do_round.ensures.stands (c.in-Err.is ∙ ap Err sank) setting base from state w)

pub returns-in-Err-clause-refused : goal.returns-in-Err-clause-refused
returns-in-Err-clause-refused g c = cut_never (g.F.Files.holds c.args.files.now) c.in-Err.fault c.cut_off.result c.cut_off.ensures.told c.in-Err.ensures.refused

pub returns-in-Err-clause-damaged : goal.returns-in-Err-clause-damaged
returns-in-Err-clause-damaged g c = cut_damage (g.O.Sink.written c.args.out.now) (g.O.Sink.written c.do_round.new.out) (g.O.Sink.written c.cut_off.new.out) c.in-Err.fault c.cut_off.result c.cut_off.ensures.told c.in-Err.ensures.unsaid c.cut_off.ensures.printed

pub returns-in-Err-clause-file : goal.returns-in-Err-clause-file
returns-in-Err-clause-file g c = cut_file _ _ _ c.do_round.result c.in-Err.fault c.cut_off.result refl c.in-Err.is c.cut_off.ensures.told c.do_round.ensures.file

pub returns-in-Err-clause-sink : goal.returns-in-Err-clause-sink
returns-in-Err-clause-sink g c = cut_sink _ (g.O.Sink.faults c.do_round.new.out) _ _ c.do_round.result c.in-Err.fault c.cut_off.result refl c.in-Err.is c.cut_off.ensures.told c.cut_off.ensures.later c.cut_off.ensures.sink c.do_round.ensures.sink

pub returns-in-Finished-clause-extends : goal.returns-in-Finished-clause-extends
returns-in-Finished-clause-extends g c = extends_none (g.O.Sink.written c.args.out.now)

pub returns-in_err-round-clause-carried : goal.returns-in_err-round-clause-carried
returns-in_err-round-clause-carried g c = carried_none (g.F.Files.holds c.args.files.now) (g.F.Files.holds c.args.files.now) c.args.target.now refl c.requires.kept

pub returns-in-Finished-clause-carried : goal.returns-in-Finished-clause-carried
returns-in-Finished-clause-carried g c = carried_none (g.F.Files.holds c.args.files.now) (g.F.Files.holds c.args.files.now) c.args.target.now refl c.requires.kept

pub returns-in_err-round-clause-idle : goal.returns-in_err-round-clause-idle
returns-in_err-round-clause-idle g c = leaves_none (g.F.Files.holds c.args.files.now) (g.F.Files.holds c.args.files.now) c.args.target.now c.args.lines.now refl

pub returns-in-Finished-clause-idle : goal.returns-in-Finished-clause-idle
returns-in-Finished-clause-idle g c = leaves_none (g.F.Files.holds c.args.files.now) (g.F.Files.holds c.args.files.now) c.args.target.now c.args.lines.now refl
