use Rattle.std.proofs.Common.{sym, ◌∙◌}
use Rattle.myi_shell.specs.Stepping.{state_of}
use Rattle.myi_shell.proofs.ThreadLemmas.{in_one, went_beside}
use Rattle.myi_shell.proofs.script_run.ScriptRun.any_round.Goals as goal

pub returns-clause-done : goal.returns-clause-done
returns-clause-done g c =
    went_beside (g.F.Files.holds c.args.files.now) (g.F.Files.holds c.beside.new.files) c.args.target.now c.beside.new.target c.args.lines.now (state_of c.args.self.now) (state_of c.beside.new.self) c.args.counters c.in-Together.inserter c.in-Together.readers c.args.round.now c.steps_in-inserts.result.now c.as_slice.result.now c.beside.result
    c.in-Together.is c.steps_in-inserts.ensures c.as_slice.ensures (in_one c.args.target.now (sym c.is_list.ensures ∙ c.if-is_list.false)) c.beside.ensures.done
