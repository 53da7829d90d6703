use Rattle.myi_shell.proofs.DamageLemmas.{prints_damage}
use Rattle.myi_shell.proofs.script_run.ScriptRun.cut_off.Goals as goal

pub returns-in-Ok-clause-printed : goal.returns-in-Ok-clause-printed
returns-in-Ok-clause-printed g c = prints_damage (g.O.Sink.written c.args.out.now) (g.O.Sink.written c.write.new.out) c.args.self.now.texts c.args.fault c.requires.noted c.in-Ok.ensures.each
