use Rattle.myisamkit.specs.Lines as spec
use Rattle.std.proofs.Common.{◌++◌}
use Rattle.myisamkit.specs.Dumps.{reason}
use Rattle.myisamkit.proofs.SinkLaws.{nothing_said, on_err}
use Rattle.myisamkit.proofs.dump.refuse.Goals as goal

pub returns-in_err-text-clause-part : goal.returns-in_err-text-clause-part
returns-in_err-text-clause-part g c = on_err c.from_residual.result _ (nothing_said (spec.finding_line c.args.name.now c.args.finding ++ reason c.args.name.now c.args.finding) (g.O.Sink.written c.args.out.now))
