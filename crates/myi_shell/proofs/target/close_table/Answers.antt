use Rattle.myi_base.specs.Holding.{IfTold}
use Rattle.myi_table.specs.Closing.{IsClosed}
use Rattle.myi_shell.proofs.TableTargets.{holds_one}
use Rattle.myi_shell.proofs.target.close_table.Goals as goal

pub returns-clause-closed : goal.returns-clause-closed
returns-clause-closed g c = holds_one (g.F.Files.holds c.args.files.now) c.args.table (λ m s. IfTold (g.F.Files.holds c.close.new.files) (IsClosed c.args.table s)) c.close.result c.close.ensures.closed
