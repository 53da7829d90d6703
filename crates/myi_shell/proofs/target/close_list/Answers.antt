use Rattle.myi_shell.proofs.IdleLemmas.{rows_shut}
use Rattle.myi_shell.proofs.target.close_list.Goals as goal

pub returns-clause-rows : goal.returns-clause-rows
returns-clause-rows g c = rows_shut (g.F.Files.holds c.args.files.now) (g.F.Files.holds c.close.new.files) c.args.merge.tables c.close.result c.close.ensures.rows c.close.ensures.stops
