use Rattle.myi_shell.proofs.ThreadLemmas.{one_gone, one_carried, one_touched, one_never, one_idle}
use Rattle.myi_shell.proofs.beside.go_on.Goals as goal

pub returns-clause-gone : goal.returns-clause-gone
returns-clause-gone g c = one_gone (g.F.Files.holds c.args.files.now) (g.F.Files.holds c.go_side_by_side.new.files) c.args.table.now c.go_side_by_side.new.table c.args.asked.now c.go_side_by_side.result c.go_side_by_side.ensures.gone

pub returns-clause-carried : goal.returns-clause-carried
returns-clause-carried g c =
    one_carried (g.F.Files.holds c.args.files.now) (g.F.Files.holds c.go_side_by_side.new.files) c.args.table.now c.go_side_by_side.new.table
    c.go_side_by_side.ensures.kept c.go_side_by_side.ensures.same c.go_side_by_side.ensures.others c.go_side_by_side.ensures.counts

pub returns-clause-touched : goal.returns-clause-touched
returns-clause-touched g c =
    one_touched (g.F.Files.holds c.args.files.now) (g.F.Files.holds c.go_side_by_side.new.files) c.args.table.now c.go_side_by_side.new.table c.go_side_by_side.result
    c.go_side_by_side.ensures.same c.go_side_by_side.ensures.rows c.go_side_by_side.ensures.unchanged c.go_side_by_side.ensures.changed

pub returns-clause-idle : goal.returns-clause-idle
returns-clause-idle g c =
    one_idle (g.F.Files.holds c.args.files.now) (g.F.Files.holds c.go_side_by_side.new.files) c.args.table.now c.args.asked.now.lines.now c.go_side_by_side.ensures.others c.go_side_by_side.ensures.idle

pub returns-clause-refused : goal.returns-clause-refused
returns-clause-refused g c = one_never (g.F.Files.holds c.args.files.now) c.args.table.now c.go_side_by_side.result c.requires.kept c.requires.whole c.go_side_by_side.ensures.cut
