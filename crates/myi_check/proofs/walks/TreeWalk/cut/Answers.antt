use Rattle.std.proofs.Common.{true, refl}
use Rattle.myi_check.proofs.ShowsLaws.{apart_cut}
use Rattle.myi_check.proofs.walks.TreeWalk.cut.Goals as goal

pub returns-clause-shows : goal.returns-clause-shows
returns-clause-shows c = λ key pairs busy all left s. apart_cut key pairs busy c.args.self.now (record c.args.self.now { met = c.note_bad.new.self; is_cut = true }) c.args.at all left c.note_bad.ensures.noted refl s
