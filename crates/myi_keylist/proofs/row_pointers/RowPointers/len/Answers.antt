use Rattle.std.proofs.Common.{arith}
use Rattle.myi_keylist.proofs.RunLaws.{run_long}
use Rattle.myi_keylist.proofs.row_pointers.RowPointers.len.Goals as goal

pub returns : goal.returns
returns c = omega (arith, c.len.ensures, c.self.inside.others.ok.0, run_long c.self.inside.same c.self.inside.others.items c.args.self.now c.self.view_is)
