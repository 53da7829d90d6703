use Rattle.std.proofs.Common.{arith}
use Rattle.myi_inserter.proofs.InsertLemmas.{far_off}
use Rattle.myi_inserter.proofs.inserter.TableInserter.end_with.Goals as goal

pub returns-in_default-clause-long : goal.returns-in_default-clause-long
returns-in_default-clause-long c = far_off c.args.self.now.defs _ (omega (arith, c.in_default.ensures, c.size_of.ensures))
