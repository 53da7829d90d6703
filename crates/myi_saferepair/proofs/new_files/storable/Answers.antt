use Rattle.std.proofs.Common.{arith}
use Rattle.myi_saferepair.proofs.OpenLaws.{some_fits}
use Rattle.myi_saferepair.proofs.new_files.storable.Goals as goal

pub returns-clause-fits : goal.returns-clause-fits
returns-clause-fits c = some_fits c.in-Some.at (omega arith) (λ e. absurd (omega (arith, c.if-at.false, e)))
