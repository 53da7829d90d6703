use Rattle.std.proofs.Common.{arith}
use Rattle.myi_pack.proofs.RowLaws.{view-packs}
use Rattle.myi_pack.proofs.row.view.Goals as goal

pub returns-clause-packs : goal.returns-clause-packs
returns-clause-packs c = view-packs c.args.defs.now c.args.bytes.now c.find_row.result c.requires.lengths (λ i. omega (arith, c.type_inv.bytes i)) c.find_row.ensures
