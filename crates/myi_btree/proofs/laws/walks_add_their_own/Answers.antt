use Rattle.myi_btree.proofs.ClearLaws.{adds_own, reads_own}
use Rattle.myi_btree.proofs.laws.walks_add_their_own.Goals as goal

pub returns : goal.returns
returns c = record { kept = adds_own; read = reads_own }
