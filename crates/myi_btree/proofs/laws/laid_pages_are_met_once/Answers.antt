use Rattle.myi_btree.proofs.LaidRanges.{walks_once}
use Rattle.myi_btree.proofs.BuildClear.{root_some}
use Rattle.myi_btree.proofs.laws.laid_pages_are_met_once.Goals as goal

pub returns : goal.returns
returns c = record { once = walks_once; root = root_some }
