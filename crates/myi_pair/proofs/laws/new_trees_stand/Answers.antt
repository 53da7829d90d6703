use Rattle.myi_pair.proofs.NewIndexLaws.{room, index_long}
use Rattle.myi_pair.proofs.RebuiltLaws.{trees_stand}
use Rattle.myi_pair.proofs.laws.new_trees_stand.Goals as goal

pub returns : goal.returns
returns c = record { room = room; long = index_long; trees = trees_stand }
