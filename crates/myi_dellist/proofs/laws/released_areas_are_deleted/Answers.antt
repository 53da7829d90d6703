use Rattle.myi_dellist.proofs.ReleaseLemmas.{below-release, holes-release_all}
use Rattle.myi_dellist.proofs.PlaceLemmas.{release-tile}
use Rattle.myi_dellist.proofs.laws.released_areas_are_deleted.Goals as goal

pub returns : goal.returns
returns c = record { bytes = below-release; tile = release-tile; sizes = holes-release_all }
