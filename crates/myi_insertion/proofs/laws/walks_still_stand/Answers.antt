use Rattle.myi_insertion.proofs.FrameLaws.{same_walk}
use Rattle.myi_insertion.proofs.laws.walks_still_stand.Goals as goal

pub returns : goal.returns
returns c = same_walk
