use Rattle.myi_dellist.proofs.OrderLemmas.{tiles-follow, follow-tiles}
use Rattle.myi_dellist.proofs.laws.tiling_is_following.Goals as goal

pub returns : goal.returns
returns c = record { follow = tiles-follow; tile = follow-tiles }
