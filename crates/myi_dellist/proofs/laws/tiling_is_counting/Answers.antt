use Rattle.myi_dellist.proofs.AreaLemmas.{covered-tile, tile-apart, tile-inside, tile-holds}
use Rattle.myi_dellist.proofs.laws.tiling_is_counting.Goals as goal

pub returns : goal.returns
returns c = record { counted = covered-tile; apart = tile-apart; inside = tile-inside; holds = tile-holds }
