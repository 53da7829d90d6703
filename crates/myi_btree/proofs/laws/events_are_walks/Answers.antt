use Rattle.myi_btree.specs.CachedTrees.{node_lent}
use Rattle.myi_btree.proofs.EventLaws.{meets_once}
use Rattle.myi_btree.proofs.EventWalks.{meets_walk, walk_meets}
use Rattle.myi_btree.proofs.NodeShape.{lent_shape}
use Rattle.myi_btree.proofs.laws.events_are_walks.Goals as goal

pub returns : goal.returns
returns c = record {
  once = meets_once;
  walk = meets_walk;
  met = λ block read place w nodes has. let m = walk_meets block read place w nodes has in (m.events, m.meets, m.none, m.is);
  lent = λ place cache m at es meets none. meets_walk place.block_length (node_lent place cache m) at es (lent_shape place cache m) meets none;
  lent_met = λ place cache m at w has. let k = walk_meets place.block_length (node_lent place cache m) at w (lent_shape place cache m) has in (k.events, k.meets, k.none, k.is);
}
