use Rattle.std.proofs.Common.{◌<◌, subst}
use Rattle.myi_btree.specs.Sizes.{IsPlaced}
use Rattle.myi_table.proofs.AgainLemmas.{places_go_on, all_go_on}
use Rattle.myi_table.proofs.table.Table.places.Goals as goal

pub loop-key-preserved : goal.loop-key-preserved
loop-key-preserved c = record {
  places = places_go_on c.self.inside.rows.trees.places c.loop-key.key c.place.result c.loop-key.places.items c.push.new.self.items (subst (λ n. c.loop-key.key < n) c.count-key-end.ensures c.loop-key-test.true) c.place.ensures.place c.in_ok-push.ensures.items c.loop-key.invariant.places;
  placed = all_go_on IsPlaced c.loop-key.places.items c.push.new.self.items c.place.result c.in_ok-push.ensures.items c.loop-key.invariant.placed c.place.ensures.placed;
}
