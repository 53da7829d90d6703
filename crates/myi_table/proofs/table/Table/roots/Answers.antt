use Rattle.std.proofs.Common.{◌<◌, subst}
use Rattle.myi_table.proofs.CloseLemmas.{roots_more, places_more}
use Rattle.myi_table.proofs.table.Table.roots.Goals as goal

pub loop-key-preserved : goal.loop-key-preserved
loop-key-preserved c = record {
  roots = roots_more c.self.inside.rows.trees.places c.loop-key.key c.place.result c.in_ok-checked.field-0 c.loop-key.roots.items c.push.new.self.items (subst (λ n. c.loop-key.key < n) c.count-key-end.ensures c.loop-key-test.true) c.place.ensures.place c.in_ok-checked.ensures.same c.in_ok-push.ensures.items c.loop-key.invariant.roots;
  places = places_more c.loop-key.roots.items c.push.new.self.items c.in_ok-checked.field-0 c.in_ok-push.ensures.items c.loop-key.invariant.places c.in_ok-checked.ensures.place;
}
