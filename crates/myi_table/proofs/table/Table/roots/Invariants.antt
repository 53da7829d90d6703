use Rattle.std.proofs.Common.{◌≡◌, map, take, All}
use Rattle.myi_header.specs.StateOf.{IsPlace}
use Rattle.myi_btree.specs.declared.place.Place.{Place}
use Rattle.myi_table.proofs.table.Table.roots.Given as goal

abbrev pub invariant-loop-key : goal.invariant-loop-key
invariant-loop-key l = record {
  roots : l.roots.items ≡ map (λ (p : Place). p.root) (take l.key l.trees.places);
  places : All IsPlace l.roots.items;
}
