use Rattle.std.proofs.Common.{◌≡◌, take}
use Rattle.std.specs.List.{AllByRecursion}
use Rattle.myi_btree.specs.Sizes.{IsPlaced}
use Rattle.myi_table.proofs.table.Table.places.Given as goal

abbrev pub invariant-loop-key : goal.invariant-loop-key
invariant-loop-key l = record {
  places : l.places.items ≡ take l.key l.trees.places;
  placed : AllByRecursion IsPlaced l.places.items;
}
