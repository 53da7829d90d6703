use Rattle.std.proofs.Common.{◌≡◌, take, map}
use Rattle.std.specs.List.{AllByRecursion}
use Rattle.myi_btree.specs.declared.place.Place.{Place}
use Rattle.myi_saferepair.specs.Filling.{RootFits}
use Rattle.myi_saferepair.proofs.new_files.roots_of.Given as goal

-- the roots of the first so many trees stand in the list
abbrev pub invariant-loop-key : goal.invariant-loop-key
invariant-loop-key l = record {
  roots : l.roots.items ≡ map (λ (p : Place). p.root) (take l.key l.trees.places);
  fits : AllByRecursion RootFits l.roots.items;
}
