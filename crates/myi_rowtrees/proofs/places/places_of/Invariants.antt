use Rattle.std.proofs.Common.{◌≡◌, length}
use Rattle.std.specs.List.{AllByRecursion}
use Rattle.myi_btree.specs.declared.place.Place.{Place}
use Rattle.myi_btree.specs.Sizes.{IsPlaced}
use Rattle.myi_rowtrees.proofs.PlaceLemmas.{first_places}
use Rattle.myi_rowtrees.proofs.places.places_of.Given as goal

-- the places of the first so many keys stand in the list
abbrev pub invariant-loop-i : goal.invariant-loop-i
invariant-loop-i l = record {
  places : l.places.items ≡ first_places l.defs l.roots l.i;
  placed : AllByRecursion IsPlaced l.places.items;
  each : length l.places.items ≡ l.i;
  pointers : AllByRecursion (λ (p : Place). p.rec_ref ≡ l.defs.rec_ref) l.places.items;
}
