use Rattle.std.proofs.Common.{◌≡◌, ◌≤◌, ◌<◌, ℕ, false}
use Rattle.myi_base.specs.Holding.{Told, OthersStay}
use Rattle.myi_keytrees.specs.Standing.{IfStand, StillStand, CanSearch}
use Rattle.myi_saferepair.specs.Held.{is_held_at}
use Rattle.myi_saferepair.proofs.repeats.repeats_any.Given as goal

-- none of the first so many pairs has the complete key of another
abbrev pub invariant-loop-i : goal.invariant-loop-i
invariant-loop-i g l = record {
  none : IfStand (g.F.Files.holds l.fn.files) l.fn.trees (λ m own lists. (j : ℕ) → j < l.i → is_held_at l.defs l.pairs lists j ≡ false);
  stand : StillStand (g.F.Files.holds l.fn.files) (g.F.Files.holds l.files) l.fn.trees l.trees;
  places : l.trees.places ≡ l.fn.trees.places;
  room : l.trees.room ≡ l.fn.trees.room;
  others : Told (g.F.Files.holds l.fn.files) (g.F.Files.holds l.files) (OthersStay l.fn.trees.cache.name);
  name : l.trees.cache.name ≡ l.fn.trees.cache.name;
  search : CanSearch g.F.Files.writable (g.F.Files.holds l.files) l.trees;
  faults : g.F.Files.faults l.fn.files ≤ g.F.Files.faults l.files;
}
