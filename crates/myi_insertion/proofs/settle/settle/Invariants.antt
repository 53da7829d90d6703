use Rattle.std.proofs.Common.{◌≡◌, ◌⊎◌, ℕ, ◌-◌, ◌<◌, ◌≤◌, Some, List, [], ◌∷◌, length, drop, not, eqb}
use Rattle.myi_base.specs.Holding.{Holding, Told, OthersStay}
use Rattle.myi_keypage.specs.Page.{IsPlace}
use Rattle.myi_keylist.specs.declared.pair.Pair.{Pair}
use Rattle.myi_btree.specs.CachedTrees.{node_lent}
use Rattle.myi_search.specs.Counting.{CountsOn}
use Rattle.myi_insertion.specs.Strips.{StandFor}
use Rattle.myi_insertion.specs.Rooms.{IsWhole}
use Rattle.myi_insertion.specs.CachedChanges.{CanChange}
use Rattle.myi_insertion.specs.Written.{CanWrite, AreSides}
use Rattle.myi_insertion.specs.Halves.{UseHalf}
use Rattle.myi_insertion.specs.Steps.{Settling}
use Rattle.myi_insertion.proofs.settle.settle.Given as goal

abbrev pub invariant-rest : goal.invariant-rest
invariant-rest g l = record {
  some : l.start < length l.page.pairs;
  total : l.total ≡ length l.page.pairs;
  can : CanWrite l.fn.setup.place.rec_ref (drop l.start l.page.pairs) l.children;
  node : l.node ≡ not (eqb (length l.children) 0);
  whole : IsWhole l.room;
  at_is : IsPlace l.at;
  buffer : length l.buffer.items ≡ l.fn.setup.place.block_length;
  filled : ((l.strip.places.items ≡ []) × (l.start ≡ 0) × (l.children ≡ l.page.children.items)) ⊎ UseHalf l.fn.setup.place l.node l.page.pairs (drop l.start l.page.pairs);
  sides : AreSides l.fn.setup.place.rec_ref l.fn.at l.at l.strip.places.items l.strip.separators;
  told : (m : Holding) → g.F.Files.holds l.fn.files ≡ Some m → (height : ℕ) (xs : List Pair) (below : List ℕ)
      → StandFor (node_lent l.fn.setup.place l.fn.cache m) height l.page.pairs l.page.children.items xs below → CanChange l.fn.setup.place l.fn.cache m (l.fn.at ∷ below) l.fn.room
      → Settling l.fn.setup.place l.fn.cache m (l.fn.at ∷ below) l.fn.room (g.F.Files.holds l.files) l.cache l.room l.at height xs l.strip.places.items l.strip.separators (drop l.start l.page.pairs) l.children;
  others : Told (g.F.Files.holds l.fn.files) (g.F.Files.holds l.files) (OthersStay l.fn.cache.name);
  name : l.cache.name ≡ l.fn.cache.name;
  counted : CountsOn l.fn.cache l.cache;
  later : g.F.Files.faults l.fn.files ≤ g.F.Files.faults l.files;
  reads : g.F.Files.reads l.fn.files ≤ g.F.Files.reads l.files;
}

abbrev pub decreases-rest : goal.decreases-rest
decreases-rest g l = length l.page.pairs - l.start
