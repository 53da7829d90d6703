use Rattle.std.proofs.Common.{◌≡◌, ◌≤◌, take}
use Rattle.myi_base.specs.Holding.{Told, OthersStay}
use Rattle.myi_search.specs.Counting.{CountsOn}
use Rattle.myi_insertion.specs.Rooms.{IsWhole}
use Rattle.myi_keytrees.specs.Trees.{SameKinds}
use Rattle.myi_keytrees.specs.Standing.{StandThen, IfStand}
use Rattle.myi_rowtrees.specs.RowLists.{put_each, LackPointers}
use Rattle.myi_rowtrees.proofs.changes.put_row.Given as goal

-- the first so many pairs were put
abbrev pub invariant-loop-i : goal.invariant-loop-i
invariant-loop-i g l = record {
  put : IfStand (g.F.Files.holds l.fn.files) l.fn.trees (λ m own lists. LackPointers l.pairs lists
      → StandThen l.fn.trees m own (g.F.Files.holds l.files) l.trees (put_each (take l.i l.pairs) lists));
  kinds : SameKinds l.fn.trees.places l.trees.places;
  whole : IsWhole l.trees.room;
  counted : CountsOn l.fn.trees.cache l.trees.cache;
  others : Told (g.F.Files.holds l.fn.files) (g.F.Files.holds l.files) (OthersStay l.fn.trees.cache.name);
  name : l.trees.cache.name ≡ l.fn.trees.cache.name;
  faults : g.F.Files.faults l.fn.files ≤ g.F.Files.faults l.files;
  reads : g.F.Files.reads l.fn.files ≤ g.F.Files.reads l.files;
}
