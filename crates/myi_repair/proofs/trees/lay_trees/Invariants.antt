use Rattle.std.proofs.Common.{◌≡◌, ◌≤◌, length}
use Rattle.myi_base.specs.Holding.{Told}
use Rattle.myi_repair.proofs.TreeLaws.{AreLaidTo, LaysTo}
use Rattle.myi_repair.proofs.trees.lay_trees.Given as goal

abbrev pub invariant-loop-pairs : goal.invariant-loop-pairs
invariant-loop-pairs g l = record {
  count : length l.trees.roots.items ≡ length l.yielded;
  end : l.trees.end ≡ l.room.end;
  laid : AreLaidTo l.defs l.fn.pairs.items (length l.yielded) l.room.end l.trees.roots.items;
  told : Told (g.F.Files.holds l.fn.files) (g.F.Files.holds l.files) (LaysTo l.defs l.fn.pairs.items (length l.yielded) l.room.end l.fn.cache l.cache);
  name : l.cache.name ≡ l.fn.cache.name;
  later : g.F.Files.faults l.fn.files ≤ g.F.Files.faults l.files;
}
