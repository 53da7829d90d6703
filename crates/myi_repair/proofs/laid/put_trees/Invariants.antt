use Rattle.std.proofs.Common.{◌≤◌, List, length}
use Rattle.myi_base.specs.Holding.{Told, OthersStay, bytes_of}
use Rattle.myi_keylist.specs.declared.pair.Pair.{Pair}
use Rattle.myi_repair.specs.LaidInMemory.{AreTreesOf}
use Rattle.myi_repair.proofs.TreeLaws.{AreLaidTo, HoldsTo}
use Rattle.myi_repair.proofs.laid.put_trees.Given as goal

abbrev pub invariant-loop-tree : goal.invariant-loop-tree
invariant-loop-tree g l = record {
  laid : (pairs : List (List Pair)) → AreTreesOf l.defs pairs l.fn.laid.items → AreLaidTo l.defs pairs (length l.yielded) l.trees.end l.trees.roots.items;
  told : (pairs : List (List Pair)) → AreTreesOf l.defs pairs l.fn.laid.items → Told (g.F.Files.holds l.fn.files) (g.F.Files.holds l.files) (λ m n. HoldsTo l.defs pairs (length l.yielded) l.trees.end (bytes_of l.file n));
  others : Told (g.F.Files.holds l.fn.files) (g.F.Files.holds l.files) (OthersStay l.file);
  later : g.F.Files.faults l.fn.files ≤ g.F.Files.faults l.files;
}
