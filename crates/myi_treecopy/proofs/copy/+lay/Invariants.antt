use Rattle.std.proofs.Common.{◌≡◌, ◌+◌, ◌%◌, ◌≤◌, length, take, drop}
use Rattle.std.specs.List.{AllByRecursion}
use Rattle.myi_base.specs.Holding.{Told}
use Rattle.myi_keypage.specs.Page.{IsPlace}
use Rattle.myi_treecopy.specs.Turns.{CopiesChildren}
use Rattle.myi_treecopy.proofs.copy.+lay.Given as goal

abbrev pub decreases-lay : goal.decreases-lay
decreases-lay g l = l.levels

abbrev pub invariant-loop-i : goal.invariant-loop-i
invariant-loop-i g l = record {
  rest : drop l.i l.children.items ≡ drop l.i l.initial.children.items;
  count : length l.children.items ≡ length l.initial.children.items;
  places : AllByRecursion IsPlace (take l.i l.children.items);
  aligned : l.end % 1024 ≡ 0;
  low : l.fn.start + l.fn.tree.place.block_length ≤ l.end;
  inside : l.end ≤ l.fn.tree.limit;
  later : g.F.Files.faults l.fn.files ≤ g.F.Files.faults l.files;
  laid : Told (g.F.Files.holds l.fn.files) (g.F.Files.holds l.files) (CopiesChildren l.fn.tree (l.fn.start + l.fn.tree.place.block_length) l.end (take l.i l.initial.children.items) (take l.i l.children.items));
}
