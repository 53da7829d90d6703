use Rattle.std.proofs.Common.{◌≡◌, ◌≤◌, ◌%◌, length}
use Rattle.std.specs.Prelude.{All}
use Rattle.myi_base.specs.Holding.{Told}
use Rattle.myi_header.specs.StateOf.{IsPlace}
use Rattle.myi_sortindex.specs.Laying.{LaysFirst}
use Rattle.myi_sortindex.proofs.laying.lay_trees.Given as goal

-- the trees so far are laid
abbrev pub invariant-loop-i : goal.invariant-loop-i
invariant-loop-i g l = record {
  count : length l.laid.roots.items ≡ l.i;
  whole : l.laid.end % 1024 ≡ 0;
  few : l.laid.pages ≤ l.laid.end;
  places : All IsPlace l.laid.roots.items;
  later : g.F.Files.faults l.fn.files ≤ g.F.Files.faults l.files;
  laid : Told (g.F.Files.holds l.fn.files) (g.F.Files.holds l.files) (LaysFirst l.copy l.defs l.roots l.i l.laid);
}
