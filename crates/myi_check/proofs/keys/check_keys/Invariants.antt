use Rattle.std.proofs.Common.{◌≡◌, ◌≤◌, ◌+◌, List, ℕ, length, map, Some}
use Rattle.std.specs.Prelude.{All}
use Rattle.myi_base.specs.Holding.{IfTold}
use Rattle.myi_header.specs.StateOf.{state_of}
use Rattle.myi_pair.specs.FirstRows.{key_numbers}
use Rattle.myi_pair.specs.KeyList.{PlacedRow, pairs_of}
use Rattle.myi_check.specs.WalksBusy.{HasBytes}
use Rattle.myi_check.specs.Keys.{HasSoFar}
use Rattle.myi_check.specs.Sections.{AreInOrder}
use Rattle.myi_check.proofs.keys.check_keys.Given as goal

abbrev pub invariant-loop-pairs : goal.invariant-loop-pairs
invariant-loop-pairs g l = record {
  number : l.found.number ≡ length l.yielded + 1;
  sized : All HasBytes l.found.busy.trees.items;
  order : AreInOrder 2 (1 + l.found.number) l.found.findings.items;
  holds : g.F.Files.holds l.files ≡ g.F.Files.holds l.fn.files;
  faults : g.F.Files.faults l.fn.files ≤ g.F.Files.faults l.files;
  so_far : IfTold (g.F.Files.holds l.fn.files) (λ m. (x : List ℕ) (rows : List PlacedRow) → m l.index ≡ Some x → l.roots ≡ (state_of l.defs x).roots
      → l.fn.lists ≡ map (λ k. pairs_of l.defs k rows) (key_numbers l.defs) → HasSoFar l.defs x rows (length l.yielded) l.found);
}
