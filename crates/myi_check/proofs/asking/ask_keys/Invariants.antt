use Rattle.std.proofs.Common.{◌≡◌, ◌≤◌, ◌+◌, List, ℕ, Some}
use Rattle.std.specs.Prelude.{All}
use Rattle.myi_base.specs.Holding.{IfTold}
use Rattle.myi_header.specs.StateOf.{state_of}
use Rattle.myi_check.specs.Rows.{IsScanned, rows_in}
use Rattle.myi_check.specs.WalksBusy.{HasBytes}
use Rattle.myi_check.specs.Keys.{HasSoFar}
use Rattle.myi_check.specs.Sections.{AreInOrder}
use Rattle.myi_check.proofs.asking.ask_keys.Given as goal

abbrev pub invariant-loop-key : goal.invariant-loop-key
invariant-loop-key g l = record {
  number : l.found.number ≡ l._key + 1;
  sized : All HasBytes l.found.busy.trees.items;
  order : AreInOrder 2 (1 + l.found.number) l.found.findings.items;
  holds : g.F.Files.holds l.files ≡ g.F.Files.holds l.fn.files;
  faults : g.F.Files.faults l.fn.files ≤ g.F.Files.faults l.files;
  so_far : IfTold (g.F.Files.holds l.fn.files) (λ m. (x d : List ℕ) → m l.fn.index ≡ Some x → m l.file.name.now ≡ Some d → l.roots ≡ (state_of l.defs x).roots
      → IsScanned l.defs l.file d → HasSoFar l.defs x (rows_in l.defs d) l._key l.found);
}
