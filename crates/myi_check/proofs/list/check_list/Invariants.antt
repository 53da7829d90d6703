use Rattle.std.proofs.Common.{◌≡◌, ◌≤◌, ◌+◌, ℕ, None, List, length}
use Rattle.myi_base.specs.Holding.{IfTold, bytes_of}
use Rattle.myi_pair.specs.Clean.{next_deleted}
use Rattle.myi_pair.specs.FirstBad.{list_bad}
use Rattle.myi_pair.specs.Findings.{names_before}
use Rattle.myi_window.specs.Excerpt.{StandsIn}
use Rattle.myi_placelist.specs.Places.{IsRising}
use Rattle.myi_check.specs.Rows.{ArePointed}
use Rattle.myi_check.specs.ListMet.{unmet}
use Rattle.myi_check.proofs.list.check_list.Given as goal

-- what is ahead of the walk says what is bad of the whole list
abbrev pub invariant-loop-step : goal.invariant-loop-step
invariant-loop-step g l = record {
  holds : g.F.Files.holds l.files ≡ g.F.Files.holds l.fn.files;
  faults : g.F.Files.faults l.fn.files ≤ g.F.Files.faults l.files;
  long : length l.met.items ≡ length l.deleted;
  stands : IfTold (g.F.Files.holds l.fn.files) (λ m. StandsIn l.heads.window (bytes_of l.rows m));
  ahead : (n : ℕ) → n + l._step ≡ length l.deleted → IfTold (g.F.Files.holds l.fn.files) (λ m. (d : List ℕ) → bytes_of l.rows m ≡ d → length d ≡ l.end → IsRising l.deleted → ArePointed l.defs l.end l.deleted
      → list_bad (next_deleted l.defs d) (names_before l.defs d) n (unmet l.deleted l.met.items) l.before l.at
      ≡ list_bad (next_deleted l.defs d) (names_before l.defs d) (length l.deleted) l.deleted None l.fn.head);
}
