use Rattle.std.proofs.Common.{◌≡◌, ◌≤◌, ◌<◌, ℕ, true}
use Rattle.std.specs.Prelude.{slice_index}
use Rattle.myi_base.specs.Holding.{IfTold, bytes_of}
use Rattle.myi_pair.specs.Findings.{names_before}
use Rattle.myi_window.specs.Excerpt.{StandsIn}
use Rattle.myi_check.specs.ListWalk.{place_of, before_in, OfRows}
use Rattle.myi_check.proofs.whole_list.are_named.Given as goal

-- the blocks so far name what their marks say
abbrev pub invariant-loop-index : goal.invariant-loop-index
invariant-loop-index g l = record {
  holds : g.F.Files.holds l.files ≡ g.F.Files.holds l.fn.files;
  faults : g.F.Files.faults l.fn.files ≤ g.F.Files.faults l.files;
  stands : IfTold (g.F.Files.holds l.fn.files) (λ m. StandsIn l.heads.window (bytes_of l.rows m));
  named : IfTold (g.F.Files.holds l.fn.files) (λ m. OfRows l.defs l.end l.deleted (λ rows. (k : ℕ) → k < l.index → names_before l.defs rows (slice_index l.deleted k) (place_of 4 (before_in (slice_index l.marks k))) ≡ true) (bytes_of l.rows m));
}
