use Rattle.std.proofs.Common.{◌≡◌, ◌≤◌, ◌-◌, ℕ}
use Rattle.myi_base.specs.Holding.{IfTold}
use Rattle.myi_data.specs.Scanning.{IsAsKnown, rows_ahead}
use Rattle.myi_blocks.specs.Places.{begins_at}
use Rattle.myi_blocks.specs.Noting.{is_met}
use Rattle.myi_blocks.proofs.places.note_rows.Given as goal

abbrev pub invariant-loop : goal.invariant-loop
invariant-loop g l = record {
  holds : g.F.Files.holds l.files ≡ g.F.Files.holds l.fn.files;
  later : g.F.Files.faults l.fn.files ≤ g.F.Files.faults l.files;
  current : IfTold (g.F.Files.holds l.files) (IsAsKnown l.scan);
  so_far : IfTold (g.F.Files.holds l.fn.files) (λ m. (p : ℕ) → is_met p l.places.keys (rows_ahead l.scan m) ≡ begins_at p (rows_ahead l.fn.scan m));
}

abbrev pub decreases-loop : goal.decreases-loop
decreases-loop g l = l.scan.end - l.scan.place
