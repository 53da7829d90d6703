use Rattle.std.proofs.Common.{◌≡◌, ◌≤◌, ◌-◌, List}
use Rattle.myi_base.specs.Holding.{IfTold}
use Rattle.myi_pair.specs.KeyList.{PlacedRow}
use Rattle.myi_chain.specs.ScanModel.{IsSameScan}
use Rattle.myi_data.specs.Scanning.{IsAsKnown}
use Rattle.myi_order.proofs.ReadLaws.{Reading}
use Rattle.myi_order.proofs.rows_read.read_all.Given as goal

abbrev pub invariant-loop-read : goal.invariant-loop-read
invariant-loop-read g l = record {
  same : IsSameScan l.fn.scan l.scan;
  holds : g.F.Files.holds l.files ≡ g.F.Files.holds l.fn.files;
  current : IfTold (g.F.Files.holds l.files) (IsAsKnown l.scan);
  later : g.F.Files.faults l.fn.files ≤ g.F.Files.faults l.files;
  came : List PlacedRow;
  so_far : Reading l.defs (g.F.Files.holds l.fn.files) l.fn.scan l.scan came l.read;
}

abbrev pub decreases-loop-read : goal.decreases-loop-read
decreases-loop-read g l = l.scan.end - l.scan.place
