use Rattle.std.proofs.Common.{◌≡◌, ◌≤◌, ◌-◌}
use Rattle.myi_base.specs.Holding.{IfTold}
use Rattle.myi_chain.specs.ScanModel.{IsSameScan}
use Rattle.myi_data.specs.Scanning.{IsAsKnown}
use Rattle.myi_dump.proofs.DumpLemmas.{Dumps}
use Rattle.myi_dump.proofs.row_lines.write_rows.Given as goal

abbrev pub invariant-loop-lines : goal.invariant-loop-lines
invariant-loop-lines g l = record {
  same : IsSameScan l.fn.scan l.scan;
  holds : g.F.Files.holds l.files ≡ g.F.Files.holds l.fn.files;
  current : IfTold (g.F.Files.holds l.files) (IsAsKnown l.scan);
  later : g.F.Files.faults l.fn.files ≤ g.F.Files.faults l.files;
  sink_later : g.O.Sink.faults l.fn.out ≤ g.O.Sink.faults l.out;
  so_far : Dumps l.defs (g.F.Files.holds l.fn.files) l.fn.scan l.scan l.lines.bytes.items (g.O.Sink.written l.fn.out) (g.O.Sink.written l.out);
}

abbrev pub decreases-loop-lines : goal.decreases-loop-lines
decreases-loop-lines g l = l.scan.end - l.scan.place
