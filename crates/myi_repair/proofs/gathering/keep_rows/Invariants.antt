use Rattle.std.proofs.Common.{◌≤◌, ◌-◌, List}
use Rattle.myi_base.specs.Holding.{IfTold, Told, OthersStay}
use Rattle.myi_chain.specs.ScanModel.{IsSameScan}
use Rattle.myi_data.specs.Scanning.{IsAsKnown}
use Rattle.myi_data.specs.Stored.{SizedRow}
use Rattle.myi_repair.specs.Keeping.{is_chosen}
use Rattle.myi_repair.proofs.GatherLaws.{Taking}
use Rattle.myi_repair.proofs.gathering.keep_rows.Given as goal

abbrev pub invariant-loop-rows : goal.invariant-loop-rows
invariant-loop-rows g l = record {
  same : IsSameScan l.fn.scan l.scan;
  current : IfTold (g.F.Files.holds l.files) (IsAsKnown l.scan);
  later : g.F.Files.faults l.fn.files ≤ g.F.Files.faults l.files;
  others : Told (g.F.Files.holds l.fn.files) (g.F.Files.holds l.files) (OthersStay l.file);
  came : List SizedRow;
  so_far : Taking l.defs l.fn.scan l.scan l.file (is_chosen l.flags) came l.rows (g.F.Files.holds l.fn.files) (g.F.Files.holds l.files);
}

abbrev pub decreases-loop-rows : goal.decreases-loop-rows
decreases-loop-rows g l = l.scan.end - l.scan.place
