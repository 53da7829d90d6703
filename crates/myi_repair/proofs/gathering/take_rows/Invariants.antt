use Rattle.std.proofs.Common.{◌≡◌, ◌≤◌, ◌-◌, List}
use Rattle.myi_base.specs.Holding.{IfTold, Told, OthersStay}
use Rattle.myi_chain.specs.ScanModel.{IsSameScan}
use Rattle.myi_data.specs.Scanning.{IsAsKnown}
use Rattle.myi_data.specs.Stored.{SizedRow}
use Rattle.myi_rowkeys.specs.RowLists.{number_pairs}
use Rattle.myi_repair.specs.Gathering.{all_chosen}
use Rattle.myi_repair.proofs.GatherLaws.{Taking}
use Rattle.myi_repair.proofs.gathering.take_rows.Given as goal

abbrev pub invariant-loop-keys : goal.invariant-loop-keys
invariant-loop-keys g l = record {
  same : IsSameScan l.fn.scan l.scan;
  current : IfTold (g.F.Files.holds l.files) (IsAsKnown l.scan);
  later : g.F.Files.faults l.fn.files ≤ g.F.Files.faults l.files;
  others : Told (g.F.Files.holds l.fn.files) (g.F.Files.holds l.files) (OthersStay l.file);
  came : List SizedRow;
  so_far : Taking l.defs l.fn.scan l.scan l.file all_chosen came l.rows (g.F.Files.holds l.fn.files) (g.F.Files.holds l.files);
  lists : l.keys ≡ number_pairs l.defs came;
}

abbrev pub decreases-loop-keys : goal.decreases-loop-keys
decreases-loop-keys g l = l.scan.end - l.scan.place
