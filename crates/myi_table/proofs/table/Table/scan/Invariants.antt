use Rattle.std.proofs.Common.{◌≡◌, ◌≤◌, ◌-◌, ◌++◌, map}
use Rattle.myi_base.specs.Holding.{IfTold}
use Rattle.myi_data.specs.Scanning.{IsAsKnown}
use Rattle.myi_tablestate.specs.Listed.{placed}
use Rattle.myi_table.specs.Table.{defs_in, IfHolds}
use Rattle.myi_table.specs.Reading.{rows_to_come}
use Rattle.myi_table.proofs.table.Table.scan.Given as goal

abbrev pub invariant-loop-rows : goal.invariant-loop-rows
invariant-loop-rows g l = record {
  test : l.scan.test ≡ defs_in l.self;
  current : IfTold (g.F.Files.holds l.files) (IsAsKnown l.scan);
  holds : g.F.Files.holds l.files ≡ g.F.Files.holds l.fn.files;
  later : g.F.Files.faults l.fn.files ≤ g.F.Files.faults l.files;
  so_far : IfHolds (g.F.Files.holds l.fn.files) l.self (λ m s. l.rows.items ++ rows_to_come l.scan m ≡ map placed s.rows);
}

abbrev pub decreases-loop-rows : goal.decreases-loop-rows
decreases-loop-rows g l = l.scan.end - l.scan.place
