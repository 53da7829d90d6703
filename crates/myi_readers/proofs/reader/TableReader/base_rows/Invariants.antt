use Rattle.std.proofs.Common.{◌≡◌, ◌≤◌, ◌-◌, ◌++◌, map}
use Rattle.myi_base.specs.Holding.{IfTold}
use Rattle.myi_data.specs.Scanning.{IsAsKnown}
use Rattle.myi_tablestate.specs.Listed.{placed}
use Rattle.myi_keyedrows.specs.KeyedRows.{IfHold}
use Rattle.myi_table.specs.Reading.{rows_to_come}
use Rattle.myi_readers.specs.Placed.{placed_before}
use Rattle.myi_readers.proofs.reader.TableReader.base_rows.Given as goal

abbrev pub invariant-loop-rows : goal.invariant-loop-rows
invariant-loop-rows g l = record {
  test : l.scan.test ≡ l.self.defs;
  current : IfTold (g.F.Files.holds l.files) (IsAsKnown l.scan);
  holds : g.F.Files.holds l.files ≡ g.F.Files.holds l.fn.files;
  later : g.F.Files.faults l.fn.files ≤ g.F.Files.faults l.files;
  so_far : IfHold (g.F.Files.holds l.fn.files) l.self.rows (λ m own s. l.rows.items ++ placed_before l.below (rows_to_come l.scan m) ≡ placed_before l.below (map placed s.rows));
}

abbrev pub decreases-loop-rows : goal.decreases-loop-rows
decreases-loop-rows g l = l.scan.end - l.scan.place
