use Rattle.std.proofs.Common.{◌≡◌, ◌+◌, ◌≤◌, ◌++◌, map, take, drop}
use Rattle.myi_merge.specs.Merged.{AreWhole, IfHoldEach}
use Rattle.myi_merge.specs.Reading.{answered, all_rows}
use Rattle.myi_merge.proofs.merge.Merge.scan.Given as goal

abbrev pub invariant-loop-table : goal.invariant-loop-table
invariant-loop-table g l = record {
  number : l.number ≡ l.table-index;
  whole : AreWhole (take l.table-index l.self.tables);
  so_far : IfHoldEach (g.F.Files.holds l.fn.files) l.self.tables (λ m ss. l.found.items ++ map answered (all_rows (l.number + 1) (drop l.table-index ss)) ≡ map answered (all_rows 1 ss));
  holds : g.F.Files.holds l.files ≡ g.F.Files.holds l.fn.files;
  later : g.F.Files.faults l.fn.files ≤ g.F.Files.faults l.files;
}
