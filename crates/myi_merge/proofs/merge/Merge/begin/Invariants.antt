use Rattle.std.proofs.Common.{◌≡◌, ◌≤◌, [], take}
use Rattle.std.specs.List.{AllByRecursion}
use Rattle.myi_table.specs.Reading.{IsSameReading, begun}
use Rattle.myi_merge.specs.declared.ranges.Reading.{Reading}
use Rattle.myi_merge.specs.Merged.{IfHoldEach}
use Rattle.myi_merge.specs.Reading.{AreCarried}
use Rattle.myi_merge.specs.Merging.{ReadEach, ReadInFewEach, SearchesOnce, AheadEach}
use Rattle.myi_merge.proofs.merge.Merge.begin.Given as goal

abbrev pub invariant-loop-index : goal.invariant-loop-index
invariant-loop-index g l = record {
  each : IfHoldEach (g.F.Files.holds l.fn.files) l.fn.self.tables (λ m ss. ReadEach l.range 1 (take l.index l.fn.self.tables) (take l.index ss) l.readings.items []);
  few : IfHoldEach (g.F.Files.holds l.fn.files) l.fn.self.tables (λ m ss. ReadInFewEach l.range 1 (take l.index l.fn.self.tables) (take l.index ss) l.readings.items [] (g.F.Files.reads l.fn.files) (g.F.Files.reads l.files));
  once : AllByRecursion (λ (r : Reading). SearchesOnce r.rows r.head) l.readings.items;
  same : AllByRecursion (λ (r : Reading). IsSameReading (begun l.range) r.rows) l.readings.items;
  ahead : AheadEach (g.F.Files.holds l.files) (take l.index l.self.tables) l.readings.items;
  carried : AreCarried (g.F.Files.holds l.fn.files) (g.F.Files.holds l.files) l.fn.self.tables l.self.tables;
  method : l.self.method ≡ l.fn.self.method;
  later : g.F.Files.faults l.fn.files ≤ g.F.Files.faults l.files;
}
