use Rattle.std.proofs.Common.{◌≡◌, ◌-◌, ◌^◌, ◌≤◌, length, slice_get}
use Rattle.std.specs.Prelude.{IfSome}
use Rattle.std.specs.List.{AllByRecursion}
use Rattle.myi_table.specs.Table.{OpenTable, defs_in}
use Rattle.myi_table.specs.Reading.{IsSameReading, begun}
use Rattle.myi_merge.specs.declared.ranges.Reading.{Reading}
use Rattle.myi_merge.specs.Merged.{IfHoldEach}
use Rattle.myi_merge.specs.Reading.{AreCarried}
use Rattle.myi_merge.specs.Merging.{AheadEach, SearchesOnce}
use Rattle.myi_merge.proofs.RangeLemmas.{MergesTo}
use Rattle.myi_merge.proofs.merge.Merge.range.Given as goal

abbrev pub invariant-loop-index : goal.invariant-loop-index
invariant-loop-index g l = record {
  merges : IfHoldEach (g.F.Files.holds l.fn.files) l.fn.self.tables (λ m ss. IfSome (slice_get l.fn.self.tables 0) (λ (f : OpenTable). MergesTo (defs_in f) l.range l.fn.self.tables ss l.readings.items (g.F.Files.reads l.fn.files) (g.F.Files.reads l.files) l.found.items));
  once : AllByRecursion (λ (r : Reading). SearchesOnce r.rows r.head) l.readings.items;
  same : AllByRecursion (λ (r : Reading). IsSameReading (begun l.range) r.rows) l.readings.items;
  ahead : AheadEach (g.F.Files.holds l.files) l.self.tables l.readings.items;
  carried : AreCarried (g.F.Files.holds l.fn.files) (g.F.Files.holds l.files) l.fn.self.tables l.self.tables;
  method : l.self.method ≡ l.fn.self.method;
  later : g.F.Files.faults l.fn.files ≤ g.F.Files.faults l.files;
}

-- memory has an end, also where files tell nothing
abbrev pub decreases-loop-index : goal.decreases-loop-index
decreases-loop-index g l = 2 ^ 64 - length l.found.items
