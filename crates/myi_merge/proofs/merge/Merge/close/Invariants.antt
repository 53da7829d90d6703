use Rattle.std.proofs.Common.{◌≤◌, length, take, drop}
use Rattle.myi_merge.specs.Merged.{AreKept, AreWhole}
use Rattle.myi_merge.specs.Changing.{ChangesTheirOwn}
use Rattle.myi_merge.proofs.CloseLemmas.{ClosingSoFar, StopsAt}
use Rattle.myi_merge.proofs.merge.Merge.close.Given as goal

abbrev pub invariant-loop-table : goal.invariant-loop-table
invariant-loop-table g l = record {
  so_far : ClosingSoFar (g.F.Files.holds l.fn.files) (g.F.Files.holds l.files) (length l.yielded) l.fn.self.tables;
  stops : StopsAt (g.F.Files.holds l.fn.files) (g.F.Files.holds l.files) (length l.yielded) l.fn.self.tables;
  kept : AreKept (g.F.Files.holds l.files) (drop (length l.yielded) l.fn.self.tables);
  whole : AreWhole (take (length l.yielded) l.fn.self.tables);
  others : ChangesTheirOwn (g.F.Files.holds l.fn.files) (g.F.Files.holds l.files) l.fn.self.tables;
  later : g.F.Files.faults l.fn.files ≤ g.F.Files.faults l.files;
}
