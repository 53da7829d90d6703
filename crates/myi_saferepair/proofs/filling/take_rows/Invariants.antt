use Rattle.std.proofs.Common.{◌≡◌, ◌≤◌, ◌-◌, length}
use Rattle.myi_base.specs.Holding.{IfTold, Told}
use Rattle.myi_chain.specs.ScanModel.{IsSameScan}
use Rattle.myi_data.specs.Scanning.{IsAsKnown}
use Rattle.myi_saferepair.specs.Filling.{IsFit, WritesBoth}
use Rattle.myi_saferepair.proofs.FillLaws.{Filling}
use Rattle.myi_saferepair.proofs.filling.take_rows.Given as goal

abbrev pub invariant-loop-pairs : goal.invariant-loop-pairs
invariant-loop-pairs g l = record {
  same : IsSameScan l.fn.scan l.scan;
  current : IfTold (g.F.Files.holds l.files) (IsAsKnown l.scan);
  later : g.F.Files.faults l.fn.files ≤ g.F.Files.faults l.files;
  others : Told (g.F.Files.holds l.fn.files) (g.F.Files.holds l.files) (WritesBoth l.file l.fn.new.trees.cache.name);
  name : l.new.trees.cache.name ≡ l.fn.new.trees.cache.name;
  fit : IsFit l.defs l.new;
  each : length l.pairs ≡ length l.defs.keys;
  so_far : Filling l.defs l.fn.scan l.scan l.file l.repeats l.new (g.F.Files.holds l.fn.files) (g.F.Files.holds l.files);
}

abbrev pub decreases-loop-pairs : goal.decreases-loop-pairs
decreases-loop-pairs g l = l.scan.end - l.scan.place
