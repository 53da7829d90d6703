use Rattle.std.proofs.Common.{◌≡◌, ◌≤◌, ◌-◌, List}
use Rattle.myi_base.specs.Holding.{IfTold}
use Rattle.myi_chain.specs.Readable.{Item}
use Rattle.myi_chain.specs.ScanModel.{IsSameScan}
use Rattle.myi_data.specs.Scanning.{IsAsKnown}
use Rattle.myi_check.proofs.MetLemmas.{Meeting}
use Rattle.myi_check.proofs.rows.meet_all.Given as goal

abbrev pub invariant-loop-met : goal.invariant-loop-met
invariant-loop-met g l = record {
  same : IsSameScan l.fn.scan l.scan;
  holds : g.F.Files.holds l.files ≡ g.F.Files.holds l.fn.files;
  current : IfTold (g.F.Files.holds l.files) (IsAsKnown l.scan);
  later : g.F.Files.faults l.fn.files ≤ g.F.Files.faults l.files;
  keys : l.met.with_keys ≡ l.fn.noting.with_keys;
  together : l.met.together ≡ l.fn.noting.together;
  came : List Item;
  so_far : Meeting l.defs l.fn.noting.together (g.F.Files.holds l.fn.files) l.fn.scan l.scan came l.met;
}

abbrev pub decreases-loop-met : goal.decreases-loop-met
decreases-loop-met g l = l.scan.end - l.scan.place
