use Rattle.std.proofs.Common.{◌≡◌, ◌≤◌, ◌-◌}
use Rattle.myi_base.specs.Holding.{IfTold}
use Rattle.myi_chain.specs.Source.{ReadsOn, MayFall}
use Rattle.myi_chain.specs.ScanModel.{PassesTo}
use Rattle.myi_chain.specs.Found.{met_at, MeetsShortAt}
use Rattle.myi_chain.proofs.step.advance.Given as goal

abbrev pub invariant-loop-position : goal.invariant-loop-position
invariant-loop-position g l = record {
  later : l.fn.position.place ≤ l.position.place;
  within : l.position.place ≤ l.source.end;
  used : l.position.used ≡ l.fn.position.used;
  holds : g.F.Files.holds l.files ≡ g.F.Files.holds l.fn.files;
  faults : g.F.Files.faults l.fn.files ≤ g.F.Files.faults l.files;
  reads : ReadsOn (g.F.Files.holds l.fn.files) l.fn.source l.source;
  falls : MayFall l.position.place l.fn.source l.source;
  passed : IfTold (g.F.Files.holds l.fn.files) (λ m. PassesTo l.wanted
      (met_at l.rules.extend (g.A.Accepts.accepts_gives l.rules.test) l.fn.source l.fn.position m)
      (met_at l.rules.extend (g.A.Accepts.accepts_gives l.rules.test) l.fn.source l.position m));
  short : IfTold (g.F.Files.holds l.fn.files) (λ m.
      MeetsShortAt (g.A.Accepts.accepts_gives l.rules.test) l.fn.source l.fn.position m → l.position ≡ l.fn.position);
}

abbrev pub decreases-loop-position : goal.decreases-loop-position
decreases-loop-position g l = l.source.end - l.position.place
