use Rattle.myi_chain.proofs.ScanLemmas.{fresh_all, fresh_current, scan_ended, others_change}
use Rattle.myi_chain.proofs.laws.fresh_scans_have_all.Goals as goal

pub returns : goal.returns
returns g c = record {
  all = fresh_all g.A.Accepts.accepts_gives;
  current = fresh_current;
  ended = scan_ended g.A.Accepts.accepts_gives;
  others = others_change g.A.Accepts.accepts_gives;
}
