use Rattle.myi_snapshots.proofs.SeenLemmas.{by_number, by_earlier}
use Rattle.myi_snapshots.proofs.laws.snapshots_are_seen.Goals as goal

pub returns : goal.returns
returns c = record { number = by_number; earlier = by_earlier }
