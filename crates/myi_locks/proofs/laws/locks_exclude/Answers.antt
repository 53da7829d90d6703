use Rattle.myi_locks.proofs.ExclusionLemmas.{exclusive_opening, exclusive_kept, refused_alone}
use Rattle.myi_locks.proofs.laws.locks_exclude.Goals as goal

pub returns : goal.returns
returns c = record { opening = exclusive_opening; kept = exclusive_kept; refused = refused_alone }
