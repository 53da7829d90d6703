use Rattle.myi_locks.proofs.HeldLemmas.{held_by_steps, none_held}
use Rattle.myi_locks.proofs.laws.locks_follow_steps.Goals as goal

pub returns : goal.returns
returns c = record { opening = none_held; round = held_by_steps }
