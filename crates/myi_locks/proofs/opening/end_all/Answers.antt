use Rattle.std.proofs.Common.{arith}
use Rattle.myi_locks.proofs.PlacingLemmas.{map_step}
use Rattle.myi_locks.specs.Placing.{ended}
use Rattle.myi_locks.proofs.opening.end_all.Goals as goal

pub loop-session-preserved : goal.loop-session-preserved
loop-session-preserved c =
    map_step ended c.args.sessions.now.items _ _ _ _ (omega arith) c.loop-session.invariant c.session-item.is c.in_ok-end.ensures
