use Rattle.std.proofs.Common.{arith}
use Rattle.myi_locks.proofs.PlacingLemmas.{map_step}
use Rattle.myi_locks.specs.Done.{after_any}
use Rattle.myi_locks.proofs.done.do_step.Goals as goal

pub loop-session-preserved : goal.loop-session-preserved
loop-session-preserved c =
    map_step (after_any c.args.step.now) c.args.sessions.now _ _ _ _ (omega arith) c.loop-session.invariant c.session-item.is c.step.ensures
