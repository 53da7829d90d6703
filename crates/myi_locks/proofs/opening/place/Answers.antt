use Rattle.std.proofs.Common.{arith, sym, ◌∙◌}
use Rattle.myi_locks.proofs.PlacingLemmas.{placed_here}
use Rattle.myi_locks.proofs.opening.place.Goals as goal

pub returns-then-number-step-2 : goal.returns-then-number-step-2
returns-then-number-step-2 c =
    placed_here c.args.step.now c.args.sessions.now.items c.loop-at.at c.index_mut.result.now c.index-2.result.now _
    (omega arith) c.loop-at.invariant.same c.index_mut.ensures.value c.index-2.ensures (sym c.number-2.ensures ∙ c.if-number-step-2.true) c.in_ok-push-2.ensures
