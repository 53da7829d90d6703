use Rattle.std.proofs.Common.{◌∙◌, sym, arith}
use Rattle.myi_check.proofs.HeldLemmas.{with_none, put_touching, push_far}
use Rattle.myi_check.proofs.held_bytes.push_joined.Goals as goal
use Rattle.myi_check.proofs.held_bytes.push_joined.Goals.{else-count-gt0-via-then-count-gt0+else-touches, else-count-gt0-via-else-count-gt0}

pub returns-then-touches-clause-ok : goal.returns-then-touches-clause-ok
returns-then-touches-clause-ok c =
    put_touching c.args.ranges.now.items c.args.next c.len-count.result c.max.result c.index.result.now c.index-then-touches.result.now (omega (arith, c.if-count-gt0.true)) (omega (arith, c.len-count.ensures)) c.index.ensures c.index-then-touches.ensures (sym c.touches.ensures ∙ c.if-touches.true) (omega (arith, c.max.ensures))

pub returns-clause-ok : goal.returns-clause-ok
returns-clause-ok c =
    let rs = c.args.ranges.now.items in
    elim c.else-count-gt0.branch [
      | else-count-gt0-via-then-count-gt0+else-touches w ↦ c.in_ok-push.ensures.items ∙ sym (push_far rs c.args.next c.len-count.result w.index.result.now (omega (arith, w.if-count-gt0.true)) (omega (arith, c.len-count.ensures)) w.index.ensures (sym w.touches.ensures ∙ w.if-touches.false))
      | else-count-gt0-via-else-count-gt0 w ↦ c.in_ok-push.ensures.items ∙ sym (with_none rs c.args.next (omega (arith, c.len-count.ensures, w.if-count-gt0.false)))
    ]
