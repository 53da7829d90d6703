use Rattle.std.proofs.Common.{◌≡◌, ℕ, ◌-◌, arith}
use Rattle.myi_keys.specs.Comparing.{key_front}
use Rattle.myi_order.proofs.CountLaws.{differ, pass, all_passed}
use Rattle.myi_order.proofs.prefixes.shared_segments.Goals as goal

pub loop-count-init : goal.loop-count-init
unfolding key_front
loop-count-init c = omega arith

pub returns-then-not-is_shared : goal.returns-then-not-is_shared
returns-then-not-is_shared c =
    differ c.loop-count.count c.loop-count.left.now c.loop-count.others.now _ _ _ _ _ c.is_shared.result (omega arith) c.first_segment.ensures c.first_segment-in-loop-count.ensures c.is_shared.ensures c.if-not-is_shared.true c.loop-count.invariant

pub loop-count-preserved : goal.loop-count-preserved
loop-count-preserved c =
    pass c.loop-count.count c.loop-count.left.now c.loop-count.others.now _ _ _ _ _ c.is_shared.result (omega arith) c.first_segment.ensures c.first_segment-in-loop-count.ensures c.is_shared.ensures c.if-not-is_shared.false c.loop-count.invariant

pub returns : goal.returns
returns c = end (all_passed c.loop-count.left.now c.loop-count.others.now (16 - c.loop-count.count) c.loop-count.count _ (omega arith) c.loop-count.invariant)
  where
    end : {n : ℕ} → c.loop-count.count ≡ n → 16 ≡ n
    end same = omega (arith, same)
