use Rattle.std.proofs.Common.{◌≡◌, ◌≢◌, ◌-◌, length, refl, sym, ◌∙◌, arith}
use Rattle.std.proofs.lemmas.Bool.{eqb-true, eqb-false}
use Rattle.std.specs.Ordering.{nat_cmp}
use Rattle.myi_keys.specs.Order.{key_cmp}
use Rattle.myi_keys.specs.Comparing.{segs_front, key_front}
use Rattle.myi_keys.proofs.Fronts.{first_ends, second_ends, decides, passes, all_passed}
use Rattle.myi_keys.proofs.comparing.compare_codes.Goals.{then-is_empty-via-then-is_empty, then-is_empty-via-else-is_empty+then-is_empty-2}
use Rattle.myi_keys.proofs.comparing.compare_codes.Goals as goal

pub loop-turn-init : goal.loop-turn-init
unfolding key_front
loop-turn-init c = refl

pub returns-then-is_empty : goal.returns-then-is_empty
returns-then-is_empty c =
    let ends : key_cmp (segs_front (16 - c.loop-turn._turn) c.loop-turn.left.now) (segs_front (16 - c.loop-turn._turn) c.loop-turn.others.now) ≡ nat_cmp (length c.loop-turn.left.now) (length c.loop-turn.others.now) = elim c.then-is_empty.branch [
      | then-is_empty-via-then-is_empty w ↦ first_ends (16 - c.loop-turn._turn) c.loop-turn.left.now c.loop-turn.others.now (omega arith) (eqb-true _ _ (sym c.is_empty.ensures ∙ w.if-is_empty.true))
      | then-is_empty-via-else-is_empty+then-is_empty-2 w ↦ second_ends (16 - c.loop-turn._turn) c.loop-turn.left.now c.loop-turn.others.now (omega arith) (eqb-true _ _ (sym w.is_empty-else-is_empty.ensures ∙ w.if-is_empty-2.true))
    ] in
    c.cmp.ensures ∙ sym ends ∙ c.loop-turn.invariant

pub returns-then-is_ne : goal.returns-then-is_ne
returns-then-is_ne c =
    let some : length c.loop-turn.left.now ≢ 0 = eqb-false _ _ (sym c.is_empty.ensures ∙ c.if-is_empty.false) in
    let more : length c.loop-turn.others.now ≢ 0 = eqb-false _ _ (sym c.is_empty-else-is_empty.ensures ∙ c.if-is_empty-2.false) in
    decides c.loop-turn._turn c.loop-turn.left.now c.loop-turn.others.now _ _ _ _ c.compare_segments-order.result _ (omega arith) (omega arith) (omega arith) c.first_segment.ensures c.first_segment-in-loop-turn.ensures c.compare_segments-order.ensures (sym c.is_ne.ensures ∙ c.if-is_ne.true) c.loop-turn.invariant

pub loop-turn-preserved : goal.loop-turn-preserved
loop-turn-preserved c =
    let some : length c.loop-turn.left.now ≢ 0 = eqb-false _ _ (sym c.is_empty.ensures ∙ c.if-is_empty.false) in
    let more : length c.loop-turn.others.now ≢ 0 = eqb-false _ _ (sym c.is_empty-else-is_empty.ensures ∙ c.if-is_empty-2.false) in
    passes c.loop-turn._turn c.loop-turn.left.now c.loop-turn.others.now _ _ _ _ c.compare_segments-order.result _ (omega arith) (omega arith) (omega arith) c.first_segment.ensures c.first_segment-in-loop-turn.ensures c.compare_segments-order.ensures (sym c.is_ne.ensures ∙ c.if-is_ne.false) c.loop-turn.invariant

pub returns : goal.returns
returns c = sym (all_passed c.loop-turn.left.now c.loop-turn.others.now (16 - c.loop-turn._turn) (omega arith)) ∙ c.loop-turn.invariant
