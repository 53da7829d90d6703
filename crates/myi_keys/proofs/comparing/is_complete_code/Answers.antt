use Rattle.std.proofs.Common.{◌≢◌, ◌-◌, length, refl, sym, ap, ◌∙◌, not, arith}
use Rattle.std.proofs.lemmas.Bool.{eqb-true, eqb-false}
use Rattle.myi_keys.specs.Comparing.{key_front}
use Rattle.myi_keys.proofs.Fronts.{ends_complete, none_left, is_absent, is_there}
use Rattle.myi_keys.proofs.comparing.is_complete_code.Goals as goal

pub loop-turn-init : goal.loop-turn-init
unfolding key_front
loop-turn-init c = refl

pub returns-then-is_empty : goal.returns-then-is_empty
returns-then-is_empty c = sym (ends_complete (16 - c.loop-turn._turn) c.loop-turn.left.now (eqb-true _ _ (sym c.is_empty.ensures ∙ c.if-is_empty.true))) ∙ c.loop-turn.invariant

pub returns : goal.returns
returns c = sym (none_left (16 - c.loop-turn._turn) c.loop-turn.left.now (omega arith)) ∙ c.loop-turn.invariant

pub returns-then-is_none : goal.returns-then-is_none
returns-then-is_none c =
    let some : length c.loop-turn.left.now ≢ 0 = eqb-false _ _ (sym c.is_empty.ensures ∙ c.if-is_empty.false) in
    is_absent c.loop-turn._turn c.loop-turn.left.now c.first_segment.result.1.now c.first_segment.result.0 _ (omega arith) (omega arith) c.first_segment.ensures (c.is_none.ensures ∙ ap not c.if-is_none.true) c.loop-turn.invariant

pub loop-turn-preserved : goal.loop-turn-preserved
loop-turn-preserved c =
    let some : length c.loop-turn.left.now ≢ 0 = eqb-false _ _ (sym c.is_empty.ensures ∙ c.if-is_empty.false) in
    is_there c.loop-turn._turn c.loop-turn.left.now c.first_segment.result.1.now c.first_segment.result.0 _ (omega arith) (omega arith) c.first_segment.ensures (c.is_none.ensures ∙ ap not c.if-is_none.false) c.loop-turn.invariant
