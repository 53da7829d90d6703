use Rattle.std.proofs.Common.{◌≢◌, ◌++◌, ◌∷◌, [], length, sym, ◌∙◌, arith}
use Rattle.std.proofs.lemmas.Bool.{eqb-true, eqb-false}
use Rattle.std.proofs.lemmas.Result.{err_from_is_err_and}
use Rattle.myi_keys.specs.declared.values.KeySeg.{KeySeg}
use Rattle.myi_keys.specs.Decoding.{segs_at}
use Rattle.myi_keys.specs.Comparing.{seg_with}
use Rattle.std.specs.Option.{option_copied}
use Rattle.myi_keys.proofs.Readings.{no_front, goes_on, too_many, ends, is_done}
use Rattle.myi_keys.proofs.codes.test_code.Goals as goal

pub loop-turn-init : goal.loop-turn-init
loop-turn-init c = ([], sym (no_front (segs_at 16 c.args.bytes.now)))

pub returns-then-is_empty-clause-taken : goal.returns-then-is_empty-clause-taken
returns-then-is_empty-clause-taken c =
    (c.loop-turn.invariant.0, is_done c.loop-turn.invariant.0 c.loop-turn._turn c.loop-turn.rest.now _ (eqb-true _ _ (sym c.is_empty.ensures ∙ c.if-is_empty.true)) c.loop-turn.invariant.1)

pub returns-in_err-after-clause-refused : goal.returns-in_err-after-clause-refused
returns-in_err-after-clause-refused c =
    let p = err_from_is_err_and c.from_residual.result c.from_residual.ensures.1 in
    let ne : length c.loop-turn.rest.now ≢ 0 = eqb-false _ _ (sym c.is_empty.ensures ∙ c.if-is_empty.false) in
    rw (p.1, p.2) (ends c.in_err-after.field-0.0 c.loop-turn.invariant.0 c.loop-turn._turn c.loop-turn.rest.now (segs_at 16 c.args.bytes.now) (omega arith) (omega arith) c.in_err-after.ensures c.loop-turn.invariant.1)

pub loop-turn-preserved : goal.loop-turn-preserved
loop-turn-preserved c =
    let ne : length c.loop-turn.rest.now ≢ 0 = eqb-false _ _ (sym c.is_empty.ensures ∙ c.if-is_empty.false) in
    let seg : KeySeg = seg_with (option_copied c.in_ok-after.field-0-0) in
    (c.loop-turn.invariant.0 ++ seg ∷ [], goes_on c.loop-turn.invariant.0 c.loop-turn._turn c.loop-turn.rest.now seg c.in_ok-after.after.now _ (omega arith) (omega arith) c.in_ok-after.ensures c.loop-turn.invariant.1)

pub returns-then-is_empty-2-clause-taken : goal.returns-then-is_empty-2-clause-taken
returns-then-is_empty-2-clause-taken c =
    (c.loop-turn.invariant.0, is_done c.loop-turn.invariant.0 c.loop-turn._turn c.loop-turn.rest.now _ (eqb-true _ _ (sym c.is_empty-2.ensures ∙ c.if-is_empty-2.true)) c.loop-turn.invariant.1)

pub returns-else-is_empty-2-clause-refused : goal.returns-else-is_empty-2-clause-refused
returns-else-is_empty-2-clause-refused c =
    let ne : length c.loop-turn.rest.now ≢ 0 = eqb-false _ _ (sym c.is_empty-2.ensures ∙ c.if-is_empty-2.false) in
    too_many c.loop-turn.invariant.0 c.loop-turn._turn c.loop-turn.rest.now _ (omega arith) (omega arith) c.loop-turn.invariant.1
