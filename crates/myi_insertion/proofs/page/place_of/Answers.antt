use Rattle.std.proofs.Common.{get_or, sym, ap, ◌∙◌, arith}
use Rattle.std.specs.Ordering.{is_gt, ordering_then}
use Rattle.std.specs.declared.cmp.Ordering.{Ordering}
use Rattle.myi_keys.specs.Comparing.{key_front, code_cmp}
use Rattle.myi_keylist.specs.declared.pair.Pair.{Pair}
use Rattle.myi_keylist.specs.PairOrder.{pair_with}
use Rattle.myi_insertion.proofs.PageLaws.{no_pair, after_pair, begins_behind, before_more}
use Rattle.myi_insertion.proofs.page.place_of.Goals as goal

pub returns-then-not-is_gt-clause-behind : goal.returns-then-not-is_gt-clause-behind
returns-then-not-is_gt-clause-behind c =
    let q : Pair = get_or c.args.pairs.now c.loop-i.i no_pair in
    let p : Pair = pair_with (key_front c.args.code.now) c.args.row in
    let tested = after_pair c.args.code.now c.code.result.now c.args.row c.row.result q c.is_gt.result (c.code.ensures.key no_pair) (c.code.ensures.value no_pair) (c.row.ensures no_pair)
    (c.is_gt.ensures ∙ ap is_gt (c.then.ensures ∙ ap (λ (o : Ordering). ordering_then o c.cmp.result) c.compare_codes.ensures ∙ ap (ordering_then (code_cmp c.args.code.now c.code.result.now)) c.cmp.ensures)) in
    begins_behind p c.args.pairs.now c.loop-i.i no_pair (let t = c.loop-i-test.true in omega (arith, c.len-i-end.ensures)) (sym tested ∙ c.if-not-is_gt.true)

pub loop-i-preserved : goal.loop-i-preserved
loop-i-preserved c =
    let q : Pair = get_or c.args.pairs.now c.loop-i.i no_pair in
    let p : Pair = pair_with (key_front c.args.code.now) c.args.row in
    let tested = after_pair c.args.code.now c.code.result.now c.args.row c.row.result q c.is_gt.result (c.code.ensures.key no_pair) (c.code.ensures.value no_pair) (c.row.ensures no_pair)
    (c.is_gt.ensures ∙ ap is_gt (c.then.ensures ∙ ap (λ (o : Ordering). ordering_then o c.cmp.result) c.compare_codes.ensures ∙ ap (ordering_then (code_cmp c.args.code.now c.code.result.now)) c.cmp.ensures)) in
    before_more p c.args.pairs.now c.loop-i.i no_pair (let t = c.loop-i-test.true in omega (arith, c.len-i-end.ensures)) c.loop-i.invariant (sym tested ∙ c.if-not-is_gt.false)
