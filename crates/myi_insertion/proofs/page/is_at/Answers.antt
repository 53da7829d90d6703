use Rattle.std.proofs.Common.{get_or, sym, ap, ◌∙◌, arith}
use Rattle.std.specs.Ordering.{is_eq, ordering_then}
use Rattle.std.specs.declared.cmp.Ordering.{Ordering}
use Rattle.myi_keys.specs.Comparing.{key_front, code_cmp}
use Rattle.myi_keylist.specs.declared.pair.Pair.{Pair}
use Rattle.myi_keylist.specs.PairOrder.{pair_with}
use Rattle.myi_insertion.proofs.PageLaws.{no_pair, is_pair, begins_there, begins_nowhere}
use Rattle.myi_insertion.proofs.page.is_at.Goals as goal

pub returns-then-i-len : goal.returns-then-i-len
returns-then-i-len c = sym (begins_nowhere (pair_with (key_front c.args.code.now) c.args.row) c.args.pairs.now c.args.i (omega arith))

pub returns : goal.returns
returns c =
    let q : Pair = get_or c.args.pairs.now c.args.i no_pair in
    let p : Pair = pair_with (key_front c.args.code.now) c.args.row in
    let tested = is_pair c.args.code.now c.code.result.now c.args.row c.row.result q c.is_eq.result (c.code.ensures.key no_pair) (c.code.ensures.value no_pair) (c.row.ensures no_pair)
    (c.is_eq.ensures ∙ ap is_eq (c.then.ensures ∙ ap (λ (o : Ordering). ordering_then o c.cmp.result) c.compare_codes.ensures ∙ ap (ordering_then (code_cmp c.args.code.now c.code.result.now)) c.cmp.ensures)) in
    tested ∙ sym (begins_there p c.args.pairs.now c.args.i no_pair (omega arith))
