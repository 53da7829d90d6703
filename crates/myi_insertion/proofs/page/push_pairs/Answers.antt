use Rattle.std.proofs.Common.{◌-◌, List, [], ◌∷◌, ◌++◌, take, drop, get_or, sym, ap, ◌∙◌, append_assoc, arith}
use Rattle.myi_keylist.specs.declared.pair.Pair.{Pair}
use Rattle.myi_insertion.proofs.PageLaws.{no_pair, pair_again, is_code_of, pushed_more}
use Rattle.myi_insertion.proofs.page.push_pairs.Goals as goal

pub push-requires : goal.push-requires
push-requires c = is_code_of c.code.result.now (get_or c.args.pairs.now c.loop-i.i no_pair) (c.code.ensures.key no_pair) (c.code.ensures.value no_pair)

pub loop-i-preserved : goal.loop-i-preserved
loop-i-preserved c =
    let q : Pair = get_or c.args.pairs.now c.loop-i.i no_pair in
    let left : List Pair = take (c.loop-i.i - c.args.start) (drop c.args.start c.args.pairs.now) in
    c.in_ok-push.ensures.added ∙ ap (λ (p : Pair). c.loop-i.into ++ p ∷ []) (pair_again c.code.result.now c.row.result q (c.code.ensures.key no_pair) (c.code.ensures.value no_pair) (c.row.ensures no_pair))
    ∙ ap (λ (t : List Pair). t ++ q ∷ []) c.loop-i.invariant ∙ append_assoc c.args.into.now left (q ∷ [])
    ∙ ap (λ (t : List Pair). c.args.into.now ++ t) (sym (pushed_more c.args.pairs.now c.args.start c.loop-i.i no_pair (omega arith) (omega arith)))
