use Rattle.std.proofs.Common.{get_or, sym, ap, ◌∙◌, arith}
use Rattle.myi_keylist.specs.declared.pair.Pair.{Pair}
use Rattle.myi_search.specs.Passing.{passes}
use Rattle.myi_search.specs.Cursor.{from_kept}
use Rattle.myi_search.proofs.RunLaws.{no_pair, pair_read, kept_here, passed_more, none_ahead}
use Rattle.myi_search.proofs.cursor.first_kept.Goals as goal

pub returns-then-not-passes-clause-kept : goal.returns-then-not-passes-clause-kept
returns-then-not-passes-clause-kept c =
    let q : Pair = get_or c.args.pairs.now c.loop-i.i no_pair in
    let same = pair_read c.code.result.now c.row.result q (c.code.ensures.key no_pair) (c.code.ensures.value no_pair) (c.row.ensures no_pair) in
    kept_here (passes c.args.bound.now) c.args.pairs.now c.loop-i.i no_pair (let t = c.loop-i-test.true in omega (arith, c.len-i-end.ensures)) c.loop-i.invariant
    (ap (passes c.args.bound.now) (sym same) ∙ sym c.passes.ensures ∙ c.if-not-passes.true)

pub loop-i-preserved : goal.loop-i-preserved
loop-i-preserved c =
    let q : Pair = get_or c.args.pairs.now c.loop-i.i no_pair in
    let same = pair_read c.code.result.now c.row.result q (c.code.ensures.key no_pair) (c.code.ensures.value no_pair) (c.row.ensures no_pair) in
    passed_more (passes c.args.bound.now) c.args.pairs.now c.loop-i.i no_pair (let t = c.loop-i-test.true in omega (arith, c.len-i-end.ensures)) c.loop-i.invariant
    (ap (passes c.args.bound.now) (sym same) ∙ sym c.passes.ensures ∙ c.if-not-passes.false)

pub returns-clause-none : goal.returns-clause-none
returns-clause-none c = c.loop-i.invariant ∙ ap (from_kept (passes c.args.bound.now)) (none_ahead c.loop-i.i c.args.pairs.now (let t = c.loop-i-test.false in omega (arith, c.len-i-end.ensures)))
