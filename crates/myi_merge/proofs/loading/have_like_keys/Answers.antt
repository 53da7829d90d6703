use Rattle.std.proofs.Common.{◌≡◌, refl, sym, ◌∙◌, arith}
use Rattle.std.proofs.lemmas.List.{take_all}
use Rattle.myi_merge.proofs.LikeLemmas.{same_more, same_at}
use Rattle.myi_merge.proofs.loading.have_like_keys.Goals as goal

pub loop-index-init : goal.loop-index-init
loop-index-init c = refl

pub loop-index-preserved : goal.loop-index-preserved
loop-index-preserved c =
    same_more c.args.one.now c.args.other.now c.loop-index.index c.index-one-index.result c.index-other-index.result c.loop-index-test.true (omega (arith, c.loop-index-test.true, c.if-one-other.false)) c.index-one-index.is c.index-other-index.is c.loop-index.invariant
    (c.is_like_key.ensures.0 c.if-not-is_like_key.false)

pub returns-then-not-is_like_key : goal.returns-then-not-is_like_key
returns-then-not-is_like_key c = (λ is. absurd cc, λ same. sym c.if-not-is_like_key.true ∙ c.is_like_key.ensures.1 (same_at c.args.one.now c.args.other.now c.loop-index.index c.index-one-index.result c.index-other-index.result (omega (arith, c.loop-index-test.true, c.if-one-other.false)) c.index-one-index.is c.index-other-index.is same))

pub returns : goal.returns
returns c =
    let same : c.args.one.now ≡ c.args.other.now =
    sym (take_all c.loop-index.index c.args.one.now c.loop-index-test.false) ∙ c.loop-index.invariant ∙ take_all c.loop-index.index c.args.other.now (omega (arith, c.loop-index-test.false, c.if-one-other.false)) in
    (λ is. same, λ is. refl)
