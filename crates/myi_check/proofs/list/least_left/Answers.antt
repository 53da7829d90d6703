use Rattle.std.proofs.Common.{◌∙◌, Some, ℕ, get_or, sym, ap, arith}
use Rattle.std.specs.Option.{option_map}
use Rattle.myi_pair.specs.Findings.{told}
use Rattle.myi_check.proofs.UnmetLemmas.{least_at, least_none, told_below, met_more}
use Rattle.myi_check.proofs.list.least_left.Goals as goal

pub loop-index-preserved : goal.loop-index-preserved
loop-index-preserved c = record { met = met_more c.args.met.now c.loop-index.index c.loop-index.invariant.met c.if-not-met-index.false }

pub returns-then-not-met-index : goal.returns-then-not-met-index
returns-then-not-met-index c = λ up.
    let i = c.loop-index.index in
    let short = told_below (get_or c.args.places.now i 0) (omega (arith, c.at.ensures, c.at.type_inv)) in
    ap (λ (n : ℕ). Some n) c.at.ensures ∙ sym (ap (option_map told) (least_at c.args.places.now c.args.met.now i up c.requires (omega (arith, c.loop-index-test.true, c.len-index-end.ensures)) c.loop-index.invariant.met c.if-not-met-index.true) ∙ ap (λ (n : ℕ). Some n) short)

pub returns : goal.returns
returns c = λ up. sym (ap (option_map told) (least_none c.args.places.now c.args.met.now c.requires (λ k lt. c.loop-index.invariant.met k (omega (arith, c.loop-index-test.false, c.len-index-end.ensures, lt)))))
