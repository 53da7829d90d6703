use Rattle.std.proofs.Common.{◌≡◌, ℕ, ◌-◌, length, take, drop, refl, sym, ap, ◌∙◌, add-one, arith}
use Rattle.std.proofs.lemmas.List.{take_all, length-drop}
use Rattle.myi_keys.proofs.WeightLists.{left_cmp, weight_decides, weight_passes}
use Rattle.myi_keys.proofs.comparing.compare_weights.Goals as goal

pub loop-i-init : goal.loop-i-init
loop-i-init c = refl

pub returns-then-is_ne : goal.returns-then-is_ne
returns-then-is_ne c =
    weight_decides c.loop-i.i c.args.one.now c.args.other.now c.cmp-order.result (omega (arith, c.loop-i-test.true, c.min-near.ensures, c.min.ensures)) (omega (arith, c.loop-i-test.true, c.min-near.ensures, c.min.ensures)) c.cmp-order.ensures (sym c.is_ne.ensures ∙ c.if-is_ne.true)
    ∙ c.loop-i.invariant

pub loop-i-preserved : goal.loop-i-preserved
loop-i-preserved c =
    ap (λ (i : ℕ). left_cmp i c.args.one.now c.args.other.now) (add-one c.loop-i.i)
    ∙ weight_passes c.loop-i.i c.args.one.now c.args.other.now c.cmp-order.result (omega (arith, c.loop-i-test.true, c.min-near.ensures, c.min.ensures)) (omega (arith, c.loop-i-test.true, c.min-near.ensures, c.min.ensures)) c.cmp-order.ensures (sym c.is_ne.ensures ∙ c.if-is_ne.false)
    ∙ c.loop-i.invariant

pub returns : goal.returns
returns c =
    let n : ℕ = c.min-near.result in
    let done : n ≡ c.loop-i.i = omega (arith, c.loop-i-test.false, c.loop-i.auto.i-end) in
    let v = c.args.one.now in
    let w = c.args.other.now in
    let first : take (length v - n) (drop n v) ≡ drop n v = take_all (length v - n) (drop n v) (omega (arith, length-drop n v)) in
    let second : take (length w - n) (drop n w) ≡ drop n w = take_all (length w - n) (drop n w) (omega (arith, length-drop n w)) in
    c.cmp.ensures ∙ rw (first, second) refl ∙ ap (λ (i : ℕ). left_cmp i v w) done ∙ c.loop-i.invariant
