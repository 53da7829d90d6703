use Rattle.std.proofs.Common.{◌≡◌, ◌≤◌, ◌<◌, ◌+◌, ◌-◌, ◌*◌, ℕ, List, [], ◌∷◌, suc, length, get_or, arith, sym, ◌∙◌, ap, drop, fold, nat_le, false, refl}
use Rattle.std.proofs.lemmas.Bool.{lt-leb}
use Rattle.std.proofs.Math.Seq.{drop-cons}
use Rattle.myi_deftext.specs.Text.{value}
use Rattle.myisamkit.proofs.numbers.number_up_to.Goals as goal

-- the number of more digits is no less
rises : (a : ℕ) (w : List ℕ) → a ≤ fold (λ n b. n * 10 + (b - 48)) a w
rises a [] = omega arith
rises a (b ∷ w) = omega (arith, rises (a * 10 + (b - 48)) w)

pub loop-digit-init : goal.loop-digit-init
unfolding value
loop-digit-init c = record { few = omega arith; so_far = refl }

pub returns-then-number-most : goal.returns-then-number-most
returns-then-number-most c =
    let i = c.loop-digit.digit-index in
    let ds = c.args.digits.now in
    let within : i < length ds = omega arith in
    let left : fold (λ n b. n * 10 + (b - 48)) (c.loop-digit.number * 10 + (get_or ds i 0 - 48)) (drop (suc i) ds) ≡ value ds = ap (fold (λ n b. n * 10 + (b - 48)) c.loop-digit.number) (sym (drop-cons ds i 0 within)) ∙ c.loop-digit.invariant.so_far in
    let above : nat_le (value ds) c.args.most ≡ false = lt-leb _ _ (omega (arith, rises (c.loop-digit.number * 10 + (get_or ds i 0 - 48)) (drop (suc i) ds), left, c.saturating_sub.ensures, c.if-number-most.true)) in
    rw above refl
