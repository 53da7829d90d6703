-- How many entries a page takes, found by counting up.
use Rattle.std.proofs.Common.{◌≡◌, ◌⊎◌, ℕ, zero, suc, ◌+◌, ◌-◌, ◌<◌, ◌≤◌, ◌≢◌, Bool, true, false, not, ◌&&◌, eqb, cond, List, length, take, refl, sym, subst, ◌∙◌, arith, inl, inr}
use Rattle.std.proofs.lemmas.Bool.{cases_lt, cases_Bool, eq-eqb, eqb-true, ne_eqb, and_from}
use Rattle.myi_keylist.specs.declared.pair.Pair.{Pair}
use Rattle.myi_btree.specs.LaidPages.{greatest, count_of}

-- the greatest that passes, by what is known of those above it
pub greatest_at : (passes : ℕ → Bool) (n c : ℕ) → 0 < c → c ≤ n → passes c ≡ true → ((d : ℕ) → c < d → d ≤ n → passes d ≡ false) → greatest passes n ≡ c
greatest_at passes zero c pos le is above = absurd (omega arith)
greatest_at passes (suc n) c pos le is above =
    elim (cases_lt c (suc n)) [
      | inl less ↦ let unfit : passes (suc n) ≡ false = above (suc n) less (omega arith) in rw unfit (greatest_at passes n c pos (omega arith) is (λ d lt k. above d lt (omega arith)))
      | inr more ↦ let e : c ≡ suc n = omega arith in let yes_it : passes (suc n) ≡ true = subst (λ (m : ℕ). passes m ≡ true) e is in rw yes_it (sym e)
    ]

-- none beyond one that does not fit fits
beyond : (fits : List Pair → Bool) (es : List Pair) → ((c : ℕ) → fits (take (suc c) es) ≡ true → fits (take c es) ≡ true) → (m k : ℕ) → fits (take m es) ≡ false → fits (take (m + k) es) ≡ false
beyond fits es mono m zero unfit = let e : m + 0 ≡ m = omega arith in rw e unfit
beyond fits es mono m (suc k) unfit =
    let e : m + suc k ≡ suc (m + k) = omega arith in
    let again : fits (take (m + k) es) ≡ false = beyond fits es mono m k unfit in
    rw e (elim (cases_Bool (fits (take (suc (m + k)) es))) [ inl is ↦ absurd (both (fits (take (m + k) es)) (mono (m + k) is) again) | inr other ↦ other ])
  where
    both : (b : Bool) → b ≡ true → b ≡ false → ⊥
    both true e f = cc
    both false e f = cc

-- all but one are never taken
pub not_one : (n c : ℕ) → n - c ≢ 1 → not (eqb (n - c) 1) ≡ true
not_one n c ne = rw (ne_eqb (n - c) 1 ne) refl

pub cases_one : (n : ℕ) → (n ≡ 1) ⊎ (n ≢ 1)
cases_one n = elim (cases_Bool (eqb n 1)) [ inl is ↦ inl (eqb-true n 1 is) | inr other ↦ inr (λ e. differ (eqb n 1) (eq-eqb n 1 e) other) ]
  where
    differ : (b : Bool) → b ≡ true → b ≡ false → ⊥
    differ true e f = cc
    differ false e f = cc

abbrev passes_at : (List Pair → Bool) → List Pair → ℕ → Bool
passes_at fits es c = fits (take c es) && not (eqb (length es - c) 1)

left_false : (a b : Bool) → a ≡ false → (a && b) ≡ false
left_false true b e = absurd cc
left_false false b e = refl

right_false : (a b : Bool) → b ≡ false → (a && b) ≡ false
right_false true b e = e
right_false false b e = refl

over : (fits : List Pair → Bool) (es : List Pair) (m : ℕ) → ((c : ℕ) → fits (take (suc c) es) ≡ true → fits (take c es) ≡ true) → (m < length es → fits (take (suc m) es) ≡ false) → (d : ℕ) → m < d → d ≤ length es → passes_at fits es d ≡ false
over fits es m mono top d lt k =
    let e : suc m + (d - suc m) ≡ d = omega arith in
    let unfit : fits (take d es) ≡ false = subst (λ (n : ℕ). fits (take n es) ≡ false) e (beyond fits es mono (suc m) (d - suc m) (top (omega arith))) in
    left_false (fits (take d es)) (not (eqb (length es - d) 1)) unfit

pub count_is : (fits : List Pair → Bool) (es : List Pair) (m : ℕ) → ((c : ℕ) → fits (take (suc c) es) ≡ true → fits (take c es) ≡ true) → 2 ≤ m → m ≤ length es → fits (take m es) ≡ true → (m < length es → fits (take (suc m) es) ≡ false)
    → count_of fits es ≡ cond (eqb (length es - m) 1) (m - 1) m
count_is fits es m mono two le is top =
    elim (cases_one (length es - m)) [
      | inr other ↦ rw (ne_eqb (length es - m) 1 other) (greatest_at (passes_at fits es) (length es) m (omega arith) le (and_from _ _ is (not_one (length es) m other)) (over fits es m mono top))
      | inl one ↦
          let below : suc (m - 1) ≡ m = omega arith in
          let is1 : fits (take (m - 1) es) ≡ true = mono (m - 1) (rw below is) in
          let ne : length es - (m - 1) ≢ 1 = λ e. omega arith in
          let at_m : passes_at fits es m ≡ false = right_false (fits (take m es)) (not (eqb (length es - m) 1)) (rw (eq-eqb (length es - m) 1 one) refl) in
          rw (eq-eqb (length es - m) 1 one) (greatest_at (passes_at fits es) (length es) (m - 1) (omega arith) (omega arith) (and_from _ _ is1 (not_one (length es) (m - 1) ne))
          (λ d lt k. elim (cases_lt m d) [ inl more ↦ over fits es m mono top d more k | inr same ↦ let e : m ≡ d = omega arith in subst (λ (n : ℕ). passes_at fits es n ≡ false) e at_m ]))
    ]

pub count_other : (fits : List Pair → Bool) (es : List Pair) (m : ℕ) → ((c : ℕ) → fits (take (suc c) es) ≡ true → fits (take c es) ≡ true) → 2 ≤ m → m ≤ length es → fits (take m es) ≡ true → (m < length es → fits (take (suc m) es) ≡ false)
    → length es - m ≢ 1 → m ≡ count_of fits es
count_other fits es m mono two le is top other = sym (count_is fits es m mono two le is top ∙ rw (ne_eqb (length es - m) 1 other) refl)
