-- Ranges that have no byte in common have no more bytes than what they lie in.
use Rattle.std.proofs.Common.{◌≡◌, ℕ, zero, suc, ◌+◌, ◌-◌, ◌≤◌, ◌<◌, min, Bool, true, false, ◌⊎◌, inl, inr, List, [], ◌∷◌, nat_le, refl, sym, subst, arith}
use Rattle.std.proofs.lemmas.Bool.{and_parts, or_cases, leb-true, leb-false}
use Rattle.myi_base.specs.Ranges.{Range, are_apart, is_apart, AreDisjoint}

-- how many bytes below a number ranges have
abbrev pub filled : ℕ → List Range → ℕ
filled n [] = 0
filled n (r ∷ rs) = (min r.1 n - r.0) + filled n rs

untouched : (n : ℕ) (r : Range) (rs : List Range) → r.0 ≤ n → n < r.1 → is_apart r rs ≡ true → filled (n + 1) rs ≡ filled n rs
untouched n r [] low high apart = refl
untouched n r (s ∷ rs) low high apart =
    let both = and_parts (are_apart r s) (is_apart r rs) apart in
    let others = untouched n r rs low high both.1 in
    by (or_cases (nat_le r.1 s.0) (nat_le s.1 r.0) both.0) others
  where
    by : (nat_le r.1 s.0 ≡ true) ⊎ (nat_le s.1 r.0 ≡ true) → filled (n + 1) rs ≡ filled n rs → (min s.1 (n + 1) - s.0) + filled (n + 1) rs ≡ (min s.1 n - s.0) + filled n rs
    by (inl before) others = omega (arith, leb-true _ _ before)
    by (inr after) others = omega (arith, leb-true _ _ after)

one_more : (n : ℕ) (rs : List Range) → AreDisjoint rs → filled (n + 1) rs ≤ filled n rs + 1
one_more n [] apart = omega arith
one_more n (r ∷ rs) apart = by (leb_cases r.0 n) (leb_cases r.1 n) (one_more n rs apart.1)
  where
    leb_cases : (a b : ℕ) → (a ≤ b) ⊎ (b < a)
    leb_cases a b = cases (nat_le a b) refl
      where
        cases : (t : Bool) → nat_le a b ≡ t → (a ≤ b) ⊎ (b < a)
        cases true is = inl (leb-true a b is)
        cases false is = inr (leb-false a b is)

    by : (r.0 ≤ n) ⊎ (n < r.0) → (r.1 ≤ n) ⊎ (n < r.1) → filled (n + 1) rs ≤ filled n rs + 1 → (min r.1 (n + 1) - r.0) + filled (n + 1) rs ≤ (min r.1 n - r.0) + filled n rs + 1
    by (inl low) (inl short) others = omega arith
    by (inl low) (inr high) others = omega (arith, untouched n r rs low high apart.0)
    by (inr above) short others = omega arith

none_yet : (rs : List Range) → filled 0 rs ≡ 0
none_yet [] = refl
none_yet (r ∷ rs) = omega (arith, none_yet rs)

pub few_bytes : (n : ℕ) (rs : List Range) → AreDisjoint rs → filled n rs ≤ n
few_bytes zero rs apart = omega (arith, none_yet rs)
few_bytes (suc n) rs apart =
    let e : suc n ≡ n + 1 = omega arith in
    subst (λ m. filled m rs ≤ m) (sym e) (omega (arith, one_more n rs apart, few_bytes n rs apart))
