-- The first byte of a file that is not held.
use Rattle.std.proofs.Common.{◌≡◌, ℕ, zero, suc, ◌+◌, ◌<◌, ◌≤◌, Bool, true, false, cond, List, [], ◌∷◌, Some, refl, sym, ap, subst, ◌∙◌, arith, ◌⊎◌, inl, inr}
use Rattle.std.specs.Prelude.{◌&&◌, ◌||◌, ◌==◌, nat_lt, nat_le}
use Rattle.std.specs.List.{list_any}
use Rattle.std.proofs.lemmas.Bool.{le-leb, lt-leb, le-ltb, lt-ltb, ltb-true, ltb-false, eqb-true, eqb-false, cases_Bool}
use Rattle.std.proofs.lemmas.Bool.Decides.{nat_tests}
use Rattle.myi_base.specs.Ranges.{Range, are_apart, is_apart}
use Rattle.myi_pair.specs.Clean.{covers}
use Rattle.myi_pair.specs.FirstBad.{first_gap}
use Rattle.myi_check.specs.HeldBytes.{SameBytes, AreJoined, front_of, gap_behind}

pub covers_byte : (p : ℕ) (rs : List Range) → list_any (covers p) rs ≡ cond (is_apart (p, suc p) rs) false true
covers_byte p [] = refl
covers_byte p (r ∷ rs) = by_test (is_apart (p, suc p) rs) (list_any (covers p) rs) (covers_byte p rs)
  where
    by_test : (b c : Bool) → c ≡ cond b false true → (covers p r || c) ≡ cond (are_apart (p, suc p) r && b) false true
    by_test true c e = grind (arith, nat_tests)
    by_test false c e = grind (arith, nat_tests)

pub gap_same : (u v : List Range) → SameBytes u v → (n p : ℕ) → first_gap n p u ≡ first_gap n p v
gap_same u v s zero p = refl
gap_same u v s (suc n) p =
    let here : list_any (covers p) u ≡ list_any (covers p) v = covers_byte p u ∙ ap (λ b. cond b false true) (s (p, suc p) (omega arith)) ∙ sym (covers_byte p v) in
    ap (λ b. cond b (first_gap n (suc p) u) (Some p)) here ∙ ap (λ o. cond (list_any (covers p) v) o (Some p)) (gap_same u v s n (suc p))

pub none_below : (p low : ℕ) (rs : List Range) → AreJoined low rs → p < low → list_any (covers p) rs ≡ false
none_below p low [] h lt = refl
none_below p low (r ∷ rs) h lt =
    let f : nat_le r.0 p ≡ false = lt-leb _ _ (omega (arith, h.0)) in
    let more = none_below p (r.1 + 1) rs h.2 (omega (arith, h.0, h.1)) in
    rw (f, more) refl

gap_from : (e : ℕ) (rs : List Range) → ((p : ℕ) → p < e → list_any (covers p) rs ≡ true) → list_any (covers e) rs ≡ false → (n p : ℕ) → p ≤ e → first_gap n p rs ≡ gap_behind e (p + n)
gap_from e rs held free zero p le = let f : nat_lt e (p + 0) ≡ false = le-ltb _ _ (omega arith) in rw f refl
gap_from e rs held free (suc n) p le = by_place (cases_Bool (nat_lt p e)) (λ lt. gap_from e rs held free n (suc p) (omega (arith, lt)))
  where
    by_place : (nat_lt p e ≡ true) ⊎ (nat_lt p e ≡ false) → (p < e → first_gap n (suc p) rs ≡ gap_behind e (suc p + n)) → first_gap (suc n) p rs ≡ gap_behind e (p + suc n)
    by_place (inl t) more =
        let lt = ltb-true _ _ t in
        let same : p + suc n ≡ suc p + n = omega arith in
        let here = held p lt in
        rw here (more lt ∙ ap (gap_behind e) (sym same))
    by_place (inr f) more =
        let same : e ≡ p = omega (arith, ltb-false _ _ f, le) in
        let t : nat_lt e (p + suc n) ≡ true = lt-ltb _ _ (omega (arith, same)) in
        let none : list_any (covers p) rs ≡ false = subst (λ q. list_any (covers q) rs ≡ false) same free in
        rw (none, t) (ap Some (sym same))

pub gap_front : (rs : List Range) → AreJoined 0 rs → (n : ℕ) → first_gap n 0 rs ≡ gap_behind (front_of rs) n
gap_front [] h n = gap_from 0 [] (λ p lt. absurd (omega (arith, lt))) refl n 0 (omega arith) ∙ ap (gap_behind 0) (omega arith)
gap_front (r ∷ rs) h n = by_start (r.0 == 0) refl
  where
    begun : r.0 ≡ 0 → first_gap n 0 (r ∷ rs) ≡ gap_behind r.1 n
    begun e =
        let held : (p : ℕ) → p < r.1 → list_any (covers p) (r ∷ rs) ≡ true = λ p lt.
        let a : nat_le r.0 p ≡ true = le-leb _ _ (omega (arith, e)) in
        let b : nat_lt p r.1 ≡ true = lt-ltb _ _ lt in
        rw (a, b) refl in
        let b : nat_lt r.1 r.1 ≡ false = le-ltb _ _ (omega arith) in
        let none = none_below r.1 (r.1 + 1) rs h.2 (omega arith) in
        let free : list_any (covers r.1) (r ∷ rs) ≡ false = rw (b, none) (neither (nat_le r.0 r.1)) in
        gap_from r.1 (r ∷ rs) held free n 0 (omega arith) ∙ ap (gap_behind r.1) (omega arith)
      where
        neither : (b : Bool) → ((b && false) || false) ≡ false
        neither true = refl
        neither false = refl

    later : (r.0 ≡ 0 → ⊥) → first_gap n 0 (r ∷ rs) ≡ gap_behind 0 n
    later e =
        let a : nat_le r.0 0 ≡ false = lt-leb _ _ (omega (arith, e)) in
        let none = none_below 0 (r.1 + 1) rs h.2 (omega arith) in
        let free : list_any (covers 0) (r ∷ rs) ≡ false = rw (a, none) refl in
        gap_from 0 (r ∷ rs) (λ p lt. absurd (omega (arith, lt))) free n 0 (omega arith) ∙ ap (gap_behind 0) (omega arith)

    by_start : (b : Bool) → (r.0 == 0) ≡ b → first_gap n 0 (r ∷ rs) ≡ gap_behind (cond b r.1 0) n
    by_start true e = begun (eqb-true _ _ e)
    by_start false e = later (eqb-false _ _ e)
