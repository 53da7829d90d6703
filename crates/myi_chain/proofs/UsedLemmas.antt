-- Used ranges in order: what the last that begins before a place answers, and what one more leaves.
use Rattle.std.proofs.Common.{◌≡◌, ℕ, ◌+◌, ◌<◌, ◌≤◌, max, Bool, true, false, cond, List, [], ◌∷◌, ◌++◌, Option, Some, None, refl, sym, ap, subst, ◌∙◌, arith, ◌⊎◌, inl, inr}
use Rattle.std.specs.Prelude.{◌&&◌, ◌==◌, nat_lt, nat_le, filter}
use Rattle.std.proofs.lemmas.Bool.{lt-ltb, le-ltb, le-leb, cases_lt}
use Rattle.std.proofs.lemmas.Bool.Decides.{nat_tests}
use Rattle.myi_base.specs.Ranges.{Range, is_apart}
use Rattle.myi_chain.specs.Readable.{end_of}
use Rattle.myi_chain.specs.Used.{AreInOrder, last_of, last_before, is_behind, end_from}
use Rattle.myi_chain.proofs.SameLemmas.{is_apart-append, end_of-append}

pub lower : (low high : ℕ) (rs : List Range) → low ≤ high → AreInOrder high rs → AreInOrder low rs
lower low high [] le h = tt
lower low high (r ∷ rs) le h = (omega (arith, h.0), h.1, h.2)

-- ---- the last before a place

abbrev pub or_else : Option Range → Option Range → Option Range
or_else None o = o
or_else (Some r) o = Some r

last_of-cons : (r : Range) (rs : List Range) → last_of (r ∷ rs) ≡ or_else (last_of rs) (Some r)
last_of-cons r [] = refl
last_of-cons r (s ∷ []) = refl
last_of-cons r (s ∷ t ∷ rs) = some_more (last_of (s ∷ t ∷ rs)) s (last_of-cons s (t ∷ rs))
  where
    some_or : (o : Option Range) (s : Range) → or_else (or_else o (Some s)) (Some r) ≡ or_else o (Some s)
    some_or None s = refl
    some_or (Some x) s = refl

    some_more : (o : Option Range) (s : Range) → o ≡ or_else (last_of (t ∷ rs)) (Some s) → o ≡ or_else o (Some r)
    some_more o s e = rw e (sym (some_or (last_of (t ∷ rs)) s))

pub before-none : (end low : ℕ) (rs : List Range) → AreInOrder low rs → end ≤ low → last_before end rs ≡ None
before-none end low [] h le = refl
before-none end low (r ∷ rs) h le =
    let f : nat_lt r.0 end ≡ false = le-ltb _ _ (omega (arith, h.0)) in
    let more = before-none end r.1 rs h.2 (omega (arith, h.0, h.1)) in
    rw f more

pub before-some : (end : ℕ) (r : Range) (rs : List Range) → r.0 < end → last_before end (r ∷ rs) ≡ or_else (last_before end rs) (Some r)
before-some end r rs h =
    let t : nat_lt r.0 end ≡ true = lt-ltb _ _ h in
    rw t (last_of-cons r (filter (λ (x : Range). nat_lt x.0 end) rs))

pub before-later : (end low : ℕ) (rs : List Range) (x : Range) → AreInOrder low rs → last_before end rs ≡ Some x → (low ≤ x.0) × (x.0 < x.1)
before-later end low [] x h e = absurd cc
before-later end low (r ∷ rs) x h e = by_order (λ k. before-later end r.1 rs x h.2 k) (cases_lt r.0 end)
  where
    by_last : (last_before end rs ≡ Some x → (r.1 ≤ x.0) × (x.0 < x.1)) → (o : Option Range) → last_before end rs ≡ o → or_else o (Some r) ≡ Some x → (low ≤ x.0) × (x.0 < x.1)
    by_last more None k f = let same : r ≡ x = cc in subst (λ (y : Range). (low ≤ y.0) × (y.0 < y.1)) same (h.0, h.1)
    by_last more (Some y) k f = let l = more (k ∙ f) in (omega (arith, l.0, h.0, h.1), l.1)

    by_order : (last_before end rs ≡ Some x → (r.1 ≤ x.0) × (x.0 < x.1)) → (r.0 < end) ⊎ (end ≤ r.0) → (low ≤ x.0) × (x.0 < x.1)
    by_order more (inl lt) = by_last more (last_before end rs) refl (sym (before-some end r rs lt) ∙ e)
    by_order more (inr le) = let none = before-none end r.0 (r ∷ rs) (omega arith, h.1, h.2) le in absurd cc

apart-above : (at end low : ℕ) (rs : List Range) → AreInOrder low rs → end ≤ low → is_apart (at, end) rs ≡ true
apart-above at end low [] h le = refl
apart-above at end low (r ∷ rs) h le =
    let t : nat_le end r.0 ≡ true = le-leb _ _ (omega (arith, h.0)) in
    let more = apart-above at end r.1 rs h.2 (omega (arith, h.0, h.1)) in
    rw (t, more) refl

pub apart_by_last : (at end low : ℕ) (rs : List Range) → AreInOrder low rs → is_apart (at, end) rs ≡ is_behind at (last_before end rs)
apart_by_last at end low [] h = refl
apart_by_last at end low (r ∷ rs) h = by_order (apart_by_last at end r.1 rs h.2) (cases_lt r.0 end)
  where
    by_last : (o : Option Range) → last_before end rs ≡ o → (nat_le r.1 at && is_behind at o) ≡ is_behind at (or_else o (Some r))
    by_last None k = grind (arith, nat_tests)
    by_last (Some x) k = let l = before-later end r.1 rs x h.2 k in grind (arith, nat_tests)

    by_order : is_apart (at, end) rs ≡ is_behind at (last_before end rs) → (r.0 < end) ⊎ (end ≤ r.0) → is_apart (at, end) (r ∷ rs) ≡ is_behind at (last_before end (r ∷ rs))
    by_order ih (inl lt) =
        let f : nat_le end r.0 ≡ false = grind (arith, nat_tests) in
        let last = before-some end r rs lt in
        rw (f, ih, last) (by_last (last_before end rs) refl)
    by_order ih (inr le) =
        let none = before-none end r.0 (r ∷ rs) (omega arith, h.1, h.2) le in
        apart-above at end r.0 (r ∷ rs) (omega arith, h.1, h.2) le ∙ sym (ap (is_behind at) none)

pub end-above : (at low : ℕ) (rs : List Range) → AreInOrder low rs → at < low → end_of at rs ≡ 0
end-above at low [] h le = refl
end-above at low (r ∷ rs) h le =
    let f : (r.0 == at) ≡ false = grind (arith, nat_tests, h.0) in
    let more = end-above at r.1 rs h.2 (omega (arith, h.0, h.1)) in
    rw (f, more) refl

pub end_by_last : (at low : ℕ) (rs : List Range) → AreInOrder low rs → end_of at rs ≡ end_from at (last_before (at + 1) rs)
end_by_last at low [] h = refl
end_by_last at low (r ∷ rs) h = by_order (end_by_last at r.1 rs h.2) (cases_lt r.0 (at + 1))
  where
    by_last : (o : Option Range) → last_before (at + 1) rs ≡ o → end_of at rs ≡ end_from at o → (cond (r.0 == at) (max r.1 (end_of at rs)) (end_of at rs)) ≡ end_from at (or_else o (Some r))
    by_last None k e = rw e (by_test (r.0 == at))
      where
        by_test : (b : Bool) → cond b (max r.1 0) 0 ≡ cond b r.1 0
        by_test true = omega arith
        by_test false = refl
    by_last (Some x) k e = let l = before-later (at + 1) r.1 rs x h.2 k in by_place (cases_lt r.0 at) l
      where
        by_place : (r.0 < at) ⊎ (at ≤ r.0) → (r.1 ≤ x.0) × (x.0 < x.1) → (cond (r.0 == at) (max r.1 (end_of at rs)) (end_of at rs)) ≡ end_from at (Some x)
        by_place (inl lt) l = let f : (r.0 == at) ≡ false = grind (arith, nat_tests) in rw f e
        by_place (inr le) l = let none = before-none (at + 1) r.1 rs h.2 (omega (arith, h.1)) in absurd cc

    by_order : end_of at rs ≡ end_from at (last_before (at + 1) rs) → (r.0 < at + 1) ⊎ (at + 1 ≤ r.0) → end_of at (r ∷ rs) ≡ end_from at (last_before (at + 1) (r ∷ rs))
    by_order ih (inl lt) = by_last (last_before (at + 1) rs) refl ih ∙ sym (ap (end_from at) (before-some (at + 1) r rs lt))
    by_order ih (inr le) =
        let none = before-none (at + 1) r.0 (r ∷ rs) (omega arith, h.1, h.2) le in
        end-above at (at + 1) (r ∷ rs) (le, h.1, h.2) (omega arith) ∙ sym (ap (end_from at) none)

-- ---- in both parts

pub both_behind : (at end : ℕ) (u v : List Range) → AreInOrder 0 u → AreInOrder 0 v → is_apart (at, end) (u ++ v) ≡ (is_behind at (last_before end u) && is_behind at (last_before end v))
both_behind at end u v h k =
    let a = apart_by_last at end 0 u h in
    let b = apart_by_last at end 0 v k in
    is_apart-append (at, end) u v ∙ (rw (a, b) refl)

pub both_ends : (at : ℕ) (u v : List Range) → AreInOrder 0 u → AreInOrder 0 v → end_of at (u ++ v) ≡ max (end_from at (last_before (at + 1) u)) (end_from at (last_before (at + 1) v))
both_ends at u v h k =
    let a = end_by_last at 0 u h in
    let b = end_by_last at 0 v k in
    end_of-append at u v ∙ (rw (a, b) refl)
