-- Used ranges in a list in order: how many begin before a place, and where the last ends.
use Rattle.std.proofs.Common.{◌≡◌, ℕ, zero, suc, ◌-◌, ◌<◌, ◌≤◌, Bool, true, false, List, [], ◌∷◌, ◌++◌, length, take, get_or, Some, None, refl, ap, ◌∙◌, arith}
use Rattle.std.specs.Prelude.{nat_lt, filter}
use Rattle.std.specs.List.Sorted.{IsPartitionPoint, IsPartitionedBy}
use Rattle.std.proofs.lemmas.Bool.{lt-ltb}
use Rattle.std.proofs.lemmas.List.{get_or_default}
use Rattle.std.proofs.lemmas.List.Sorted.{IsPartitionedBy-ltb}
use Rattle.myi_base.specs.Ranges.{Range}
use Rattle.myi_chain.specs.Used.{AreInOrder, reach, last_of, last_before}

at_least : (low : ℕ) (rs : List Range) → AreInOrder low rs → (j : ℕ) (d : Range) → j < length rs → low ≤ (get_or rs j d).0
at_least low [] h j d lt = absurd (omega (arith, lt))
at_least low (r ∷ rs) h zero d lt = h.0
at_least low (r ∷ rs) h (suc j) d lt = let more = at_least r.1 rs h.2 j d (omega (arith, lt)) in omega (arith, more, h.0, h.1)

pub rising : (low : ℕ) (rs : List Range) → AreInOrder low rs → (i j : ℕ) (d : Range) → i ≤ j → j < length rs → (get_or rs i d).0 ≤ (get_or rs j d).0
rising low [] h i j d le lt = absurd (omega (arith, lt))
rising low (r ∷ rs) h zero zero d le lt = omega arith
rising low (r ∷ rs) h zero (suc j) d le lt = let more = at_least r.1 rs h.2 j d (omega (arith, lt)) in omega (arith, more, h.1)
rising low (r ∷ rs) h (suc i) zero d le lt = absurd (omega (arith, le))
rising low (r ∷ rs) h (suc i) (suc j) d le lt = rising r.1 rs h.2 i j d (omega (arith, le)) (omega (arith, lt))

pub is_parted : (end : ℕ) (rs : List Range) → AreInOrder 0 rs → IsPartitionedBy (λ (r : Range). nat_lt r.0 end) rs
is_parted end rs h = IsPartitionedBy-ltb (λ (r : Range). r.0) rs end (rising 0 rs h)

-- the last begins before the place, so all do
pub all_before : (end : ℕ) (rs : List Range) (e : Range) → AreInOrder 0 rs → (get_or rs (length rs - 1) e).0 < end → IsPartitionPoint (λ (r : Range). nat_lt r.0 end ≡ true) (λ (r : Range). nat_lt r.0 end ≡ false) rs (length rs)
all_before end rs e h lt = (
  (λ k d low high.
      let last = get_or_default rs (length rs - 1) d e (omega (arith, high)) in
      let up = rising 0 rs h k (length rs - 1) d (omega (arith, high)) (omega (arith, high)) in
      lt-ltb _ _ (omega (arith, up, lt, ap (λ (r : Range). r.0) last))),
  (λ k d low high. absurd (omega (arith, low, high))),
)

filter-point : (p : Range → Bool) (rs : List Range) (n : ℕ) → IsPartitionPoint (λ r. p r ≡ true) (λ r. p r ≡ false) rs n → filter p rs ≡ take n rs
filter-point p [] zero h = refl
filter-point p [] (suc n) h = refl
filter-point p (r ∷ rs) zero h =
    let f : p r ≡ false = h.1 0 r (omega arith) (omega arith) in
    let more = filter-point p rs zero ((λ k d low high. absurd (omega (arith, high))), (λ k d low high. h.1 (suc k) d (omega arith) (omega (arith, high)))) in
    rw f more
filter-point p (r ∷ rs) (suc n) h =
    let t : p r ≡ true = h.0 0 r (omega arith) (omega arith) in
    let more = filter-point p rs n ((λ k d low high. h.0 (suc k) d (omega arith) (omega (arith, high))), (λ k d low high. h.1 (suc k) d (omega (arith, low)) (omega (arith, high)))) in
    rw (t, more) refl

last_of-take : (rs : List Range) (n : ℕ) (d : Range) → n < length rs → last_of (take (suc n) rs) ≡ Some (get_or rs n d)
last_of-take [] n d lt = absurd (omega (arith, lt))
last_of-take (r ∷ rs) zero d lt = refl
last_of-take (r ∷ []) (suc n) d lt = absurd (omega (arith, lt))
last_of-take (r ∷ s ∷ rs) (suc n) d lt = last_of-take (s ∷ rs) n d (omega (arith, lt))

pub before_none : (end : ℕ) (rs : List Range) (n : ℕ) → IsPartitionPoint (λ (r : Range). nat_lt r.0 end ≡ true) (λ (r : Range). nat_lt r.0 end ≡ false) rs n → n ≡ 0 → last_before end rs ≡ None
before_none end rs n h e = ap last_of (filter-point (λ (r : Range). nat_lt r.0 end) rs n h ∙ ap (λ k. take k rs) e)

pub before_count : (end : ℕ) (rs : List Range) (n k : ℕ) (d : Range) → IsPartitionPoint (λ (r : Range). nat_lt r.0 end ≡ true) (λ (r : Range). nat_lt r.0 end ≡ false) rs n → n ≡ suc k → n ≤ length rs → last_before end rs ≡ Some (get_or rs k d)
before_count end rs n k d h e le = ap last_of (filter-point (λ (r : Range). nat_lt r.0 end) rs n h ∙ ap (λ k. take k rs) e) ∙ last_of-take rs k d (omega (arith, le, e))

pub reach_last : (low : ℕ) (rs : List Range) (k : ℕ) (d : Range) → suc k ≡ length rs → reach low rs ≡ (get_or rs k d).1
reach_last low [] k d e = absurd (omega (arith, e))
reach_last low (r ∷ []) zero d e = refl
reach_last low (r ∷ []) (suc k) d e = absurd (omega (arith, e))
reach_last low (r ∷ s ∷ rs) zero d e = absurd (omega (arith, e))
reach_last low (r ∷ s ∷ rs) (suc k) d e = reach_last r.1 (s ∷ rs) k d (omega (arith, e))

-- one more at the end
pub push_order : (low : ℕ) (rs : List Range) (r : Range) → AreInOrder low rs → reach low rs ≤ r.0 → r.0 < r.1 → AreInOrder low (rs ++ r ∷ [])
push_order low [] r h le lt = (le, lt, tt)
push_order low (s ∷ rs) r h le lt = (h.0, h.1, push_order s.1 rs r h.2 le lt)
