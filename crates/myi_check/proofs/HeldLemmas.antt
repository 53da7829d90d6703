-- Ranges that hold the same bytes, and ranges that are joined where they touch.
use Rattle.std.proofs.Common.{◌≡◌, ℕ, zero, suc, ◌+◌, ◌-◌, ◌<◌, ◌≤◌, max, Bool, true, false, eqb, cond, List, [], ◌∷◌, ◌++◌, length, take, set, get_or, ◌^◌, Result, Ok, Err, refl, sym, ap, subst, ◌∙◌, arith, append_assoc}
use Rattle.std.specs.Prelude.{◌&&◌, ◌||◌, nat_le, sum_by, IsPermutation, OnOk, OnErr}
use Rattle.std.specs.List.{AllByRecursion}
use Rattle.std.specs.List.Sorted.{IsNonDecreasingBy, IsPartitionPoint, IsPartitionedBy}
use Rattle.std.proofs.lemmas.Bool.{le-leb, leb-true, ne_eqb, and_parts}
use Rattle.std.proofs.lemmas.Bool.Decides.{nat_tests}
use Rattle.std.proofs.lemmas.List.{append-nil, map-append, take_more, get_or_default}
use Rattle.std.proofs.lemmas.List.Folds.{list_all-append}
use Rattle.std.proofs.lemmas.List.Sums.{sum_by-cons}
use Rattle.std.proofs.lemmas.List.Sorted.{sum_by-IsPermutation, All-permutation, IsPartitionedBy-leb}
use Rattle.std.proofs.lemmas.List.Elements.{All-from_recursion, recursion_from_All}
use Rattle.myi_base.specs.Ranges.{Range, are_apart, is_apart}
use Rattle.myi_chain.specs.Chain.{ranges_at}
use Rattle.myi_check.specs.HeldBytes.{IsForward, EndsNear, SameBytes, AreJoined, touches, both_ranges, joined_with, join_all}

-- ---- the same bytes

pub same_refl : (u : List Range) → SameBytes u u
same_refl u r some = refl

pub same_of : (u v : List Range) → u ≡ v → SameBytes u v
same_of u v e r some = ap (is_apart r) e

pub same_then : (u v w : List Range) → SameBytes u v → SameBytes v w → SameBytes u w
same_then u v w s t r some = s r some ∙ t r some

pub same_append : (u v t : List Range) → SameBytes u v → SameBytes (u ++ t) (v ++ t)
same_append u v t s r some =
    list_all-append (are_apart r) u t ∙ ap (λ b. b && is_apart r t) (s r some) ∙ sym (list_all-append (are_apart r) v t)

counted : (r : Range) (xs : List Range) → is_apart r xs ≡ eqb (sum_by (λ s. cond (are_apart r s) 0 1) xs) 0
counted r [] = refl
counted r (x ∷ xs) = by_test (are_apart r x) (is_apart r xs) (sum_by (λ s. cond (are_apart r s) 0 1) xs) (counted r xs) ∙ ap (λ n. eqb n 0) (sym (sum_by-cons (λ s. cond (are_apart r s) 0 1) x xs))
  where
    by_test : (b c : Bool) (n : ℕ) → c ≡ eqb n 0 → (b && c) ≡ eqb (cond b 0 1 + n) 0
    by_test true c n e = let same : n ≡ 0 + n = omega arith in e ∙ ap (λ m. eqb m 0) same
    by_test false c n e = sym (ne_eqb (1 + n) 0 (λ k. omega (arith, k)))

-- the order of the ranges does not count
pub same_permuted : (u v : List Range) → IsPermutation u v → SameBytes u v
same_permuted u v h r some =
    counted r u ∙ ap (λ n. eqb n 0) (sym (sum_by-IsPermutation (λ s. cond (are_apart r s) 0 1) u v h)) ∙ sym (counted r v)

-- ---- joining

two_apart : (m n a b c d : ℕ) → m < n → a ≤ c → c ≤ b → ((nat_le n a || nat_le b m) && (nat_le n c || nat_le d m)) ≡ (nat_le n a || nat_le (max b d) m)
two_apart m n a b c d some first second = grind (arith, nat_tests)

pub same_with : (rs : List Range) (s : Range) → SameBytes (rs ++ s ∷ []) (joined_with rs s)
same_with [] s r some = refl
same_with (a ∷ []) s r some = by_touch (touches a s) refl
  where
    step : touches a s ≡ true → (are_apart r a && are_apart r s) ≡ are_apart r (both_ranges a s)
    step e = let parts = and_parts (nat_le a.0 s.0) (nat_le s.0 a.1) e in two_apart r.0 r.1 a.0 a.1 s.0 s.1 some (leb-true _ _ parts.0) (leb-true _ _ parts.1)

    joined : (x y z : Bool) → (x && y) ≡ z → (x && (y && true)) ≡ (z && true)
    joined true true z e = rw (sym e) refl
    joined true false z e = rw (sym e) refl
    joined false y z e = rw (sym e) refl

    by_touch : (b : Bool) → touches a s ≡ b → is_apart r (a ∷ s ∷ []) ≡ is_apart r (cond b (both_ranges a s ∷ []) (a ∷ s ∷ []))
    by_touch true e = joined (are_apart r a) (are_apart r s) (are_apart r (both_ranges a s)) (step e)
    by_touch false e = refl
same_with (a ∷ b ∷ rs) s r some = ap (λ c. are_apart r a && c) (same_with (b ∷ rs) s r some)

pub same_all : (done rs : List Range) → SameBytes (done ++ rs) (join_all done rs)
same_all done [] = same_of (done ++ []) done (append-nil done)
same_all done (x ∷ rs) =
    same_then (done ++ x ∷ rs) (joined_with done x ++ rs) (join_all (joined_with done x) rs)
    (same_then (done ++ x ∷ rs) ((done ++ x ∷ []) ++ rs) (joined_with done x ++ rs)
    (same_of (done ++ x ∷ rs) ((done ++ x ∷ []) ++ rs) (sym (append_assoc done (x ∷ []) rs)))
    (same_append (done ++ x ∷ []) (joined_with done x) rs (same_with done x)))
    (same_all (joined_with done x) rs)

-- one more of a list of blocks
pub blocks_more : (old now next : List Range) (blocks : List (ℕ × ℕ)) (i : ℕ) (b : ℕ × ℕ) → i < length blocks → b ≡ get_or blocks i b → SameBytes (old ++ ranges_at (take i blocks)) now → SameBytes (now ++ (b.0, b.0 + b.1) ∷ []) next → SameBytes (old ++ ranges_at (take (i + 1) blocks)) next
blocks_more old now next blocks i b lt is so_far adds =
    let r : Range = (b.0, b.0 + b.1) in
    let more : ranges_at (take (i + 1) blocks) ≡ ranges_at (take i blocks) ++ r ∷ [] =
    ap ranges_at (take_more blocks i b lt ∙ ap (λ x. take i blocks ++ x ∷ []) (sym is)) ∙ map-append (λ (x : ℕ × ℕ). (x.0, x.0 + x.1)) (take i blocks) (b ∷ []) in
    let all : old ++ ranges_at (take (i + 1) blocks) ≡ (old ++ ranges_at (take i blocks)) ++ r ∷ [] = ap (λ xs. old ++ xs) more ∙ sym (append_assoc old (ranges_at (take i blocks)) (r ∷ [])) in
    same_then _ _ _ (same_of _ _ all) (same_then _ _ _ (same_append (old ++ ranges_at (take i blocks)) now (r ∷ []) so_far) adds)

pub near_at : (blocks : List (ℕ × ℕ)) (i : ℕ) (b : ℕ × ℕ) → AllByRecursion EndsNear blocks → i < length blocks → b ≡ get_or blocks i b → b.0 + b.1 < 2 ^ 64
near_at blocks i b near lt is = subst EndsNear (sym is) (at_index blocks i b near lt)
  where
    at_index : (bs : List (ℕ × ℕ)) (i : ℕ) (d : ℕ × ℕ) → AllByRecursion EndsNear bs → i < length bs → EndsNear (get_or bs i d)
    at_index [] i d near lt = absurd (omega (arith, lt))
    at_index (b ∷ bs) zero d near lt = near.0
    at_index (b ∷ bs) (suc i) d near lt = at_index bs i d near.1 (omega (arith, lt))

-- ---- by their indexes

pub with_none : (rs : List Range) (s : Range) → length rs ≡ 0 → joined_with rs s ≡ rs ++ s ∷ []
with_none [] s e = refl
with_none (r ∷ rs) s e = absurd (omega (arith, e))

pub with_touching : (rs : List Range) (s : Range) (k : ℕ) (d : Range) → suc k ≡ length rs → touches (get_or rs k d) s ≡ true → joined_with rs s ≡ set rs k (both_ranges (get_or rs k d) s)
with_touching [] s k d e t = absurd (omega (arith, e))
with_touching (r ∷ []) s zero d e t = rw t refl
with_touching (r ∷ []) s (suc k) d e t = absurd (omega (arith, e))
with_touching (r ∷ q ∷ rs) s zero d e t = absurd (omega (arith, e))
with_touching (r ∷ q ∷ rs) s (suc k) d e t = ap (λ xs. r ∷ xs) (with_touching (q ∷ rs) s k d (omega (arith, e)) t)

pub with_far : (rs : List Range) (s : Range) (k : ℕ) (d : Range) → suc k ≡ length rs → touches (get_or rs k d) s ≡ false → joined_with rs s ≡ rs ++ s ∷ []
with_far [] s k d e t = absurd (omega (arith, e))
with_far (r ∷ []) s zero d e t = rw t refl
with_far (r ∷ []) s (suc k) d e t = absurd (omega (arith, e))
with_far (r ∷ q ∷ rs) s zero d e t = absurd (omega (arith, e))
with_far (r ∷ q ∷ rs) s (suc k) d e t = ap (λ xs. r ∷ xs) (with_far (q ∷ rs) s k d (omega (arith, e)) t)

pub put_touching : (rs : List Range) (s : Range) (n m : ℕ) (x y : Range) → 0 < n → n ≡ length rs → x ≡ get_or rs (n - 1) x → y ≡ get_or rs (n - 1) y → touches x s ≡ true → m ≡ max y.1 s.1 → set rs (n - 1) (y.0, m) ≡ joined_with rs s
put_touching rs s n m x y some long isx isy t top =
    let inside : n - 1 < length rs = omega (arith, some, long) in
    let here : get_or rs (n - 1) y ≡ x = get_or_default rs (n - 1) y x inside ∙ sym isx in
    ap (set rs (n - 1)) (ap (λ q. (y.0, q)) top ∙ ap (λ r. both_ranges r s) isy) ∙ sym (with_touching rs s (n - 1) y (omega (arith, some, long)) (ap (λ r. touches r s) here ∙ t))

pub push_far : (rs : List Range) (s : Range) (n : ℕ) (x : Range) → 0 < n → n ≡ length rs → x ≡ get_or rs (n - 1) x → touches x s ≡ false → joined_with rs s ≡ rs ++ s ∷ []
push_far rs s n x some long isx t = with_far rs s (n - 1) x (omega (arith, some, long)) (ap (λ r. touches r s) (sym isx) ∙ t)

-- ---- none ends before it begins

pub forward_with : (rs : List Range) (s : Range) → AllByRecursion IsForward rs → s.0 ≤ s.1 → AllByRecursion IsForward (joined_with rs s)
forward_with [] s all fwd = (fwd, tt)
forward_with (a ∷ []) s all fwd = by_touch (touches a s)
  where
    by_touch : (b : Bool) → AllByRecursion IsForward (cond b (both_ranges a s ∷ []) (a ∷ s ∷ []))
    by_touch true = (omega (arith, all.0), tt)
    by_touch false = (all.0, (fwd, tt))
forward_with (a ∷ b ∷ rs) s all fwd = (all.0, forward_with (b ∷ rs) s all.1 fwd)

pub forward_permuted : (u v : List Range) → IsPermutation u v → AllByRecursion IsForward u → AllByRecursion IsForward v
forward_permuted u v h all = recursion_from_All IsForward v (All-permutation IsForward u v h (All-from_recursion IsForward u all))

pub forward_joined : (low : ℕ) (rs : List Range) → AreJoined low rs → AllByRecursion IsForward rs
forward_joined low [] h = tt
forward_joined low (r ∷ rs) h = (h.1, forward_joined (r.1 + 1) rs h.2)

-- ---- in order

-- from a place on, each range begins where the one before it does or behind that
abbrev Rise : ℕ → List Range → Type 0
Rise low [] = Unit {0}
Rise low (r ∷ rs) = (low ≤ r.0) × (r.0 ≤ r.1) × Rise r.0 rs

rise_of : (low : ℕ) (rs : List Range) → IsNonDecreasingBy (λ r. r.0) rs → AllByRecursion IsForward rs → ((d : Range) → 0 < length rs → low ≤ (get_or rs 0 d).0) → Rise low rs
rise_of low [] up all first = tt
rise_of low (r ∷ rs) up all first =
    (first r (omega arith), all.0, rise_of r.0 rs (λ i j d le lt. up (suc i) (suc j) d (omega (arith, le)) (omega (arith, lt))) all.1 (λ d some. up 0 1 d (omega arith) (omega (arith, some))))

begin_later : (b c : ℕ) (rs : List Range) → b ≤ c → AllByRecursion (λ r. r.0 ≤ b) rs → AllByRecursion (λ r. r.0 ≤ c) rs
begin_later b c [] le h = tt
begin_later b c (r ∷ rs) le h = (omega (arith, h.0), begin_later b c rs le h.1)

order_with : (low : ℕ) (rs : List Range) (s : Range) → AreJoined low rs → AllByRecursion (λ r. r.0 ≤ s.0) rs → low ≤ s.0 → s.0 ≤ s.1 → AreJoined low (joined_with rs s) × AllByRecursion (λ r. r.0 ≤ s.0) (joined_with rs s)
order_with low [] s h begin le fwd = ((le, fwd, tt), (omega arith, tt))
order_with low (a ∷ []) s h begin le fwd = by_touch (touches a s) refl
  where
    behind : touches a s ≡ false → a.1 + 1 ≤ s.0
    behind e = grind (arith, nat_tests, begin.0)

    by_touch : (b : Bool) → touches a s ≡ b → AreJoined low (cond b (both_ranges a s ∷ []) (a ∷ s ∷ [])) × AllByRecursion (λ r. r.0 ≤ s.0) (cond b (both_ranges a s ∷ []) (a ∷ s ∷ []))
    by_touch true e = ((h.0, omega (arith, h.1), tt), (begin.0, tt))
    by_touch false e = ((h.0, h.1, (behind e, fwd, tt)), (begin.0, (omega arith, tt)))
order_with low (a ∷ b ∷ rs) s h begin le fwd =
    let more = order_with (a.1 + 1) (b ∷ rs) s h.2 begin.1 (omega (arith, h.2.0, begin.1.0)) fwd in
    ((h.0, h.1, more.0), (begin.0, more.1))

order_more : (b : ℕ) (done rs : List Range) → AreJoined 0 done → AllByRecursion (λ r. r.0 ≤ b) done → Rise b rs → AreJoined 0 (join_all done rs)
order_more b done [] h begin up = h
order_more b done (x ∷ rs) h begin up =
    let more = order_with 0 done x h (begin_later b x.0 done up.0 begin) (omega arith) up.1 in
    order_more x.0 (joined_with done x) rs more.0 more.1 up.2

-- what is joined in order is in order
pub order_all : (rs : List Range) → IsNonDecreasingBy (λ r. r.0) rs → AllByRecursion IsForward rs → AreJoined 0 (join_all [] rs)
order_all rs up all = order_more 0 [] rs tt tt (rise_of 0 rs up all (λ d some. omega arith))

-- ---- asked by halves

ends_at_least : (low : ℕ) (rs : List Range) → AreJoined low rs → (j : ℕ) (d : Range) → j < length rs → low ≤ (get_or rs j d).1
ends_at_least low [] h j d lt = absurd (omega (arith, lt))
ends_at_least low (r ∷ rs) h zero d lt = omega (arith, h.0, h.1)
ends_at_least low (r ∷ rs) h (suc j) d lt = let more = ends_at_least (r.1 + 1) rs h.2 j d (omega (arith, lt)) in omega (arith, more, h.0, h.1)

ends_rise : (low : ℕ) (rs : List Range) → AreJoined low rs → (i j : ℕ) (d : Range) → i ≤ j → j < length rs → (get_or rs i d).1 ≤ (get_or rs j d).1
ends_rise low [] h i j d le lt = absurd (omega (arith, lt))
ends_rise low (r ∷ rs) h zero zero d le lt = omega arith
ends_rise low (r ∷ rs) h zero (suc j) d le lt = let more = ends_at_least (r.1 + 1) rs h.2 j d (omega (arith, lt)) in omega (arith, more)
ends_rise low (r ∷ rs) h (suc i) zero d le lt = absurd (omega (arith, le))
ends_rise low (r ∷ rs) h (suc i) (suc j) d le lt = ends_rise (r.1 + 1) rs h.2 i j d (omega (arith, le)) (omega (arith, lt))

pub is_parted : (at : ℕ) (rs : List Range) → AreJoined 0 rs → IsPartitionedBy (λ (r : Range). nat_le r.1 at) rs
is_parted at rs h = IsPartitionedBy-leb (λ (r : Range). r.1) rs at (ends_rise 0 rs h)

above_apart : (at end low : ℕ) (rs : List Range) → AreJoined low rs → end ≤ low → is_apart (at, end) rs ≡ true
above_apart at end low [] h le = refl
above_apart at end low (r ∷ rs) h le =
    let t : nat_le end r.0 ≡ true = le-leb _ _ (omega (arith, h.0)) in
    let more = above_apart at end (r.1 + 1) rs h.2 (omega (arith, h.0, h.1)) in
    rw (t, more) refl

abbrev Point : ℕ → List Range → ℕ → Type 0
Point at rs n = IsPartitionPoint (λ (r : Range). nat_le r.1 at ≡ true) (λ (r : Range). nat_le r.1 at ≡ false) rs n

point_more : (at : ℕ) (r : Range) (rs : List Range) (n : ℕ) → Point at (r ∷ rs) (suc n) → Point at rs n
point_more at r rs n h = ((λ k d low high. h.0 (suc k) d (omega arith) (omega (arith, high))), (λ k d low high. h.1 (suc k) d (omega (arith, low)) (omega (arith, high))))

before_apart : (at end : ℕ) (r : Range) (b : Bool) → nat_le r.1 at ≡ true → (are_apart (at, end) r && b) ≡ b
before_apart at end r b t = rw t (by_test (nat_le end r.0))
  where
    by_test : (c : Bool) → ((c || true) && b) ≡ b
    by_test true = refl
    by_test false = refl

-- all end before the range
pub apart_behind : (at end low : ℕ) (rs : List Range) (n : ℕ) → AreJoined low rs → Point at rs n → n ≡ length rs → is_apart (at, end) rs ≡ true
apart_behind at end low [] n h point e = refl
apart_behind at end low (r ∷ rs) zero h point e = absurd (omega (arith, e))
apart_behind at end low (r ∷ rs) (suc n) h point e =
    before_apart at end r (is_apart (at, end) rs) (point.0 0 r (omega arith) (omega arith)) ∙ apart_behind at end (r.1 + 1) rs n h.2 (point_more at r rs n point) (omega (arith, e))

-- the first that does not end before the range
pub apart_next : (at end low : ℕ) (rs : List Range) (n : ℕ) (d : Range) → AreJoined low rs → Point at rs n → n < length rs → is_apart (at, end) rs ≡ nat_le end (get_or rs n d).0
apart_next at end low [] n d h point lt = absurd (omega (arith, lt))
apart_next at end low (r ∷ rs) zero d h point lt =
    let f : nat_le r.1 at ≡ false = point.1 0 r (omega arith) (omega arith) in
    rw f (by_test (nat_le end r.0) refl)
  where
    by_test : (b : Bool) → nat_le end r.0 ≡ b → ((b || false) && is_apart (at, end) rs) ≡ b
    by_test true e = above_apart at end (r.1 + 1) rs h.2 (omega (arith, leb-true _ _ e, h.1))
    by_test false e = refl
apart_next at end low (r ∷ rs) (suc n) d h point lt =
    before_apart at end r (is_apart (at, end) rs) (point.0 0 r (omega arith) (omega arith)) ∙ apart_next at end (r.1 + 1) rs n d h.2 (point_more at r rs n point) (omega (arith, lt))

-- ---- the calls

pub put_same : (old items sorts given joined : List Range) → items ≡ old → IsPermutation items sorts → given ≡ sorts → joined ≡ join_all [] given → SameBytes old joined
put_same old items sorts given joined is moved same made =
    same_then old items joined (same_of old items (sym is)) (same_then items sorts joined (same_permuted items sorts moved)
    (same_then sorts (join_all [] sorts) joined (same_all [] sorts) (same_of (join_all [] sorts) joined (sym (made ∙ ap (join_all []) same)))))

pub put_order : (items sorts given joined : List Range) → AllByRecursion IsForward items → IsPermutation items sorts → IsNonDecreasingBy (λ r. r.0) sorts → given ≡ sorts → joined ≡ join_all [] given → AreJoined 0 joined
put_order items sorts given joined all moved up same made =
    subst (AreJoined 0) (sym (made ∙ ap (join_all []) same)) (order_all sorts up (forward_permuted items sorts moved all))

pub forward_pushed : {T E : Type 0} (result : Result T E) (old new : List Range) (s : Range) → AllByRecursion IsForward old → s.0 ≤ s.1 → OnOk result (new ≡ joined_with old s) → OnErr result (new ≡ old) → AllByRecursion IsForward new
forward_pushed (Ok x) old new s all fwd ok err = subst (AllByRecursion IsForward) (sym ok) (forward_with old s all fwd)
forward_pushed (Err e) old new s all fwd ok err = subst (AllByRecursion IsForward) (sym err) all

pub added : {T E : Type 0} (result : Result T E) (old now items new : List Range) (s : Range) → SameBytes old now → items ≡ now → OnOk result (new ≡ joined_with items s) → OnOk result (SameBytes (old ++ s ∷ []) new)
added (Ok x) old now items new s held is ok =
    same_then _ _ _ (same_append old now (s ∷ []) held) (same_then _ _ _ (same_with now s) (same_of _ _ (ap (λ rs. joined_with rs s) (sym is) ∙ sym ok)))
added (Err e) old now items new s held is ok = tt
