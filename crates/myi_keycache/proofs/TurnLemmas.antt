-- Which pages a flush writes, and in which order.
use Rattle.std.proofs.Common.{◌≡◌, ℕ, zero, suc, ◌+◌, ◌≤◌, ◌<◌, ◌^◌, Bool, true, false, cond, List, [], ◌∷◌, ◌++◌, length, map, take, drop, slice_get, get_or, Option, None, Some, Ok, Err, refl, sym, ap, subst, ◌∙◌, arith, inl, inr}
use Rattle.std.specs.Prelude.{◌&&◌, ◌||◌, ◌==◌, nat_le, unwrap_or, count_by, if◌then◌else◌, OnOk, OnErr, IfSome, Result}
use Rattle.std.specs.List.{AllByRecursion, list_any}
use Rattle.std.specs.Option.{option_len}
use Rattle.std.specs.List.Sorted.{IsPermutation, IsNonDecreasingBy}
use Rattle.std.proofs.lemmas.Bool.{cases_Bool, and_from, eqb-true, eq-eqb, or_left, or_right, leb-true, leb-false}
use Rattle.std.proofs.lemmas.List.{map-append, length-map, length-append, take-append-drop, get_or-map}
use Rattle.std.proofs.lemmas.List.Elements.{recursion_from_All, All-from_recursion}
use Rattle.std.proofs.lemmas.List.Sorted.{sum_by-IsPermutation, list_any-IsPermutation, All-permutation, IsPermutation-map, IsPermutation-refl, IsPermutation-cons, IsPermutation-trans, IsPermutation-middle}
use Rattle.std.proofs.lemmas.List.Sums.{sum_by-cons, fold-append}
use Rattle.std.proofs.lemmas.Option.{same_Some}
use Rattle.myi_base.specs.Holding.{Holding, bytes_of, overwritten, Told, Writes, WritesPart}
use Rattle.myi_base.proofs.CallerLemmas.{told_same, told_then}
use Rattle.myi_keycache.specs.declared.setup.Counters.{Counters}
use Rattle.myi_keycache.specs.Kept.{Page, is_page, is_unwritten, unwritten_count, SameUnwritten}
use Rattle.myi_keycache.specs.Counts.{raised, writes_after, flushes_counted}
use Rattle.myi_keycache.specs.Caching.{Caching, pages_of, if_unwritten, WritesOne}
use Rattle.myi_keycache.specs.Flushing.{unwritten_of, AreInTurn, after_writes, WritesEach, WritesPartOfFirst, FlushWrites}
use Rattle.myi_keycache.specs.Order.{Order, contents_of, unwritten_at, Pairs, counts_one, cache_of}
use Rattle.myi_keycache.proofs.CacheLemmas.{pages_eq, after_write}
use Rattle.myi_keycache.proofs.FlushLemmas.{unwritten_from, Covers, OneWritten, at_other, drop_one, no_more}

-- ---- the pages at indexes

abbrev no_page : Page
no_page = record { at = 0; bytes = []; unwritten = false }

abbrev pub at_index : List Page → ℕ × ℕ → Page
at_index pages f = unwrap_or (slice_get pages f.1) no_page

abbrev pub chosen : List Page → List (ℕ × ℕ) → List Page
chosen pages found = map (at_index pages) found

at_is : (pages : List Page) (f : ℕ × ℕ) (p : Page) → slice_get pages f.1 ≡ Some p → at_index pages f ≡ p
at_is pages f p e = ap (λ (o : Option Page). unwrap_or o no_page) e

one_chosen : (all : List Page) (x : Page) (k : ℕ) (found : List (ℕ × ℕ)) (others : List Page) (b : Bool) → at_index all (x.at, k) ≡ x → chosen all found ≡ others → chosen all (if b then (x.at, k) ∷ found else found) ≡ (if b then x ∷ others else others)
one_chosen all x k found others true here e = λ j. here j ∷ e j
one_chosen all x k found others false here e = e

chosen_from : (all pages : List Page) (k : ℕ) → ((i : ℕ) → slice_get all (i + k) ≡ slice_get pages i) → chosen all (unwritten_from k pages) ≡ unwritten_of pages
chosen_from all [] k same = refl
chosen_from all (x ∷ pages) k same =
    let more : (i : ℕ) → slice_get all (i + suc k) ≡ slice_get pages i = λ i. let n : i + suc k ≡ suc i + k = omega arith in ap (slice_get all) n ∙ same (suc i) in
    let rest = chosen_from all pages (suc k) more in
    let here : at_index all (x.at, k) ≡ x = let n : k ≡ 0 + k = omega arith in at_is all (x.at, k) x (ap (slice_get all) n ∙ same 0) in
    one_chosen all x k (unwritten_from (suc k) pages) (unwritten_of pages) x.unwritten here rest

chosen_all : (pages : List Page) → chosen pages (unwritten_from 0 pages) ≡ unwritten_of pages
chosen_all pages = chosen_from pages pages 0 (λ i. let n : i + 0 ≡ i = omega arith in ap (slice_get pages) n)

-- ---- each index stands once

abbrev times_at : ℕ → List (ℕ × ℕ) → ℕ
times_at j found = count_by (λ (f : ℕ × ℕ). f.1 == j) found

times_first : (j : ℕ) (f : ℕ × ℕ) (found : List (ℕ × ℕ)) → times_at j (f ∷ found) ≡ cond {A = ℕ} (f.1 == j) 1 0 + times_at j found
times_first j f found = sum_by-cons (λ (g : ℕ × ℕ). cond {A = ℕ} (g.1 == j) 1 0) f found

-- an index below all of them
none_below : (pages : List Page) (k j : ℕ) → j < k → times_at j (unwritten_from k pages) ≡ 0
none_below [] k j lt = refl
none_below (x ∷ pages) k j lt =
    let rest = none_below pages (suc k) j (omega arith) in
    elim (cases_Bool x.unwritten) [
      | inl u ↦ rw u (elim (cases_Bool (k == j)) [
        | inl is ↦ let e = eqb-true k j is in absurd (omega (arith, e, lt))
        | inr off ↦ let a = times_first j (x.at, k) (unwritten_from (suc k) pages) in let b : cond {A = ℕ} (k == j) 1 0 ≡ 0 = ap (λ (t : Bool). cond {A = ℕ} t 1 0) off in omega (arith, a, b, rest)
      ])
      | inr w ↦ rw w rest
    ]

at_most_once : (pages : List Page) (k j : ℕ) → times_at j (unwritten_from k pages) ≤ 1
at_most_once [] k j = omega arith
at_most_once (x ∷ pages) k j =
    let rest = at_most_once pages (suc k) j in
    elim (cases_Bool x.unwritten) [
      | inl u ↦ rw u (elim (cases_Bool (k == j)) [
        | inl is ↦
            let e = eqb-true k j is in
            let none = none_below pages (suc k) j (omega (arith, e)) in
            let a = times_first j (x.at, k) (unwritten_from (suc k) pages) in
            let b : cond {A = ℕ} (k == j) 1 0 ≡ 1 = ap (λ (t : Bool). cond {A = ℕ} t 1 0) is in
            omega (arith, a, b, none)
        | inr off ↦ let a = times_first j (x.at, k) (unwritten_from (suc k) pages) in let b : cond {A = ℕ} (k == j) 1 0 ≡ 0 = ap (λ (t : Bool). cond {A = ℕ} t 1 0) off in omega (arith, a, b, rest)
      ])
      | inr w ↦ rw w rest
    ]

not_among : (j : ℕ) (found : List (ℕ × ℕ)) → times_at j found ≡ 0 → AllByRecursion (λ (f : ℕ × ℕ). (f.1 == j) ≡ false) found
not_among j [] e = tt
not_among j (f ∷ found) e =
    let a = times_first j f found in
    elim (cases_Bool (f.1 == j)) [
      | inl is ↦ let b : cond {A = ℕ} (f.1 == j) 1 0 ≡ 1 = ap (λ (t : Bool). cond {A = ℕ} t 1 0) is in absurd (omega (arith, a, b, e))
      | inr off ↦ (off, not_among j found (omega (arith, a, e)))
    ]

-- ---- the pages that are still to be written

-- the page at this index is as it was, and unwritten
abbrev IsAhead : List Page → List Page → ℕ × ℕ → Type 0
IsAhead old now f = (p : Page) × (slice_get old f.1 ≡ Some p) × (slice_get now f.1 ≡ Some p) × (p.unwritten ≡ true) × (p.at ≡ f.0)

from_ahead : (all pages : List Page) (k : ℕ) → ((i : ℕ) → slice_get all (i + k) ≡ slice_get pages i) → AllByRecursion (IsAhead all all) (unwritten_from k pages)
from_ahead all [] k same = tt
from_ahead all (x ∷ pages) k same =
    let more : (i : ℕ) → slice_get all (i + suc k) ≡ slice_get pages i = λ i. let n : i + suc k ≡ suc i + k = omega arith in ap (slice_get all) n ∙ same (suc i) in
    let rest = from_ahead all pages (suc k) more in
    let there : slice_get all k ≡ Some x = let n : k ≡ 0 + k = omega arith in ap (slice_get all) n ∙ same 0 in
    elim (cases_Bool x.unwritten) [
      | inl u ↦ rw u ((x, there, there, u, refl), rest)
      | inr w ↦ rw w rest
    ]

pub record Turn (old now : List Page) (rest : List (ℕ × ℕ)) : Type 0 where
  pub ahead : AllByRecursion (IsAhead old now) rest
  pub once : (j : ℕ) → times_at j rest ≤ 1

pub turn_start : (pages : List Page) (found : List (ℕ × ℕ)) → IsPermutation (unwritten_from 0 pages) found → Turn pages pages found
turn_start pages found perm = record {
  ahead =
      let P : ℕ × ℕ → Type 0 = IsAhead pages pages in
      let all = from_ahead pages pages 0 (λ i. let n : i + 0 ≡ i = omega arith in ap (slice_get pages) n) in
      recursion_from_All P found (All-permutation P (unwritten_from 0 pages) found perm (All-from_recursion P (unwritten_from 0 pages) all));
  once = λ j.
      let a : times_at j found ≡ times_at j (unwritten_from 0 pages) = sum_by-IsPermutation (λ (f : ℕ × ℕ). cond {A = ℕ} (f.1 == j) 1 0) (unwritten_from 0 pages) found perm in
      let b = at_most_once pages 0 j in
      omega (arith, a, b);
}

ahead_next : (old now new : List Page) (j : ℕ) → OneWritten now new j → (rest : List (ℕ × ℕ)) → AllByRecursion (IsAhead old now) rest → AllByRecursion (λ (f : ℕ × ℕ). (f.1 == j) ≡ false) rest → AllByRecursion (IsAhead old new) rest
ahead_next old now new j w [] all others = tt
ahead_next old now new j w (f ∷ rest) all others =
    let a = all.0 in
    let differs : f.1 ≡ length w.front → ⊥ = λ same. let yes : true ≡ false = sym (eq-eqb f.1 j (same ∙ w.long)) ∙ others.0 in absurd cc in
    let there : slice_get new f.1 ≡ Some a.0 = ap (λ l. slice_get l f.1) w.is ∙ at_other w.front w.page _ w.back f.1 differs ∙ sym (ap (λ l. slice_get l f.1) w.was) ∙ a.2 in
    ((a.0, a.1, there, a.3, a.4), ahead_next old now new j w rest all.1 others.1)

pub turn_next : (old now new : List Page) (f : ℕ × ℕ) (rest : List (ℕ × ℕ)) → OneWritten now new f.1 → Turn old now (f ∷ rest) → Turn old new rest
turn_next old now new f rest w t =
    let a = t.once f.1 in
    let b = times_first f.1 f rest in
    let c : cond {A = ℕ} (f.1 == f.1) 1 0 ≡ 1 = ap (λ (u : Bool). cond {A = ℕ} u 1 0) (eq-eqb f.1 f.1 refl) in
    record {
      ahead = ahead_next old now new f.1 w rest t.ahead.1 (not_among f.1 rest (omega (arith, a, b, c)));
      once = λ j. let d = t.once j in let e = times_first j f rest in omega (arith, d, e);
    }

-- ---- which pages are unwritten

both_ways : (a b : Bool) → (a ≡ true → b ≡ true) → (b ≡ true → a ≡ true) → a ≡ b
both_ways true b f g = sym (f refl)
both_ways false true f g = g refl
both_ways false false f g = refl

at_some_index : (pages : List Page) (q n : ℕ) → is_unwritten pages q n ≡ true → (i : ℕ) × (p : Page) × (slice_get pages i ≡ Some p) × ((is_page q n p && p.unwritten) ≡ true)
unfolding is_unwritten
at_some_index [] q n u = absurd cc
at_some_index (x ∷ pages) q n u = elim (cases_Bool (is_page q n x && x.unwritten)) [
  | inl is ↦ (0, x, refl, is)
  | inr other ↦ let r = at_some_index pages q n (rw other at u) in (suc r.0, r.1, r.2, r.3)
]

from_index : (pages : List Page) (q n i : ℕ) (p : Page) → slice_get pages i ≡ Some p → (is_page q n p && p.unwritten) ≡ true → is_unwritten pages q n ≡ true
unfolding is_unwritten
from_index [] q n i p at is = absurd cc
from_index (x ∷ pages) q n zero p at is = let same : x ≡ p = same_Some x p at in or_left _ _ (subst (λ (t : Page). (is_page q n t && t.unwritten) ≡ true) (sym same) is)
from_index (x ∷ pages) q n (suc i) p at is = or_right _ _ (from_index pages q n i p at is)

is_chosen : (old now : List Page) (q n i : ℕ) (p : Page) (rest : List (ℕ × ℕ)) → slice_get now i ≡ Some p → (is_page q n p && p.unwritten) ≡ true → list_any (λ (f : ℕ × ℕ). f.1 == i) rest ≡ true → AllByRecursion (IsAhead old now) rest → is_unwritten (chosen old rest) q n ≡ true
unfolding is_unwritten
is_chosen old now q n i p [] got is any all = absurd cc
is_chosen old now q n i p (f ∷ rest) got is any all = elim (cases_Bool (f.1 == i)) [
  | inl same ↦
      let a = all.0 in
      let page : a.0 ≡ p = same_Some a.0 p (sym a.2 ∙ ap (slice_get now) (eqb-true f.1 i same) ∙ got) in
      let here : at_index old f ≡ p = at_is old f a.0 a.1 ∙ page in
      or_left _ _ (subst (λ (t : Page). (is_page q n t && t.unwritten) ≡ true) (sym here) is)
  | inr other ↦ or_right _ _ (is_chosen old now q n i p rest got is (rw other at any) all.1)
]

chosen_is : (old now : List Page) (q n : ℕ) (rest : List (ℕ × ℕ)) → AllByRecursion (IsAhead old now) rest → is_unwritten (chosen old rest) q n ≡ true → is_unwritten now q n ≡ true
unfolding is_unwritten
chosen_is old now q n [] all u = absurd cc
chosen_is old now q n (f ∷ rest) all u = elim (cases_Bool (is_page q n (at_index old f) && (at_index old f).unwritten)) [
  | inl is ↦ let a = all.0 in from_index now q n f.1 a.0 a.2 (subst (λ (t : Page). (is_page q n t && t.unwritten) ≡ true) (at_is old f a.0 a.1) is)
  | inr other ↦ chosen_is old now q n rest all.1 (rw other at u)
]

rest_unwritten : (old now : List Page) (rest : List (ℕ × ℕ)) → Covers now rest → AllByRecursion (IsAhead old now) rest → SameUnwritten (chosen old rest) now
rest_unwritten old now rest covers all q n = both_ways _ _
    (λ u. let r = at_some_index now q n u in is_chosen old now q n r.0 r.1 rest r.2 r.3 (covers r.0 r.1 r.2 (let p = r.3 in second (is_page q n r.1) r.1.unwritten p)) all)
    (chosen_is old now q n rest all)
  where
    second : (a b : Bool) → (a && b) ≡ true → b ≡ true
    second true b e = e
    second false b e = absurd cc

-- ---- in order of place

abbrev Before : Page → Page → Type 0
Before p q = p.at ≤ q.at

pairs_rise : (pages : List Page) → Pairs Before pages → IsNonDecreasingBy (λ (p : Page). p.at) pages
unfolding Pairs
pairs_rise [] ps i j d le below = absurd (omega arith)
pairs_rise (x ∷ pages) ps zero zero d le below = omega arith
pairs_rise (x ∷ pages) ps zero (suc j) d le below = (All-from_recursion (Before x) pages ps.0) j d (omega arith)
pairs_rise (x ∷ pages) ps (suc i) zero d le below = absurd (omega arith)
pairs_rise (x ∷ pages) ps (suc i) (suc j) d le below = pairs_rise pages ps.1 i j d (omega arith) (omega arith)

-- a page among others, before the first one that is not before it
placed : Page → List Page → List Page
placed x [] = x ∷ []
placed x (y ∷ pages) = if nat_le x.at y.at then x ∷ y ∷ pages else y ∷ placed x pages

in_turn : List Page → List Page
in_turn [] = []
in_turn (x ∷ pages) = placed x (in_turn pages)

placed_all : (x : Page) (pages : List Page) → IsPermutation (x ∷ pages) (placed x pages)
unfolding placed
placed_all x [] = IsPermutation-refl (x ∷ [])
placed_all x (y ∷ pages) = by (nat_le x.at y.at) (placed_all x pages)
  where
    by : (b : Bool) → IsPermutation (x ∷ pages) (placed x pages) → IsPermutation (x ∷ y ∷ pages) (if b then x ∷ y ∷ pages else y ∷ placed x pages)
    by true rest = IsPermutation-refl (x ∷ y ∷ pages)
    by false rest = IsPermutation-trans (x ∷ y ∷ pages) (y ∷ x ∷ pages) (y ∷ placed x pages) (IsPermutation-middle (x ∷ []) y pages) (IsPermutation-cons y (x ∷ pages) (placed x pages) rest)

placed_above : (y x : Page) (pages : List Page) → Before y x → AllByRecursion (Before y) pages → AllByRecursion (Before y) (placed x pages)
unfolding placed
placed_above y x [] le all = (le, tt)
placed_above y x (z ∷ pages) le all = by (nat_le x.at z.at) (placed_above y x pages le all.1)
  where
    by : (b : Bool) → AllByRecursion (Before y) (placed x pages) → AllByRecursion (Before y) (if b then x ∷ z ∷ pages else z ∷ placed x pages)
    by true rest = (le, all)
    by false rest = (all.0, rest)

all_above : (x y : Page) (pages : List Page) → Before x y → AllByRecursion (Before y) pages → AllByRecursion (Before x) pages
all_above x y [] le all = tt
all_above x y (z ∷ pages) le all = (omega (arith, le, all.0), all_above x y pages le all.1)

placed_pairs : (x : Page) (pages : List Page) → Pairs Before pages → Pairs Before (placed x pages)
unfolding placed Pairs
placed_pairs x [] ps = (tt, tt)
placed_pairs x (y ∷ pages) ps = by (nat_le x.at y.at) refl (placed_pairs x pages ps.1)
  where
    by : (b : Bool) → nat_le x.at y.at ≡ b → Pairs Before (placed x pages) → Pairs Before (if b then x ∷ y ∷ pages else y ∷ placed x pages)
    by true e rest = let le = leb-true _ _ e in ((le, all_above x y pages le ps.0), ps)
    by false e rest = let lt = leb-false _ _ e in (placed_above y x pages (omega (arith, lt)) ps.0, rest)

in_turn_all : (pages : List Page) → IsPermutation pages (in_turn pages)
unfolding in_turn
in_turn_all [] = IsPermutation-refl []
in_turn_all (x ∷ pages) = IsPermutation-trans (x ∷ pages) (x ∷ in_turn pages) (placed x (in_turn pages)) (IsPermutation-cons x pages (in_turn pages) (in_turn_all pages)) (placed_all x (in_turn pages))

in_turn_pairs : (pages : List Page) → Pairs Before (in_turn pages)
unfolding in_turn Pairs
in_turn_pairs [] = tt
in_turn_pairs (x ∷ pages) = placed_pairs x (in_turn pages) (in_turn_pairs pages)

-- the chosen pages stand in the order of their places
place_of : (old now : List Page) (rest : List (ℕ × ℕ)) (i : ℕ) (d : ℕ × ℕ) → AllByRecursion (IsAhead old now) rest → i < length rest → (at_index old (get_or rest i d)).at ≡ (get_or rest i d).0
place_of old now [] i d all lt = absurd (omega (arith, lt))
place_of old now (f ∷ rest) zero d all lt = let a = all.0 in ap (λ (p : Page). p.at) (at_is old f a.0 a.1) ∙ a.4
place_of old now (f ∷ rest) (suc i) d all lt = place_of old now rest i d all.1 (omega (arith, lt))

chosen_rise : (old now : List Page) (found : List (ℕ × ℕ)) → AllByRecursion (IsAhead old now) found → IsNonDecreasingBy (λ (f : ℕ × ℕ). f.0) found → IsNonDecreasingBy (λ (p : Page). p.at) (chosen old found)
chosen_rise old now found all rising i j d le below =
    let long : length (chosen old found) ≡ length found = length-map found (at_index old) in
    let j_in : j < length found = omega (arith, below, long) in
    let i_in : i < length found = omega (arith, le, j_in) in
    let a = ap (λ (p : Page). p.at) (get_or-map (at_index old) found i (0, 0) d i_in) ∙ place_of old now found i (0, 0) all i_in in
    let b = ap (λ (p : Page). p.at) (get_or-map (at_index old) found j (0, 0) d j_in) ∙ place_of old now found j (0, 0) all j_in in
    let c = rising i j (0, 0) le j_in in
    omega (arith, a, b, c)

pub turn_is : (pages : List Page) (found : List (ℕ × ℕ)) → IsPermutation (unwritten_from 0 pages) found → IsNonDecreasingBy (λ (f : ℕ × ℕ). f.0) found → AreInTurn pages (chosen pages found)
turn_is pages found perm rising = record {
  all = subst (λ l. IsPermutation l (chosen pages found)) (chosen_all pages) (IsPermutation-map (at_index pages) (unwritten_from 0 pages) found perm);
  in_order = chosen_rise pages pages found (turn_start pages found perm).ahead rising;
}

-- ---- what was written

pub writes_none : (name : List ℕ) (m : Holding) → WritesEach name [] m m
writes_none name m = refl

pub writes_more : (name : List ℕ) (done : List Page) (p : Page) (m k n : Holding) → WritesEach name done m k → Writes name p.at p.bytes k n → WritesEach name (done ++ p ∷ []) m n
writes_more name [] p m k n same w = subst (λ (h : Holding). Writes name p.at p.bytes h n) same w
writes_more name (d ∷ done) p m k n s w = record {
  here =
      let was : bytes_of name k ≡ after_writes (d ∷ done) (bytes_of name m) = after_write name _ k s.here in
      let more : after_writes ((d ∷ done) ++ p ∷ []) (bytes_of name m) ≡ overwritten p.at p.bytes (after_writes (d ∷ done) (bytes_of name m)) = fold-append (λ (bytes : List ℕ) (page : Page). overwritten page.at page.bytes bytes) (bytes_of name m) (d ∷ done) (p ∷ []) in
      w.here ∙ ap (λ (l : List ℕ). Some (overwritten p.at p.bytes l)) was ∙ ap Some (sym more);
  others = λ q ne. w.others q ne ∙ s.others q ne;
}

take_one : (found : List (ℕ × ℕ)) (i : ℕ) → i < length found → take (i + 1) found ≡ take i found ++ get_or found i (0, 0) ∷ []
take_one [] i lt = absurd (omega (arith, lt))
take_one (f ∷ found) zero lt = refl
take_one (f ∷ found) (suc i) lt = let n : suc i + 1 ≡ suc (i + 1) = omega arith in ap (λ (k : ℕ). take k (f ∷ found)) n ∙ ap (λ l. f ∷ l) (take_one found i (omega (arith, lt)))

-- ---- the loop

-- the first i pages are written, and the rest is still to be
pub record Turning (before after : Option Holding) (name : List ℕ) (o now : Order) (c d : Counters) (found : List (ℕ × ℕ)) (i : ℕ) : Type 0 where
  pub turn : Turn (contents_of o.pages) (contents_of now.pages) (drop i found)
  pub counted : d.writes ≡ raised (length (take i found)) c.writes
  pub told : Told before after (WritesEach name (chosen (contents_of o.pages) (take i found)))

pub turning_start : (before : Option Holding) (name : List ℕ) (o : Order) (c : Counters) (found : List (ℕ × ℕ)) → IsPermutation (unwritten_from 0 (contents_of o.pages)) found → c.writes < 2 ^ 64 → Turning before before name o o c c found 0
turning_start before name o c found perm small = record {
  turn = turn_start (contents_of o.pages) found perm;
  counted = omega (arith, small);
  told = told_same before before _ refl (λ m held. refl);
}

-- the page whose turn it is
pub record Next (o now : Order) (f : ℕ × ℕ) : Type 0 where
  pub due : unwritten_at now f.1 ≡ Some (at_index (contents_of o.pages) f)
  pub was : is_unwritten (contents_of o.pages) (at_index (contents_of o.pages) f).at (length (at_index (contents_of o.pages) f).bytes) ≡ true

next_of : (o now : Order) (f : ℕ × ℕ) → IsAhead (contents_of o.pages) (contents_of now.pages) f → Next o now f
unfolding unwritten_at
next_of o now f a =
    let here : at_index (contents_of o.pages) f ≡ a.0 = at_is (contents_of o.pages) f a.0 a.1 in
    record {
      due = ap if_unwritten a.2 ∙ ap (λ (b : Bool). if b then Some a.0 else None) a.3 ∙ ap Some (sym here);
      was =
          let p : Page = a.0 in
          let named : is_page p.at (length p.bytes) p ≡ true = and_from _ _ (eq-eqb p.at p.at refl) (eq-eqb (length p.bytes) (length p.bytes) refl) in
          subst (λ (t : Page). is_unwritten (contents_of o.pages) t.at (length t.bytes) ≡ true) (sym here) (from_index (contents_of o.pages) p.at (length p.bytes) f.1 p a.1 (and_from _ _ named a.3));
    }

pub turning_next_page : (before after : Option Holding) (name : List ℕ) (o now : Order) (c d : Counters) (found : List (ℕ × ℕ)) (i : ℕ) → i < length found → Turning before after name o now c d found i → Next o now (get_or found i (0, 0))
turning_next_page before after name o now c d found i lt t = next_of o now (get_or found i (0, 0)) (subst (AllByRecursion (IsAhead (contents_of o.pages) (contents_of now.pages))) (drop_one found i lt) t.turn.ahead).0

pub turning_next : {T E : Type 0} (a b e : Option Holding) (name : List ℕ) (o now new : Order) (c d k : Counters) (found : List (ℕ × ℕ)) (i : ℕ) (f : ℕ × ℕ) (x : T) → i < length found → get_or found i (0, 0) ≡ f → Turning a b name o now c d found i → OneWritten (contents_of now.pages) (contents_of new.pages) f.1
    → WritesOne {T = T} {E = E} b e name (unwritten_at now f.1) (Ok x) → k ≡ counts_one (unwritten_at now f.1) d → Turning a e name o new c k found (i + 1)
turning_next a b e name o now new c d k found i f x lt got t one w counted =
    let p : Page = at_index (contents_of o.pages) f in
    let next : Next o now f = subst (Next o now) got (turning_next_page a b name o now c d found i lt t) in
    let more : take (i + 1) found ≡ take i found ++ f ∷ [] = take_one found i lt ∙ ap (λ (h : ℕ × ℕ). take i found ++ h ∷ []) got in
    let left : drop i found ≡ f ∷ drop (i + 1) found = drop_one found i lt ∙ ap (λ (h : ℕ × ℕ). h ∷ drop (i + 1) found) got in
    let done : chosen (contents_of o.pages) (take (i + 1) found) ≡ chosen (contents_of o.pages) (take i found) ++ p ∷ [] = ap (chosen (contents_of o.pages)) more ∙ map-append (at_index (contents_of o.pages)) (take i found) (f ∷ []) in
    record {
      turn = turn_next (contents_of o.pages) (contents_of now.pages) (contents_of new.pages) f (drop (i + 1) found) one (subst (Turn (contents_of o.pages) (contents_of now.pages)) left t.turn);
      counted =
          let risen : k.writes ≡ raised 1 d.writes = ap (λ (q : Counters). q.writes) counted ∙ ap (λ (q : Option Page). raised (option_len q) d.writes) next.due in
          let long : length (take (i + 1) found) ≡ length (take i found) + 1 = ap length more ∙ length-append (take i found) (f ∷ []) in
          let before = t.counted in
          omega (arith, risen, long, before);
      told =
          let wrote : Told b e (Writes name p.at p.bytes) = subst (λ (q : Option Page). IfSome q (λ s. Told b e (Writes name s.at s.bytes))) next.due w.ok in
          subst (λ l. Told a e (WritesEach name l)) (sym done) (told_then a b e _ _ _ t.told wrote (λ m n h s v. writes_more name (chosen (contents_of o.pages) (take i found)) p m n h s v));
    }

-- ---- all that a flush writes

flush_of : {T E : Type 0} (before after : Option Holding) (name : List ℕ) (o now : Order) (c d : Counters) (found : List (ℕ × ℕ)) (i : ℕ) (result : Result T E) → AreInTurn (contents_of o.pages) (chosen (contents_of o.pages) found) → Covers (contents_of now.pages) (drop i found)
    → Turn (contents_of o.pages) (contents_of now.pages) (drop i found) → d.writes ≡ raised (length (take i found)) c.writes → OnOk result (chosen (contents_of o.pages) (drop i found) ≡ [])
    → OnOk result (Told before after (WritesEach name (chosen (contents_of o.pages) (take i found))))
    → OnErr result (Told before after (λ m n. (h : Holding) × WritesEach name (chosen (contents_of o.pages) (take i found)) m h × WritesPartOfFirst name (chosen (contents_of o.pages) (drop i found)) h n))
    → FlushWrites before after result (cache_of name o c) (cache_of name now d)
flush_of before after name o now c d found i result is covers turn counted all ok err = record {
  done = chosen (contents_of o.pages) (take i found);
  rest = chosen (contents_of o.pages) (drop i found);
  turn =
      let both : chosen (contents_of o.pages) found ≡ chosen (contents_of o.pages) (take i found) ++ chosen (contents_of o.pages) (drop i found) = ap (chosen (contents_of o.pages)) (sym (take-append-drop i found)) ∙ map-append (at_index (contents_of o.pages)) (take i found) (drop i found) in
      subst (λ l. AreInTurn l (chosen (contents_of o.pages) (take i found) ++ chosen (contents_of o.pages) (drop i found))) (sym (pages_eq name o c)) (subst (AreInTurn (contents_of o.pages)) both is);
  unwritten = subst (SameUnwritten (chosen (contents_of o.pages) (drop i found))) (sym (pages_eq name now d)) (rest_unwritten (contents_of o.pages) (contents_of now.pages) (drop i found) covers turn.ahead);
  counted = counted ∙ ap (λ (n : ℕ). raised n c.writes) (sym (length-map (take i found) (at_index (contents_of o.pages))));
  all = all;
  ok = ok;
  err = err;
}

pub flush_done : {T E : Type 0} (before after : Option Holding) (name : List ℕ) (o now : Order) (c d : Counters) (found : List (ℕ × ℕ)) (i : ℕ) (x : T) → length found ≤ i → IsPermutation (unwritten_from 0 (contents_of o.pages)) found → IsNonDecreasingBy (λ (f : ℕ × ℕ). f.0) found → Covers (contents_of now.pages) (drop i found)
    → Turning before after name o now c d found i → FlushWrites {T = T} {E = E} before after (Ok x) (cache_of name o c) (cache_of name now d)
flush_done before after name o now c d found i x le perm rising covers t =
    flush_of before after name o now c d found i (Ok x) (turn_is (contents_of o.pages) found perm rising) covers t.turn t.counted (ap (chosen (contents_of o.pages)) (no_more found i le)) t.told tt

pub flush_stopped : {T U E : Type 0} (a b e : Option Holding) (name : List ℕ) (o now new : Order) (c d k : Counters) (found : List (ℕ × ℕ)) (i : ℕ) (f : ℕ × ℕ) (fault : E) → i < length found → get_or found i (0, 0) ≡ f → IsPermutation (unwritten_from 0 (contents_of o.pages)) found → IsNonDecreasingBy (λ (g : ℕ × ℕ). g.0) found
    → Covers (contents_of now.pages) (drop i found) → Turning a b name o now c d found i → new ≡ now → k.writes ≡ d.writes → WritesOne {T = U} {E = E} b e name (unwritten_at now f.1) (Err fault) → FlushWrites {T = T} {E = E} a e (Err fault) (cache_of name o c) (cache_of name new k)
flush_stopped {T} {U} {E} a b e name o now new c d k found i f fault lt got perm rising covers t same counted w =
    let p : Page = at_index (contents_of o.pages) f in
    let next : Next o now f = subst (Next o now) got (turning_next_page a b name o now c d found i lt t) in
    let left : drop i found ≡ f ∷ drop (i + 1) found = drop_one found i lt ∙ ap (λ (h : ℕ × ℕ). h ∷ drop (i + 1) found) got in
    let ahead : chosen (contents_of o.pages) (drop i found) ≡ p ∷ chosen (contents_of o.pages) (drop (i + 1) found) = ap (chosen (contents_of o.pages)) left in
    let part : Told b e (WritesPart name p.at p.bytes) = subst (λ (q : Option Page). IfSome q (λ s. Told b e (WritesPart name s.at s.bytes))) next.due w.err in
    let told : Told a e (λ m n. (h : Holding) × WritesEach name (chosen (contents_of o.pages) (take i found)) m h × WritesPart name p.at p.bytes h n) = told_then a b e _ _ _ t.told part (λ m n h s v. (n, s, v)) in
    subst (λ (r : Order). FlushWrites {T = T} {E = E} a e (Err fault) (cache_of name o c) (cache_of name r k)) (sym same)
    (flush_of a e name o now c k found i (Err fault) (turn_is (contents_of o.pages) found perm rising) covers t.turn (counted ∙ t.counted) tt tt
    (subst (λ l. Told a e (λ m n. (h : Holding) × WritesEach name (chosen (contents_of o.pages) (take i found)) m h × WritesPartOfFirst name l h n)) (sym ahead) told))

-- a page that could not be written was not counted
pub not_counted : (name : List ℕ) (o new : Order) (c d : Counters) → new ≡ o → c.writes < 2 ^ 64 → d ≡ flushes_counted (pages_of (cache_of name o c)) (pages_of (cache_of name new d)) c → d.writes ≡ c.writes
not_counted name o new c d same small counted =
    let a : d.writes ≡ writes_after 0 (pages_of (cache_of name o c)) (pages_of (cache_of name new d)) c.writes = ap (λ (k : Counters). k.writes) counted in
    let b : unwritten_count (pages_of (cache_of name new d)) ≡ unwritten_count (pages_of (cache_of name o c)) = ap unwritten_count (pages_eq name new d) ∙ ap (λ (t : Order). unwritten_count (contents_of t.pages)) same ∙ sym (ap unwritten_count (pages_eq name o c)) in
    omega (arith, a, b, small)

drops : (a b c : Bool) → b ≡ false → ((a && b) || c) ≡ c
drops true b c is = ap (λ (t : Bool). t || c) is
drops false b c is = refl

one_any : (x : Page) (q n : ℕ) (others pages : List Page) (b : Bool) → x.unwritten ≡ b → is_unwritten others q n ≡ is_unwritten pages q n → is_unwritten (if b then x ∷ others else others) q n ≡ is_unwritten (x ∷ pages) q n
unfolding is_unwritten
one_any x q n others pages true is e = ap (λ (t : Bool). (is_page q n x && x.unwritten) || t) e
one_any x q n others pages false is e = e ∙ sym (drops (is_page q n x) x.unwritten (is_unwritten pages q n) is)

same_any : (pages : List Page) (q n : ℕ) → is_unwritten (unwritten_of pages) q n ≡ is_unwritten pages q n
same_any [] q n = refl
same_any (x ∷ pages) q n = one_any x q n (unwritten_of pages) pages x.unwritten refl (same_any pages q n)

in_turn_unwritten : (pages : List Page) → SameUnwritten (in_turn (unwritten_of pages)) pages
unfolding is_unwritten
in_turn_unwritten pages q n =
    let a : is_unwritten pages q n ≡ is_unwritten (unwritten_of pages) q n = sym (same_any pages q n) in
    let b : is_unwritten (unwritten_of pages) q n ≡ is_unwritten (in_turn (unwritten_of pages)) q n = list_any-IsPermutation (λ page. is_page q n page && page.unwritten) (unwritten_of pages) (in_turn (unwritten_of pages)) (in_turn_all (unwritten_of pages)) in
    a ∙ b

-- a flush that is refused before it writes
pub flush_refused : {T E : Type 0} (before : Option Holding) (name : List ℕ) (o : Order) (c : Counters) (fault : E) → c.writes < 2 ^ 64 → FlushWrites {T = T} {E = E} before before (Err fault) (cache_of name o c) (cache_of name o c)
flush_refused before name o c fault small = record {
  done = [];
  rest = in_turn (unwritten_of (contents_of o.pages));
  turn = subst (λ l. AreInTurn l (in_turn (unwritten_of (contents_of o.pages)))) (sym (pages_eq name o c)) (record { all = in_turn_all (unwritten_of (contents_of o.pages)); in_order = pairs_rise _ (in_turn_pairs (unwritten_of (contents_of o.pages))) });
  unwritten = subst (SameUnwritten (in_turn (unwritten_of (contents_of o.pages)))) (sym (pages_eq name o c)) (in_turn_unwritten (contents_of o.pages));
  counted = omega (arith, small);
  all = tt;
  ok = tt;
  err = told_same before before _ refl (λ m held. (m, refl, none m (in_turn (unwritten_of (contents_of o.pages)))));
}
  where
    none : (m : Holding) (pages : List Page) → WritesPartOfFirst name pages m m
    none m [] = refl
    none m (p ∷ pages) = inl refl

-- the same of caches that are the same
pub flush_on : {T E : Type 0} (before after : Option Holding) (result : Result T E) (old new old1 new1 : Caching) → old ≡ old1 → new ≡ new1 → FlushWrites before after result old new → FlushWrites before after result old1 new1
flush_on before after result old new old1 new1 a b w = subst (λ k. FlushWrites before after result k new1) a (subst (λ k. FlushWrites before after result old k) b w)
