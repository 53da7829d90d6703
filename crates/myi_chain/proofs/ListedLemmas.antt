-- Used ranges in two lists of places: where each begins, and where each ends.
use Rattle.std.proofs.Common.{◌≡◌, ℕ, zero, suc, ◌+◌, ◌<◌, ◌≤◌, max, Bool, true, false, eqb, List, [], ◌∷◌, ◌++◌, append_assoc, length, get_or, Some, None, refl, sym, ap, subst, ◌∙◌, arith}
use Rattle.std.specs.Prelude.{◌&&◌, nat_lt, Result, Ok, Err, OnOk, OnErr}
use Rattle.std.specs.List.{AllByRecursion, zip}
use Rattle.std.specs.List.Sorted.{IsPartitionPoint}
use Rattle.std.proofs.lemmas.Bool.{lt-ltb, le-ltb, eq-eqb, eqb-true}
use Rattle.std.proofs.lemmas.List.{get_or_default}
use Rattle.std.proofs.lemmas.Slice.Zip.{get_or-zip, length-zip}
use Rattle.std.proofs.Math.ListN.{get_or-append}
use Rattle.std.proofs.Math.Seq.{get_or-append_seam}
use Rattle.myi_base.specs.Ranges.{Range, is_apart, are_apart}
use Rattle.myi_placelist.specs.Places.{IsRising, IsCountBelow}
use Rattle.myi_chain.specs.Chain.{ranges_at}
use Rattle.myi_chain.specs.Readable.{end_of}
use Rattle.myi_chain.specs.Used.{AreInOrder, reach, last_before, SameFrom, joined, AddsBlocks, AreListed}
use Rattle.myi_chain.proofs.SameLemmas.{is_apart-append, end_of-append}
use Rattle.myi_chain.proofs.NearLemmas.{push_order, before_none, before_count}
use Rattle.myi_chain.proofs.JoinedLemmas.{from_before, one_end}
use Rattle.myi_chain.proofs.JoinsLemmas.{touch}

-- ---- two lists as one of pairs

length_push : (fs : List ℕ) (f : ℕ) → length (fs ++ f ∷ []) ≡ suc (length fs)
length_push [] f = refl
length_push (x ∷ fs) f = ap suc (length_push fs f)

zip_push : (fs ts : List ℕ) (f t : ℕ) → length fs ≡ length ts → zip (fs ++ f ∷ []) (ts ++ t ∷ []) ≡ zip fs ts ++ (f, t) ∷ []
zip_push [] [] f t e = refl
zip_push [] (y ∷ ts) f t e = absurd (omega (arith, e))
zip_push (x ∷ fs) [] f t e = absurd (omega (arith, e))
zip_push (x ∷ fs) (y ∷ ts) f t e = ap (λ (rs : List Range). (x, y) ∷ rs) (zip_push fs ts f t (omega (arith, e)))

-- where each begin has its end, more ends change nothing
zip_more : (fs ts more : List ℕ) → length fs ≤ length ts → zip fs (ts ++ more) ≡ zip fs ts
zip_more [] ts more le = refl
zip_more (x ∷ fs) [] more le = absurd (omega (arith, le))
zip_more (x ∷ fs) (y ∷ ts) more le = ap (λ (rs : List Range). (x, y) ∷ rs) (zip_more fs ts more (omega (arith, le)))

-- ---- the last of a list

record EndsWith (fs : List ℕ) (n : ℕ) : Type 0 where
  before : List ℕ
  last : ℕ
  is : fs ≡ before ++ last ∷ []
  many : length before ≡ n

ends_with : (fs : List ℕ) (n : ℕ) → length fs ≡ suc n → EndsWith fs n
ends_with [] n e = absurd (omega (arith, e))
ends_with (x ∷ []) n e = record { before = []; last = x; is = refl; many = omega (arith, e) }
ends_with (x ∷ y ∷ fs) zero e = absurd (omega (arith, e))
ends_with (x ∷ y ∷ fs) (suc n) e =
    let more = ends_with (y ∷ fs) n (omega (arith, e)) in
    record { before = x ∷ more.before; last = more.last; is = ap (λ (l : List ℕ). x ∷ l) more.is; many = ap suc more.many }

reach_push : (low : ℕ) (rs : List Range) (r : Range) → reach low (rs ++ r ∷ []) ≡ r.1
reach_push low [] r = refl
reach_push low (s ∷ rs) r = reach_push s.1 rs r

order_parts : (low : ℕ) (rs : List Range) (r : Range) → AreInOrder low (rs ++ r ∷ []) → AreInOrder low rs × (reach low rs ≤ r.0) × (r.0 < r.1)
order_parts low [] r h = (tt, h.0, h.1)
order_parts low (s ∷ rs) r h = let more = order_parts s.1 rs r h.2 in ((h.0, h.1, more.0), more.1, more.2)

reach_low : (low : ℕ) (rs : List Range) (at : ℕ) → reach 0 rs ≤ at → low ≤ at → reach low rs ≤ at
reach_low low [] at h le = le
reach_low low (r ∷ rs) at h le = h

-- ---- where the last range ends, kept

pub closed_view : (fs ts new : List ℕ) (last : ℕ) → length fs ≤ length ts + 1 → new ≡ ts ++ last ∷ [] → zip fs (new ++ last ∷ []) ≡ zip fs (ts ++ last ∷ [])
closed_view fs ts new last le is =
    zip_more fs new (last ∷ []) (omega (arith, le, length_push ts last, ap (λ (l : List ℕ). length l) is)) ∙ ap (zip fs) is

pub closed : (fs ts new : List ℕ) (last : ℕ) → AreListed fs ts last → length ts < length fs → new ≡ ts ++ last ∷ [] → AreListed fs new last
closed fs ts new last h lt is =
    let many : length new ≡ suc (length ts) = ap (λ (l : List ℕ). length l) is ∙ length_push ts last in
    let same = closed_view fs ts new last h.enough is in
    record {
      fewer = omega (arith, many, lt);
      enough = omega (arith, many, h.enough);
      order = subst (AreInOrder 1) (sym same) h.order;
      reach = subst (λ (rs : List Range). reach 0 rs ≤ last) (sym same) h.reach;
    }

pub closed_each : (fs ts new : List ℕ) (last : ℕ) → AreListed fs ts last → length ts < length fs → new ≡ ts ++ last ∷ [] → length fs ≡ length new
closed_each fs ts new last h lt is = omega (arith, ap (λ (l : List ℕ). length l) is ∙ length_push ts last, lt, h.enough)

-- ---- one more range

pub added_view : (fs ts new : List ℕ) (last at to : ℕ) → length fs ≡ length ts → new ≡ fs ++ at ∷ [] → zip new (ts ++ to ∷ []) ≡ zip fs (ts ++ last ∷ []) ++ (at, to) ∷ []
added_view fs ts new last at to e is =
    ap (λ (l : List ℕ). zip l (ts ++ to ∷ [])) is ∙ zip_push fs ts at to e ∙ ap (λ (rs : List Range). rs ++ (at, to) ∷ []) (sym (zip_more fs ts (last ∷ []) (omega (arith, e))))

pub added : (fs ts new : List ℕ) (last at to : ℕ) → AreListed fs ts last → length fs ≡ length ts → reach 0 (zip fs (ts ++ last ∷ [])) ≤ at → 0 < at → at < to → new ≡ fs ++ at ∷ [] → AreListed new ts to
added fs ts new last at to h e behind start some is =
    let many : length new ≡ suc (length fs) = ap (λ (l : List ℕ). length l) is ∙ length_push fs at in
    let view = added_view fs ts new last at to e is in
    record {
      fewer = omega (arith, many, e);
      enough = omega (arith, many, e);
      order = subst (AreInOrder 1) (sym view) (push_order 1 (zip fs (ts ++ last ∷ [])) (at, to) h.order (reach_low 1 (zip fs (ts ++ last ∷ [])) at behind (omega (arith, start))) some);
      reach = omega (arith, ap (reach 0) view ∙ reach_push 0 (zip fs (ts ++ last ∷ [])) (at, to));
    }

-- ---- the last range, made longer

two_one : (from at to : ℕ) → from < at → at < to → SameFrom to ((from, to) ∷ []) ((from, at) ∷ (at, to) ∷ [])
two_one from at to some more = record {
  apart = λ r byte. right (are_apart r (from, to)) ∙ sym (touch from at to r.0 r.1 some more byte);
  ends = λ p later. one_end p from to (omega (arith, some, more)) later ∙ sym (end_of-append p ((from, at) ∷ []) ((at, to) ∷ []) ∙ none _ _ (one_end p from at some (omega (arith, more, later))) (one_end p at to more later));
}
  where
    right : (x : Bool) → (x && true) ≡ x
    right true = refl
    right false = refl

    none : (a b : ℕ) → a ≡ 0 → b ≡ 0 → max a b ≡ 0
    none a b e f = omega (arith, e, f)

pub record Grown (fs ts : List ℕ) (at to : ℕ) : Type 0 where
  pub listed : AreListed fs ts to
  pub same : SameFrom to (zip fs (ts ++ to ∷ [])) (zip fs (ts ++ at ∷ []) ++ (at, to) ∷ [])

grown_parts : (gs ts : List ℕ) (g at to : ℕ) → length gs ≡ length ts → AreInOrder 1 (zip (gs ++ g ∷ []) (ts ++ at ∷ [])) → at < to → Grown (gs ++ g ∷ []) ts at to
grown_parts gs ts g at to many order some =
    let rs : List Range = zip gs ts in
    let was : zip (gs ++ g ∷ []) (ts ++ at ∷ []) ≡ rs ++ (g, at) ∷ [] = zip_push gs ts g at many in
    let now : zip (gs ++ g ∷ []) (ts ++ to ∷ []) ≡ rs ++ (g, to) ∷ [] = zip_push gs ts g to many in
    let parts = order_parts 1 rs (g, at) (subst (AreInOrder 1) was order) in
    let same : SameFrom to (rs ++ (g, to) ∷ []) (rs ++ (g, at) ∷ (at, to) ∷ []) = from_before to rs _ _ (two_one g at to parts.2 some) in
    let apart : rs ++ (g, at) ∷ (at, to) ∷ [] ≡ (rs ++ (g, at) ∷ []) ++ (at, to) ∷ [] = sym (append_assoc rs ((g, at) ∷ []) ((at, to) ∷ [])) in
    record {
      listed = record {
        fewer = omega (arith, many, length_push gs g);
        enough = omega (arith, many, length_push gs g);
        order = subst (AreInOrder 1) (sym now) (push_order 1 rs (g, to) parts.0 parts.1 (omega (arith, parts.2, some)));
        reach = omega (arith, ap (reach 0) now ∙ reach_push 0 rs (g, to));
      };
      same = subst (λ (u : List Range). SameFrom to u (zip (gs ++ g ∷ []) (ts ++ at ∷ []) ++ (at, to) ∷ [])) (sym now) (subst (λ (v : List Range). SameFrom to (rs ++ (g, to) ∷ []) (v ++ (at, to) ∷ [])) (sym was) (subst (SameFrom to (rs ++ (g, to) ∷ [])) apart same));
    }

pub grown : (fs ts : List ℕ) (last at to : ℕ) → AreListed fs ts last → at ≡ last → length ts < length fs → at < to → Grown fs ts at to
grown fs ts last at to h e lt some =
    let more = ends_with fs (length ts) (omega (arith, lt, h.enough)) in
    let order : AreInOrder 1 (zip fs (ts ++ at ∷ [])) = subst (λ (n : ℕ). AreInOrder 1 (zip fs (ts ++ n ∷ []))) (sym e) h.order in
    subst (λ (l : List ℕ). Grown l ts at to) (sym more.is) (grown_parts more.before ts more.last at to more.many (subst (λ (l : List ℕ). AreInOrder 1 (zip l (ts ++ at ∷ []))) more.is order) some)

-- ---- a search

all_behind : (low f : ℕ) (fs ts : List ℕ) → length fs ≤ length ts → AreInOrder low (zip fs ts) → f < low → AllByRecursion (λ q. f < q) fs
all_behind low f [] ts le h lt = tt
all_behind low f (x ∷ fs) [] le h lt = absurd (omega (arith, le))
all_behind low f (x ∷ fs) (y ∷ ts) le h lt = (omega (arith, h.0, lt), all_behind y f fs ts (omega (arith, le)) h.2 (omega (arith, h.0, h.1, lt)))

froms_rise : (low : ℕ) (fs ts : List ℕ) → length fs ≤ length ts → AreInOrder low (zip fs ts) → IsRising fs
froms_rise low [] ts le h = tt
froms_rise low (x ∷ fs) [] le h = absurd (omega (arith, le))
froms_rise low (x ∷ fs) (y ∷ ts) le h = (all_behind y x fs ts (omega (arith, le)) h.2 h.1, froms_rise y fs ts (omega (arith, le)) h.2)

pub listed_rise : (fs ts : List ℕ) (last : ℕ) → AreListed fs ts last → IsRising fs
listed_rise fs ts last h = froms_rise 1 fs (ts ++ last ∷ []) (omega (arith, h.enough, length_push ts last)) h.order

from_at : (fs ts : List ℕ) (k : ℕ) (d : Range) → length fs ≤ length ts → k < length fs → (get_or (zip fs ts) k d).0 ≡ get_or fs k 0
from_at fs ts k d le lt = ap (λ (r : Range). r.0) (get_or-zip fs ts k d lt (omega (arith, lt, le))) ∙ get_or_default fs k d.0 0 lt

pairs_long : (fs ts : List ℕ) → length fs ≤ length ts → length (zip fs ts) ≡ length fs
pairs_long fs ts le = omega (arith, length-zip fs ts, le)

search_point : (fs ts : List ℕ) (end n : ℕ) → length fs ≤ length ts → n ≤ length fs → IsCountBelow end fs n → IsPartitionPoint (λ (r : Range). nat_lt r.0 end ≡ true) (λ (r : Range). nat_lt r.0 end ≡ false) (zip fs ts) n
search_point fs ts end n le few h = (
  (λ k d low high.
      let inside : k < length fs = omega (arith, high, few) in
      lt-ltb _ _ (omega (arith, from_at fs ts k d le inside, h.below k (omega (arith, high))))),
  (λ k d low high.
      let inside : k < length fs = omega (arith, high, pairs_long fs ts le) in
      le-ltb _ _ (omega (arith, from_at fs ts k d le inside, h.above k low inside))),
)

-- as many ranges begin before a place as the search counts
pub none_before : (fs ts : List ℕ) (last end n : ℕ) → AreListed fs ts last → n ≤ length fs → IsCountBelow end fs n → n ≡ 0 → last_before end (zip fs (ts ++ last ∷ [])) ≡ None
none_before fs ts last end n h few count e = before_none end _ n (search_point fs (ts ++ last ∷ []) end n (omega (arith, h.enough, length_push ts last)) few count) e

some_before : (fs ts : List ℕ) (last end n k : ℕ) → AreListed fs ts last → n ≤ length fs → IsCountBelow end fs n → n ≡ suc k → last_before end (zip fs (ts ++ last ∷ [])) ≡ Some (get_or fs k 0, get_or (ts ++ last ∷ []) k 0)
some_before fs ts last end n k h few count e =
    let ends : List ℕ = ts ++ last ∷ [] in
    let le : length fs ≤ length ends = omega (arith, h.enough, length_push ts last) in
    before_count end (zip fs ends) n k (0, 0) (search_point fs ends end n le few count) e (omega (arith, few, pairs_long fs ends le))
    ∙ ap (λ (r : Range). Some r) (get_or-zip fs ends k (0, 0) (omega (arith, e, few)) (omega (arith, e, few, le)))

pub inner_before : (fs ts : List ℕ) (last end n k : ℕ) → AreListed fs ts last → n ≤ length fs → IsCountBelow end fs n → n ≡ suc k → k < length ts → last_before end (zip fs (ts ++ last ∷ [])) ≡ Some (get_or fs k 0, get_or ts k 0)
inner_before fs ts last end n k h few count e lt =
    some_before fs ts last end n k h few count e ∙ ap (λ (t : ℕ). Some (get_or fs k 0, t)) (get_or-append ts (last ∷ []) 0 k lt)

pub outer_before : (fs ts : List ℕ) (last end n k : ℕ) → AreListed fs ts last → n ≤ length fs → IsCountBelow end fs n → n ≡ suc k → length ts ≤ k → last_before end (zip fs (ts ++ last ∷ [])) ≡ Some (get_or fs k 0, last)
outer_before fs ts last end n k h few count e ge =
    let here : k ≡ length ts = omega (arith, ge, e, few, h.enough) in
    some_before fs ts last end n k h few count e ∙ ap (λ (t : ℕ). Some (get_or fs k 0, t)) (ap (λ (i : ℕ). get_or (ts ++ last ∷ []) i 0) here ∙ get_or-append_seam ts last [] 0)

-- ---- with the ranges beside

first_none : (u v : List Range) (n : ℕ) → end_of 0 u ≡ 0 → u ++ v ≡ joined n → u ≡ []
first_none [] v n start e = refl
first_none (x ∷ u) v zero start e = absurd cc
first_none (x ∷ u) v (suc n) start e =
    let same : ◌≡◌ {A = Range} x (0, suc n) = cc in
    let first : x.0 ≡ 0 = ap (λ (r : Range). r.0) same in
    let here : eqb x.0 0 ≡ true = eq-eqb _ _ first in
    let one : end_of 0 (x ∷ u) ≡ max x.1 (end_of 0 u) = rw here refl in
    absurd (omega (arith, start, one, ap (λ (r : Range). r.1) same))

-- where all are one range from the file's start, it is beside
pub only_beside : (u v : List Range) (n : ℕ) → end_of 0 u ≡ 0 → u ++ v ≡ joined n → (u ≡ []) × (v ≡ joined n)
only_beside u v n start e = let none = first_none u v n start e in (none, sym (ap (λ (l : List Range). l ++ v) none) ∙ e)

turned : (a b c : Bool) → ((a && b) && c) ≡ ((a && c) && b)
turned true true true = refl
turned true true false = refl
turned true false true = refl
turned true false false = refl
turned false b c = refl

-- a range added to the first of two parts
pub adds_listed : (u v new : List Range) (r : Range) (to : ℕ) → SameFrom to new (u ++ r ∷ []) → SameFrom to (new ++ v) ((u ++ v) ++ r ∷ [])
adds_listed u v new r to same = record {
  apart = λ s byte.
      let left = is_apart-append s new v ∙ ap (λ (b : Bool). b && is_apart s v) (same.apart s byte ∙ is_apart-append s u (r ∷ [])) in
      let right = is_apart-append s (u ++ v) (r ∷ []) ∙ ap (λ (b : Bool). b && is_apart s (r ∷ [])) (is_apart-append s u v) in
      left ∙ turned (is_apart s u) (is_apart s (r ∷ [])) (is_apart s v) ∙ sym right;
  ends = λ p later.
      omega (arith, end_of-append p new v, same.ends p later, end_of-append p u (r ∷ []), end_of-append p (u ++ v) (r ∷ []), end_of-append p u v);
}

pub adds_beside : (u v new : List Range) (blocks : List (ℕ × ℕ)) → end_of 0 u ≡ 0 → AddsBlocks v blocks new → AddsBlocks (u ++ v) blocks (u ++ new)
adds_beside u v new [] start h = ap (λ (l : List Range). u ++ l) h
adds_beside u v new (b ∷ bs) start h = (
  subst (λ (l : List Range). SameFrom (b.0 + b.1) (u ++ new) l) (sym (append_assoc u v (ranges_at (b ∷ bs)))) (from_before (b.0 + b.1) u new (v ++ ranges_at (b ∷ bs)) h.0),
  (λ is alone.
      let only = only_beside u v b.0 start is in
      ap (λ (l : List Range). l ++ new) only.0 ∙ h.1 only.1 alone),
)

-- the range of a row in one block, added to the first of two parts, where the second is not the one range that ends there
pub adds_one : (u v new : List Range) (b : ℕ × ℕ) → end_of 0 u ≡ 0 → (v ≡ joined b.0 → ⊥) → SameFrom (b.0 + b.1) new (u ++ (b.0, b.0 + b.1) ∷ []) → AddsBlocks (u ++ v) (b ∷ []) (new ++ v)
adds_one u v new b start other same = (adds_listed u v new (b.0, b.0 + b.1) (b.0 + b.1) same, (λ is alone. absurd (other (only_beside u v b.0 start is).1)))

-- ---- answers

pub on_ok : {T E : Type 0} {P Q : Type 0} (r : Result T E) → (P → Q) → OnOk r P → OnOk r Q
on_ok (Ok x) f h = f h
on_ok (Err e) f h = h

pub on_err : {T E : Type 0} {P : Type 0} (r : Result T E) → P → OnErr r P
on_err (Ok x) h = tt
on_err (Err e) h = h

pub is_none : {A : Type 0} (xs : List A) (b : Bool) → b ≡ eqb (length xs) 0 → b ≡ true → xs ≡ []
is_none [] b e t = refl
is_none (x ∷ xs) b e t = absurd (omega (arith, eqb-true _ _ (sym e ∙ t)))
