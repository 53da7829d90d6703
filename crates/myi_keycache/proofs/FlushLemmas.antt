-- Writing all unwritten pages.
use Rattle.std.proofs.Common.{◌≡◌, ℕ, zero, suc, ◌+◌, ◌≤◌, ◌<◌, Bool, true, false, cond, List, [], ◌∷◌, ◌++◌, length, take, drop, slice_get, get_or, Option, Some, refl, sym, ap, subst, ◌∙◌, arith, inl, inr}
use Rattle.std.specs.Prelude.{◌&&◌, ◌==◌, if◌then◌else◌}
use Rattle.std.specs.List.{AllByRecursion, list_any}
use Rattle.std.proofs.lemmas.Bool.{cases_Bool, and_parts, eqb-true, eq-eqb, or_left, or_right}
use Rattle.std.proofs.lemmas.List.{map-append, length-map}
use Rattle.std.proofs.lemmas.Option.{same_Some}
use Rattle.myi_base.specs.Holding.{Holding, bytes_of, Told}
use Rattle.myi_base.proofs.CallerLemmas.{told_more}
use Rattle.myi_keycache.specs.declared.setup.Counters.{Counters}
use Rattle.myi_keycache.specs.Caching.{Caching, pages_of, IsCurrent, Stays, Flushes}
use Rattle.std.specs.List.Sorted.{IsPermutation, IsNonDecreasingBy}
use Rattle.std.proofs.lemmas.List.Elements.{recursion_from_All, All-from_recursion}
use Rattle.std.proofs.lemmas.List.Sorted.{list_any-IsPermutation, All-permutation}
use Rattle.std.proofs.lemmas.List.Sums.{sum_by-cons}
use Rattle.myi_keycache.specs.Kept.{Page, KeptPage, is_page, is_unwritten, unwritten_count, AllWritten, WrittenUpTo}
use Rattle.myi_keycache.specs.Order.{Order, Split, with_page, as_written, contents_of, cache_of}
use Rattle.myi_keycache.proofs.LentLemmas.{all_written}
use Rattle.myi_keycache.proofs.FrontLemmas.{unwritten_out, unwritten_count_out}
use Rattle.myi_keycache.proofs.StaysLemmas.{written}
use Rattle.myi_keycache.proofs.CacheLemmas.{pages_eq}
use Rattle.myi_keycache.proofs.GetLemmas.{contents_back}

-- ---- the places of the unwritten pages

-- each with its index counted from a number on
abbrev pub unwritten_from : ℕ → List Page → List (ℕ × ℕ)
unwritten_from i [] = []
unwritten_from i (p ∷ ps) = if p.unwritten then (p.at, i) ∷ unwritten_from (suc i) ps else unwritten_from (suc i) ps

-- ---- the pages that are still to be written

abbrev pub HasPlace : List Page → ℕ × ℕ → Type 0
HasPlace pages f = (p : Page) × (slice_get pages f.1 ≡ Some p) × (p.at ≡ f.0)

-- each unwritten page is among these
abbrev pub Covers : List Page → List (ℕ × ℕ) → Type 0
Covers pages rest = (i : ℕ) (p : Page) → slice_get pages i ≡ Some p → p.unwritten ≡ true → list_any (λ (f : ℕ × ℕ). f.1 == i) rest ≡ true

from_places : (all pages : List Page) (k : ℕ) → ((i : ℕ) → slice_get all (i + k) ≡ slice_get pages i) → AllByRecursion (HasPlace all) (unwritten_from k pages)
from_places all [] k same = tt
from_places all (x ∷ pages) k same =
    let more : (i : ℕ) → slice_get all (i + suc k) ≡ slice_get pages i = λ i. let n : i + suc k ≡ suc i + k = omega arith in ap (slice_get all) n ∙ same (suc i) in
    let rest = from_places all pages (suc k) more in
    let here : HasPlace all (x.at, k) = let n : k ≡ 0 + k = omega arith in (x, ap (slice_get all) n ∙ same 0, refl) in
    elim (cases_Bool x.unwritten) [
      | inl u ↦ rw u (here, rest)
      | inr w ↦ rw w rest
    ]

pub places_found : (pages : List Page) → AllByRecursion (HasPlace pages) (unwritten_from 0 pages)
places_found pages = from_places pages pages 0 (λ i. let n : i + 0 ≡ i = omega arith in ap (slice_get pages) n)

from_covers : (pages : List Page) (k i : ℕ) (p : Page) → slice_get pages i ≡ Some p → p.unwritten ≡ true → list_any (λ (f : ℕ × ℕ). f.1 == i + k) (unwritten_from k pages) ≡ true
from_covers [] k i p at u = absurd cc
from_covers (x ∷ pages) k zero p at u =
    let same : x ≡ p = cc in
    let v : x.unwritten ≡ true = ap (λ (t : Page). t.unwritten) same ∙ u in
    let n : (k == 0 + k) ≡ true = eq-eqb k (0 + k) (omega arith) in
    rw v (or_left _ _ n)
from_covers (x ∷ pages) k (suc i) p at u =
    let n : i + suc k ≡ suc i + k = omega arith in
    let rest : list_any (λ (f : ℕ × ℕ). f.1 == suc i + k) (unwritten_from (suc k) pages) ≡ true = subst (λ (t : ℕ). list_any (λ (f : ℕ × ℕ). f.1 == t) (unwritten_from (suc k) pages) ≡ true) n (from_covers pages (suc k) i p at u) in
    elim (cases_Bool x.unwritten) [
      | inl v ↦ rw v (or_right _ _ rest)
      | inr v ↦ rw v rest
    ]

pub covers_found : (pages : List Page) → Covers pages (unwritten_from 0 pages)
covers_found pages i p at u = let n : i + 0 ≡ i = omega arith in subst (λ (t : ℕ). list_any (λ (f : ℕ × ℕ). f.1 == t) (unwritten_from 0 pages) ≡ true) n (from_covers pages 0 i p at u)

-- a page that is there by its test
pub any_all : (test : ℕ × ℕ → Bool) (P : ℕ × ℕ → Type 0) (rest : List (ℕ × ℕ)) → list_any test rest ≡ true → AllByRecursion P rest → (f : ℕ × ℕ) × (test f ≡ true) × P f
any_all test P [] e all = absurd cc
any_all test P (f ∷ rest) e all = elim (cases_Bool (test f)) [
  | inl is ↦ (f, is, all.0)
  | inr other ↦ any_all test P rest (rw other at e) all.1
]

-- an unwritten page, by its index
pub unwritten_at : (pages : List Page) (q n : ℕ) → is_unwritten pages q n ≡ true → (i : ℕ) × (p : Page) × (slice_get pages i ≡ Some p) × (p.unwritten ≡ true) × (p.at ≡ q)
unfolding is_unwritten
unwritten_at [] q n u = absurd cc
unwritten_at (x ∷ pages) q n u = elim (cases_Bool (is_page q n x && x.unwritten)) [
  | inl is ↦ let a = and_parts _ _ is in let b = and_parts _ _ a.0 in (0, x, refl, a.1, eqb-true _ _ b.0)
  | inr other ↦ let r = unwritten_at pages q n (rw other at u) in (suc r.0, r.1, r.2, r.3, r.4)
]

-- the page at an index is written
pub at_other : (front : List Page) (x y : Page) (back : List Page) (i : ℕ) → (i ≡ length front → ⊥) → slice_get (front ++ y ∷ back) i ≡ slice_get (front ++ x ∷ back) i
at_other [] x y back zero ne = absurd (ne refl)
at_other [] x y back (suc i) ne = refl
at_other (f ∷ front) x y back zero ne = refl
at_other (f ∷ front) x y back (suc i) ne = at_other front x y back i (λ e. ne (ap suc e))

pub at_here : (front : List Page) (y : Page) (back : List Page) (i : ℕ) → i ≡ length front → slice_get (front ++ y ∷ back) i ≡ Some y
at_here [] y back zero e = refl
at_here [] y back (suc i) e = absurd (omega arith)
at_here (f ∷ front) y back zero e = absurd (omega arith)
at_here (f ∷ front) y back (suc i) e = at_here front y back i (omega arith)

-- the order with that page written
pub record OneWritten (old new : List Page) (j : ℕ) : Type 0 where
  pub front : List Page
  pub page : Page
  pub back : List Page
  pub was : old ≡ front ++ page ∷ back
  pub is : new ≡ front ++ written page ∷ back
  pub long : length front ≡ j

pub one_written : (o new : Order) (j : ℕ) (s : Split o.pages j) → new ≡ record o { pages = with_page s (as_written s.page) } → OneWritten (contents_of o.pages) (contents_of new.pages) j
one_written o new j s is = record {
  front = contents_of s.front;
  page = s.page.page;
  back = contents_of s.back;
  was = ap contents_of s.is ∙ map-append _ s.front (s.page ∷ s.back);
  is = ap (λ (t : Order). contents_of t.pages) is ∙ map-append _ s.front (as_written s.page ∷ s.back);
  long = length-map s.front (λ (p : KeptPage). p.page) ∙ s.long;
}

pub covers_next : (old new : List Page) (at j : ℕ) (rest : List (ℕ × ℕ)) → OneWritten old new j → Covers old ((at, j) ∷ rest) → Covers new rest
covers_next old new at j rest w covers i p got u = elim (cases_Bool (j == i)) [
  | inl e ↦
      let same : i ≡ length w.front = sym (eqb-true j i e) ∙ sym w.long in
      let both : Some (written w.page) ≡ Some p = sym (ap (λ l. slice_get l i) w.is ∙ at_here w.front (written w.page) w.back i same) ∙ got in
      let never : false ≡ true = ap (λ (t : Page). t.unwritten) (same_Some _ _ both) ∙ u in
      absurd cc
  | inr ne ↦
      let differs : i ≡ length w.front → ⊥ = λ same. let yes : true ≡ false = sym (eq-eqb j i (sym w.long ∙ sym same)) ∙ ne in absurd cc in
      let before : slice_get old i ≡ Some p = ap (λ l. slice_get l i) w.was ∙ sym (at_other w.front w.page (written w.page) w.back i differs) ∙ sym (ap (λ l. slice_get l i) w.is) ∙ got in
      let any = covers i p before u in
      rw ne at any
]

place_next : (old new : List Page) (j : ℕ) → OneWritten old new j → (f : ℕ × ℕ) → HasPlace old f → HasPlace new f
place_next old new j w f h = elim (cases_Bool (f.1 == length w.front)) [
  | inl e ↦
      let same : f.1 ≡ length w.front = eqb-true _ _ e in
      let is : h.0 ≡ w.page = same_Some _ _ (sym h.1 ∙ ap (λ l. slice_get l f.1) w.was ∙ at_here w.front w.page w.back f.1 same) in
      (written w.page, ap (λ l. slice_get l f.1) w.is ∙ at_here w.front (written w.page) w.back f.1 same, ap (λ (t : Page). t.at) (sym is) ∙ h.2)
  | inr ne ↦
      let differs : f.1 ≡ length w.front → ⊥ = λ same. let yes : true ≡ false = sym (eq-eqb f.1 (length w.front) same) ∙ ne in absurd cc in
      (h.0, ap (λ l. slice_get l f.1) w.is ∙ at_other w.front w.page (written w.page) w.back f.1 differs ∙ sym (ap (λ l. slice_get l f.1) w.was) ∙ h.1, h.2)
]

pub places_next : (old new : List Page) (j : ℕ) (rest : List (ℕ × ℕ)) → OneWritten old new j → AllByRecursion (HasPlace old) rest → AllByRecursion (HasPlace new) rest
places_next old new j [] w all = tt
places_next old new j (f ∷ rest) w all = (place_next old new j w f all.0, places_next old new j rest w all.1)

not_of_place : (x : Page) (pages : List Page) (q n : ℕ) → x.at < q → is_unwritten (x ∷ pages) q n ≡ is_unwritten pages q n
unfolding is_unwritten
not_of_place x pages q n lt = elim (cases_Bool (is_page q n x && x.unwritten)) [
  | inl is ↦ let a = and_parts _ _ is in let b = and_parts _ _ a.0 in let e : x.at ≡ q = eqb-true _ _ b.0 in absurd (omega arith)
  | inr other ↦ rw other refl
]

-- pages of other places are unwritten as before
pub others_same : (old new : List Page) (at j q n : ℕ) → OneWritten old new j → HasPlace old (at, j) → at < q → is_unwritten new q n ≡ is_unwritten old q n
others_same old new at j q n w h lt =
    let is : h.0 ≡ w.page = same_Some _ _ (sym h.1 ∙ ap (λ l. slice_get l j) w.was ∙ at_here w.front w.page w.back j (sym w.long)) in
    let place : w.page.at ≡ at = ap (λ (t : Page). t.at) (sym is) ∙ h.2 in
    ap (λ l. is_unwritten l q n) w.is ∙ other w.front (omega (arith, lt, place)) ∙ sym (ap (λ l. is_unwritten l q n) w.was)
  where
    first : (pages : List Page) → w.page.at < q → is_unwritten (written w.page ∷ pages) q n ≡ is_unwritten (w.page ∷ pages) q n
    first pages below = not_of_place (written w.page) pages q n below ∙ sym (not_of_place w.page pages q n below)

    other : (front : List Page) → w.page.at < q → is_unwritten (front ++ written w.page ∷ w.back) q n ≡ is_unwritten (front ++ w.page ∷ w.back) q n
    other front below = unwritten_out front (written w.page) w.back q n ∙ first (front ++ w.back) below ∙ sym (unwritten_out front w.page w.back q n)

-- ---- the loop

pub record Writing (o now : Order) (found : List (ℕ × ℕ)) (i : ℕ) : Type 0 where
  pub fewer : unwritten_count (contents_of now.pages) ≤ unwritten_count (contents_of o.pages)
  pub covers : Covers (contents_of now.pages) (drop i found)
  pub places : AllByRecursion (HasPlace (contents_of now.pages)) (drop i found)
  pub same : (q n : ℕ) → AllByRecursion (λ (f : ℕ × ℕ). f.0 < q) (take i found) → is_unwritten (contents_of now.pages) q n ≡ is_unwritten (contents_of o.pages) q n

pub writing_start : (o : Order) (found : List (ℕ × ℕ)) → IsPermutation (unwritten_from 0 (contents_of o.pages)) found → Writing o o found 0
writing_start o found perm = record {
  fewer = omega arith;
  covers = λ i p at u. sym (list_any-IsPermutation (λ (f : ℕ × ℕ). f.1 == i) (unwritten_from 0 (contents_of o.pages)) found perm) ∙ covers_found (contents_of o.pages) i p at u;
  places =
      let P : ℕ × ℕ → Type 0 = HasPlace (contents_of o.pages) in
      recursion_from_All P found (All-permutation P (unwritten_from 0 (contents_of o.pages)) found perm (All-from_recursion P (unwritten_from 0 (contents_of o.pages)) (places_found (contents_of o.pages))));
  same = λ q n all. refl;
}

pub drop_one : (found : List (ℕ × ℕ)) (i : ℕ) → i < length found → drop i found ≡ get_or found i (0, 0) ∷ drop (i + 1) found
drop_one [] i lt = absurd (omega arith)
drop_one (f ∷ found) zero lt = refl
drop_one (f ∷ found) (suc i) lt = let n : suc i + 1 ≡ suc (i + 1) = omega arith in drop_one found i (omega arith) ∙ ap (λ (k : ℕ). get_or found i (0, 0) ∷ drop k (f ∷ found)) (sym n)

take_all_one : (P : ℕ × ℕ → Type 0) (found : List (ℕ × ℕ)) (i : ℕ) → i < length found → AllByRecursion P (take (i + 1) found) → AllByRecursion P (take i found) × P (get_or found i (0, 0))
take_all_one P [] i lt all = absurd (omega arith)
take_all_one P (f ∷ found) zero lt all = (tt, all.0)
take_all_one P (f ∷ found) (suc i) lt all =
    let n : suc i + 1 ≡ suc (i + 1) = omega arith in
    let all1 = subst (λ (k : ℕ). AllByRecursion P (take k (f ∷ found))) n all in
    let r = take_all_one P found i (omega arith) all1.1 in
    ((all1.0, r.0), r.1)

pub one_fewer : (old new : List Page) (j : ℕ) → OneWritten old new j → unwritten_count new ≤ unwritten_count old
unfolding unwritten_count
one_fewer old new j w =
    let a : unwritten_count old ≡ cond {A = ℕ} w.page.unwritten 1 0 + unwritten_count (w.front ++ w.back) = ap unwritten_count w.was ∙ unwritten_count_out w.front w.page w.back ∙ sum_by-cons (λ (p : Page). cond {A = ℕ} p.unwritten 1 0) w.page (w.front ++ w.back) in
    let b : unwritten_count new ≡ 0 + unwritten_count (w.front ++ w.back) = ap unwritten_count w.is ∙ unwritten_count_out w.front (written w.page) w.back ∙ sum_by-cons (λ (p : Page). cond {A = ℕ} p.unwritten 1 0) (written w.page) (w.front ++ w.back) in
    omega (arith, a, b)

pub writing_within : (o now : Order) (found : List (ℕ × ℕ)) (i : ℕ) → i < length found → Writing o now found i → (get_or found i (0, 0)).1 < length now.pages
writing_within o now found i lt w =
    let h = subst (AllByRecursion (HasPlace (contents_of now.pages))) (drop_one found i lt) w.places in
    (contents_back now.pages (get_or found i (0, 0)).1 h.0.0 h.0.1).3

pub writing_next : (o now new : Order) (found : List (ℕ × ℕ)) (i : ℕ) → i < length found → Writing o now found i → OneWritten (contents_of now.pages) (contents_of new.pages) (get_or found i (0, 0)).1 → Writing o new found (i + 1)
writing_next o now new found i lt w one =
    let f : ℕ × ℕ = get_or found i (0, 0) in
    let places = subst (AllByRecursion (HasPlace (contents_of now.pages))) (drop_one found i lt) w.places in
    record {
      fewer = let a = one_fewer _ _ f.1 one in let b = w.fewer in omega (arith, a, b);
      covers = covers_next (contents_of now.pages) (contents_of new.pages) f.0 f.1 (drop (i + 1) found) one (subst (Covers (contents_of now.pages)) (drop_one found i lt) w.covers);
      places = places_next (contents_of now.pages) (contents_of new.pages) f.1 (drop (i + 1) found) one places.1;
      same = λ q n all. let a = take_all_one _ found i lt all in others_same (contents_of now.pages) (contents_of new.pages) f.0 f.1 q n one places.0 a.1 ∙ w.same q n a.0;
    }

pub no_more : (found : List (ℕ × ℕ)) (i : ℕ) → length found ≤ i → drop i found ≡ []
no_more [] zero le = refl
no_more [] (suc i) le = refl
no_more (f ∷ found) zero le = absurd (omega arith)
no_more (f ∷ found) (suc i) le = no_more found i (omega arith)

pub writing_done : (o now : Order) (found : List (ℕ × ℕ)) (i : ℕ) → length found ≤ i → Writing o now found i → AllWritten (contents_of now.pages)
writing_done o now found i le w q n u =
    let r = unwritten_at (contents_of now.pages) q n u in
    let any = subst (λ l. list_any (λ (f : ℕ × ℕ). f.1 == r.0) l ≡ true) (no_more found i le) (w.covers r.0 r.1 r.2 r.3) in
    absurd cc

-- in a sorted list those ahead are at or behind the next, and those that were taken at or before it
rest_above : (found : List (ℕ × ℕ)) (i a : ℕ) → ((k : ℕ) → i ≤ k → k < length found → a ≤ (get_or found k (0, 0)).0) → AllByRecursion (λ (f : ℕ × ℕ). a ≤ f.0) (drop i found)
rest_above [] zero a h = tt
rest_above [] (suc i) a h = tt
rest_above (f ∷ found) zero a h = (h 0 (omega arith) (omega arith), rest_above found zero a (λ k le lt. h (suc k) (omega arith) (omega arith)))
rest_above (f ∷ found) (suc i) a h = rest_above found i a (λ k le lt. h (suc k) (omega arith) (omega arith))

front_below : (found : List (ℕ × ℕ)) (i q : ℕ) → ((k : ℕ) → k < i → k < length found → (get_or found k (0, 0)).0 < q) → AllByRecursion (λ (f : ℕ × ℕ). f.0 < q) (take i found)
front_below found zero q h = tt
front_below [] (suc i) q h = tt
front_below (f ∷ found) (suc i) q h = (h 0 (omega arith) (omega arith), front_below found i q (λ k lt lt1. h (suc k) (omega arith) (omega arith)))

both_all : (P Q : ℕ × ℕ → Type 0) (l : List (ℕ × ℕ)) → AllByRecursion P l → AllByRecursion Q l → AllByRecursion (λ f. P f × Q f) l
both_all P Q [] a b = tt
both_all P Q (f ∷ l) a b = ((a.0, b.0), both_all P Q l a.1 b.1)

pub writing_stops : (o now : Order) (found : List (ℕ × ℕ)) (i : ℕ) → i < length found → IsNonDecreasingBy (λ (f : ℕ × ℕ). f.0) found → Writing o now found i → WrittenUpTo (contents_of o.pages) (contents_of now.pages)
writing_stops o now found i lt sorted w =
    let a : ℕ = (get_or found i (0, 0)).0 in (
      a,
      (λ q n below. none_below a q n below (is_unwritten (contents_of now.pages) q n) refl),
      (λ q n above. w.same q n (front_below found i q (λ k less inside. let le = sorted k i (0, 0) (omega arith) lt in omega (arith, le)))),
    )
  where
    none_below : (a q n : ℕ) → q < (get_or found i (0, 0)).0 → (b : Bool) → is_unwritten (contents_of now.pages) q n ≡ b → is_unwritten (contents_of now.pages) q n ≡ false
    none_below a q n below false e = e
    none_below a q n below true e =
        let r = unwritten_at (contents_of now.pages) q n e in
        let above = rest_above found i (get_or found i (0, 0)).0 (λ k le inside. sorted i k (0, 0) le inside) in
        let f = any_all (λ (f : ℕ × ℕ). f.1 == r.0) _ (drop i found) (w.covers r.0 r.1 r.2 r.3) (both_all _ _ (drop i found) above w.places) in
        let index : f.0.1 ≡ r.0 = eqb-true _ _ f.1 in
        let page : f.2.1.0 ≡ r.1 = same_Some _ _ (sym f.2.1.1 ∙ ap (slice_get (contents_of now.pages)) index ∙ r.2) in
        let place : q ≡ f.0.0 = sym r.4 ∙ ap (λ (p : Page). p.at) (sym page) ∙ f.2.1.2 in
        let le = f.2.0 in
        absurd (omega (arith, le, place))

pub still_written : (o now new : Order) (found : List (ℕ × ℕ)) (i : ℕ) → new ≡ now → Writing o now found i → Writing o new found i
still_written o now new found i same w = subst (λ (t : Order). Writing o t found i) (sym same) w

-- what stands at an index, whatever stands for none
pub got_is : (found : List (ℕ × ℕ)) (i : ℕ) (r : ℕ × ℕ) → i < length found → r ≡ get_or found i r → get_or found i (0, 0) ≡ r
got_is found i r lt e = same found i lt ∙ sym e
  where
    same : (found : List (ℕ × ℕ)) (i : ℕ) → i < length found → get_or found i (0, 0) ≡ get_or found i r
    same [] i lt = absurd (omega arith)
    same (f ∷ found) zero lt = refl
    same (f ∷ found) (suc i) lt = same found i (omega arith)

-- ---- the cache after a flush

pub flush_told : (before after : Option Holding) (name text : List ℕ) (o new : Order) (c d : Counters) (cache : Caching) → cache_of name o c ≡ cache → name ≡ text → AllWritten (contents_of new.pages)
    → Told before after (λ m n. IsCurrent (cache_of name o c) m → Stays (cache_of name o c) (cache_of name new d) m n) → Told before after (λ m n. IsCurrent cache m → Flushes cache (cache_of text new d) m n)
flush_told before after name text o new c d cache is same written_all told =
    subst (λ k. Told before after (λ m n. IsCurrent k m → Flushes k (cache_of text new d) m n)) is
    (subst (λ t. Told before after (λ m n. IsCurrent (cache_of name o c) m → Flushes (cache_of name o c) (cache_of t new d) m n)) same
    (told_more before after _ _ told (λ m n held s current.
    let k = s current in
    let all : AllWritten (pages_of (cache_of name new d)) = subst AllWritten (sym (pages_eq name new d)) written_all in
    record { current = k.current; lent = k.lent; file = sym (all_written (pages_of (cache_of name new d)) (bytes_of name n) all) ∙ k.contents })))

pub refused_told : (before after : Option Holding) (name text : List ℕ) (o new : Order) (c d : Counters) (cache : Caching) → cache_of name o c ≡ cache → name ≡ text
    → Told before after (λ m n. IsCurrent (cache_of name o c) m → Stays (cache_of name o c) (cache_of name new d) m n) → Told before after (λ m n. IsCurrent cache m → Stays cache (cache_of text new d) m n)
refused_told before after name text o new c d cache is same told =
    subst (λ k. Told before after (λ m n. IsCurrent k m → Stays k (cache_of text new d) m n)) is
    (subst (λ t. Told before after (λ m n. IsCurrent (cache_of name o c) m → Stays (cache_of name o c) (cache_of t new d) m n)) same told)
