-- The pages of a walk that goes over laid pages once: they stand where pages were laid, and have no byte in common.
use Rattle.std.proofs.Common.{◌≡◌, ℕ, zero, suc, ◌+◌, ◌<◌, ◌≤◌, max, Bool, true, false, cond, ◌&&◌, eqb, ◌⊎◌, inl, inr, List, [], ◌∷◌, length, map, nat_le, nat_lt, sum_by, refl, sym, ap, ◌∙◌, arith}
use Rattle.std.specs.List.{list_all, AllByRecursion}
use Rattle.std.proofs.lemmas.Bool.{and_from, and_parts, or_left, or_right, leb-true, leb-false, le-leb, lt-leb, lt-ltb, le-ltb, eqb-true, cases_Bool}
use Rattle.std.proofs.lemmas.List.Sums.{sum_by-cons}
use Rattle.myi_base.specs.Ranges.{are_apart, is_apart, AreDisjoint}
use Rattle.myi_keylist.specs.declared.pair.Pair.{Pair}
use Rattle.myi_btree.specs.Walk.{Places}
use Rattle.myi_btree.specs.LaidPages.{Fits, places_from, IsLaidAt, laid, Stands}
use Rattle.myi_btree.specs.LaidOnce.{WalksOnce}
use Rattle.myi_btree.specs.CachedTrees.{is_among}
use Rattle.myi_btree.specs.Visit.{page_range}
use Rattle.myi_btree.proofs.Among.{all_in}
use Rattle.myi_btree.proofs.LaidWalks.{length-places_from}
use Rattle.myi_btree.proofs.LaidOnce.{places_sum, IsLaidTree, laid_tree}

leb_cases : (a b : ℕ) → (a ≤ b) ⊎ (b < a)
leb_cases a b = by (nat_le a b) refl
  where
    by : (t : Bool) → nat_le a b ≡ t → (a ≤ b) ⊎ (b < a)
    by true is = inl (leb-true a b is)
    by false is = inr (leb-false a b is)

-- where they stand

pub laid_at : (n block first p : ℕ) → is_among (places_from n block first) p ≡ true → IsLaidAt block first n p
laid_at zero block first p e = absurd cc
laid_at (suc n) block first p e = elim (cases_Bool (eqb first p)) [
  | inl is ↦ let same : first ≡ p = eqb-true first p is in (0, omega arith, omega (arith, same))
  | inr other ↦ let k = laid_at n block (first + block) p (rw other at e) in (suc k.0, omega (arith, k.1), k.2 ∙ omega arith)
]

out : (ℕ → Bool) → ℕ → ℕ
out test p = cond (test p) 0 1

none_out : (test : ℕ → Bool) (ps : List ℕ) → list_all test ps ≡ true → sum_by (out test) ps ≡ 0
unfolding out
none_out test [] all = refl
none_out test (p ∷ ps) all =
    let k = and_parts (test p) (list_all test ps) all in
    let here : cond {A = ℕ} (test p) 0 1 ≡ 0 = ap (λ b. cond {A = ℕ} b 0 1) k.0 in
    omega (arith, sum_by-cons (out test) p ps, here, none_out test ps k.1)

all_laid : (n block first : ℕ) (ps : List ℕ) → sum_by (out (is_among (places_from n block first))) ps ≡ 0 → AllByRecursion (IsLaidAt block first n) ps
unfolding out
all_laid n block first [] none = tt
all_laid n block first (p ∷ ps) none =
    let all = sum_by-cons (out (is_among (places_from n block first))) p ps in
    (by (is_among (places_from n block first) p) refl (omega arith), all_laid n block first ps (omega arith))
  where
    by : (b : Bool) → is_among (places_from n block first) p ≡ b → cond {A = ℕ} b 0 1 ≡ 0 → IsLaidAt block first n p
    by true is none = laid_at n block first p is
    by false is none = absurd (omega arith)

-- that they have no byte in common

holds : ℕ → ℕ → ℕ → ℕ
holds byte block p = cond (nat_le p byte && nat_lt byte (p + block)) 1 0

held : (byte block p : ℕ) → p ≤ byte → byte < p + block → holds byte block p ≡ 1
unfolding holds
held byte block p low high = ap (λ b. cond {A = ℕ} b 1 0) (and_from (nat_le p byte) (nat_lt byte (p + block)) (le-leb p byte low) (lt-ltb byte (p + block) high))

not_held : (byte block p : ℕ) → (byte < p) ⊎ (p + block ≤ byte) → holds byte block p ≡ 0
unfolding holds
not_held byte block p (inl below) = rw (lt-leb p byte below) refl
not_held byte block p (inr above) = by (nat_le p byte)
  where
    by : (b : Bool) → cond {A = ℕ} (b && nat_lt byte (p + block)) 1 0 ≡ 0
    by false = refl
    by true = rw (le-ltb byte (p + block) above) refl

-- places above a byte do not hold it, and of all places one does at most
none_above : (byte n block first : ℕ) → byte < first → places_sum (holds byte block) n block first ≡ 0
none_above byte zero block first above = refl
none_above byte (suc n) block first above =
    omega (arith, sum_by-cons (holds byte block) first (places_from n block (first + block)), not_held byte block first (inl above), none_above byte n block (first + block) (omega arith))

few_hold : (byte n block first : ℕ) → places_sum (holds byte block) n block first ≤ 1
few_hold byte zero block first = omega arith
few_hold byte (suc n) block first = by (leb_cases first byte) (leb_cases (first + block) byte) (few_hold byte n block (first + block))
  where
    all : places_sum (holds byte block) (suc n) block first ≡ holds byte block first + places_sum (holds byte block) n block (first + block)
    all = sum_by-cons (holds byte block) first (places_from n block (first + block))

    by : (first ≤ byte) ⊎ (byte < first) → (first + block ≤ byte) ⊎ (byte < first + block) → places_sum (holds byte block) n block (first + block) ≤ 1 → places_sum (holds byte block) (suc n) block first ≤ 1
    by (inr above) other few = omega (arith, all, not_held byte block first (inl above), none_above byte n block (first + block) (omega arith))
    by (inl low) (inr high) few = omega (arith, all, held byte block first low high, none_above byte n block (first + block) high)
    by (inl low) (inl past) few = omega (arith, all, not_held byte block first (inr past))

apart_each : (block p : ℕ) (qs : List ℕ) → 0 < block → ((byte : ℕ) → holds byte block p + sum_by (holds byte block) qs ≤ 1) → is_apart (page_range block p) (map (page_range block) qs) ≡ true
apart_each block p [] some few = refl
apart_each block p (q ∷ qs) some few =
    let all : (byte : ℕ) → sum_by (holds byte block) (q ∷ qs) ≡ holds byte block q + sum_by (holds byte block) qs = λ byte. sum_by-cons (holds byte block) q qs in
    and_from (are_apart (page_range block p) (page_range block q)) (is_apart (page_range block p) (map (page_range block) qs))
    (by (leb_cases (p + block) q) (leb_cases (q + block) p) (λ byte. omega (arith, all byte, few byte)))
    (apart_each block p qs some (λ byte. omega (arith, all byte, few byte)))
  where
    by : (p + block ≤ q) ⊎ (q < p + block) → (q + block ≤ p) ⊎ (p < q + block) → ((byte : ℕ) → holds byte block p + holds byte block q ≤ 1) → are_apart (page_range block p) (page_range block q) ≡ true
    by (inl before) other few = or_left (nat_le (p + block) q) (nat_le (q + block) p) (le-leb _ _ before)
    by (inr high) (inl after) few = or_right (nat_le (p + block) q) (nat_le (q + block) p) (le-leb _ _ after)
    by (inr high) (inr low) few =
        let byte : ℕ = max p q in
        absurd (omega (arith, few byte, held byte block p (omega arith) (omega arith), held byte block q (omega arith) (omega arith)))

once_disjoint : (block : ℕ) (ps : List ℕ) → 0 < block → ((byte : ℕ) → sum_by (holds byte block) ps ≤ 1) → AreDisjoint (map (page_range block) ps)
once_disjoint block [] some few = tt
once_disjoint block (p ∷ ps) some few =
    let all : (byte : ℕ) → sum_by (holds byte block) (p ∷ ps) ≡ holds byte block p + sum_by (holds byte block) ps = λ byte. sum_by-cons (holds byte block) p ps in
    (apart_each block p ps some (λ byte. omega (arith, all byte, few byte)), once_disjoint block ps some (λ byte. omega (arith, all byte, few byte)))

-- a walk of laid pages goes over each once

page_count : (ps : List ℕ) → sum_by (λ p. 1) ps ≡ length ps
page_count [] = refl
page_count (p ∷ ps) = sum_by-cons (λ q. 1) p ps ∙ omega (arith, page_count ps)

pub walks_once : (read : Places) (fits : Fits) (block first : ℕ) (pair : Pair) (pairs : List Pair) → 0 < block → Stands read block first (laid fits block first (pair ∷ pairs))
    → WalksOnce read block first (length (laid fits block first (pair ∷ pairs))) (pair ∷ pairs)
walks_once read fits block first pair pairs some st =
    let n : ℕ = length (laid fits block first (pair ∷ pairs)) in
    let t : IsLaidTree read block first n (pair ∷ pairs) = laid_tree read fits block first pair pairs st in
    let places : List ℕ = places_from n block first in
    record {
      before = t.before;
      last = t.last;
      walked = t.w;
      walk = record { height = t.height; walk = t.walk; disjoint = once_disjoint block t.w.pages some (λ byte. omega (arith, t.pages (holds byte block), few_hold byte n block first)) };
      content = t.content;
      count = sym (page_count t.w.pages) ∙ t.pages (λ p. 1) ∙ page_count places ∙ length-places_from n block first;
      pages = all_laid n block first t.w.pages (t.pages (out (is_among places)) ∙ none_out (is_among places) places (all_in places));
    }
