-- Places in a set and in a list.
use Rattle.std.proofs.Common.{◌≡◌, ℕ, ◌+◌, Bool, true, false, not, ◌&&◌, ◌||◌, eqb, nat_cmp, List, [], ◌∷◌, ◌++◌, length, refl, sym, ap, ◌∙◌, arith, inl, inr}
use Rattle.std.specs.List.{list_all, list_any}
use Rattle.std.specs.Ordering.{is_eq}
use Rattle.std.specs.Cmp.{nat_cmp_is}
use Rattle.std.specs.BTreeMap.{is_at}
use Rattle.std.specs.BTreeSet.{insert_key}
use Rattle.std.specs.declared.cmp.Ordering.{Ordering}
use Rattle.std.specs.declared.cmp.Ordering.TheVariants.{Less, Equal, Greater}
use Rattle.std.proofs.lemmas.Bool.{cases_lt, eq-eqb, ne_eqb}
use Rattle.std.proofs.lemmas.List.{length-append}
use Rattle.myi_btree.specs.CachedTrees.{is_among}
use Rattle.myi_btree.specs.Visited.{HasPlaces}

eq_is : (k x : ℕ) → is_eq (nat_cmp k x) ≡ eqb x k
eq_is k x = elim (cases_lt k x) [
  | inl lt ↦ ap is_eq (sym (nat_cmp_is k x Less lt)) ∙ sym (ne_eqb x k (λ e. omega (arith, e, lt)))
  | inr ge ↦ elim (cases_lt x k) [
    | inl gt ↦ ap is_eq (sym (nat_cmp_is k x Greater gt)) ∙ sym (ne_eqb x k (λ e. omega (arith, e, gt)))
    | inr le ↦ let e : k ≡ x = omega arith in ap is_eq (sym (nat_cmp_is k x Equal e)) ∙ sym (eq-eqb x k (sym e))
  ]
]

among_is : (keys : List ℕ) (at : ℕ) → list_any (is_at (nat_cmp at)) keys ≡ is_among keys at
among_is [] at = refl
among_is (k ∷ keys) at = ap (λ (b : Bool). b || list_any (is_at (nat_cmp at)) keys) (eq_is at k) ∙ ap (λ (b : Bool). eqb k at || b) (among_is keys at)

not_all : (xs : List ℕ) (p : ℕ) → is_among xs p ≡ not (list_all (λ q. not (eqb q p)) xs)
not_all [] p = refl
not_all (x ∷ xs) p = ap (λ (b : Bool). eqb x p || b) (not_all xs p) ∙ by (eqb x p) (list_all (λ q. not (eqb q p)) xs)
  where
    by : (a b : Bool) → (a || not b) ≡ not (not a && b)
    by true b = refl
    by false b = refl

-- the set says whether a place is in the list
pub seen_is : (keys seen : List ℕ) (at : ℕ) → HasPlaces keys seen → list_any (is_at (nat_cmp at)) keys ≡ is_among seen at
seen_is keys seen at has = among_is keys at ∙ not_all keys at ∙ ap not (has.0 (λ q. not (eqb q at))) ∙ sym (not_all seen at)

and_again : (a b : Bool) → (a && b) ≡ (a && (a && b))
and_again true b = refl
and_again false b = refl

and_turn : (a b c : Bool) → (a && (b && c)) ≡ (b && (a && c))
and_turn true true c = refl
and_turn true false c = refl
and_turn false true c = refl
and_turn false false c = refl

equal_is : (x y : ℕ) → nat_cmp x y ≡ Equal → x ≡ y
equal_is x y e = elim (cases_lt x y) [
  | inl lt ↦ let k : Less ≡ Equal = nat_cmp_is x y Less lt ∙ e in absurd cc
  | inr ge ↦ elim (cases_lt y x) [
    | inl gt ↦ let k : Greater ≡ Equal = nat_cmp_is x y Greater gt ∙ e in absurd cc
    | inr le ↦ omega arith
  ]
]

all_insert : (test : ℕ → Bool) (keys : List ℕ) (k : ℕ) → list_all test (insert_key nat_cmp keys k) ≡ (test k && list_all test keys)
all_insert test [] k = refl
all_insert test (x ∷ xs) k = by (nat_cmp k x) refl (all_insert test xs k)
  where
    by : (o : Ordering) → nat_cmp k x ≡ o → list_all test (insert_key nat_cmp xs k) ≡ (test k && list_all test xs) → list_all test (insert_key nat_cmp (x ∷ xs) k) ≡ (test k && list_all test (x ∷ xs))
    by Less e again = rw e refl
    by Equal e again = let same : k ≡ x = equal_is k x e in rw e (ap (λ (n : ℕ). test x && list_all test xs) same ∙ and_again (test x) (list_all test xs) ∙ ap (λ (n : ℕ). test n && (test x && list_all test xs)) (sym same))
    by Greater e again = rw e (ap (λ (b : Bool). test x && b) again ∙ and_turn (test x) (test k) (list_all test xs))

all_end : (test : ℕ → Bool) (seen : List ℕ) (k : ℕ) → list_all test (seen ++ k ∷ []) ≡ (test k && list_all test seen)
all_end test [] k = refl
all_end test (x ∷ xs) k = ap (λ (b : Bool). test x && b) (all_end test xs k) ∙ and_turn (test x) (test k) (list_all test xs)

-- one more place
pub has_more : (keys seen new : List ℕ) (k : ℕ) → new ≡ insert_key nat_cmp keys k → length new ≡ length keys + 1 → HasPlaces keys seen → HasPlaces new (seen ++ k ∷ [])
has_more keys seen new k e long has = (
  λ test. ap (list_all test) e ∙ all_insert test keys k ∙ ap (λ (b : Bool). test k && b) (has.0 test) ∙ sym (all_end test seen k),
  omega (arith, long, has.1, length-append seen (k ∷ [])),
)
