-- Whether a place is one of a list, and tests of all places of one.
use Rattle.std.proofs.Common.{◌≡◌, ℕ, Bool, true, false, ◌||◌, eqb, List, [], ◌∷◌, refl, sym, ap, subst, ◌∙◌, inl, inr}
use Rattle.std.specs.List.{list_all, AllByRecursion}
use Rattle.std.proofs.lemmas.Bool.{and_parts, and_from, eq-eqb, eqb-true, cases_Bool}
use Rattle.myi_btree.specs.CachedTrees.{is_among}

pub in_all : (P : ℕ → Type 0) (xs : List ℕ) (p : ℕ) → AllByRecursion P xs → is_among xs p ≡ true → P p
in_all P [] p all e = absurd cc
in_all P (x ∷ xs) p all e = elim (cases_Bool (eqb x p)) [
  | inl is ↦ subst P (eqb-true x p is) all.0
  | inr other ↦ in_all P xs p all.1 (rw other at e)
]

pub or_true : (b : Bool) → (b || true) ≡ true
or_true true = refl
or_true false = refl

pub all_weaker : (t u : ℕ → Bool) → ((p : ℕ) → t p ≡ true → u p ≡ true) → (xs : List ℕ) → list_all t xs ≡ true → list_all u xs ≡ true
all_weaker t u f [] e = refl
all_weaker t u f (x ∷ xs) e =
    let k = and_parts (t x) (list_all t xs) e in
    and_from (u x) (list_all u xs) (f x k.0) (all_weaker t u f xs k.1)

pub all_in : (xs : List ℕ) → list_all (is_among xs) xs ≡ true
all_in [] = refl
all_in (x ∷ xs) =
    let here : eqb x x ≡ true = eq-eqb x x refl in
    and_from (eqb x x || is_among xs x) (list_all (is_among (x ∷ xs)) xs) (rw here refl) (all_weaker (is_among xs) (is_among (x ∷ xs)) (λ p e. rw e (or_true (eqb x p))) xs (all_in xs))

pub all_true : (xs : List ℕ) → list_all (λ _. true) xs ≡ true
all_true [] = refl
all_true (x ∷ xs) = all_true xs

pub all_is : (test : ℕ → Bool) (xs : List ℕ) (p : ℕ) → list_all test xs ≡ true → is_among xs p ≡ true → test p ≡ true
all_is test [] p all e = absurd cc
all_is test (x ∷ xs) p all e =
    let k = and_parts (test x) (list_all test xs) all in
    elim (cases_Bool (eqb x p)) [
      | inl is ↦ ap test (sym (eqb-true x p is)) ∙ k.0
      | inr other ↦ all_is test xs p k.1 (rw other at e)
    ]
