-- Lists of places.
use Rattle.std.proofs.Common.{◌≡◌, ℕ, Bool, true, false, ◌||◌, eqb, List, [], ◌∷◌, ◌++◌, refl, sym, ap, subst, ◌∙◌, inl, inr}
use Rattle.std.specs.List.{list_all, AllByRecursion}
use Rattle.std.proofs.lemmas.Bool.{and_parts, and_from, eq-eqb, eqb-true, cases_Bool}
use Rattle.myi_btree.specs.CachedTrees.{is_among}
use Rattle.myi_search.specs.Path.{AreDifferent}

pub or_true : (b : Bool) → (b || true) ≡ true
or_true true = refl
or_true false = refl

pub or_false : (b : Bool) → (b || false) ≡ b
or_false true = refl
or_false false = refl

pub or_parts : (a b : Bool) → (a || b) ≡ false → (a ≡ false) × (b ≡ false)
or_parts true b e = absurd cc
or_parts false b e = (refl, e)

pub among_end : (xs : List ℕ) (x p : ℕ) → is_among (xs ++ x ∷ []) p ≡ (is_among xs p || eqb x p)
among_end [] x p = or_false (eqb x p)
among_end (y ∷ xs) x p = ap (λ (b : Bool). eqb y p || b) (among_end xs x p) ∙ assoc (eqb y p) (is_among xs p) (eqb x p)
  where
    assoc : (a b c : Bool) → (a || (b || c)) ≡ ((a || b) || c)
    assoc true b c = refl
    assoc false b c = refl

pub among_here : (xs : List ℕ) (x : ℕ) → is_among (xs ++ x ∷ []) x ≡ true
among_here xs x = among_end xs x x ∙ ap (λ (b : Bool). is_among xs x || b) (eq-eqb x x refl) ∙ or_true (is_among xs x)

pub among_before : (xs : List ℕ) (x p : ℕ) → is_among xs p ≡ true → is_among (xs ++ x ∷ []) p ≡ true
among_before xs x p e = among_end xs x p ∙ ap (λ (b : Bool). b || eqb x p) e

pub all_end : (test : ℕ → Bool) (xs : List ℕ) (x : ℕ) → list_all test xs ≡ true → test x ≡ true → list_all test (xs ++ x ∷ []) ≡ true
all_end test [] x all here = and_from (test x) true here refl
all_end test (y ∷ xs) x all here =
    let k = and_parts (test y) (list_all test xs) all in
    and_from (test y) (list_all test (xs ++ x ∷ [])) k.0 (all_end test xs x k.1 here)

pub each_end : (P : ℕ → Type 0) (xs : List ℕ) (x : ℕ) → AllByRecursion P xs → P x → AllByRecursion P (xs ++ x ∷ [])
each_end P [] x all here = (here, tt)
each_end P (y ∷ xs) x all here = (all.0, each_end P xs x all.1 here)

pub each_of : (P Q : ℕ → Type 0) (xs : List ℕ) → ((p : ℕ) → P p → Q p) → AllByRecursion P xs → AllByRecursion Q xs
each_of P Q [] f all = tt
each_of P Q (x ∷ xs) f all = (f x all.0, each_of P Q xs f all.1)

pub in_all : (P : ℕ → Type 0) (xs : List ℕ) (p : ℕ) → AllByRecursion P xs → is_among xs p ≡ true → P p
in_all P [] p all e = absurd cc
in_all P (x ∷ xs) p all e = elim (cases_Bool (eqb x p)) [
  | inl is ↦ subst P (eqb-true x p is) all.0
  | inr other ↦ in_all P xs p all.1 (rw other at e)
]

pub all_is : (test : ℕ → Bool) (xs : List ℕ) (p : ℕ) → list_all test xs ≡ true → is_among xs p ≡ true → test p ≡ true
all_is test [] p all e = absurd cc
all_is test (x ∷ xs) p all e =
    let k = and_parts (test x) (list_all test xs) all in
    elim (cases_Bool (eqb x p)) [
      | inl is ↦ ap test (sym (eqb-true x p is)) ∙ k.0
      | inr other ↦ all_is test xs p k.1 (rw other at e)
    ]

-- one more that is not among them
pub different_end : (xs : List ℕ) (x : ℕ) → AreDifferent xs → is_among xs x ≡ false → AreDifferent (xs ++ x ∷ [])
different_end [] x d e = (refl, tt)
different_end (y ∷ xs) x d e =
    let k = or_parts (eqb y x) (is_among xs x) e in
    let off : eqb x y ≡ false = other (eqb x y) refl k.0 in
    (among_end xs x y ∙ ap (λ (b : Bool). b || eqb x y) d.0 ∙ off, different_end xs x d.1 k.1)
  where
    other : (b : Bool) → eqb x y ≡ b → eqb y x ≡ false → b ≡ false
    other true is k = let e : true ≡ false = sym (eq-eqb y x (sym (eqb-true x y is))) ∙ k in absurd cc
    other false is k = refl
