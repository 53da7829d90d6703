-- The longest shared front of two keys.
use Rattle.std.proofs.Common.{◌≡◌, ℕ, zero, suc, ◌+◌, ◌<◌, ◌≤◌, Bool, true, false, not, cond, eqb, List, [], ◌∷◌, ◌++◌, length, get_or, take, drop, refl, ap, ◌∙◌, arith, inl, inr, ◌⊎◌}
use Rattle.std.proofs.lemmas.Bool.{ne_eqb, eqb-true, eq-eqb, cases_Bool}
use Rattle.myi_keypage.specs.Page.{shared}

pub shared_empty : (xs ys : List ℕ) → (length xs ≡ 0) ⊎ (length ys ≡ 0) → eqb (shared xs ys) 0 ≡ true
shared_empty [] ys h = refl
shared_empty (x ∷ xs) [] h = refl
shared_empty (x ∷ xs) (y ∷ ys) (inl h) = absurd (omega arith)
shared_empty (x ∷ xs) (y ∷ ys) (inr h) = absurd (omega arith)

by_heads : (b : Bool) (n : ℕ) → eqb (cond b (suc n) 0) 0 ≡ not b
by_heads true n = ne_eqb (suc n) 0 (omega arith)
by_heads false n = refl

pub shared_heads : (xs ys : List ℕ) → 0 < length xs → 0 < length ys → eqb (shared xs ys) 0 ≡ not (eqb (get_or xs 0 0) (get_or ys 0 0))
shared_heads [] ys h k = absurd (omega arith)
shared_heads (x ∷ xs) [] h k = absurd (omega arith)
shared_heads (x ∷ xs) (y ∷ ys) h k = by_heads (eqb x y) (shared xs ys)

-- a key begins with what it shares
pub rejoined : (before key : List ℕ) → take (shared before key) before ++ drop (shared before key) key ≡ key
rejoined [] key = refl
rejoined (x ∷ xs) [] = refl
rejoined (x ∷ xs) (y ∷ ys) =
    elim (cases_Bool (eqb x y)) [
      | inl same ↦ rw (same, eqb-true x y same) (ap (λ (t : List ℕ). y ∷ t) (rejoined xs ys))
      | inr other ↦ rw other refl
    ]

pub shared_le : (before key : List ℕ) → shared before key ≤ length before
shared_le [] key = omega arith
shared_le (x ∷ xs) [] = omega arith
shared_le (x ∷ xs) (y ∷ ys) =
    elim (cases_Bool (eqb x y)) [
      | inl same ↦ rw same (omega (arith, shared_le xs ys))
      | inr other ↦ rw other (omega arith)
    ]

pub shared_le_right : (before key : List ℕ) → shared before key ≤ length key
shared_le_right [] key = omega arith
shared_le_right (x ∷ xs) [] = omega arith
shared_le_right (x ∷ xs) (y ∷ ys) =
    elim (cases_Bool (eqb x y)) [
      | inl same ↦ rw same (omega (arith, shared_le_right xs ys))
      | inr other ↦ rw other (omega arith)
    ]

-- behind what they share they share nothing
pub shared_rest : (before key : List ℕ) → shared (drop (shared before key) before) (drop (shared before key) key) ≡ 0
shared_rest [] key = refl
shared_rest (x ∷ xs) [] = refl
shared_rest (x ∷ xs) (y ∷ ys) =
    elim (cases_Bool (eqb x y)) [
      | inl same ↦ rw same (shared_rest xs ys)
      | inr other ↦ rw (other, other) refl
    ]

-- what a key made of a front of the other shares with it
pub shared_made : (before : List ℕ) (p : ℕ) (rest : List ℕ) → p ≤ length before → shared before (take p before ++ rest) ≡ p + shared (drop p before) rest
shared_made before zero rest h = omega arith
shared_made [] (suc p) rest h = absurd (omega arith)
shared_made (x ∷ xs) (suc p) rest h = rw (eq-eqb x x refl) (ap suc (shared_made xs p rest (omega arith)) ∙ omega arith)
