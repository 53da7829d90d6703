-- The last of a list, and what another in its place gives.
use Rattle.std.proofs.Common.{◌≡◌, ℕ, zero, suc, List, [], ◌∷◌, ◌++◌, length, take, slice_set, slice_index_or, refl, sym, ap, arith}

pub last_is : {A : Type 0} (xs : List A) (n : ℕ) (x : A) → length xs ≡ suc n → x ≡ slice_index_or xs n x → xs ≡ take n xs ++ x ∷ []
last_is [] n x long is = absurd cc
last_is (y ∷ []) zero x long is = ap (λ z. z ∷ []) (sym is)
last_is (y ∷ z ∷ zs) zero x long is = absurd cc
last_is (y ∷ ys) (suc n) x long is = ap (λ t. y ∷ t) (last_is ys n x (omega (arith, long)) is)

pub last_set : {A : Type 0} (xs : List A) (n : ℕ) (x : A) → length xs ≡ suc n → slice_set xs n x ≡ take n xs ++ x ∷ []
last_set [] n x long = absurd cc
last_set (y ∷ []) zero x long = refl
last_set (y ∷ z ∷ zs) zero x long = absurd cc
last_set (y ∷ ys) (suc n) x long = ap (λ t. y ∷ t) (last_set ys n x (omega (arith, long)))

pub front_set : {A : Type 0} (xs : List A) (n : ℕ) (x : A) → take n (slice_set xs n x) ≡ take n xs
front_set [] n x = refl
front_set (y ∷ ys) zero x = refl
front_set (y ∷ ys) (suc n) x = ap (λ t. y ∷ t) (front_set ys n x)
