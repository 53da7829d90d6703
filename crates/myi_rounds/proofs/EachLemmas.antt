-- Lists whose items stand in a relation, one by one.
use Rattle.std.proofs.Common.{◌≡◌, ℕ, zero, suc, ◌<◌, List, [], ◌∷◌, ◌++◌, length, slice_index_or, arith, length-append}
use Rattle.myi_rounds.specs.Rounds.{EachOf}

pub each_from : {A : Type 0} (P : A → A → Type 0) (xs ys : List A) → length ys ≡ length xs → ((i : ℕ) (d : A) → i < length xs → P (slice_index_or xs i d) (slice_index_or ys i d)) → EachOf P xs ys
each_from P [] [] long all = tt
each_from P [] (y ∷ ys) long all = absurd (omega (arith, long))
each_from P (x ∷ xs) [] long all = absurd (omega (arith, long))
each_from P (x ∷ xs) (y ∷ ys) long all = (all zero x (omega arith), each_from P xs ys (omega (arith, long)) (λ i d lt. all (suc i) d (omega (arith, lt))))

pub each_length : {A B : Type 0} (P : A → B → Type 0) (xs : List A) (ys : List B) → EachOf P xs ys → length ys ≡ length xs
each_length P [] [] each = omega arith
each_length P [] (y ∷ ys) each = absurd each
each_length P (x ∷ xs) [] each = absurd each
each_length P (x ∷ xs) (y ∷ ys) each = let more = each_length P xs ys each.1 in omega (arith, more)

pub each_at : {A B : Type 0} (P : A → B → Type 0) (xs : List A) (ys : List B) (i : ℕ) (d : A) (e : B) → EachOf P xs ys → i < length xs → P (slice_index_or xs i d) (slice_index_or ys i e)
each_at P [] ys i d e each lt = absurd (omega (arith, lt))
each_at P (x ∷ xs) [] i d e each lt = absurd each
each_at P (x ∷ xs) (y ∷ ys) zero d e each lt = each.0
each_at P (x ∷ xs) (y ∷ ys) (suc i) d e each lt = each_at P xs ys i d e each.1 (omega (arith, lt))

pub each_end : {A B : Type 0} (P : A → B → Type 0) (xs : List A) (ys : List B) (x : A) (y : B) → EachOf P (xs ++ x ∷ []) (ys ++ y ∷ []) → EachOf P xs ys × P x y
each_end P [] [] x y each = (tt, each.0)
each_end P [] (z ∷ ys) x y each = absurd (let long = each_length P (x ∷ []) (z ∷ ys ++ y ∷ []) each in omega (arith, long, length-append ys (y ∷ [])))
each_end P (z ∷ xs) [] x y each = absurd (let long = each_length P (z ∷ xs ++ x ∷ []) (y ∷ []) each in omega (arith, long, length-append xs (x ∷ [])))
each_end P (z ∷ xs) (w ∷ ys) x y each = let more = each_end P xs ys x y each.1 in ((each.0, more.0), more.1)
