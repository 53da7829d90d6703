-- Blocks that are kept, put in front of their list one after the other.
use Rattle.std.proofs.Common.{◌≡◌, ℕ, zero, suc, ◌+◌, ◌<◌, Bool, true, false, cond, List, [], ◌∷◌, ◌++◌, length, take, drop, get_or, refl, sym, ap, subst, ◌∙◌, arith}
use Rattle.std.specs.Prelude.{filter, slice_set, HoldsAt}
use Rattle.std.specs.List.{AllByRecursion}
use Rattle.std.proofs.lemmas.List.{drop-drop}
use Rattle.myi_check.specs.HeldBytes.{EndsNear}

-- what is kept of one block more
next_kept : {A : Type 0} (p : A → Bool) (i : ℕ) (xs : List A) → filter p (take (suc i) xs) ≡ filter p (take i xs) ++ filter p (take 1 (drop i xs))
next_kept p zero xs = refl
next_kept p (suc i) [] = refl
next_kept {A} p (suc i) (x ∷ xs) = by (p x) (next_kept p i xs)
  where
    by : (b : Bool) → filter p (take (suc i) xs) ≡ filter p (take i xs) ++ filter p (take 1 (drop i xs)) → cond b (x ∷ filter p (take (suc i) xs)) (filter p (take (suc i) xs)) ≡ cond b (x ∷ filter p (take i xs)) (filter p (take i xs)) ++ filter p (take 1 (drop i xs))
    by true more = ap (λ ys. x ∷ ys) more
    by false more = more

pub filter_next : {A : Type 0} (p : A → Bool) (i : ℕ) (xs : List A) → filter p (take (i + 1) xs) ≡ filter p (take i xs) ++ filter p (take 1 (drop i xs))
filter_next p i xs = let e : i + 1 ≡ suc i = omega arith in ap (λ n. filter p (take n xs)) e ∙ next_kept p i xs

pub drop_next : {A : Type 0} (i : ℕ) (xs : List A) → drop 1 (drop i xs) ≡ drop (i + 1) xs
drop_next i xs = drop-drop 1 i xs

-- a block of the list ends near, where those that are left are as they were
near_at : (bs : List (ℕ × ℕ)) (i : ℕ) → AllByRecursion EndsNear bs → i < length bs → HoldsAt EndsNear bs i
near_at [] i all lt = absurd (omega (arith, lt))
near_at (b ∷ bs) zero all lt = λ other. all.0
near_at (b ∷ bs) (suc i) all lt = λ other. near_at bs i all.1 (omega (arith, lt)) other

front_same : (i : ℕ) (xs ys : List (ℕ × ℕ)) (other : ℕ × ℕ) → drop i xs ≡ drop i ys → get_or xs i other ≡ get_or ys i other
front_same i xs ys other same = by i xs ∙ ap (λ zs. get_or zs 0 other) same ∙ sym (by i ys)
  where
    by : (j : ℕ) (zs : List (ℕ × ℕ)) → get_or zs j other ≡ get_or (drop j zs) 0 other
    by zero zs = refl
    by (suc j) [] = refl
    by (suc j) (z ∷ zs) = by j zs

pub holds_near : (i : ℕ) (old now : List (ℕ × ℕ)) → drop i now ≡ drop i old → AllByRecursion EndsNear old → i < length old → HoldsAt EndsNear now i
holds_near i old now same all lt = λ other. subst EndsNear (sym (front_same i now old other same)) (near_at old i all lt other)

-- a block that is put behind those that are kept
pub front_set : {A : Type 0} (i : ℕ) (b : A) (xs : List A) → i < length xs → take (suc i) (slice_set xs i b) ≡ take i xs ++ b ∷ []
front_set i b [] lt = absurd (omega (arith, lt))
front_set zero b (x ∷ xs) lt = refl
front_set (suc i) b (x ∷ xs) lt = ap (λ ys. x ∷ ys) (front_set i b xs (omega (arith, lt)))

-- the block at a place, and what a test says of it
pub one_kept : (p : ℕ × ℕ → Bool) (i : ℕ) (xs : List (ℕ × ℕ)) (other : ℕ × ℕ) (b : Bool) → i < length xs → p (get_or xs i other) ≡ b → filter p (take 1 (drop i xs)) ≡ cond b (get_or xs i other ∷ []) []
one_kept p i [] other b lt is = absurd (omega (arith, lt))
one_kept p zero (x ∷ xs) other b lt is = ap (λ c. cond c (x ∷ []) []) is
one_kept p (suc i) (x ∷ xs) other b lt is = one_kept p i xs other b (omega (arith, lt)) is
