-- Lists of items of several kinds, which are numbered: the items of each kind, and neighbours.
use Rattle.std.proofs.Common.{◌≡◌, ◌≢◌, ℕ, zero, suc, ◌+◌, ◌<◌, ◌≤◌, ◌==◌, Bool, true, false, cond, not, List, [], ◌∷◌, ◌++◌, length, refl, sym, ap, subst, ◌∙◌, arith, filter}
use Rattle.std.specs.Prelude.{⊤, IsPermutation, IsSorted, slice_index_or}
use Rattle.std.specs.List.{AllByRecursion}
use Rattle.std.specs.Ordering.{is_lt}
use Rattle.std.specs.declared.cmp.Ordering.{Ordering}
use Rattle.std.proofs.lemmas.Bool.Decides.{nat_tests}
use Rattle.std.proofs.lemmas.List.Sorted.{IsPermutation-refl, IsPermutation-trans, IsPermutation-cons, IsPermutation-middle, IsPermutation-append_right}

-- ---- neighbours

-- this holds of each item and the one behind it
abbrev pub Chain : {A : Type 0} → (A → A → Type 0) → List A → Type 0
Chain R [] = ⊤
Chain R (x ∷ []) = ⊤
Chain R (x ∷ y ∷ zs) = R x y × Chain R (y ∷ zs)

-- this holds of the last item, where there is one
abbrev pub IfLast : {A : Type 0} → (A → Type 0) → List A → Type 0
IfLast P [] = ⊤
IfLast P (x ∷ []) = P x
IfLast P (x ∷ y ∷ zs) = IfLast P (y ∷ zs)

pub chain_push : {A : Type 0} (R : A → A → Type 0) (xs : List A) (y : A) → Chain R xs → IfLast (λ x. R x y) xs → Chain R (xs ++ y ∷ [])
chain_push R [] y c l = tt
chain_push R (x ∷ []) y c l = (l, tt)
chain_push R (x ∷ z ∷ zs) y c l = (c.0, chain_push R (z ∷ zs) y c.1 l)

pub last_push : {A : Type 0} (P : A → Type 0) (xs : List A) (y : A) → P y → IfLast P (xs ++ y ∷ [])
last_push P [] y p = p
last_push P (x ∷ []) y p = p
last_push P (x ∷ z ∷ zs) y p = last_push P (z ∷ zs) y p

pub last_weaker : {A : Type 0} (P Q : A → Type 0) → ((x : A) → P x → Q x) → (xs : List A) → IfLast P xs → IfLast Q xs
last_weaker P Q f [] l = tt
last_weaker P Q f (x ∷ []) l = f x l
last_weaker P Q f (x ∷ y ∷ zs) l = last_weaker P Q f (y ∷ zs) l

pub chain_tail : {A : Type 0} (R : A → A → Type 0) (x : A) (xs : List A) → Chain R (x ∷ xs) → Chain R xs
chain_tail R x [] c = tt
chain_tail R x (y ∷ zs) c = c.1

pub sorted_chain : {A : Type 0} (cmp : A → A → Ordering) (xs : List A) → Chain (λ x y. is_lt (cmp y x) ≡ false) xs → IsSorted cmp xs
sorted_chain cmp [] c = λ k d low lt. absurd (omega arith)
sorted_chain cmp (x ∷ []) c = λ k d low lt. absurd (omega arith)
sorted_chain {A} cmp (x ∷ y ∷ zs) c = λ k d low lt. by (sorted_chain cmp (y ∷ zs) c.1) k d lt
  where
    by : IsSorted cmp (y ∷ zs) → (k : ℕ) (d : A) → k + 1 < length (x ∷ y ∷ zs) → is_lt (cmp (slice_index_or (x ∷ y ∷ zs) (k + 1) d) (slice_index_or (x ∷ y ∷ zs) k d)) ≡ false
    by rest zero d lt = c.0
    by rest (suc k) d lt =
        let next : suc k + 1 ≡ suc (k + 1) = omega arith in
        subst (λ (n : ℕ). is_lt (cmp (slice_index_or (x ∷ y ∷ zs) n d) (slice_index_or (x ∷ y ∷ zs) (suc k) d)) ≡ false) (sym next) (rest k d (omega arith) (omega arith))

pub chain_sorted : {A : Type 0} (cmp : A → A → Ordering) (xs : List A) → IsSorted cmp xs → Chain (λ x y. is_lt (cmp y x) ≡ false) xs
chain_sorted cmp [] s = tt
chain_sorted cmp (x ∷ []) s = tt
chain_sorted {A} cmp (x ∷ y ∷ zs) s = (s 0 x (omega arith) (omega arith), chain_sorted cmp (y ∷ zs) (λ k d low lt. let next : suc k + 1 ≡ suc (k + 1) = omega arith in subst (λ (n : ℕ). is_lt (cmp (slice_index_or (x ∷ y ∷ zs) n d) (slice_index_or (x ∷ y ∷ zs) (suc k) d)) ≡ false) next (s (suc k) d (omega arith) (omega (arith, lt)))))

-- ---- the items of a kind

abbrev pub of_kind : {A : Type 0} → (A → ℕ) → ℕ → List A → List A
of_kind kind n xs = filter (λ x. kind x == n) xs

pub kind_push : {A : Type 0} (kind : A → ℕ) (n : ℕ) (xs : List A) (y : A) → of_kind kind n (xs ++ y ∷ []) ≡ of_kind kind n xs ++ cond (kind y == n) (y ∷ []) []
kind_push kind n [] y = refl
kind_push {A} kind n (x ∷ xs) y = by (kind x == n) (kind_push kind n xs y)
  where
    by : (b : Bool) → of_kind kind n (xs ++ y ∷ []) ≡ of_kind kind n xs ++ cond (kind y == n) (y ∷ []) [] → cond b (x ∷ of_kind kind n (xs ++ y ∷ [])) (of_kind kind n (xs ++ y ∷ [])) ≡ cond b (x ∷ of_kind kind n xs) (of_kind kind n xs) ++ cond (kind y == n) (y ∷ []) []
    by true e = ap (λ (l : List A). x ∷ l) e
    by false e = e

-- neighbours of one kind are neighbours among the items of that kind
pub chain_kinds : {A : Type 0} (R : A → A → Type 0) (kind : A → ℕ) (P : ℕ → Type 0) (xs : List A) → AllByRecursion (λ x. P (kind x)) xs → Chain (λ x y. kind x ≢ kind y → R x y) xs → ((n : ℕ) → P n → Chain R (of_kind kind n xs)) → Chain R xs
chain_kinds R kind P [] all across each = tt
chain_kinds R kind P (x ∷ []) all across each = tt
chain_kinds {A} R kind P (x ∷ y ∷ zs) all across each = (by (kind y == kind x) refl, chain_kinds R kind P (y ∷ zs) all.1 across.1 (λ n p. tail n (kind x == n) (each n p)))
  where
    here : (a b : Bool) → a ≡ true → b ≡ true → Chain R (cond a (x ∷ cond b (y ∷ of_kind kind (kind x) zs) (of_kind kind (kind x) zs)) (cond b (y ∷ of_kind kind (kind x) zs) (of_kind kind (kind x) zs))) → R x y
    here true true e f c = c.0
    here true false e f c = absurd cc
    here false b e f c = absurd cc

    itself : (n : ℕ) → (n == n) ≡ true
    itself n = grind (arith, nat_tests)

    by : (b : Bool) → (kind y == kind x) ≡ b → R x y
    by true e = here (kind x == kind x) (kind y == kind x) (itself (kind x)) e (each (kind x) all.0)
    by false e = across.0 (λ same. let t : (kind y == kind x) ≡ true = subst (λ (n : ℕ). (kind y == n) ≡ true) (sym same) (itself (kind y)) in absurd (let bad : true ≡ false = sym t ∙ e in cc))

    tail : (n : ℕ) (b : Bool) → Chain R (cond b (x ∷ of_kind kind n (y ∷ zs)) (of_kind kind n (y ∷ zs))) → Chain R (of_kind kind n (y ∷ zs))
    tail n true c = chain_tail R x (of_kind kind n (y ∷ zs)) c
    tail n false c = c

-- ---- all kinds together

-- the items of so many kinds from a number on, kind by kind
abbrev pub by_kinds : {A : Type 0} → (A → ℕ) → ℕ → ℕ → List A → List A
by_kinds kind n zero xs = []
by_kinds kind n (suc k) xs = of_kind kind n xs ++ by_kinds kind (n + 1) k xs

abbrev others : {A : Type 0} → (A → ℕ) → ℕ → List A → List A
others kind n xs = filter (λ x. not (kind x == n)) xs

both_parts : {A : Type 0} (p : A → Bool) (xs : List A) → IsPermutation (filter p xs ++ filter (λ x. not (p x)) xs) xs
both_parts p [] = IsPermutation-refl []
both_parts {A} p (x ∷ xs) = by (p x) (both_parts p xs)
  where
    by : (b : Bool) → IsPermutation (filter p xs ++ filter (λ y. not (p y)) xs) xs
        → IsPermutation (cond b (x ∷ filter p xs) (filter p xs) ++ cond (not b) (x ∷ filter (λ y. not (p y)) xs) (filter (λ y. not (p y)) xs)) (x ∷ xs)
    by true e = IsPermutation-cons x (filter p xs ++ filter (λ y. not (p y)) xs) xs e
    by false e = IsPermutation-trans (filter p xs ++ x ∷ filter (λ y. not (p y)) xs) (x ∷ filter p xs ++ filter (λ y. not (p y)) xs) (x ∷ xs)
        (IsPermutation-middle (filter p xs) x (filter (λ y. not (p y)) xs))
        (IsPermutation-cons x (filter p xs ++ filter (λ y. not (p y)) xs) xs e)

kind_of_others : {A : Type 0} (kind : A → ℕ) (n m : ℕ) (xs : List A) → n ≢ m → of_kind kind m (others kind n xs) ≡ of_kind kind m xs
kind_of_others kind n m [] apart = refl
kind_of_others {A} kind n m (x ∷ xs) apart = by (kind x == n) refl (kind_of_others kind n m xs apart)
  where
    by : (b : Bool) → (kind x == n) ≡ b → of_kind kind m (others kind n xs) ≡ of_kind kind m xs → of_kind kind m (cond (not b) (x ∷ others kind n xs) (others kind n xs)) ≡ of_kind kind m (x ∷ xs)
    by true e more = more ∙ ap (λ (b : Bool). cond b (x ∷ of_kind kind m xs) (of_kind kind m xs)) (sym (let is : kind x ≡ n = grind (arith, nat_tests, e) in let not_m : (kind x == m) ≡ false = grind (arith, nat_tests, is, apart) in not_m))
    by false e more = ap (λ (l : List A). cond (kind x == m) (x ∷ l) l) more

kinds_of_others : {A : Type 0} (kind : A → ℕ) (n m k : ℕ) (xs : List A) → n < m → by_kinds kind m k (others kind n xs) ≡ by_kinds kind m k xs
kinds_of_others kind n m zero xs lt = refl
kinds_of_others {A} kind n m (suc k) xs lt =
    ap (λ (l : List A). l ++ by_kinds kind (m + 1) k (others kind n xs)) (kind_of_others kind n m xs (λ same. absurd (omega (arith, lt, same))))
    ∙ ap (λ (l : List A). of_kind kind m xs ++ l) (kinds_of_others kind n (m + 1) k xs (omega (arith, lt)))

-- a number is one of so many from a number on
abbrev pub IsWithin : ℕ → ℕ → ℕ → Type 0
IsWithin n k m = (n ≤ m) × (m < n + k)

others_within : {A : Type 0} (kind : A → ℕ) (n k : ℕ) (xs : List A) → AllByRecursion (λ x. IsWithin n (suc k) (kind x)) xs → AllByRecursion (λ x. IsWithin (n + 1) k (kind x)) (others kind n xs)
others_within kind n k [] all = tt
others_within {A} kind n k (x ∷ xs) all = by (kind x == n) refl (others_within kind n k xs all.1)
  where
    by : (b : Bool) → (kind x == n) ≡ b → AllByRecursion (λ y. IsWithin (n + 1) k (kind y)) (others kind n xs) → AllByRecursion (λ y. IsWithin (n + 1) k (kind y)) (cond (not b) (x ∷ others kind n xs) (others kind n xs))
    by true e more = more
    by false e more =
        let low = all.0.0 in
        let high = all.0.1 in
        let apart : kind x ≢ n = grind (arith, nat_tests, e) in
        ((grind (arith, low, apart), omega (arith, high)), more)

pub kinds_are_all : {A : Type 0} (kind : A → ℕ) (n k : ℕ) (xs : List A) → AllByRecursion (λ x. IsWithin n k (kind x)) xs → IsPermutation (by_kinds kind n k xs) xs
kinds_are_all kind n zero [] all = IsPermutation-refl []
kinds_are_all kind n zero (x ∷ xs) all = absurd (let low = all.0.0 in let high = all.0.1 in omega (arith, low, high))
kinds_are_all {A} kind n (suc k) xs all =
    let rest : List A = others kind n xs in
    let more : IsPermutation (by_kinds kind (n + 1) k xs) rest = subst (λ (l : List A). IsPermutation l rest) (kinds_of_others kind n (n + 1) k xs (omega arith)) (kinds_are_all kind (n + 1) k rest (others_within kind n k xs all)) in
    IsPermutation-trans (of_kind kind n xs ++ by_kinds kind (n + 1) k xs) (of_kind kind n xs ++ rest) xs (IsPermutation-append_right (of_kind kind n xs) (by_kinds kind (n + 1) k xs) rest more) (both_parts (λ x. kind x == n) xs)
