-- Rows that are counted from the front on, up to one that is none.
use Rattle.std.proofs.Common.{◌≡◌, ℕ, zero, suc, ◌+◌, ◌-◌, ◌^◌, ◌≤◌, ◌<◌, Bool, true, false, List, [], ◌∷◌, length, take, drop, cond, refl, sym, ap, ◌∙◌, arith}
use Rattle.std.specs.Prelude.{slice_index_or, sum_by}
use Rattle.std.specs.List.{take_while, prefix_len}
use Rattle.std.proofs.lemmas.List.Sums.{sum_by-cons, take_while-cons, prefix_len-le-length, prefix_len_passes}
use Rattle.std.proofs.lemmas.List.{get_or-take}
use Rattle.myi_defs.specs.declared.types.Defs.{Defs}
use Rattle.myi_tail.specs.Prefix.{BeginsWith}
use Rattle.myi_snapshots.specs.Known.{size_of, end_with}
use Rattle.myi_snapshots.specs.Knowing.{told_place}

-- one more that passes
one_passes : (p : List ℕ → Bool) (xs : List (List ℕ)) (i : ℕ) → i < length xs → p (slice_index_or xs i []) ≡ true
    → (prefix_len p (drop i xs) ≡ 1 + prefix_len p (drop (suc i) xs)) × (take_while p (drop i xs) ≡ slice_index_or xs i [] ∷ take_while p (drop (suc i) xs))
one_passes p [] i lt is = absurd (omega arith)
one_passes p (x ∷ xs) zero lt is =
    (ap (λ (b : Bool). cond b (1 + prefix_len p xs) 0) is, take_while-cons p x xs ∙ ap (λ (b : Bool). cond b (x ∷ take_while p xs) []) is)
one_passes p (x ∷ xs) (suc i) lt is = one_passes p xs i (omega arith) is

pub next_passes : (p : List ℕ → Bool) (xs : List (List ℕ)) (i next : ℕ) → next ≡ i + 1 → i < length xs → p (slice_index_or xs i []) ≡ true
    → (prefix_len p (drop i xs) ≡ 1 + prefix_len p (drop next xs)) × (take_while p (drop i xs) ≡ slice_index_or xs i [] ∷ take_while p (drop next xs))
next_passes p xs i next follows lt is =
    let o = one_passes p xs i lt is in
    let same : suc i ≡ next = omega arith in
    (o.0 ∙ ap (λ n. 1 + prefix_len p (drop n xs)) same, o.1 ∙ ap (λ n. slice_index_or xs i [] ∷ take_while p (drop n xs)) same)

-- those that are counted and those that are left are all
pub counted_left : (p : List ℕ → Bool) (xs : List (List ℕ)) (i : ℕ) → i ≤ prefix_len p xs → i + prefix_len p (drop i xs) ≡ prefix_len p xs
counted_left p xs zero le = let all : 0 + prefix_len p xs ≡ prefix_len p xs = omega arith in all
counted_left p [] (suc i) le = absurd (omega arith)
counted_left p (x ∷ xs) (suc i) le = by_test (p x) refl (counted_left p xs i)
  where
    by_test : (b : Bool) → p x ≡ b → (i ≤ prefix_len p xs → i + prefix_len p (drop i xs) ≡ prefix_len p xs) → suc i + prefix_len p (drop i xs) ≡ prefix_len p (x ∷ xs)
    by_test true e ih =
        let all : prefix_len p (x ∷ xs) ≡ 1 + prefix_len p xs = ap (λ (b : Bool). cond b (1 + prefix_len p xs) 0) e in
        let rest = ih (omega arith) in
        omega arith
    by_test false e ih =
        let none : prefix_len p (x ∷ xs) ≡ 0 = ap (λ (b : Bool). cond b (1 + prefix_len p xs) 0) e in
        absurd (omega arith)

-- no more than there are in a longer list
pub front_counted : (p : List ℕ → Bool) (all xs : List (List ℕ)) → BeginsWith all xs → prefix_len p xs ≤ prefix_len p all
front_counted p all [] front = omega arith
front_counted p [] (x ∷ xs) front = absurd (cc front)
front_counted p (y ∷ ys) (x ∷ xs) front =
    let same : x ≡ y = ap (λ (l : List (List ℕ)). slice_index_or l 0 x) front in
    let rest = front_counted p ys xs (ap (drop 1) front) in
    by_test (p y) refl same rest
  where
    by_test : (b : Bool) → p y ≡ b → x ≡ y → prefix_len p xs ≤ prefix_len p ys → prefix_len p (x ∷ xs) ≤ prefix_len p (y ∷ ys)
    by_test true e same rest =
        let one : prefix_len p (y ∷ ys) ≡ 1 + prefix_len p ys = ap (λ (b : Bool). cond b (1 + prefix_len p ys) 0) e in
        let two : prefix_len p (x ∷ xs) ≡ 1 + prefix_len p xs = ap (λ (b : Bool). cond b (1 + prefix_len p xs) 0) (ap p same ∙ e) in
        omega arith
    by_test false e same rest =
        let two : prefix_len p (x ∷ xs) ≡ 0 = ap (λ (b : Bool). cond b (1 + prefix_len p xs) 0) (ap p same ∙ e) in
        omega arith

-- the sizes of those that are counted and of those that are left
pub sizes_left : (d : Defs) (p : List ℕ → Bool) (xs : List (List ℕ)) (i : ℕ) → i ≤ prefix_len p xs
    → sum_by (size_of d) (take_while p xs) ≡ sum_by (size_of d) (take i xs) + sum_by (size_of d) (take_while p (drop i xs))
sizes_left d p xs zero le = omega arith
sizes_left d p [] (suc i) le = absurd (omega arith)
sizes_left d p (x ∷ xs) (suc i) le = by_test (p x) refl (sizes_left d p xs i)
  where
    by_test : (b : Bool) → p x ≡ b → (i ≤ prefix_len p xs → sum_by (size_of d) (take_while p xs) ≡ sum_by (size_of d) (take i xs) + sum_by (size_of d) (take_while p (drop i xs)))
        → sum_by (size_of d) (take_while p (x ∷ xs)) ≡ sum_by (size_of d) (x ∷ take i xs) + sum_by (size_of d) (take_while p (drop i xs))
    by_test true e ih =
        let all : prefix_len p (x ∷ xs) ≡ 1 + prefix_len p xs = ap (λ (b : Bool). cond b (1 + prefix_len p xs) 0) e in
        let rest = ih (omega arith) in
        let here : sum_by (size_of d) (take_while p (x ∷ xs)) ≡ sum_by (size_of d) (x ∷ take_while p xs) =
        ap (sum_by (size_of d)) (take_while-cons p x xs ∙ ap (λ (b : Bool). cond b (x ∷ take_while p xs) []) e) in
        omega (arith, sum_by-cons (size_of d) x (take_while p xs), sum_by-cons (size_of d) x (take i xs))
    by_test false e ih =
        let none : prefix_len p (x ∷ xs) ≡ 0 = ap (λ (b : Bool). cond b (1 + prefix_len p xs) 0) e in
        absurd (omega arith)

-- ---- places as they are told

pub told_sum : (a b : ℕ) → told_place (told_place a + b) ≡ told_place (a + b)
told_sum a b = omega arith

-- so many rows are counted, and the rest is to come: behind one more the end is told of the same rows
pub told_more : (d : Defs) (p : List ℕ → Bool) (xs : List (List ℕ)) (i next end size later : ℕ) → next ≡ i + 1 → i < length xs → p (slice_index_or xs i []) ≡ true → size ≡ size_of d (slice_index_or xs i []) → later ≡ told_place (end + size)
    → told_place (end_with d later (take_while p (drop next xs))) ≡ told_place (end_with d end (take_while p (drop i xs)))
told_more d p xs i next end size later follows lt is sized told =
    let o = next_passes p xs i next follows lt is in
    let row : List ℕ = slice_index_or xs i [] in
    let rest : List (List ℕ) = take_while p (drop next xs) in
    let sum : sum_by (size_of d) (take_while p (drop i xs)) ≡ size_of d row + sum_by (size_of d) rest = ap (sum_by (size_of d)) o.1 ∙ sum_by-cons (size_of d) row rest in
    let all : (end + size) + sum_by (size_of d) rest ≡ end + sum_by (size_of d) (take_while p (drop i xs)) = omega arith in
    ap (λ (n : ℕ). told_place (n + sum_by (size_of d) rest)) told ∙ told_sum (end + size) (sum_by (size_of d) rest) ∙ ap told_place all

-- where none is left, the end is told
pub told_last : (d : Defs) (p : List ℕ → Bool) (xs : List (List ℕ)) (end : ℕ) → prefix_len p xs ≡ 0 → end ≤ 2 ^ 64 - 1 → end ≡ told_place (end_with d end (take_while p xs))
told_last d p xs end none small =
    let rows : take_while p xs ≡ [] = ap (λ n. take n xs) none in
    let sum : sum_by (size_of d) (take_while p xs) ≡ sum_by (size_of d) [] = ap (sum_by (size_of d)) rows in
    let here : end ≡ told_place (end + 0) = omega arith in
    here ∙ ap (λ n. told_place (end + n)) (sym sum)

take_take : (j n : ℕ) (xs : List (List ℕ)) → j ≤ n → take j (take n xs) ≡ take j xs
take_take zero n xs le = refl
take_take (suc j) zero xs le = absurd (omega arith)
take_take (suc j) (suc n) [] le = refl
take_take (suc j) (suc n) (x ∷ xs) le = ap (λ l. x ∷ l) (take_take j n xs (omega arith))

-- where rows were counted in a front, and then those behind it, all are counted
pub told_all : (d : Defs) (p : List ℕ → Bool) (old all : List (List ℕ)) (begin end count : ℕ) → BeginsWith all old → count ≡ prefix_len p old → end ≡ told_place (end_with d begin (take_while p old))
    → told_place (end_with d end (take_while p (drop count all))) ≡ told_place (end_with d begin (take_while p all))
told_all d p old all begin end count front counted ends =
    let few : count ≤ length old = let most = prefix_len-le-length p old in omega arith in
    let le : count ≤ prefix_len p all = let more = front_counted p all old front in omega arith in
    let same : take_while p old ≡ take count all = ap (λ n. take n old) (sym counted) ∙ ap (take count) front ∙ take_take count (length old) all few in
    let sum : sum_by (size_of d) (take_while p all) ≡ sum_by (size_of d) (take count all) + sum_by (size_of d) (take_while p (drop count all)) = sizes_left d p all count le in
    let first : sum_by (size_of d) (take_while p old) ≡ sum_by (size_of d) (take count all) = ap (sum_by (size_of d)) same in
    let whole : (begin + sum_by (size_of d) (take_while p old)) + sum_by (size_of d) (take_while p (drop count all)) ≡ begin + sum_by (size_of d) (take_while p all) = omega arith in
    ap (λ n. told_place (n + sum_by (size_of d) (take_while p (drop count all)))) ends
    ∙ told_sum (begin + sum_by (size_of d) (take_while p old)) (sum_by (size_of d) (take_while p (drop count all)))
    ∙ ap told_place whole

-- a row that is counted is the same among all, and passes
pub counted_row : (p : List ℕ → Bool) (xs : List (List ℕ)) (i : ℕ) → i < prefix_len p xs → slice_index_or (take_while p xs) i [] ≡ slice_index_or xs i []
counted_row p xs i lt = get_or-take (prefix_len p xs) xs i [] lt

pub counted_passes : (p : List ℕ → Bool) (xs : List (List ℕ)) (i : ℕ) → i < prefix_len p xs → p (slice_index_or xs i []) ≡ true
counted_passes p xs i lt = prefix_len_passes p xs i [] lt
