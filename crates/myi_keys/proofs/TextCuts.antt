-- What is left of a text: characters that there is room for, and no trailing blanks.
use Rattle.std.proofs.Common.{◌≡◌, ℕ, zero, suc, ◌+◌, ◌≤◌, Bool, true, false, cond, List, [], ◌∷◌, length, take, refl, ap, ◌∙◌, arith, inl, inr}
use Rattle.std.specs.Prelude.{count_by}
use Rattle.std.proofs.lemmas.Bool.{cases_Bool}
use Rattle.std.proofs.lemmas.List.Sums.{sum_by-cons}
use Rattle.myi_keys.specs.Weights.{begins_character, first_characters}

-- ---- characters

cut_first : (b : ℕ) (bs : List ℕ) → begins_character b ≡ true → first_characters zero (b ∷ bs) ≡ []
cut_first b bs is = rw is refl

cut_passed : (b : ℕ) (bs : List ℕ) → begins_character b ≡ false → first_characters zero (b ∷ bs) ≡ b ∷ first_characters zero bs
cut_passed b bs is = rw is refl

-- a front of a list with one more item before it
front_more : (b : ℕ) (bs front : List ℕ) → front ≡ take (length front) bs → b ∷ front ≡ take (length (b ∷ front)) (b ∷ bs)
front_more b bs front is = ap (λ (xs : List ℕ). b ∷ xs) is

pub characters_front : (n : ℕ) (bytes : List ℕ) → first_characters n bytes ≡ take (length (first_characters n bytes)) bytes
characters_front n [] = refl
characters_front zero (b ∷ bs) = elim (cases_Bool (begins_character b)) [
  | inl is ↦ rw (cut_first b bs is) refl
  | inr not ↦ rw (cut_passed b bs not) (front_more b bs (first_characters zero bs) (characters_front zero bs))
]
characters_front (suc n) (b ∷ bs) =
    let left : ℕ = cond (begins_character b) n (suc n) in
    front_more b bs (first_characters left bs) (characters_front left bs)

count_more : (b : ℕ) (bs : List ℕ) → begins_character b ≡ true → count_by begins_character (b ∷ bs) ≡ 1 + count_by begins_character bs
count_more b bs is = sum_by-cons (λ (x : ℕ). cond (begins_character x) 1 0) b bs ∙ ap (λ (t : Bool). cond t 1 0 + count_by begins_character bs) is

count_same : (b : ℕ) (bs : List ℕ) → begins_character b ≡ false → count_by begins_character (b ∷ bs) ≡ count_by begins_character bs
count_same b bs is = sum_by-cons (λ (x : ℕ). cond (begins_character x) 1 0) b bs ∙ ap (λ (t : Bool). cond t 1 0 + count_by begins_character bs) is ∙ omega arith

few_more : (n b : ℕ) (front : List ℕ) → count_by begins_character front ≤ cond (begins_character b) n (suc n) → count_by begins_character (b ∷ front) ≤ suc n
few_more n b front few = elim (cases_Bool (begins_character b)) [
  | inl is ↦ let more = count_more b front is in let left = rw is at few in omega arith
  | inr not ↦ let same = count_same b front not in let left = rw not at few in omega arith
]

pub characters_few : (n : ℕ) (bytes : List ℕ) → count_by begins_character (first_characters n bytes) ≤ n
characters_few n [] = omega arith
characters_few zero (b ∷ bs) = elim (cases_Bool (begins_character b)) [
  | inl is ↦ rw (cut_first b bs is) (omega arith)
  | inr not ↦ rw (cut_passed b bs not, count_same b (first_characters zero bs) not) (characters_few zero bs)
]
characters_few (suc n) (b ∷ bs) =
    let left : ℕ = cond (begins_character b) n (suc n) in
    few_more n b (first_characters left bs) (characters_few left bs)

room_left : (n k b : ℕ) (bs : List ℕ) → count_by begins_character (take (suc k) (b ∷ bs)) ≤ suc n → count_by begins_character (take k bs) ≤ cond (begins_character b) n (suc n)
room_left n k b bs few = elim (cases_Bool (begins_character b)) [
  | inl is ↦ let more = count_more b (take k bs) is in rw is (omega arith)
  | inr not ↦ let same = count_same b (take k bs) not in rw not (omega arith)
]

pub characters_longest : (n k : ℕ) (bytes : List ℕ) → k ≤ length bytes → count_by begins_character (take k bytes) ≤ n → k ≤ length (first_characters n bytes)
characters_longest n zero bytes inside few = omega arith
characters_longest n (suc k) [] inside few = absurd (omega arith)
characters_longest zero (suc k) (b ∷ bs) inside few = elim (cases_Bool (begins_character b)) [
  | inl is ↦ absurd (omega (arith, count_more b (take k bs) is))
  | inr not ↦
      let rest = characters_longest zero k bs (omega arith) (omega (arith, count_same b (take k bs) not)) in
      rw (cut_passed b bs not) (omega arith)
]
characters_longest (suc n) (suc k) (b ∷ bs) inside few =
    let rest = characters_longest (cond (begins_character b) n (suc n)) k bs (omega arith) (room_left n k b bs few) in
    omega arith

pub characters_short : (n : ℕ) (bytes : List ℕ) → length (first_characters n bytes) ≤ length bytes
characters_short n [] = omega arith
characters_short zero (b ∷ bs) = elim (cases_Bool (begins_character b)) [
  | inl is ↦ rw (cut_first b bs is) (omega arith)
  | inr not ↦ let rest = characters_short zero bs in rw (cut_passed b bs not) (omega arith)
]
characters_short (suc n) (b ∷ bs) = let rest = characters_short (cond (begins_character b) n (suc n)) bs in omega arith
