-- The rows of a table that words spell.
use Rattle.std.proofs.Common.{◌≡◌, ℕ, zero, suc, ◌+◌, ◌*◌, ◌/◌, ◌≤◌, Bool, true, false, List, [], ◌∷◌, ◌++◌, length, take, drop, get_or, All, cond, sym, refl, ap, ◌∙◌, subst, arith, length-append, append_assoc}
use Rattle.std.specs.Prelude.{sum_by}
use Rattle.std.specs.List.{flat_map, take_while, prefix_len}
use Rattle.std.proofs.lemmas.List.{take-append-drop}
use Rattle.std.proofs.Math.Seq.{take-append_seam}
use Rattle.std.proofs.lemmas.List.Sums.{take_while-cons, sum_by-cons}
use Rattle.std.proofs.lemmas.List.Elements.{All-cons, All-nil, All-take}
use Rattle.myi_base.specs.Numbers.{AreBytes}
use Rattle.myi_tail.specs.Prefix.{BeginsWith}
use Rattle.myi_tail.specs.Rows.{row_words}
use Rattle.myi_tail.specs.Spelled.{spelled}
use Rattle.myi_tail.proofs.CallerLemmas as tail
use Rattle.myi_spelling.specs.Rows.{spelled_rows}

-- a list up to the first item that fails

passes : (p : List ℕ → Bool) (rows rest : List (List ℕ)) → All (λ row. p row ≡ true) rows → take_while p (rows ++ rest) ≡ rows ++ take_while p rest
passes p [] rest all = refl
passes p (x ∷ xs) rest all =
    take_while-cons p x (xs ++ rest)
    ∙ ap (λ (b : Bool). cond b (x ∷ take_while p (xs ++ rest)) []) (all 0 [] (omega arith))
    ∙ ap (λ l. x ∷ l) (passes p xs rest (λ k d h. all (suc k) d (omega arith)))

pass_first : (p : List ℕ → Bool) (x : List ℕ) (rows : List (List ℕ)) (b : Bool) → p x ≡ b → All (λ row. p row ≡ true) rows → All (λ row. p row ≡ true) (cond b (x ∷ rows) [])
pass_first p x rows true is all = All-cons (λ row. p row ≡ true) x rows is all
pass_first p x rows false is all = All-nil (λ row. p row ≡ true)

pass_in : (p : List ℕ → Bool) (rows : List (List ℕ)) → All (λ row. p row ≡ true) (take_while p rows)
pass_in p [] = All-nil (λ row. p row ≡ true)
pass_in p (x ∷ xs) = subst (λ (l : List (List ℕ)). All (λ row. p row ≡ true) l) (sym (take_while-cons p x xs)) (pass_first p x (take_while p xs) (p x) refl (pass_in p xs))

front_first : (x : List ℕ) (all rows : List (List ℕ)) (b : Bool) → BeginsWith all rows → BeginsWith (cond b (x ∷ all) []) (cond b (x ∷ rows) [])
front_first x all rows true front = ap (λ l. x ∷ l) front
front_first x all rows false front = refl

front_while : (p : List ℕ → Bool) (all rows : List (List ℕ)) → BeginsWith all rows → BeginsWith (take_while p all) (take_while p rows)
front_while p all [] front = refl
front_while p [] (y ∷ ys) front = absurd (cc front)
front_while p (x ∷ xs) (y ∷ ys) front =
    let same : y ≡ x = ap (λ (l : List (List ℕ)). get_or l 0 y) front in
    let rest : ys ≡ take (length ys) xs = ap (drop 1) front in
    subst (λ (l : List (List ℕ)). BeginsWith (take_while p (x ∷ xs)) l) (ap (λ z. take_while p (z ∷ ys)) (sym same))
    (subst (λ (l : List (List ℕ)). BeginsWith l (take_while p (x ∷ ys))) (sym (take_while-cons p x xs))
    (subst (λ (l : List (List ℕ)). BeginsWith (cond (p x) (x ∷ take_while p xs) []) l) (sym (take_while-cons p x ys))
    (front_first x (take_while p xs) (take_while p ys) (p x) (front_while p xs ys rest))))

-- rows and their words

pub words_of_row : (row : List ℕ) → length (row_words row) ≡ suc ((length row + 7) / 8)
words_of_row row = ap suc (tail.length-words_of ((length row + 7) / 8) row)

few : (rows : List (List ℕ)) (n : ℕ) → length (take n rows) ≤ length (flat_map row_words rows)
few rows zero = omega arith
few [] (suc n) = omega arith
few (x ∷ xs) (suc n) = let rest = few xs n in omega (arith, words_of_row x, length-append (row_words x) (flat_map row_words xs))

short : (rows : List (List ℕ)) (n : ℕ) → sum_by length (take n rows) ≤ 8 * length (flat_map row_words rows)
short rows zero = omega arith
short [] (suc n) = omega arith
short (x ∷ xs) (suc n) = let rest = short xs n in omega (arith, sum_by-cons {X = List ℕ} length x (take n xs), words_of_row x, length-append (row_words x) (flat_map row_words xs))

-- what the laws say

pub read : (is_row : List ℕ → Bool) (rows : List (List ℕ)) (rest : List ℕ) → All AreBytes rows → All (λ row. is_row row ≡ true) rows
    → spelled_rows is_row (flat_map row_words rows ++ rest) ≡ rows ++ spelled_rows is_row rest
read is_row rows rest bytes pass = ap (take_while is_row) (tail.read rows rest bytes) ∙ passes is_row rows (spelled rest) pass

pub passing : (is_row : List ℕ → Bool) (words : List ℕ) → All (λ row. is_row row ≡ true) (spelled_rows is_row words)
passing is_row words = pass_in is_row (spelled words)

pub of_bytes : (is_row : List ℕ → Bool) (words : List ℕ) → All AreBytes (spelled_rows is_row words)
of_bytes is_row words = All-take AreBytes (prefix_len is_row (spelled words)) (spelled words) (tail.found words).of_bytes

pub first_spelled : (is_row : List ℕ → Bool) (all words : List ℕ) → BeginsWith all words → BeginsWith (spelled_rows is_row all) (spelled_rows is_row words)
first_spelled is_row all words front = front_while is_row (spelled all) (spelled words) (tail.first_spelled all words front)

pub few_rows : (is_row : List ℕ → Bool) (words : List ℕ) → length (spelled_rows is_row words) ≤ length words
few_rows is_row words =
    let s = tail.found words in
    let size = ap length s.one_by_one in
    let bound = few (spelled words) (prefix_len is_row (spelled words)) in
    omega (arith, length-append (flat_map row_words (spelled words)) s.rest)

pub few_bytes : (is_row : List ℕ → Bool) (words : List ℕ) → sum_by length (spelled_rows is_row words) ≤ 8 * length words
few_bytes is_row words =
    let s = tail.found words in
    let size = ap length s.one_by_one in
    let bound = short (spelled words) (prefix_len is_row (spelled words)) in
    omega (arith, length-append (flat_map row_words (spelled words)) s.rest)

pub begin_with_rows : (all words : List ℕ) → BeginsWith all words → BeginsWith all (flat_map row_words (spelled words))
begin_with_rows all words front =
    let s = tail.found words in
    let rows : List ℕ = flat_map row_words (spelled words) in
    let back : List ℕ = drop (length words) all in
    let whole : all ≡ rows ++ (s.rest ++ back) =
    sym (take-append-drop (length words) all) ∙ ap (λ l. l ++ back) (sym front ∙ s.one_by_one) ∙ append_assoc rows s.rest back in
    sym (ap (take (length rows)) whole ∙ take-append_seam rows (s.rest ++ back))

-- rows whose words the words begin with are the first that they spell
pub rows_first : (words : List ℕ) (rows : List (List ℕ)) → All AreBytes rows → BeginsWith words (flat_map row_words rows) → BeginsWith (spelled words) rows
rows_first words rows all front =
    let back : List ℕ = drop (length (flat_map row_words rows)) words in
    let whole : words ≡ flat_map row_words rows ++ back =
    sym (take-append-drop (length (flat_map row_words rows)) words) ∙ ap (λ l. l ++ back) (sym front) in
    let same : spelled words ≡ rows ++ spelled back = ap spelled whole ∙ tail.read rows back all in
    sym (ap (take (length rows)) same ∙ take-append_seam rows (spelled back))
