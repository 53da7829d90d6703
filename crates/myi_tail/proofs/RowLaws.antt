-- Rows that are spelled are read back, and words spell one list of rows.
use Rattle.std.proofs.Common.{◌≡◌, ◌≢◌, ℕ, zero, suc, ◌+◌, ◌-◌, ◌/◌, ◌≤◌, List, [], ◌∷◌, ◌++◌, length, take, drop, All, Option, Some, None, unwrap_or, Bool, true, false, nat_eq, sym, refl, ap, ◌∙◌, subst, arith, append_assoc, if◌then◌else◌}
use Rattle.std.proofs.lemmas.List.{take-append-drop, length-drop, nil_from_length, append-nil}
use Rattle.std.proofs.lemmas.List.Elements.{All-cons, All-nil}
use Rattle.std.proofs.lemmas.Slice.Eq.{starts_is}
use Rattle.std.proofs.lemmas.Bool.Decides.{Decides-eqb}
use Rattle.std.proofs.lemmas.Option.{none-some}
use Rattle.std.proofs.Math.Seq.{take-append_seam, drop-append_seam}
use Rattle.std.specs.List.{flat_map, starts_with}
use Rattle.myi_base.specs.Numbers.{AreBytes}
use Rattle.myi_tail.specs.Prefix.{BeginsWith}
use Rattle.myi_tail.specs.Rows.{row_words, words_of}
use Rattle.myi_tail.specs.Spelled.{AreSpelled, bytes_in, first_row, before_others, first_rows, spelled}
use Rattle.myi_tail.proofs.RowLemmas.{row_back, bytes-bytes_in}

-- the first row

Starts : ℕ → List ℕ → Bool
Starts n words = starts_with nat_eq (n ∷ words) (row_words (bytes_in n words))

tested : (n : ℕ) (words : List ℕ) → (Starts n words ≡ true → n ∷ words ≡ row_words (bytes_in n words) ++ drop (length (row_words (bytes_in n words))) (n ∷ words))
    × ((rest : List ℕ) → n ∷ words ≡ row_words (bytes_in n words) ++ rest → Starts n words ≡ true)
unfolding Starts
tested n words = starts_is Decides-eqb (n ∷ words) (row_words (bytes_in n words)) (starts_with nat_eq (n ∷ words) (row_words (bytes_in n words))) refl

first_row-cons : (n : ℕ) (words : List ℕ) → first_row (n ∷ words) ≡ (if Starts n words then Some (bytes_in n words) else None)
unfolding Starts first_row
first_row-cons n words = refl

first_row-nil : first_row [] ≡ None
unfolding first_row
first_row-nil = refl

first_row-words : (row back : List ℕ) → AreBytes row → first_row (row_words row ++ back) ≡ Some row
first_row-words row back all =
    let words : List ℕ = words_of ((length row + 7) / 8) row ++ back in
    let same : bytes_in (length row) words ≡ row = row_back row back all in
    let starts : Starts (length row) words ≡ true = (tested (length row) words).1 back (ap (λ r. row_words r ++ back) (sym same)) in
    first_row-cons (length row) words ∙ ap (λ (b : Bool). if b then Some (bytes_in (length row) words) else None) starts ∙ ap Some same

abbrev IsFirst : List ℕ → List ℕ → Type 0
IsFirst words row = AreBytes row × (words ≡ row_words row ++ drop (length (row_words row)) words)

tested_first : (n : ℕ) (words row : List ℕ) (b : Bool) → Starts n words ≡ b → (if b then Some (bytes_in n words) else None) ≡ Some row → IsFirst (n ∷ words) row
tested_first n words row true is e =
    let same : bytes_in n words ≡ row = ap (λ (o : Option (List ℕ)). unwrap_or o []) e in
    subst (λ (r : List ℕ). AreBytes r × (n ∷ words ≡ row_words r ++ drop (length (row_words r)) (n ∷ words))) same
    (bytes-bytes_in n words, (tested n words).0 is)
tested_first n words row false is e = absurd (none-some row e)

first_is : (words row : List ℕ) → first_row words ≡ Some row → IsFirst words row
first_is [] row e = absurd (none-some row (sym first_row-nil ∙ e))
first_is (n ∷ words) row e = tested_first n words row (Starts n words) refl (sym (first_row-cons n words) ∙ e)

none_first : (words row back : List ℕ) → first_row words ≡ None → AreBytes row → words ≢ row_words row ++ back
none_first words row back none all e = none-some row (sym none ∙ (ap first_row e ∙ first_row-words row back all))

-- all rows

same_others : (n m : ℕ) (words : List ℕ) → ((rest : List ℕ) → length rest ≤ length words - 1 → first_rows n rest ≡ first_rows m rest)
    → (o : Option (List ℕ)) → before_others (first_rows n) words o ≡ before_others (first_rows m) words o
same_others n m words same None = refl
same_others n m words same (Some row) =
    let left : length (drop (length (row_words row)) words) ≡ length words - length (row_words row) = length-drop (length (row_words row)) words in
    ap (λ rows. row ∷ rows) (same (drop (length (row_words row)) words) (omega arith))

no_rows : (n : ℕ) → first_rows n [] ≡ []
no_rows zero = refl
no_rows (suc n) = ap (before_others (first_rows n) []) first_row-nil

enough : (n m : ℕ) (words : List ℕ) → length words ≤ n → length words ≤ m → first_rows n words ≡ first_rows m words
enough zero m words le more = let none : words ≡ [] = nil_from_length words (omega arith) in ap (first_rows zero) none ∙ (sym (no_rows m) ∙ ap (first_rows m) (sym none))
enough (suc n) zero words le more = let none : words ≡ [] = nil_from_length words (omega arith) in ap (first_rows (suc n)) none ∙ no_rows (suc n)
enough (suc n) (suc m) words le more = same_others n m words (λ rest few. enough n m rest (omega arith) (omega arith)) (first_row words)

spelled-is : (words : List ℕ) → spelled words ≡ before_others spelled words (first_row words)
unfolding spelled
spelled-is words = enough (length words) (suc (length words)) words (omega arith) (omega arith) ∙ turned (first_row words)
  where
    turned : (o : Option (List ℕ)) → before_others (first_rows (length words)) words o ≡ before_others spelled words o
    turned None = refl
    turned (Some row) =
        let rest : List ℕ = drop (length (row_words row)) words in
        let left : length rest ≡ length words - length (row_words row) = length-drop (length (row_words row)) words in
        ap (λ rows. row ∷ rows) (enough (length words) (length rest) rest (omega arith) (omega arith))

spelled-none : (words : List ℕ) → first_row words ≡ None → spelled words ≡ []
spelled-none words none = spelled-is words ∙ ap (before_others spelled words) none

spelled-row : (row back : List ℕ) → AreBytes row → spelled (row_words row ++ back) ≡ row ∷ spelled back
spelled-row row back all =
    spelled-is (row_words row ++ back) ∙ ap (before_others spelled (row_words row ++ back)) (first_row-words row back all)
    ∙ ap (λ l. row ∷ spelled l) (drop-append_seam (row_words row) back)

pub read : (rows : List (List ℕ)) (rest : List ℕ) → All AreBytes rows → spelled (flat_map row_words rows ++ rest) ≡ rows ++ spelled rest
read [] rest all = refl
read (row ∷ rows) rest all =
    ap spelled (append_assoc (row_words row) (flat_map row_words rows) rest)
    ∙ spelled-row row (flat_map row_words rows ++ rest) (all 0 [] (omega arith))
    ∙ ap (λ l. row ∷ l) (read rows rest (λ k d h. all (suc k) d (omega arith)))

found_before : (n : ℕ) (words : List ℕ) → length words ≤ suc n → ((rest : List ℕ) → length rest ≤ n → AreSpelled rest (first_rows n rest))
    → (o : Option (List ℕ)) → first_row words ≡ o → AreSpelled words (before_others (first_rows n) words o)
found_before n words le behind None none = record { rest = words; of_bytes = All-nil AreBytes; one_by_one = refl; no_more = λ row back all. none_first words row back none all }
found_before n words le behind (Some row) is =
    let rest : List ℕ = drop (length (row_words row)) words in
    let left : length rest ≡ length words - length (row_words row) = length-drop (length (row_words row)) words in
    let others = behind rest (omega arith) in
    let first = first_is words row is in record {
      rest = others.rest;
      of_bytes = All-cons AreBytes row (first_rows n rest) first.0 others.of_bytes;
      one_by_one = first.1 ∙ ap (λ l. row_words row ++ l) others.one_by_one ∙ sym (append_assoc (row_words row) (flat_map row_words (first_rows n rest)) others.rest);
      no_more = others.no_more;
    }

found_in : (n : ℕ) (words : List ℕ) → length words ≤ n → AreSpelled words (first_rows n words)
found_in zero words le =
    let none : words ≡ [] = nil_from_length words (omega arith) in
    record { rest = words; of_bytes = All-nil AreBytes; one_by_one = refl; no_more = λ row back all. none_first words row back (ap first_row none ∙ first_row-nil) all }
found_in (suc n) words le = found_before n words le (found_in n) (first_row words) refl

pub found : (words : List ℕ) → AreSpelled words (spelled words)
unfolding spelled
found words = found_in (length words) words (omega arith)

nothing : (rest : List ℕ) → ((row back : List ℕ) → AreBytes row → rest ≢ row_words row ++ back) → (o : Option (List ℕ)) → first_row rest ≡ o → spelled rest ≡ []
nothing rest ends None is = spelled-none rest is
nothing rest ends (Some row) is = let first = first_is rest row is in absurd (ends row (drop (length (row_words row)) rest) first.0 first.1)

pub once : (words : List ℕ) (rows : List (List ℕ)) → AreSpelled words rows → rows ≡ spelled words
once words rows s =
    sym (ap spelled s.one_by_one ∙ read rows s.rest s.of_bytes ∙ ap (λ l. rows ++ l) (nothing s.rest s.no_more (first_row s.rest) refl) ∙ append-nil rows)

pub first_spelled : (all words : List ℕ) → BeginsWith all words → BeginsWith (spelled all) (spelled words)
first_spelled all words front =
    let s = found words in
    let rows : List (List ℕ) = spelled words in
    let back : List ℕ = drop (length words) all in
    let whole : all ≡ flat_map row_words rows ++ (s.rest ++ back) =
    sym (take-append-drop (length words) all) ∙ ap (λ l. l ++ back) (sym front ∙ s.one_by_one) ∙ append_assoc (flat_map row_words rows) s.rest back in
    let same : spelled all ≡ rows ++ spelled (s.rest ++ back) = ap spelled whole ∙ read rows (s.rest ++ back) s.of_bytes in
    sym (ap (take (length rows)) same ∙ take-append_seam rows (spelled (s.rest ++ back)))
