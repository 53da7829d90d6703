-- Words and the bytes that they hold.
use Rattle.std.proofs.Common.{◌≡◌, ◌≢◌, ℕ, suc, ◌+◌, ◌-◌, ◌*◌, ◌/◌, ◌≤◌, ◌<◌, Bool, true, false, nat_eq, List, [], ◌∷◌, ◌++◌, length, take, drop, sym, refl, ap, ◌∙◌, subst, arith, length-append, get_or}
use Rattle.std.specs.List.{flat_map, starts_with}
use Rattle.std.proofs.lemmas.Slice.Eq.{starts_is}
use Rattle.std.proofs.lemmas.Bool.Decides.{Decides-eqb}
use Rattle.std.proofs.lemmas.List.{take-append-le, take-append-drop, length-take-le, take_all, length-drop}
use Rattle.std.proofs.lemmas.List.Concat.{flat_map-append}
use Rattle.myi_base.specs.Numbers.{low_num_bytes}
use Rattle.myi_base.proofs.CallerLemmas.{length-low_num_bytes}
use Rattle.std.proofs.Math.Seq.{take-append-add, drop-append_seam}
use Rattle.myi_tail.specs.Rows.{row_words, bytes_words}
use Rattle.myi_tail.specs.Spelled.{bytes_in}
use Rattle.myi_tail.proofs.CallerLemmas.{row_back, length-words_of}
use Rattle.myi_spelling.specs.Pieces.{NoneStands}

-- what the test says
pub test_is : (words front : List ℕ) → (starts_with nat_eq words front ≡ true → words ≡ front ++ drop (length front) words)
    × ((rest : List ℕ) → words ≡ front ++ rest → starts_with nat_eq words front ≡ true)
test_is words front = starts_is Decides-eqb words front (starts_with nat_eq words front) refl

false_of : (b : Bool) → b ≢ true → b ≡ false
false_of true never = absurd (never refl)
false_of false never = refl

pub not_begun : (words front : List ℕ) → ((rest : List ℕ) → words ≢ front ++ rest) → starts_with nat_eq words front ≡ false
not_begun words front never = false_of (starts_with nat_eq words front) (λ is. never (drop (length front) words) ((test_is words front).0 is))

-- one word on
pub begins_on : (w : ℕ) (words front : List ℕ) → starts_with nat_eq (w ∷ words) (w ∷ front) ≡ starts_with nat_eq words front
begins_on w words front = same (starts_with nat_eq (w ∷ words) (w ∷ front)) (starts_with nat_eq words front)
    (λ is. (test_is words front).1 (drop (length front) words) (ap (drop 1) ((test_is (w ∷ words) (w ∷ front)).0 is)))
    (λ is. (test_is (w ∷ words) (w ∷ front)).1 (drop (length front) words) (ap (λ l. w ∷ l) ((test_is words front).0 is)))
  where
    same : (a b : Bool) → (a ≡ true → b ≡ true) → (b ≡ true → a ≡ true) → a ≡ b
    same true b to back = sym (to refl)
    same false true to back = back refl
    same false false to back = refl

pub length-words_bytes : (words : List ℕ) → length (flat_map (low_num_bytes 8) words) ≡ 8 * length words
length-words_bytes [] = refl
length-words_bytes (w ∷ words) = omega (arith, length-append (low_num_bytes 8 w) (flat_map (low_num_bytes 8) words), length-low_num_bytes 8 w, length-words_bytes words)

-- so many words hold so many bytes
pub bytes_in_front : (n count : ℕ) (words : List ℕ) → n ≤ 8 * count → count ≤ length words
    → take n (flat_map (low_num_bytes 8) (take count words)) ≡ bytes_in n words
bytes_in_front n count words le fits =
    let front : List ℕ = flat_map (low_num_bytes 8) (take count words) in
    let long = length-words_bytes (take count words) in
    let size = length-take-le count words fits in
    sym (ap (take n) (ap (flat_map (low_num_bytes 8)) (sym (take-append-drop count words)) ∙ flat_map-append (low_num_bytes 8) (take count words) (drop count words))
    ∙ take-append-le n front (flat_map (low_num_bytes 8) (drop count words)) (omega arith))

pub length-bytes_in : (n : ℕ) (words : List ℕ) → n ≤ 8 * length words → length (bytes_in n words) ≡ n
length-bytes_in n words le = let long = length-words_bytes words in length-take-le n (flat_map (low_num_bytes 8) words) (omega arith)

-- so many bytes of them, behind others
pub appended : (old : List ℕ) (n count : ℕ) (words : List ℕ) → n ≤ 8 * count → count ≤ length words
    → take (length old + n) (old ++ flat_map (low_num_bytes 8) (take count words)) ≡ old ++ bytes_in n words
appended old n count words le fits =
    take-append-add old (flat_map (low_num_bytes 8) (take count words)) n ∙ ap (λ l. old ++ l) (bytes_in_front n count words le fits)

-- the row in front

pub none_in_none : NoneStands []
none_in_none row back all e = cc e

pub none_short : (n : ℕ) (rest : List ℕ) → length rest < (n + 7) / 8 → NoneStands (n ∷ rest)
none_short n rest short row back all e =
    let head : n ≡ length row = ap (λ (l : List ℕ). get_or l 0 0) e in
    let tail : rest ≡ bytes_words row ++ back = ap (drop 1) e in
    let size = ap length tail in
    absurd (omega (arith, length-append (bytes_words row) back, length-words_of ((length row + 7) / 8) row))

pub none_other : (n : ℕ) (rest : List ℕ) → starts_with nat_eq rest (bytes_words (bytes_in n rest)) ≡ false → NoneStands (n ∷ rest)
none_other n rest is row back all e =
    let head : n ≡ length row = ap (λ (l : List ℕ). get_or l 0 0) e in
    let tail : rest ≡ bytes_words row ++ back = ap (drop 1) e in
    let same : bytes_in n rest ≡ row = (λ i. bytes_in (head i) (tail i)) ∙ row_back row back all in
    let test : starts_with nat_eq rest (bytes_words (bytes_in n rest)) ≡ true = (test_is rest (bytes_words (bytes_in n rest))).1 back (tail ∙ ap (λ r. bytes_words r ++ back) (sym same)) in
    absurd (cc (sym is ∙ test))

pub row_stands : (n count : ℕ) (rest : List ℕ) → count ≡ (n + 7) / 8 → count ≤ length rest → starts_with nat_eq rest (bytes_words (bytes_in n rest)) ≡ true
    → (n ∷ rest ≡ row_words (bytes_in n rest) ++ drop (count + 1) (n ∷ rest)) × (count + 1 ≡ length (row_words (bytes_in n rest)))
row_stands n count rest counted fits is =
    let row : List ℕ = bytes_in n rest in
    let size : length row ≡ n = length-bytes_in n rest (omega arith) in
    let words : length (bytes_words row) ≡ (length row + 7) / 8 = length-words_of ((length row + 7) / 8) row in
    let long : length (row_words row) ≡ suc count = ap suc (words ∙ (ap (λ k. (k + 7) / 8) size ∙ sym counted)) in
    let tail : rest ≡ bytes_words row ++ drop (length (bytes_words row)) rest = (test_is rest (bytes_words row)).0 is in
    let whole : n ∷ rest ≡ row_words row ++ drop (length (row_words row)) (n ∷ rest) = λ i. sym size i ∷ tail i in
    let next : count + 1 ≡ suc count = omega arith in
    (whole ∙ ap (λ k. row_words row ++ drop k (n ∷ rest)) (long ∙ sym next), next ∙ sym long)

-- what is left of a list behind a place is what follows an old front
pub behind_old : (all old row : List ℕ) (at : ℕ) → all ≡ old ++ row → at ≡ length old → take (length all - at) (drop at all) ≡ row
behind_old all old row at parts here =
    let rest : drop at all ≡ row = (λ i. drop (here i) (parts i)) ∙ drop-append_seam old row in
    let size = ap length rest in
    let long : length (drop at all) ≡ length all - at = length-drop at all in
    ap (take (length all - at)) rest ∙ take_all (length all - at) row (omega arith)

pub same_row : (words : List ℕ) (n : ℕ) (rest : List ℕ) → words ≡ n ∷ rest → NoneStands (n ∷ rest) → NoneStands words
same_row words n rest e never = subst NoneStands (sym e) never
