-- Rows one after the other in one list of bytes.
use Rattle.std.proofs.Common.{◌≡◌, ℕ, zero, suc, ◌+◌, ◌-◌, ◌*◌, ◌≤◌, ◌<◌, List, [], ◌∷◌, ◌++◌, length, take, drop, All, sym, refl, ap, ◌∙◌, subst, arith, length-append, append_assoc}
use Rattle.std.proofs.lemmas.List.{take-append-le, drop-append-le, length-drop, length-take, length-take-le, append-nil, take_all, take-append-drop}
use Rattle.std.proofs.lemmas.List.Elements.{All-cons, All-nil}
use Rattle.std.proofs.Math.Seq.{drop-append_seam, take-append_seam, take-length}
use Rattle.std.proofs.lemmas.List.Concat.{flat_map-append}
use Rattle.std.specs.Prelude.{slice_index, slice_index_or}
use Rattle.myi_base.specs.Numbers.{AreBytes}
use Rattle.myi_base.proofs.CallerLemmas.{bytes-take, bytes-drop}
use Rattle.myi_tail.specs.Prefix.{BeginsWith}
use Rattle.myi_tail.specs.Rows.{row_words}
use Rattle.myi_tail.specs.Spelled.{spelled}
use Rattle.myi_tail.proofs.CallerLemmas.{once}
use Rattle.myi_spelling.specs.Pieces.{pieces, AreEnds, begin_of, words_for, IsAppended, NoneStands}
use Rattle.myi_spelling.proofs.RowLaws.{words_of_row}

-- how long they are

pub at_most : (from : ℕ) (bytes ends : List ℕ) → AreEnds from bytes ends → from ≤ length bytes
at_most from bytes [] a = omega arith
at_most from bytes (e ∷ ends) a = let rest = at_most e bytes ends a.1 in let first = a.0 in omega arith

pub length-pieces : (from : ℕ) (bytes ends : List ℕ) → length (pieces from bytes ends) ≡ length ends
length-pieces from bytes [] = refl
length-pieces from bytes (e ∷ ends) = ap suc (length-pieces e bytes ends)

length-piece : (from e : ℕ) (bytes : List ℕ) → from ≤ e → e ≤ length bytes → length (take (e - from) (drop from bytes)) ≡ e - from
length-piece from e bytes le fits = length-take-le (e - from) (drop from bytes) (omega (arith, length-drop from bytes))

-- the bytes take their words, and there are no more rows than words
pub sizes : (from : ℕ) (bytes ends : List ℕ) → AreEnds from bytes ends
    → (length bytes + 8 * length ends ≤ from + 8 * length (words_for (pieces from bytes ends))) × (length ends ≤ length (words_for (pieces from bytes ends)))
sizes from bytes [] a = (omega arith, omega arith)
sizes from bytes (e ∷ ends) a =
    let rest = sizes e bytes ends a.1 in
    let one = rest.0 in
    let two = rest.1 in
    let first = a.0 in
    let piece : List ℕ = take (e - from) (drop from bytes) in
    let long = length-piece from e bytes a.0 (at_most e bytes ends a.1) in
    let words = words_of_row piece in
    let all = length-append (row_words piece) (words_for (pieces e bytes ends)) in
    (omega arith, omega arith)

-- one more

same_piece : (from e : ℕ) (bytes more : List ℕ) → from ≤ e → e ≤ length bytes → take (e - from) (drop from (bytes ++ more)) ≡ take (e - from) (drop from bytes)
same_piece from e bytes more le fits =
    ap (take (e - from)) (drop-append-le from bytes more (omega arith))
    ∙ take-append-le (e - from) (drop from bytes) more (omega (arith, length-drop from bytes))

pub one_more : (from : ℕ) (bytes row ends : List ℕ) → AreEnds from bytes ends
    → pieces from (bytes ++ row) (ends ++ (length bytes + length row) ∷ []) ≡ pieces from bytes ends ++ row ∷ []
one_more from bytes row [] a =
    let size : length bytes + length row - from ≡ length row = let at : from ≡ length bytes = a in omega arith in
    ap (λ (l : List ℕ). l ∷ []) (
    ap (λ n. take n (drop from (bytes ++ row))) size
    ∙ ap (λ n. take (length row) (drop n (bytes ++ row))) a
    ∙ ap (take (length row)) (drop-append_seam bytes row)
    ∙ take-length row
    )
one_more from bytes row (e ∷ ends) a =
    let one = same_piece from e bytes row a.0 (at_most e bytes ends a.1) in
    let rest = one_more e bytes row ends a.1 in
    (λ i. one i ∷ rest i)

pub ends_more : (from : ℕ) (bytes row ends : List ℕ) → AreEnds from bytes ends → AreEnds from (bytes ++ row) (ends ++ (length bytes + length row) ∷ [])
ends_more from bytes row [] a =
    let at : from ≡ length bytes = a in
    let size = length-append bytes row in
    (omega arith, sym size)
ends_more from bytes row (e ∷ ends) a = (a.0, ends_more e bytes row ends a.1)

-- the words of one row more
pub words_more : (rows : List (List ℕ)) (row : List ℕ) → words_for (rows ++ row ∷ []) ≡ words_for rows ++ row_words row
words_more rows row = flat_map-append row_words rows (row ∷ []) ∙ ap (λ l. words_for rows ++ l) (append-nil (row_words row))

-- each of them is bytes
pub bytes_in_pieces : (from : ℕ) (bytes ends : List ℕ) → AreBytes bytes → All AreBytes (pieces from bytes ends)
bytes_in_pieces from bytes [] all = All-nil AreBytes
bytes_in_pieces from bytes (e ∷ ends) all =
    All-cons AreBytes (take (e - from) (drop from bytes)) (pieces e bytes ends) (bytes-take (e - from) (drop from bytes) (bytes-drop from bytes all)) (bytes_in_pieces e bytes ends all)

-- one by its number

pub piece_at : (from : ℕ) (bytes ends : List ℕ) (i : ℕ) → AreEnds from bytes ends → i < length ends
    → (slice_index_or (pieces from bytes ends) i [] ≡ take (slice_index ends i - begin_of from ends i) (drop (begin_of from ends i) bytes))
    × (begin_of from ends i ≤ slice_index ends i) × (slice_index ends i ≤ length bytes)
piece_at from bytes [] i a lt = absurd (omega arith)
piece_at from bytes (e ∷ ends) zero a lt = (refl, a.0, at_most e bytes ends a.1)
piece_at from bytes (e ∷ ends) (suc zero) a lt = piece_at e bytes ends 0 a.1 (omega arith)
piece_at from bytes (e ∷ ends) (suc (suc i)) a lt = piece_at e bytes ends (suc i) a.1 (omega arith)

-- the words behind some rows

pub left_is : (at : ℕ) (words : List ℕ) → take (length words - at) (drop at words) ≡ drop at words
left_is at words = take_all (length words - at) (drop at words) (omega (arith, length-drop at words))

pub front_fits : (words front : List ℕ) → BeginsWith words front → length front ≤ length words
front_fits words front e = let size = ap length e in omega (arith, length-take (length front) words)

row_behind : (words front row : List ℕ) (count : ℕ) → BeginsWith words front → drop (length front) words ≡ row ++ drop count (drop (length front) words) → BeginsWith words (front ++ row)
row_behind words front row count begins next =
    let rest : List ℕ = drop count (drop (length front) words) in
    let whole : words ≡ (front ++ row) ++ rest =
    sym (take-append-drop (length front) words) ∙ ap (λ l. l ++ drop (length front) words) (sym begins) ∙ ap (λ l. front ++ l) next ∙ sym (append_assoc front row rest) in
    sym (ap (take (length (front ++ row))) whole ∙ take-append_seam (front ++ row) rest)

-- one row more was read
pub record Grown (words bytes ends newer later : List ℕ) (row : List ℕ) (place : ℕ) : Type 0 where
  pub ends_so : AreEnds 0 newer later
  pub place_so : place ≡ length (words_for (pieces 0 newer later))
  pub rows : pieces 0 newer later ≡ pieces 0 bytes ends ++ row ∷ []
  pub more : BeginsWith words (words_for (pieces 0 newer later))
  pub fits : place ≤ length words

pub grown : (words bytes ends newer later : List ℕ) (place count last : ℕ)
    → AreEnds 0 bytes ends → place ≡ length (words_for (pieces 0 bytes ends)) → BeginsWith words (words_for (pieces 0 bytes ends))
    → (a : IsAppended (take (length words - place) (drop place words)) count bytes newer) → later ≡ ends ++ last ∷ [] → last ≡ length newer
    → Grown words bytes ends newer later a.row (place + count)
grown words bytes ends newer later place count last so at begins a pushed end_at =
    let front : List ℕ = words_for (pieces 0 bytes ends) in
    let row : List ℕ = a.row in
    let lasts : last ≡ length bytes + length row = end_at ∙ (ap length a.bytes ∙ length-append bytes row) in
    let laters : later ≡ ends ++ (length bytes + length row) ∷ [] = pushed ∙ ap (λ n. ends ++ n ∷ []) lasts in
    let rows : pieces 0 newer later ≡ pieces 0 bytes ends ++ row ∷ [] = (λ i. pieces 0 (a.bytes i) (laters i)) ∙ one_more 0 bytes row ends so in
    let words_now : words_for (pieces 0 newer later) ≡ front ++ row_words row = ap words_for rows ∙ words_more (pieces 0 bytes ends) row in
    let left : drop (length front) words ≡ row_words row ++ drop count (drop (length front) words) =
    ap (λ n. drop n words) (sym at) ∙ sym (left_is place words) ∙ a.stands
    ∙ ap (λ l. row_words row ++ drop count l) (left_is place words ∙ ap (λ n. drop n words) at) in
    let more : BeginsWith words (front ++ row_words row) = row_behind words front (row_words row) count begins left in
    let size : length (words_for (pieces 0 newer later)) ≡ length front + length (row_words row) = ap length words_now ∙ length-append front (row_words row) in
    let counted : count ≡ length (row_words row) = a.counted in
    let all : BeginsWith words (words_for (pieces 0 newer later)) = subst (λ (l : List ℕ). BeginsWith words l) (sym words_now) more in
    let bound : length (words_for (pieces 0 newer later)) ≤ length words = front_fits words (words_for (pieces 0 newer later)) all in record {
      ends_so = subst (λ (l : List ℕ). AreEnds 0 l later) (sym a.bytes) (subst (λ (l : List ℕ). AreEnds 0 (bytes ++ row) l) (sym laters) (ends_more 0 bytes row ends so));
      place_so = omega arith;
      rows = rows;
      more = all;
      fits = omega arith;
    }

pub counted_row : (at : ℕ) (words : List ℕ) (count : ℕ) (bytes newer : List ℕ) → IsAppended (take (length words - at) (drop at words)) count bytes newer
    → (at + count ≤ length words) × (0 < count)
counted_row at words count bytes newer a =
    let size : length (drop at words) ≡ length words - at = length-drop at words in
    let left = ap length (sym (left_is at words) ∙ a.stands) in
    let counted = a.counted in
    let words_so = words_of_row a.row in
    let all = length-append (row_words a.row) (drop count (take (length words - at) (drop at words))) in
    (omega arith, omega arith)

-- where no row stands behind those that were read, they are all
pub all_read : (words : List ℕ) (rows : List (List ℕ)) → All AreBytes rows → BeginsWith words (words_for rows) → NoneStands (drop (length (words_for rows)) words) → rows ≡ spelled words
all_read words rows all front stop = once words rows record {
  rest = drop (length (words_for rows)) words;
  of_bytes = all;
  one_by_one = sym (take-append-drop (length (words_for rows)) words) ∙ ap (λ l. l ++ drop (length (words_for rows)) words) (sym front);
  no_more = stop;
}
