-- Rows one after the other in one list of bytes, by the places where they end.
use Rattle.std.specs.Prelude.{◌≡◌, ◌≢◌, ◌*◌, ◌-◌, ◌≤◌, ℕ, zero, suc, List, [], ◌∷◌, ◌++◌, length, take, drop, slice_index}
use Rattle.std.specs.Vec.{vec_capacity}
use Rattle.std.specs.List.{flat_map}
use Rattle.myi_base.specs.Numbers.{AreBytes}
use Rattle.myi_tail.specs.Prefix.{BeginsWith}
use Rattle.myi_tail.specs.Rows.{row_words}
use Rattle.myi_spelling.specs.declared.rows.SpelledRows.TheInside as spelled_rows

-- rows that were read, and for how many words there is memory
pub record Reading : Type 0 where
  pub rows : List (List ℕ)
  pub room : ℕ

-- the pieces of a list from a place on, each of which ends at the next of these places
abbrev pub pieces : ℕ → List ℕ → List ℕ → List (List ℕ)
pieces from bytes [] = []
pieces from bytes (end ∷ ends) = take (end - from) (drop from bytes) ∷ pieces end bytes ends

-- the places rise from one on, and the last is the end of the list
abbrev pub AreEnds : ℕ → List ℕ → List ℕ → Type 0
AreEnds from bytes [] = from ≡ length bytes
AreEnds from bytes (end ∷ ends) = (from ≤ end) × AreEnds end bytes ends

-- where the piece of a number begins
abbrev pub begin_of : ℕ → List ℕ → ℕ → ℕ
begin_of from ends zero = from
begin_of from ends (suc i) = slice_index ends i

-- the words of some rows
abbrev pub words_for : List (List ℕ) → List ℕ
words_for rows = flat_map row_words rows

-- So many words were read as the rows take, and there is memory for the rows of all words that there may be.
pub record IsReading (s : spelled_rows.Inside) : Type 0 where
  pub bytes : AreBytes s.bytes.items
  pub ends : AreEnds 0 s.bytes.items s.ends.items
  pub place : s.place ≡ length (words_for (pieces 0 s.bytes.items s.ends.items))
  pub fits : s.place ≤ s.room
  pub bytes_memory : 8 * s.room ≤ vec_capacity s.bytes
  pub ends_memory : s.room ≤ vec_capacity s.ends

-- no row stands in front of the words
abbrev pub NoneStands : List ℕ → Type 0
NoneStands words = (row back : List ℕ) → AreBytes row → words ≢ row_words row ++ back

-- the row that stands in front of the words, which takes so many of them, is behind the bytes
pub record IsAppended (words : List ℕ) (count : ℕ) (old new : List ℕ) : Type 0 where
  pub row : List ℕ
  pub of_bytes : AreBytes row
  pub stands : words ≡ row_words row ++ drop count words
  pub counted : count ≡ length (row_words row)
  pub bytes : new ≡ old ++ row

-- the row that stands in the words behind those that were read was read
pub record AddsFirst (words : List ℕ) (old new : Reading) : Type 0 where
  pub row : List ℕ
  pub of_bytes : AreBytes row
  pub added : new ≡ record old { rows = old.rows ++ row ∷ [] }
  pub more : BeginsWith words (words_for new.rows)

-- no row stands there
pub record EndsAt (words : List ℕ) (old new : Reading) : Type 0 where
  pub same : new ≡ old
  pub none : NoneStands (drop (length (words_for old.rows)) words)
