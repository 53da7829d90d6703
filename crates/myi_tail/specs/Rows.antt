-- A row in words of eight bytes (this project's own form: MyISAM has no such words).
use Rattle.std.specs.Prelude.{ℕ, zero, suc, ◌+◌, ◌/◌, List, [], ◌∷◌, length, take, drop}
use Rattle.myi_base.specs.Numbers.{low_num}

-- at most eight bytes as a number, low byte first
abbrev pub word_of : List ℕ → ℕ
word_of bytes = low_num (length bytes) bytes

-- the words of the first n times eight bytes, the last of which may be fewer
abbrev pub words_of : ℕ → List ℕ → List ℕ
words_of zero bytes = []
words_of (suc n) bytes = word_of (take 8 bytes) ∷ words_of n (drop 8 bytes)

-- all bytes in words, one for each eight bytes begun
abbrev pub bytes_words : List ℕ → List ℕ
bytes_words bytes = words_of ((length bytes + 7) / 8) bytes

-- a row: a word for its length in bytes, and the words of its bytes
abbrev pub row_words : List ℕ → List ℕ
row_words row = length row ∷ bytes_words row
