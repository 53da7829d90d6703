-- The rows that words spell one after the other, up to the first place where no whole row stands. Which
-- rows a table takes is not asked here.
use Rattle.std.specs.Prelude.{◌≡◌, ◌≢◌, ℕ, zero, suc, List, [], ◌∷◌, ◌++◌, length, take, drop, Option, Some, None, All, nat_eq, if◌then◌else◌}
use Rattle.std.specs.List.{flat_map, starts_with}
use Rattle.myi_base.specs.Numbers.{low_num_bytes, AreBytes}
use Rattle.myi_tail.specs.Rows.{row_words}

-- the words begin with these rows, each of bytes, and behind them no whole row stands
pub record AreSpelled (words : List ℕ) (rows : List (List ℕ)) : Type 0 where
  pub rest : List ℕ
  pub of_bytes : All AreBytes rows
  pub one_by_one : words ≡ flat_map row_words rows ++ rest
  pub no_more : (row back : List ℕ) → AreBytes row → rest ≢ row_words row ++ back

-- the first n bytes that are in the words
abbrev pub bytes_in : ℕ → List ℕ → List ℕ
bytes_in n words = take n (flat_map (low_num_bytes 8) words)

-- the row that stands in front: the one whose words these are when it is written again
unfoldable pub first_row : List ℕ → Option (List ℕ)
first_row [] = None
first_row (n ∷ words) = if starts_with nat_eq (n ∷ words) (row_words (bytes_in n words)) then Some (bytes_in n words) else None

-- a row in front of those behind it
abbrev pub before_others : (List ℕ → List (List ℕ)) → List ℕ → Option (List ℕ) → List (List ℕ)
before_others others words None = []
before_others others words (Some row) = row ∷ others (drop (length (row_words row)) words)

-- at most n rows
abbrev pub first_rows : ℕ → List ℕ → List (List ℕ)
first_rows zero words = []
first_rows (suc n) words = before_others (first_rows n) words (first_row words)

-- all rows; each has a word at least
unfoldable pub spelled : List ℕ → List (List ℕ)
spelled words = first_rows (length words) words
