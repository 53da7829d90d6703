-- The rows of a table that words spell. Which bytes are a row of the table is a test.
use Rattle.std.specs.Prelude.{ℕ, Bool, List}
use Rattle.std.specs.List.{take_while}
use Rattle.myi_tail.specs.Spelled.{spelled}

-- the rows that the words spell one after the other, up to the first place where no whole row of the table stands
abbrev pub spelled_rows : (List ℕ → Bool) → List ℕ → List (List ℕ)
spelled_rows is_row words = take_while is_row (spelled words)
