-- A piece of a file that is copied to the same place of another.
use Rattle.std.specs.Prelude.{◌≡◌, ℕ, List, length, take, drop}
use Rattle.myi_base.specs.Holding.{Holding, Sets, bytes_of, overwritten}

-- so many bytes from a place on were written to the other file, all that stand there of as many as a piece holds
pub record CopiesPiece (from to : List ℕ) (at most count : ℕ) (m n : Holding) : Type 0 where
  pub sets : Sets to (overwritten at (take most (drop at (bytes_of from m))) (bytes_of to m)) m n
  pub many : count ≡ length (take most (drop at (bytes_of from m)))
