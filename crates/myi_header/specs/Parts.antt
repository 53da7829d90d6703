-- A part of a list of bytes.
use Rattle.std.specs.Prelude.{ℕ, List, take, drop}

-- so many bytes at a place
abbrev pub part : ℕ → ℕ → List ℕ → List ℕ
part at n x = take n (drop at x)
