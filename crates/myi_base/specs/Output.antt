-- What an output was given, and what one write adds to it.
use Rattle.std.specs.Prelude.{◌≡◌, ◌≤◌, ℕ, List, ◌++◌, length, take, Option, Some}

-- all of a piece was appended
abbrev pub Appends : List ℕ → Option (List ℕ) → List ℕ → Type 0
Appends piece new old = new ≡ Some (old ++ piece)

-- a prefix of a piece was appended
abbrev pub AppendsPart : List ℕ → Option (List ℕ) → List ℕ → Type 0
AppendsPart piece new old = (k : ℕ) × (k ≤ length piece) × (new ≡ Some (old ++ take k piece))
