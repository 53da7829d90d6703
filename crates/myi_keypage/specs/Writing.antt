-- What a writer leaves in a slice.
use Rattle.std.specs.Prelude.{◌≡◌, ℕ, ◌+◌, ◌-◌, List, [], ◌∷◌, ◌++◌, length, take, replicate}
use Rattle.myi_keypage.specs.declared.entry.Entry.{Entry}

-- the text stands at a place of the new bytes, behind what stood before it, and ends at the end
pub record Puts (old : List ℕ) (at : ℕ) (new : List ℕ) (end : ℕ) (text : List ℕ) : Type 0 where
  pub ends : end ≡ at + length text
  pub front : take end new ≡ take at old ++ text

-- children that come after the entries: none, or one for each
abbrev pub IsMatching : List Entry → List ℕ → Type 0
IsMatching es [] = Unit {0}
IsMatching es (c ∷ cs) = length (c ∷ cs) ≡ length es

-- the text, with zeros behind it up to a length
abbrev pub filled_up : List ℕ → ℕ → List ℕ
filled_up text len = text ++ replicate (len - length text) 0
