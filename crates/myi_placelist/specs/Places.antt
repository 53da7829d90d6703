-- Places of a file.
use Rattle.std.specs.Prelude.{◌<◌, ◌≤◌, ℕ, List, [], ◌∷◌, length, slice_index}
use Rattle.std.specs.List.{AllByRecursion}

-- each place is below all behind it
abbrev pub IsRising : List ℕ → Type 0
IsRising [] = Unit {0}
IsRising (p ∷ ps) = AllByRecursion (λ q. p < q) ps × IsRising ps

-- so many places, the first ones, are below this one, and the others are not
pub record IsCountBelow (place : ℕ) (places : List ℕ) (count : ℕ) : Type 0 where
  pub below : (k : ℕ) → k < count → slice_index places k < place
  pub above : (k : ℕ) → count ≤ k → k < length places → place ≤ slice_index places k
