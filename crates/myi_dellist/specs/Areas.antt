-- Areas of a file, by place and size, and how many bytes of a file belong to some of them.
use Rattle.std.specs.Prelude.{◌≡◌, ℕ, ◌+◌, ◌-◌, ◌≤◌, ◌<◌, ◌⊎◌, min, List, [], ◌∷◌}
use Rattle.std.specs.List.{AllByRecursion}

pub record Area : Type 0 where
  pub at : ℕ
  pub size : ℕ

-- how many bytes of an area stand below a place
abbrev pub below : ℕ → Area → ℕ
below p a = min (a.at + a.size) p - min a.at p

-- how many bytes of these areas stand below a place; a byte that belongs to two of them counts twice
abbrev pub bytes_below : ℕ → List Area → ℕ
bytes_below p [] = 0
bytes_below p (a ∷ areas) = below p a + bytes_below p areas

-- Each byte below the end belongs to exactly one of the areas, and no other byte to any: below each place they have as many
-- bytes as stand there. (That this counting says so is the law `tiling_is_counting`.)
abbrev pub Tile : ℕ → List Area → Type 0
Tile end areas = (p : ℕ) → bytes_below p areas ≡ min end p

-- no byte belongs to both
abbrev pub IsApart : Area → Area → Type 0
IsApart a b = (a.at + a.size ≤ b.at) ⊎ (b.at + b.size ≤ a.at)

-- no byte belongs to two of them
abbrev pub AreApart : List Area → Type 0
AreApart [] = Unit {0}
AreApart (a ∷ areas) = AllByRecursion (IsApart a) areas × AreApart areas

-- they end at or below a place
abbrev pub AreInside : ℕ → List Area → Type 0
AreInside end areas = AllByRecursion (λ a. a.at + a.size ≤ end) areas

-- the byte at a place belongs to one of them
abbrev pub Holds : ℕ → List Area → Type 0
Holds p [] = ⊥
Holds p (a ∷ areas) = ((a.at ≤ p) × (p < a.at + a.size)) ⊎ Holds p areas

-- each has a byte
abbrev pub HaveBytes : List Area → Type 0
HaveBytes areas = AllByRecursion (λ a. 0 < a.size) areas
