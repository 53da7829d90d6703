-- Numbers of given widths that stand one after the other, high byte first: the form of a header.
use Rattle.std.specs.Prelude.{ℕ, ◌+◌, ◌^◌, ◌<◌, List, [], ◌∷◌, ◌++◌}
use Rattle.myi_base.specs.Numbers.{num_at, num_bytes}

-- the numbers of these widths from a place on
abbrev pub numbers : ℕ → List ℕ → List ℕ → List ℕ
numbers at [] x = []
numbers at (w ∷ ws) x = num_at at w x ∷ numbers (at + w) ws x

-- the bytes of these numbers in these widths
abbrev pub spelling : List ℕ → List ℕ → List ℕ
spelling [] vs = []
spelling (w ∷ ws) [] = []
spelling (w ∷ ws) (v ∷ vs) = num_bytes w v ++ spelling ws vs

-- there is one number for each width, and it fits
abbrev pub Fit : List ℕ → List ℕ → Type 0
Fit [] [] = Unit {0}
Fit [] (v ∷ vs) = ⊥
Fit (w ∷ ws) [] = ⊥
Fit (w ∷ ws) (v ∷ vs) = (v < 256 ^ w) × Fit ws vs

-- how many bytes numbers of these widths take
abbrev pub total_width : List ℕ → ℕ
total_width [] = 0
total_width (w ∷ ws) = w + total_width ws
