-- Ranges of bytes in a file, and their disjointness.
use Rattle.std.specs.Prelude.{ℕ, Bool, ◌||◌, ◌≡◌, true, nat_le, List, [], ◌∷◌}
use Rattle.std.specs.List.{list_all}

-- the bytes from the first place up to the second, without the byte at the second
abbrev pub Range : Type 0
Range = ℕ × ℕ

-- no byte belongs to both; of a range without bytes: it does not lie inside the other
abbrev pub are_apart : Range → Range → Bool
are_apart r s = nat_le r.1 s.0 || nat_le s.1 r.0

-- no byte of the range belongs to one of these
abbrev pub is_apart : Range → List Range → Bool
is_apart r used = list_all (λ s. are_apart r s) used

-- no byte belongs to two of these
abbrev pub AreDisjoint : List Range → Type 0
AreDisjoint [] = Unit {0}
AreDisjoint (r ∷ rs) = (is_apart r rs ≡ true) × AreDisjoint rs
