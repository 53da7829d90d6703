-- Ranges of a file's bytes: which bytes they hold, in whatever order they stand and however they are joined.
use Rattle.std.specs.Prelude.{◌≡◌, ◌≤◌, ◌<◌, ◌+◌, ◌^◌, ◌==◌, ◌&&◌, ℕ, Bool, nat_le, nat_lt, max, Option, Some, None, if◌then◌else◌, List, [], ◌∷◌}
use Rattle.myi_base.specs.Ranges.{Range, is_apart}

-- a range does not end before it begins
abbrev pub IsForward : Range → Type 0
IsForward r = r.0 ≤ r.1

-- a block, by its place and size, ends at a place of eight bytes
abbrev pub EndsNear : ℕ × ℕ → Type 0
EndsNear b = b.0 + b.1 < 2 ^ 64

-- both hold the same bytes: the same ranges of a byte or more are apart from them
abbrev pub SameBytes : List Range → List Range → Type 0
SameBytes u v = (r : Range) → r.0 < r.1 → is_apart r u ≡ is_apart r v

-- from a place on the ranges stand in order, and between two of them stands a byte that none holds
abbrev pub AreJoined : ℕ → List Range → Type 0
AreJoined low [] = Unit {0}
AreJoined low (r ∷ rs) = (low ≤ r.0) × (r.0 ≤ r.1) × AreJoined (r.1 + 1) rs

-- the second begins in the first or where that ends
abbrev pub touches : Range → Range → Bool
touches r s = nat_le r.0 s.0 && nat_le s.0 r.1

abbrev pub both_ranges : Range → Range → Range
both_ranges r s = (r.0, max r.1 s.1)

-- ranges and one more, which is joined with the last where it touches that
abbrev pub joined_with : List Range → Range → List Range
joined_with [] s = s ∷ []
joined_with (r ∷ []) s = if touches r s then both_ranges r s ∷ [] else r ∷ s ∷ []
joined_with (r ∷ q ∷ rs) s = r ∷ joined_with (q ∷ rs) s

-- the same of several more, one after the other
abbrev pub join_all : List Range → List Range → List Range
join_all done [] = done
join_all done (r ∷ rs) = join_all (joined_with done r) rs

-- where the range ends that begins at the file's start
abbrev pub front_of : List Range → ℕ
front_of [] = 0
front_of (r ∷ rs) = if r.0 == 0 then r.1 else 0

-- the byte at a place, where the file goes on so far
abbrev pub gap_behind : ℕ → ℕ → Option ℕ
gap_behind front length = if nat_lt front length then Some front else None

-- no byte of the block, by its place and size, is held
abbrev pub is_free : List Range → ℕ × ℕ → Bool
is_free held b = is_apart (b.0, b.0 + b.1) held
