-- The used ranges as a scan keeps them: in order, so that the last one that begins before a place answers
-- for them all.
use Rattle.std.specs.Prelude.{◌≡◌, ◌+◌, ◌<◌, ◌≤◌, ◌^◌, ◌==◌, ℕ, zero, suc, Bool, true, nat_lt, nat_le, if◌then◌else◌, List, [], ◌∷◌, ◌++◌, length, filter, Option, Some, None}
use Rattle.std.specs.Ordering.{nat_cmp}
use Rattle.std.specs.List.{zip}
use Rattle.std.specs.Map.{remove_entry}
use Rattle.std.specs.BTreeMap.{is_at}
use Rattle.myi_base.specs.Ranges.{Range, is_apart}
use Rattle.myi_chain.specs.Readable.{end_of}
use Rattle.myi_chain.specs.Chain.{ranges_at}

-- Used ranges of which nobody can tell a difference: the same ranges are apart from them, and the same
-- ones begin at each place.
pub record SameUsed (u v : List Range) : Type 0 where
  pub apart : (r : Range) → is_apart r u ≡ is_apart r v
  pub ends : (p : ℕ) → end_of p u ≡ end_of p v

-- a range of at least one byte, at places of eight bytes
abbrev pub IsRange : Range → Type 0
IsRange r = (r.0 < r.1) × (r.1 < 2 ^ 64)

-- from a place on, each range holds a byte and ends before the next begins
abbrev pub AreInOrder : ℕ → List Range → Type 0
AreInOrder low [] = Unit {0}
AreInOrder low (r ∷ rs) = (low ≤ r.0) × (r.0 < r.1) × AreInOrder r.1 rs

-- where the last of some ranges ends, and the place itself where there are none
abbrev pub reach : ℕ → List Range → ℕ
reach low [] = low
reach low (r ∷ rs) = reach r.1 rs

abbrev pub last_of : List Range → Option Range
last_of [] = None
last_of (r ∷ []) = Some r
last_of (r ∷ s ∷ rs) = last_of (s ∷ rs)

-- the last range that begins before a place
abbrev pub last_before : ℕ → List Range → Option Range
last_before end rs = last_of (filter (λ r. nat_lt r.0 end) rs)

-- a place is not before the end of the range
abbrev pub is_behind : ℕ → Option Range → Bool
is_behind at None = true
is_behind at (Some r) = nat_le r.1 at

-- where the range ends, if it begins at the place, and 0 if not
abbrev pub end_from : ℕ → Option Range → ℕ
end_from at None = 0
end_from at (Some r) = if r.0 == at then r.1 else 0

-- the ranges of a map without those that begin where these do, the last of these first
abbrev pub without : List Range → List Range → List Range
without kept [] = kept
without kept (r ∷ rs) = remove_entry (is_at (nat_cmp r.0)) (without kept rs)

-- ---- one range from the file's start

-- the range from the file's start up to a place, and none where the place is the start
abbrev pub joined : ℕ → List Range
joined zero = []
joined (suc n) = (0, suc n) ∷ []

-- Used ranges of which a scan that goes on from a place can tell no difference: the same ranges of a byte or more are
-- apart from them, and the same ones begin at each place from there on.
pub record SameFrom (place : ℕ) (u v : List Range) : Type 0 where
  pub apart : (r : Range) → r.0 < r.1 → is_apart r u ≡ is_apart r v
  pub ends : (p : ℕ) → place ≤ p → end_of p u ≡ end_of p v

-- ranges are those of a scan and the blocks of a row that was met, for a scan that goes on behind the first of them
abbrev pub AddsBlocks : List Range → List (ℕ × ℕ) → List Range → Type 0
AddsBlocks old [] new = new ≡ old
AddsBlocks old (b ∷ bs) new = SameFrom (b.0 + b.1) new (old ++ ranges_at (b ∷ bs)) × (old ≡ joined b.0 → bs ≡ [] → new ≡ joined (b.0 + b.1))

-- the blocks are not one that stands where the one used range from the file's start ends
abbrev pub NeedsMemory : List Range → List (ℕ × ℕ) → Type 0
NeedsMemory old [] = ⊥
NeedsMemory old (b ∷ bs) = old ≡ joined b.0 → bs ≡ [] → ⊥

-- the ranges beside the one from the file's start are in order, and none of them begins at the start where there is no such one
pub record AreBeside (front : ℕ) (others : List Range) : Type 0 where
  pub order : AreInOrder 0 others
  pub start : front ≡ 0 → end_of 0 others ≡ 0

-- ---- ranges in two lists of places

-- the ranges that begin at these places and end at those, where the last of them may end at one more
abbrev pub listed : List ℕ → List ℕ → ℕ → List Range
listed froms tos last = zip froms (tos ++ last ∷ [])

-- each place where a range begins has one where it ends, and the ranges are in order behind the file's start, none behind the last
pub record AreListed (froms tos : List ℕ) (last : ℕ) : Type 0 where
  pub fewer : length tos ≤ length froms
  pub enough : length froms ≤ length tos + 1
  pub order : AreInOrder 1 (listed froms tos last)
  pub reach : reach 0 (listed froms tos last) ≤ last
