-- How many segments keys share, and what is counted by them.
use Rattle.std.specs.Prelude.{ℕ, suc, ◌/◌, ◌==◌, min, Bool, false, if◌then◌else◌, List, [], ◌∷◌, nat_le}
use Rattle.std.specs.Ordering.{is_eq}
use Rattle.myi_keys.specs.declared.values.KeySeg.{KeySeg}
use Rattle.myi_keys.specs.declared.values.KeySeg.TheVariants.{Absent, Weights}
use Rattle.myi_keys.specs.Order.{seg_cmp}
use Rattle.myi_order.specs.Prefixes.{most_per}

-- neither segment is absent, and their weights are the same
abbrev pub is_shared : KeySeg → KeySeg → Bool
is_shared Absent other = false
is_shared (Weights w) other = is_eq (seg_cmp (Weights w) other)

-- how many first segments two keys share
unfoldable pub shared : List KeySeg → List KeySeg → ℕ
shared [] others = 0
shared (seg ∷ segs) [] = 0
shared (seg ∷ segs) (other ∷ others) = if is_shared seg other then suc (shared segs others) else 0

-- one more where a prefix of so many segments is longer than what is shared
abbrev pub ended : ℕ → ℕ → ℕ
ended j n = if nat_le j n then 0 else 1

-- the number of rows for each of so many prefixes
abbrev pub average : ℕ → ℕ → ℕ
average rows prefixes = if prefixes == 0 then 0 else min most_per (rows / prefixes)
