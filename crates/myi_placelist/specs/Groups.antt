-- Places in groups of 64, which stand in three lists: of those in the list of steps how far each stands behind the one before it, of
-- those in the near list how far they stand behind a base, those in the far list themselves.
use Rattle.std.specs.Prelude.{◌≡◌, ◌≤◌, ◌<◌, ◌+◌, ◌-◌, ◌*◌, ◌^◌, ℕ, List, [], ◌∷◌, ◌++◌, length, slice_index, take, drop, map}
use Rattle.std.specs.List.{AllByRecursion}
use Rattle.myi_placelist.specs.declared.groups.Group.{Group}
use Rattle.myi_placelist.specs.declared.groups.Group.TheVariants.{Close, Near, Far}

-- the list of steps can have these places: each stands less than 256 behind the one before it, the first behind a base
abbrev pub AreClose : ℕ → List ℕ → Type 0
AreClose base [] = Unit {0}
AreClose base (p ∷ ps) = (base ≤ p) × (p < base + 256) × AreClose p ps

-- how far each place stands behind the one before it, the first behind a base
abbrev pub steps_of : ℕ → List ℕ → List ℕ
steps_of base [] = []
steps_of base (p ∷ ps) = (p - base) ∷ steps_of p ps

-- the places that these steps lead to, one after the other, from a base
abbrev pub places_behind : ℕ → List ℕ → List ℕ
places_behind base [] = []
places_behind base (s ∷ ss) = (base + s) ∷ places_behind (base + s) ss

-- the near list can have this place behind a base
abbrev pub IsNear : ℕ → ℕ → Type 0
IsNear base p = (base ≤ p) × (p < base + 2 ^ 16)

-- how far places stand behind a base
abbrev pub lows_of : ℕ → List ℕ → List ℕ
lows_of base places = map (λ p. p - base) places

-- the places of a group
abbrev pub places_at : List ℕ → List ℕ → List ℕ → Group → List ℕ
places_at steps near far (Close base start) = places_behind base (take 64 (drop start steps))
places_at steps near far (Near base start) = map (λ low. base + low) (take 64 (drop start near))
places_at steps near far (Far start) = take 64 (drop start far)

-- the places of groups, one after the other
abbrev pub places_in : List ℕ → List ℕ → List ℕ → List Group → List ℕ
places_in steps near far [] = []
places_in steps near far (g ∷ gs) = places_at steps near far g ++ places_in steps near far gs

-- the lists have 64 places of the group, and each is below 2^64
abbrev pub IsWithin : List ℕ → List ℕ → List ℕ → Group → Type 0
IsWithin steps near far (Close base start) = (start + 64 ≤ length steps) × (base + 2 ^ 16 ≤ 2 ^ 64)
IsWithin steps near far (Near base start) = (start + 64 ≤ length near) × (base + 2 ^ 16 ≤ 2 ^ 64)
IsWithin steps near far (Far start) = start + 64 ≤ length far

-- the groups stand in the lists, and so many places are in them and behind them
pub record AreGrouped (steps near far : List ℕ) (groups : List Group) (latest : List ℕ) (count : ℕ) : Type 0 where
  pub within : AllByRecursion (IsWithin steps near far) groups
  pub many : count ≡ 64 * length groups + length latest

-- the second list begins with the first
abbrev pub Extends : List ℕ → List ℕ → Type 0
Extends old new = (more : List ℕ) × (new ≡ old ++ more)

-- the places before the first of these indexes are below this one, and those from the second on are not
pub record IsBetween (place : ℕ) (places : List ℕ) (from to : ℕ) : Type 0 where
  pub below : (k : ℕ) → k < from → slice_index places k < place
  pub above : (k : ℕ) → to ≤ k → k < length places → place ≤ slice_index places k
