-- The answers of a search in a list of pairs: the least row of a key, and the least pair above another one.
use Rattle.std.specs.Prelude.{◌≡◌, ◌≢◌, ◌≤◌, ℕ, true, List, Option, Some, None, All, Contains}
use Rattle.std.specs.Ordering.{is_lt, is_le}
use Rattle.myi_keys.specs.declared.values.KeySeg.{KeySeg}
use Rattle.myi_keylist.specs.declared.pair.Pair.{Pair}
use Rattle.myi_keylist.specs.PairOrder.{pair_with, pair_cmp}

-- a pair of these has the key and this row, and no pair with the key has a lesser row; or none has the key
abbrev pub IsLeastRow : List KeySeg → List Pair → Option ℕ → Type 0
IsLeastRow key pairs None = All (λ (p : Pair). p.key ≢ key) pairs
IsLeastRow key pairs (Some row) = Contains pairs (pair_with key row) × All (λ (p : Pair). p.key ≡ key → row ≤ p.row) pairs

-- above a pair are those behind it in the order of pairs; where none is given, each pair is above
abbrev pub IsAbove : Option Pair → Pair → Type 0
IsAbove None p = Unit {0}
IsAbove (Some after) p = is_lt (pair_cmp after p) ≡ true

-- the pair is one of these and above the given one, and none of these above that one stands before it; or none is above it
abbrev pub IsLeastAbove : Option Pair → List Pair → Option Pair → Type 0
IsLeastAbove after pairs None = All (λ p. IsAbove after p → ⊥) pairs
IsLeastAbove after pairs (Some least) = Contains pairs least × IsAbove after least × All (λ p. IsAbove after p → is_le (pair_cmp least p) ≡ true) pairs
