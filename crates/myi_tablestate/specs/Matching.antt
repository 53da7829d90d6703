-- The rows of a table whose key lies between bounds, in order of the key and then of their positions (MySQL Reference Manual,
-- "Range Optimization"; the order of rows with one key is this project's own).
use Rattle.std.specs.Prelude.{ℕ, Bool, true, ◌&&◌, List, map, filter, Option, Some, None, IsPermutation, IsSorted}
use Rattle.std.specs.Ordering.{is_le}
use Rattle.myi_defs.specs.declared.types.Defs.{Defs}
use Rattle.myi_keys.specs.declared.values.KeySeg.{KeySeg}
use Rattle.myi_keys.specs.Order.{key_cmp}
use Rattle.myi_keylist.specs.declared.pair.Pair.{Pair}
use Rattle.myi_keylist.specs.PairOrder.{pair_with, pair_cmp}
use Rattle.myi_data.specs.Keys.{key_of}
use Rattle.myi_state.specs.State.{StoredRow}

-- the least and the greatest key that are asked for; None is no bound
pub record Bounds : Type 0 where
  pub from : Option (List KeySeg)
  pub to : Option (List KeySeg)

abbrev pub reaches : Option (List KeySeg) → List KeySeg → Bool
reaches None key = true
reaches (Some low) key = is_le (key_cmp low key)

abbrev pub stays_below : Option (List KeySeg) → List KeySeg → Bool
stays_below None key = true
stays_below (Some high) key = is_le (key_cmp key high)

abbrev pub lies_between : Bounds → List KeySeg → Bool
lies_between bounds key = reaches bounds.from key && stays_below bounds.to key

-- the row's key and position
abbrev pub placed_key : Defs → ℕ → StoredRow → Pair
placed_key d k r = pair_with (key_of d k r.values) r.at

-- found are the rows whose key lies between the bounds, in order of key and position
pub record AreMatching (d : Defs) (k : ℕ) (bounds : Bounds) (rows found : List StoredRow) : Type 0 where
  pub same : IsPermutation (filter (λ (r : StoredRow). lies_between bounds (key_of d k r.values)) rows) found
  pub order : IsSorted pair_cmp (map (placed_key d k) found)
