-- The key list of a key: the key of each row with the row's pointer, sorted by key and then by pointer.
use Rattle.std.specs.Prelude.{◌/◌, ℕ, List, map}
use Rattle.myi_defs.specs.declared.types.RowFormat.{RowFormat}
use Rattle.myi_defs.specs.declared.types.RowFormat.TheVariants.{Static, Dynamic}
use Rattle.myi_defs.specs.declared.types.Defs.{Defs}
use Rattle.myi_pack.specs.Packed.{Values}
use Rattle.myi_data.specs.Keys.{key_of}
use Rattle.myi_keylist.specs.declared.pair.Pair.{Pair}
use Rattle.myi_keylist.specs.PairOrder.{sorted}

-- a row and its place in the data file
abbrev pub PlacedRow : Type 0
PlacedRow = ℕ × Values

abbrev pub pointer_by : RowFormat → ℕ → ℕ → ℕ
pointer_by Static slot_length at = at / slot_length
pointer_by Dynamic slot_length at = at

-- the pointer of the row at a place: the number of its slot, or the place
abbrev pub pointer : Defs → ℕ → ℕ
pointer d at = pointer_by d.format d.slot_length at

-- a row's pair for the key of that number
abbrev pub pair_of : Defs → ℕ → PlacedRow → Pair
pair_of d k r = record { key = key_of d k r.1; row = pointer d r.0 }

abbrev pub pairs_of : Defs → ℕ → List PlacedRow → List Pair
pairs_of d k rows = map (pair_of d k) rows

-- the key list of the key of that number
unfoldable pub key_list : Defs → ℕ → List PlacedRow → List Pair
key_list d k rows = sorted (pairs_of d k rows)
