-- The pairs that the tree of a key has: the key of each row of a state with the row's pointer, in order.
use Rattle.std.specs.Prelude.{◌*◌, ℕ, List, map}
use Rattle.myi_defs.specs.declared.types.RowFormat.{RowFormat}
use Rattle.myi_defs.specs.declared.types.RowFormat.TheVariants.{Static, Dynamic}
use Rattle.myi_defs.specs.declared.types.Defs.{Defs}
use Rattle.myi_pack.specs.Packed.{Values}
use Rattle.myi_keylist.specs.declared.pair.Pair.{Pair}
use Rattle.myi_state.specs.State.{StoredRow}
use Rattle.myi_pair.specs.KeyList.{PlacedRow, pair_of, key_list}

abbrev pub placed : StoredRow → PlacedRow
placed r = (r.at, r.values)

-- the pair of a row with these values at a position, for the key of that number
abbrev pub pair_at : Defs → ℕ → ℕ → Values → Pair
pair_at d k at values = pair_of d k (at, values)

abbrev pub pair_of_row : Defs → ℕ → StoredRow → Pair
pair_of_row d k r = pair_of d k (placed r)

-- the pairs of these rows for the key of that number, in order
abbrev pub listed : Defs → ℕ → List StoredRow → List Pair
listed d k rows = key_list d k (map placed rows)

abbrev pub position_by : RowFormat → ℕ → ℕ → ℕ
position_by Static slot_length pointer = pointer * slot_length
position_by Dynamic slot_length pointer = pointer

-- the position of the row that a pointer names
abbrev pub position : Defs → ℕ → ℕ
position d pointer = position_by d.format d.slot_length pointer
