-- The rows that were put behind the end of a table, as they stand there.
use Rattle.std.specs.Prelude.{◌+◌, ℕ, List, [], ◌∷◌}
use Rattle.myi_defs.specs.declared.types.Defs.{Defs}
use Rattle.myi_pack.specs.Packed.{Values}
use Rattle.myi_pack.specs.Spelling.{spelling}
use Rattle.myi_dellist.specs.Placing.{Space}
use Rattle.myi_state.specs.State.{StoredRow}
use Rattle.myi_state.specs.Changes.{behind_taken}
use Rattle.myi_snapshots.specs.Known.{size_of}

-- where a file ends that no row uses a byte of
abbrev pub ends_at : ℕ → Space
ends_at end = record { holes = []; end = end }

-- a row that begins where the file ends
abbrev pub stored_at : Defs → ℕ → Values → StoredRow
stored_at d end values = record { at = end; values = values; blocks = (behind_taken d (ends_at end) values).blocks }

-- rows one after the other, from there on
abbrev pub stored_behind : Defs → ℕ → List Values → List StoredRow
stored_behind d end [] = []
stored_behind d end (values ∷ rows) = stored_at d end values ∷ stored_behind d (end + size_of d (spelling d values)) rows
