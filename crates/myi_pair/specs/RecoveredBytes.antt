-- The two files that a repair leaves, as bytes: those of a table of the kept rows.
use Rattle.std.specs.Prelude.{◌-◌, ℕ, Bool, List, length, map}
use Rattle.myi_defs.specs.declared.types.Defs.{Defs}
use Rattle.myi_header.specs.declared.state.State.{State}
use Rattle.myi_data.specs.Readable.{readable}
use Rattle.myi_data.specs.Stored.{SizedRow, stored_file}
use Rattle.myi_pair.specs.FirstRows.{first_rows}
use Rattle.myi_pair.specs.Clean.{sized_row}
use Rattle.myi_pair.specs.RebuiltBytes.{rebuilt_state, rebuilt_index}

-- the rows that a repair keeps: the readable ones that repeat no unique key of one kept before
unfoldable pub kept : Defs → Bool → List ℕ → List SizedRow
kept defs extend d = first_rows defs (map (sized_row defs) (readable defs extend d))

-- how many readable rows it does not keep
abbrev pub repeat_count : Defs → Bool → List ℕ → ℕ
repeat_count defs extend d = length (readable defs extend d) - length (kept defs extend d)

-- the new data file
unfoldable pub new_data : Defs → Bool → List ℕ → List ℕ
new_data defs extend d = stored_file defs (kept defs extend d)

-- the new index file
unfoldable pub new_index : Defs → Bool → List ℕ → ℕ → List ℕ
new_index defs extend d now = rebuilt_index defs (kept defs extend d) now

-- the state in it
abbrev pub recovered_state : Defs → Bool → List ℕ → ℕ → State
recovered_state defs extend d now = rebuilt_state defs (kept defs extend d) now
