-- What a repair leaves of a table whose trees were made row by row (this project's own form of what the MySQL Reference Manual says of
-- myisamchk --safe-recover): what any repair leaves, but that the pages of the trees may stand anywhere behind the header.
use Rattle.std.specs.Prelude.{◌≡◌, ◌≤◌, ℕ, Bool, false, List, length, map, take, Ok}
use Rattle.myi_base.specs.Numbers.{num_at}
use Rattle.myi_defs.specs.declared.types.Defs.{Defs}
use Rattle.myi_defs.specs.ReadDefs.{read_defs}
use Rattle.myi_defs.specs.Elsewhere.{AgreeOutsideState}
use Rattle.myi_header.specs.declared.state.State.{State}
use Rattle.myi_header.specs.StateOf.{state_of}
use Rattle.myi_data.specs.Readable.{readable}
use Rattle.myi_data.specs.Stored.{SizedRow, values_in, stored_file}
use Rattle.myi_pair.specs.Clean.{values_of, IsClean}
use Rattle.myi_pair.specs.RebuiltBytes.{rebuilt_state}
use Rattle.myi_pair.specs.RecoveredBytes.{kept}

-- a state with the roots and the length of the index file of another
abbrev pub with_trees_of : State → State → State
with_trees_of other s = record s { roots = other.roots; key_file_length = other.key_file_length }

-- the files (e, y) are a table of these rows, made at a time, with trees that stand anywhere
pub record RebuiltAnyhow (d : Defs) (rows : List SizedRow) (now : ℕ) (e y : List ℕ) : Type 0 where
  -- exactly these rows, in their order
  pub read : map (values_of d) (readable d false e) ≡ values_in rows
  -- each stored anew, one directly after another
  pub laid : e ≡ stored_file d rows
  -- the same definitions, and no byte of the header changed that is neither state nor mark
  pub definitions : read_defs y ≡ Ok (record d { raw = take (num_at 6 2 d.raw) y })
  pub elsewhere : AgreeOutsideState d.raw y
  -- clean, so that each tree has the pairs of these rows, and with the state of such a table but for where its trees stand
  pub clean : IsClean e y
  pub state : state_of d y ≡ with_trees_of (state_of d y) (rebuilt_state d rows now)

-- a repair row by row of the data file d at a time leaves the files (e, y)
pub record SafelyRecovered (defs : Defs) (extend : Bool) (d : List ℕ) (now : ℕ) (e y : List ℕ) : Type 0 where
  -- a table of exactly the kept rows, in their order
  pub rebuilt : RebuiltAnyhow defs (kept defs extend d) now e y
  pub shorter : length e ≤ length d
