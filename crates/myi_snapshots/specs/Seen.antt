-- What a reader of a shared table sees. The table is shared in some state, its base, after so many changes; the inserter puts rows
-- behind its end, whose words the reader comes to know.
use Rattle.std.specs.Prelude.{◌≡◌, ◌-◌, ◌≤◌, ℕ, List, length, take}
use Rattle.myi_defs.specs.declared.types.Defs.{Defs}
use Rattle.myi_pack.specs.Packed.{Values}
use Rattle.myi_state.specs.State.{StoredRow, TableState}
use Rattle.myi_snapshots.specs.declared.snapshot.Snapshot.{Snapshot}
use Rattle.myi_snapshots.specs.Appended.{with_rows, rows_before}

-- the state after the first changes up to a number: the base, with as many of the rows as were put behind it then
abbrev pub state_at : Defs → TableState → ℕ → List Values → ℕ → TableState
state_at d base number rows at = with_rows d base (take (at - number) rows)

-- The snapshot is of this sharing: it was taken after its beginning, so many of the rows are there, and its length is the end of
-- the state of that number.
pub record IsTaken (d : Defs) (base : TableState) (number : ℕ) (rows : List Values) (snap : Snapshot) : Type 0 where
  pub later : number ≤ snap.number
  pub there : snap.number - number ≤ length rows
  pub end : snap.length ≡ (state_at d base number rows snap.number).space.end

-- the rows that a reader of these rows sees by a snapshot, of this sharing or an earlier one: those before its length
abbrev pub seen_rows : Defs → TableState → List Values → Snapshot → List StoredRow
seen_rows d base rows snap = rows_before snap.length (with_rows d base rows).rows
