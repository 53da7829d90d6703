-- Rows that come behind the end of a table, one after the other, as an appender puts them: the deleted list stays.
use Rattle.std.specs.Prelude.{◌≡◌, ℕ, true, nat_lt, List, map, filter}
use Rattle.std.specs.List.{AllByRecursion}
use Rattle.myi_base.specs.Numbers.{AreBytes}
use Rattle.myi_defs.specs.declared.types.Defs.{Defs}
use Rattle.myi_pack.specs.Packed.{Values}
use Rattle.myi_pack.specs.Spelling.{fits, spelling}
use Rattle.myi_state.specs.State.{StoredRow, TableState}
use Rattle.myi_state.specs.Changes.{insert_at_end, replay}

-- the table with these rows behind its end
abbrev pub with_rows : Defs → TableState → List Values → TableState
with_rows d s rows = replay d s (map insert_at_end rows)

-- each of these rows has the form that the definitions ask for
abbrev pub AllFit : Defs → List Values → Type 0
AllFit d rows = AllByRecursion (λ row. fits d row ≡ true) rows

-- the spelling of each of these rows is bytes, as that of every row that is packed
abbrev pub AllAreBytes : Defs → List Values → Type 0
AllAreBytes d rows = AllByRecursion (λ row. AreBytes (spelling d row)) rows

-- the rows that stand before a place
abbrev pub rows_before : ℕ → List StoredRow → List StoredRow
rows_before place rows = filter (λ (r : StoredRow). nat_lt r.at place) rows
