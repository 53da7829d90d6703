-- Rows that are inserted at the end while a session holds READ or READ LOCAL: it reads only those that stood before.
use Rattle.std.specs.Prelude.{◌≡◌, ℕ, Bool, true, nat_lt, filter, List}
use Rattle.std.specs.List.{AllByRecursion}
use Rattle.myi_defs.specs.declared.types.Defs.{Defs}
use Rattle.myi_pack.specs.Spelling.{fits}
use Rattle.myi_state.specs.State.{StoredRow}
use Rattle.myi_state.specs.Changes.{Change, insert, insert_at_end, delete, update}

-- an insert at the end, of a row that has the form that the definitions ask for
abbrev pub IsAppend : Defs → Change → Type 0
IsAppend d (insert_at_end values) = fits d values ≡ true
IsAppend d (insert values) = ⊥
IsAppend d (delete at) = ⊥
IsAppend d (update at values) = ⊥

abbrev pub AreAppends : Defs → List Change → Type 0
AreAppends d cs = AllByRecursion (IsAppend d) cs

-- the row stands before a place
abbrev pub stands_before : ℕ → StoredRow → Bool
stands_before place r = nat_lt r.at place

abbrev pub rows_before : ℕ → List StoredRow → List StoredRow
rows_before place rows = filter (stands_before place) rows
