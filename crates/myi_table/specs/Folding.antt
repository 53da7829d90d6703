-- Putting rows behind the end of a table, one after the other.
use Rattle.std.specs.Prelude.{◌≡◌, ℕ, List, [], ◌∷◌, map, Option, None}
use Rattle.myi_defs.specs.declared.types.Defs.{Defs}
use Rattle.myi_pack.specs.Packed.{Values}
use Rattle.myi_state.specs.State.{TableState}
use Rattle.myi_state.specs.Changes.{Change, insert_at_end}
use Rattle.myi_tablestate.specs.Keyed.{keyed_refusal, keyed_step}

-- these rows come behind the end, one after the other
abbrev pub appended : List Values → List Change
appended rows = map insert_at_end rows

-- Each of these rows is accepted behind the end once those before it were put there: it repeats no complete unique key, and row pointers
-- reach the whole file then.
abbrev pub CanFold : Defs → TableState → List Values → Type 0
CanFold d s [] = Unit {0}
CanFold d s (row ∷ rows) = (keyed_refusal d s (insert_at_end row) ≡ None) × CanFold d (keyed_step d s (insert_at_end row)).state rows
