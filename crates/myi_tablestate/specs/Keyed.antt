-- Changes of a table with keys. A row may not have, in a unique key, the complete key of another row (MySQL Reference Manual,
-- "CREATE TABLE": the values of a UNIQUE index are distinct, but NULL may stand several times); that a position is asked for
-- first, then the keys in their order, and then room, is this project's own.
use Rattle.std.specs.Prelude.{◌≡◌, ℕ, true, if◌then◌else◌, List, [], ◌∷◌, map, Option, Some, None, Result, Ok, Err, option_map}
use Rattle.std.specs.List.{AllByRecursion}
use Rattle.myi_defs.specs.declared.types.Defs.{Defs}
use Rattle.myi_pack.specs.Packed.{Values}
use Rattle.myi_pack.specs.Spelling.{fits}
use Rattle.myi_state.specs.State.{StoredRow, TableState, rows_without}
use Rattle.myi_state.specs.Changes.{Change, insert, insert_at_end, delete, update, Refusal, no_row, full, Changed, accepted, lacks_row, lacks_room}
use Rattle.myi_state.specs.Sound.{IsState}
use Rattle.myi_pair.specs.FirstRows.{key_numbers, repeats_key, AreDistinct}

abbrev pub values_in_rows : List StoredRow → List Values
values_in_rows rows = map (λ (r : StoredRow). r.values) rows

-- a table with keys: each row has the form that the definitions ask for, and none repeats another
pub record IsTable (d : Defs) (s : TableState) : Type 0 where
  pub state : IsState d s
  pub fit : AllByRecursion (λ (r : StoredRow). fits d r.values ≡ true) s.rows
  pub distinct : AreDistinct d [] (values_in_rows s.rows)

-- ---- rows with the same complete key

-- the position of the first of these rows whose complete key in the unique key of that number is that of a row with these values
abbrev pub holder : Defs → Values → ℕ → List StoredRow → Option ℕ
holder d values k [] = None
holder d values k (r ∷ rows) = if repeats_key d values r.values k then Some r.at else holder d values k rows

-- the lowest of these key numbers, and the position of a row that has the row's complete key in it
abbrev pub Holder : Type 0
Holder = ℕ × ℕ

abbrev pub or_later : ℕ → Option ℕ → Option Holder → Option Holder
or_later k None later = later
or_later k (Some at) later = Some (k, at)

abbrev pub first_holder : Defs → Values → List StoredRow → List ℕ → Option Holder
first_holder d values rows [] = None
first_holder d values rows (k ∷ ks) = or_later k (holder d values k rows) (first_holder d values rows ks)

-- the rows that a row may not repeat: all, and of a row that is updated the others
abbrev pub lacks_key : Defs → TableState → Change → Option Holder
lacks_key d s (insert values) = first_holder d values s.rows (key_numbers d)
lacks_key d s (insert_at_end values) = first_holder d values s.rows (key_numbers d)
lacks_key d s (delete at) = None
lacks_key d s (update at values) = first_holder d values (rows_without at s.rows) (key_numbers d)

-- ---- refusals

-- no row stands at the position; the row at a position has the complete key in the key of that number; no room
pub data KeyedRefusal : Type 0 where
  lacks : ℕ → KeyedRefusal
  duplicate : ℕ → ℕ → KeyedRefusal
  too_long : KeyedRefusal

abbrev pub without_keys : Refusal → KeyedRefusal
without_keys (no_row at) = lacks at
without_keys full = too_long

abbrev pub by_holder : Holder → KeyedRefusal
by_holder h = duplicate h.0 h.1

-- the first that is there
abbrev pub first_of_three : Option KeyedRefusal → Option KeyedRefusal → Option KeyedRefusal → Option KeyedRefusal
first_of_three (Some r) q p = Some r
first_of_three None (Some q) p = Some q
first_of_three None None p = p

unfoldable pub keyed_refusal : Defs → TableState → Change → Option KeyedRefusal
keyed_refusal d s c = first_of_three (option_map without_keys (lacks_row s c)) (option_map by_holder (lacks_key d s c)) (option_map without_keys (lacks_room d s c))

-- ---- a step: the position or the refusal, and the state behind it

pub record KeyedStep : Type 0 where
  pub reply : Result ℕ KeyedRefusal
  pub state : TableState

abbrev pub keyed_step_by : TableState → Changed → Option KeyedRefusal → KeyedStep
keyed_step_by s done None = record { reply = Ok done.at; state = done.state }
keyed_step_by s done (Some r) = record { reply = Err r; state = s }

-- a refusal leaves the state
unfoldable pub keyed_step : Defs → TableState → Change → KeyedStep
keyed_step d s c = keyed_step_by s (accepted d s c) (keyed_refusal d s c)

-- ---- one after the other

-- the state behind steps
abbrev pub after_keyed : Defs → TableState → List Change → TableState
after_keyed d s [] = s
after_keyed d s (c ∷ cs) = after_keyed d (keyed_step d s c).state cs

abbrev pub if_made : Change → List Change → Result ℕ KeyedRefusal → List Change
if_made c later (Ok at) = c ∷ later
if_made c later (Err r) = later

-- those of them that are accepted
abbrev pub keyed_history : Defs → TableState → List Change → List Change
keyed_history d s [] = []
keyed_history d s (c ∷ cs) = if_made c (keyed_history d (keyed_step d s c).state cs) (keyed_step d s c).reply
