-- Changes of a table. A new row takes the head of the deleted list, or the file's end where nothing is deleted; one that is
-- inserted at the end leaves the deleted list as it is; an updated row keeps its position (MySQL Internals Manual, "MyISAM
-- Dynamic Data File Layout"; the order of refusals is this project's own).
use Rattle.std.specs.Prelude.{ℕ, Bool, true, false, List, [], ◌∷◌, ◌++◌, length, Option, Some, None, Result, Ok, Err}
use Rattle.myi_defs.specs.declared.types.Defs.{Defs}
use Rattle.myi_defs.specs.Addressable.{is_addressable}
use Rattle.myi_pack.specs.Packed.{Values}
use Rattle.myi_pack.specs.Spelling.{spelling}
use Rattle.myi_dellist.specs.Placing.{Space, next_place}
use Rattle.myi_state.specs.State.{StoredRow, TableState, put_row, row_at, rows_without, Taken, take_next, take_behind, take_again, give_back}

pub data Change : Type 0 where
  insert : Values → Change
  insert_at_end : Values → Change
  delete : ℕ → Change
  update : ℕ → Values → Change

-- why a change is refused: no row stands at the position, or row pointers would not reach the whole file
pub data Refusal : Type 0 where
  no_row : ℕ → Refusal
  full : Refusal

-- where a change was made, and the state behind it
pub record Changed : Type 0 where
  pub at : ℕ
  pub state : TableState

-- ---- changes that are accepted

abbrev pub next_taken : Defs → Space → Values → Taken
next_taken d s values = take_next d.format d.slot_length s (length (spelling d values))

abbrev pub behind_taken : Defs → Space → Values → Taken
behind_taken d s values = take_behind d.format d.slot_length s (length (spelling d values))

-- a row at a position, with the blocks that it takes, among others
abbrev pub with_row : ℕ → Values → Taken → List StoredRow → Changed
with_row at values t rows = record { at = at; state = record { rows = put_row (record { at = at; values = values; blocks = t.blocks }) rows; space = t.space } }

-- Without the row at a position. Where none stands there the change is refused, and nothing is changed.
abbrev pub without_row : Defs → TableState → ℕ → Option StoredRow → Changed
without_row d s at None = record { at = at; state = s }
without_row d s at (Some r) = record { at = at; state = record { rows = rows_without at s.rows; space = give_back d.format s.space r.blocks } }

-- with other values at a position
abbrev pub with_values : Defs → TableState → ℕ → Values → Option StoredRow → Changed
with_values d s at values None = record { at = at; state = s }
with_values d s at values (Some r) = with_row at values (take_again d.format s.space r.blocks (length (spelling d values))) (rows_without at s.rows)

-- a change as one that is accepted
unfoldable pub accepted : Defs → TableState → Change → Changed
accepted d s (insert values) = with_row (next_place s.space.holes s.space.end) values (next_taken d s.space values) s.rows
accepted d s (insert_at_end values) = with_row s.space.end values (behind_taken d s.space values) s.rows
accepted d s (delete at) = without_row d s at (row_at at s.rows)
accepted d s (update at values) = with_values d s at values (row_at at s.rows)

-- ---- refusals

-- no row stands where one is to be changed
abbrev pub if_absent : ℕ → Option StoredRow → Option Refusal
if_absent at None = Some (no_row at)
if_absent at (Some r) = None

abbrev pub lacks_row : TableState → Change → Option Refusal
lacks_row s (insert values) = None
lacks_row s (insert_at_end values) = None
lacks_row s (delete at) = if_absent at (row_at at s.rows)
lacks_row s (update at values) = if_absent at (row_at at s.rows)

-- row pointers would not reach the whole file
abbrev pub if_long : Bool → Option Refusal
if_long true = None
if_long false = Some full

abbrev pub lacks_room : Defs → TableState → Change → Option Refusal
lacks_room d s c = if_long (is_addressable d (accepted d s c).state.space.end)

-- the first of two that holds
abbrev pub first_of_two : Option Refusal → Option Refusal → Option Refusal
first_of_two None r = r
first_of_two (Some q) r = Some q

unfoldable pub refusal : Defs → TableState → Change → Option Refusal
refusal d s c = first_of_two (lacks_row s c) (lacks_room d s c)

-- ---- a step: the position or the refusal, and the state behind it

pub record Step : Type 0 where
  pub reply : Result ℕ Refusal
  pub state : TableState

abbrev pub step_by : TableState → Changed → Option Refusal → Step
step_by s done None = record { reply = Ok done.at; state = done.state }
step_by s done (Some r) = record { reply = Err r; state = s }

-- a refusal leaves the state
unfoldable pub step : Defs → TableState → Change → Step
step d s c = step_by s (accepted d s c) (refusal d s c)

-- ---- one after the other

-- the state behind changes that were accepted; whether they are refused is not asked again
abbrev pub replay : Defs → TableState → List Change → TableState
replay d s [] = s
replay d s (c ∷ cs) = replay d (accepted d s c).state cs

-- the state behind steps
abbrev pub after_steps : Defs → TableState → List Change → TableState
after_steps d s [] = s
after_steps d s (c ∷ cs) = after_steps d (step d s c).state cs

abbrev pub if_accepted : Change → Result ℕ Refusal → List Change
if_accepted c (Ok at) = c ∷ []
if_accepted c (Err r) = []

-- those of them that are accepted
abbrev pub history : Defs → TableState → List Change → List Change
history d s [] = []
history d s (c ∷ cs) = if_accepted c (step d s c).reply ++ history d (step d s c).state cs
