-- Changes of a row that stands: what they do to each state that has a row at the position.
use Rattle.std.specs.Prelude.{◌≡◌, ℕ, Some, Ok}
use Rattle.myi_base.specs.Holding.{Holding}
use Rattle.myi_state.specs.State.{StoredRow, TableState, row_at}
use Rattle.myi_state.specs.Changes.{Change, step}
use Rattle.myi_slots.specs.declared.fault.DataFault.{DataFault}
use Rattle.myi_slots.specs.SlotFile.{SlotFile, IsFileOf, IsRefusal}

-- a step was made of each state with a row at a position
abbrev pub StepsRow : Change → ℕ → SlotFile → SlotFile → Holding → Holding → Type 0
StepsRow c at f g m n = (s : TableState) (r : StoredRow) → IsFileOf f s m → row_at at s.rows ≡ Some r → ((step f.defs s c).reply ≡ Ok at) × IsFileOf g (step f.defs s c).state n

-- a refusal is the reply of a step of each such state
abbrev pub RefusesRow : Change → ℕ → SlotFile → DataFault → Holding → Type 0
RefusesRow c at f e m = (s : TableState) (r : StoredRow) → IsFileOf f s m → row_at at s.rows ≡ Some r → IsRefusal (step f.defs s c).reply e
