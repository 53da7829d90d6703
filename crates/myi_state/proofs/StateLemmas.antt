-- The laws of states in the words of their clauses.
use Rattle.std.proofs.Common.{ℕ, [], arith}
use Rattle.myi_defs.specs.declared.types.RowFormat.{RowFormat}
use Rattle.myi_defs.specs.declared.types.RowFormat.TheVariants.{Static, Dynamic}
use Rattle.myi_defs.specs.declared.types.Defs.{Defs}
use Rattle.myi_defs.specs.Sound.{IsSound}
use Rattle.myi_data.proofs.CallerLemmas.{spelling_some}
use Rattle.myi_state.specs.State.{TableState, empty_table}
use Rattle.myi_state.specs.Changes.{Change, insert, insert_at_end, delete, update, accepted, step}
use Rattle.myi_state.specs.Sound.{AreHoles, IsState, MayCome}
use Rattle.myi_state.proofs.KeptLemmas.{ComesWithBytes, accepted-state, step-state}

no_holes : (f : RowFormat) (size : ℕ) → AreHoles f size []
no_holes Static size = tt
no_holes Dynamic size = tt

pub empty-state : (d : Defs) → IsState d empty_table
empty-state d = record { order = tt; rows = tt; holes = no_holes d.format d.slot_length; tile = λ p. omega arith }

comes : (d : Defs) (c : Change) → IsSound d → MayCome d c → ComesWithBytes d c
comes d (insert values) sound may = spelling_some d values sound may
comes d (insert_at_end values) sound may = spelling_some d values sound may
comes d (delete at) sound may = tt
comes d (update at values) sound may = spelling_some d values sound may

pub accepted-kept : (d : Defs) (s : TableState) (c : Change) → IsSound d → MayCome d c → IsState d s → IsState d (accepted d s c).state
accepted-kept d s c sound may i = accepted-state d s c sound (comes d c sound may) i

pub step-kept : (d : Defs) (s : TableState) (c : Change) → IsSound d → MayCome d c → IsState d s → IsState d (step d s c).state
step-kept d s c sound may i = step-state d s c sound (comes d c sound may) i
