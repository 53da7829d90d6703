-- What is asked before a row is written: where it goes, its pairs, and whether another one has its key.
use Rattle.std.specs.Prelude.{◌≡◌, ℕ, Bool, true, false, List, unwrap_or, Option, Some, None}
use Rattle.myi_base.specs.Holding.{Holding, Told, OthersStay}
use Rattle.myi_defs.specs.declared.types.Defs.{Defs}
use Rattle.myi_pack.specs.Packed.{Values}
use Rattle.myi_keylist.specs.declared.pair.Pair.{Pair}
use Rattle.myi_search.specs.Counting.{CountsOn}
use Rattle.myi_state.specs.declared.counts.Counts.{Counts}
use Rattle.myi_state.specs.State.{StoredRow, row_at}
use Rattle.myi_state.specs.Changes.{Change, insert, insert_at_end}
use Rattle.myi_slots.specs.SlotFile.{SlotFile, Adds, AddsNew}
use Rattle.myi_rows.specs.Refusals.{FindsBad}
use Rattle.myi_pair.specs.KeyList.{pointer}
use Rattle.myi_tablestate.specs.Keyed.{Holder}
use Rattle.myi_rowtrees.specs.RowLists.{row_pairs}
use Rattle.myi_keyedrows.specs.declared.keyed_rows.KeyedRows.{KeyedRows}
use Rattle.myi_keyedrows.specs.KeyedRows.{StillHold}
use Rattle.myi_keyedrows.specs.declared.fault.KeyedFault.{KeyedFault}
use Rattle.myi_keyedrows.specs.declared.fault.KeyedFault.TheVariants as fault

-- a new row, behind the end or where the next one goes
abbrev pub come : Bool → Values → Change
come true values = insert_at_end values
come false values = insert values

-- where it goes
abbrev pub next_at : Bool → Counts → ℕ
next_at true c = c.length
next_at false c = unwrap_or c.dellink c.length

-- the data file has its bytes behind what it had, where it goes behind the end, or nothing is deleted
abbrev pub AddsTo : Bool → SlotFile → SlotFile → Values → Holding → Holding → Type 0
AddsTo true f g values m n = Adds f g values m n
AddsTo false f g values m n = AddsNew f g values m n

-- what stands at a place is not what a new row needs there, behind the end or where it goes
abbrev pub FindsNewBad : Bool → SlotFile → Values → Option Holding → ℕ → Type 0
FindsNewBad true f values h p = ⊥
FindsNewBad false f values h p = FindsBad f values h p

-- a row stands at the position, and these are its pairs
abbrev pub HasPairsAt : Defs → ℕ → List StoredRow → List Pair → Type 0
HasPairsAt d at rows pairs = (r : StoredRow) × (row_at at rows ≡ Some r) × (pairs ≡ row_pairs d r.values (pointer d at))

-- the refusal says that no row stands at the position, where none does
abbrev pub IsAbsent : ℕ → Option StoredRow → KeyedFault → Type 0
IsAbsent at row (fault.NoRow p) = (p ≡ at) × (row ≡ None)
IsAbsent at row (fault.Duplicate key p) = ⊥
IsAbsent at row fault.Full = ⊥
IsAbsent at row (fault.Damaged p) = ⊥
IsAbsent at row fault.File = Unit {0}
IsAbsent at row fault.Memory = Unit {0}

-- the refusal names the row that has a key
abbrev pub IsHeldBy : Option Holder → KeyedFault → Type 0
IsHeldBy holder (fault.Duplicate key at) = holder ≡ Some (key, at)
IsHeldBy holder (fault.NoRow at) = ⊥
IsHeldBy holder fault.Full = ⊥
IsHeldBy holder (fault.Damaged at) = ⊥
IsHeldBy holder fault.File = Unit {0}
IsHeldBy holder fault.Memory = Unit {0}

-- The trees were searched: the object stands for each table that it stood for, with the same rows, and of files that of the index
-- alone may hold something else, what was not written yet.
pub record Looks (told next : Option Holding) (old new : KeyedRows) : Type 0 where
  pub stand : StillHold told next old new
  pub rows : new.rows ≡ old.rows
  pub places : new.trees.places ≡ old.trees.places
  pub room : new.trees.room ≡ old.trees.room
  pub name : new.trees.cache.name ≡ old.trees.cache.name
  pub counted : CountsOn old.trees.cache new.trees.cache
  pub others : Told told next (OthersStay old.trees.cache.name)
