-- The data file of a table that changes: what an object on it keeps, and what its calls do; and of a static table, when there is
-- room, and which numbers a change makes.
use Rattle.std.specs.Prelude.{◌≡◌, ◌+◌, ◌-◌, ◌^◌, min, ℕ, Bool, true, false, List, ◌++◌, length, Option, Some, None, Result, Ok, Err}
use Rattle.myi_base.specs.Holding.{Holding, bytes_of}
use Rattle.myi_defs.specs.declared.types.Defs.{Defs}
use Rattle.myi_defs.specs.Addressable.{is_addressable}
use Rattle.myi_pack.specs.Packed.{Values}
use Rattle.myi_state.specs.declared.counts.Counts.{Counts}
use Rattle.myi_state.specs.State.{StoredRow, TableState, row_at}
use Rattle.myi_state.specs.Changes.{Change, Refusal, no_row, full, step}
use Rattle.myi_state.specs.Numbers.{counts_of}
use Rattle.myi_state.specs.Standing.{StandsFor}
use Rattle.myi_state.specs.Adding.{added_bytes}
use Rattle.myi_header.specs.declared.state.State.{State}
use Rattle.myi_slots.specs.SlotBytes.{is_slot, is_row, hole_in}
use Rattle.myi_dellist.specs.declared.fault.FreeFault.{FreeFault}
use Rattle.myi_dellist.specs.declared.fault.FreeFault.TheVariants as free
use Rattle.myi_slots.specs.declared.fault.DataFault.{DataFault}
use Rattle.myi_slots.specs.declared.fault.DataFault.TheVariants as fault

-- the file's name, the definitions of its table, and the table's numbers
pub record SlotFile : Type 0 where
  pub name : List ℕ
  pub defs : Defs
  pub counts : Counts

-- the file is as long as the numbers say
abbrev pub IsLong : SlotFile → Holding → Type 0
IsLong f m = length (bytes_of f.name m) ≡ f.counts.length

-- the numbers are those of a state, and the file stands for it
pub record IsFileOf (f : SlotFile) (s : TableState) (m : Holding) : Type 0 where
  pub counts : f.counts ≡ counts_of s
  pub stands : StandsFor f.defs s (bytes_of f.name m)

-- a step was made: the answer is its position, and what stands behind it is its state
abbrev pub Steps : Change → SlotFile → SlotFile → ℕ → Holding → Holding → Type 0
Steps c f g at m n = (s : TableState) → IsFileOf f s m → ((step f.defs s c).reply ≡ Ok at) × IsFileOf g (step f.defs s c).state n

-- A refusal is the reply of a step. No file that stands for a state is found damaged. Of a call that was cut off nothing is
-- said here.
abbrev pub IsRefusal : Result ℕ Refusal → DataFault → Type 0
IsRefusal reply (fault.NoRow at) = reply ≡ Err (no_row at)
IsRefusal reply fault.Full = reply ≡ Err full
IsRefusal reply (fault.Damaged at) = ⊥
IsRefusal reply fault.File = Unit {0}
IsRefusal reply fault.Memory = Unit {0}

abbrev pub Refuses : Change → SlotFile → DataFault → Holding → Type 0
Refuses c f e m = (s : TableState) → IsFileOf f s m → IsRefusal (step f.defs s c).reply e

-- what is answered of a row that is read where a file stands for a state
abbrev pub IsReply : ℕ → Option StoredRow → Result Values DataFault → Type 0
IsReply at None (Ok values) = ⊥
IsReply at (Some r) (Ok values) = r.values ≡ values
IsReply at None (Err (fault.NoRow p)) = p ≡ at
IsReply at (Some r) (Err (fault.NoRow p)) = ⊥
IsReply at o (Err fault.Full) = ⊥
IsReply at o (Err (fault.Damaged p)) = ⊥
IsReply at o (Err fault.File) = Unit {0}
IsReply at o (Err fault.Memory) = Unit {0}

-- what is found at a position is the row that a state has there, or none where it has none
abbrev pub IsFound : ℕ → Option StoredRow → Option Values → Type 0
IsFound at None None = Unit {0}
IsFound at None (Some values) = ⊥
IsFound at (Some r) None = ⊥
IsFound at (Some r) (Some values) = r.values ≡ values

abbrev pub Reads : SlotFile → ℕ → Result Values DataFault → Holding → Type 0
Reads f at r m = (s : TableState) → IsFileOf f s m → IsReply at (row_at at s.rows) r

-- ---- a row behind the end

-- exactly the bytes of a row stand behind what the file had, and what is deleted stays
pub record Adds (f g : SlotFile) (values : Values) (m n : Holding) : Type 0 where
  pub bytes : bytes_of f.name n ≡ bytes_of f.name m ++ added_bytes f.defs values f.counts.length
  pub first : g.counts.dellink ≡ f.counts.dellink

-- so it is where nothing is deleted
abbrev pub AddsNew : SlotFile → SlotFile → Values → Holding → Holding → Type 0
AddsNew f g values m n = f.counts.dellink ≡ None → Adds f g values m n

-- ---- when there is room

-- where the file ends with a slot more
abbrev pub end_behind : SlotFile → ℕ
end_behind f = f.counts.length + f.defs.slot_length

-- where it ends once a row is put into the first deleted slot, or into a new one where none is deleted
abbrev pub end_by : Option ℕ → SlotFile → ℕ
end_by None f = end_behind f
end_by (Some at) f = f.counts.length

abbrev pub end_with : SlotFile → ℕ
end_with f = end_by f.counts.dellink f

-- row pointers reach a whole file of this length
abbrev pub is_reached : ℕ → SlotFile → Bool
is_reached end f = is_addressable f.defs end

-- ---- the numbers behind a change; a count that would pass the end of its type stays there

abbrev pub risen : ℕ → ℕ → ℕ
risen n k = min (n + k) (2 ^ 64 - 1)

-- a row stands in a new slot, up to an end
abbrev pub appended_counts : ℕ → Counts → Counts
appended_counts end c = record { records = risen c.records 1; del = c.del; split = risen c.split 1; empty = c.empty; length = end; dellink = c.dellink }

-- a row stands in the first deleted slot, before the next one
abbrev pub filled_counts : ℕ → Option ℕ → Counts → Counts
filled_counts size next c = record { records = risen c.records 1; del = c.del - 1; split = risen c.split 1; empty = c.empty - size; length = c.length; dellink = next }

-- the slot of a row is the first deleted one
abbrev pub freed_counts : ℕ → ℕ → Counts → Counts
freed_counts size at c = record { records = c.records - 1; del = risen c.del 1; split = c.split - 1; empty = risen c.empty size; length = c.length; dellink = Some at }

-- what a row in a new slot makes of the numbers
abbrev pub appended : SlotFile → SlotFile
appended f = record f { counts = appended_counts (end_behind f) f.counts }

-- the numbers that a header's state has
abbrev pub counts_in : State → Counts
counts_in s = record { records = s.records; del = s.del; split = s.split; empty = s.empty; length = s.data_file_length; dellink = s.dellink }

-- the first deleted slot, if any, is one of the file
abbrev pub IsLink : ℕ → ℕ → Option ℕ → Type 0
IsLink size end None = Unit {0}
IsLink size end (Some at) = is_slot size end at ≡ true

-- it is named and is none
abbrev pub LacksLink : ℕ → ℕ → Option ℕ → DataFault → Type 0
LacksLink size end link (fault.NoRow p) = ⊥
LacksLink size end link fault.Full = ⊥
LacksLink size end link (fault.Damaged p) = (link ≡ Some p) × (is_slot size end p ≡ false)
LacksLink size end link fault.File = ⊥
LacksLink size end link fault.Memory = ⊥

-- of each refusal that holds which is its cause: that no row stands, that the file is full, that a slot is damaged
abbrev pub ByCause : (ℕ → Type 0) → Type 0 → (ℕ → Type 0) → DataFault → Type 0
ByCause N P Q (fault.NoRow p) = N p
ByCause N P Q fault.Full = P
ByCause N P Q (fault.Damaged p) = Q p
ByCause N P Q fault.File = Unit {0}
ByCause N P Q fault.Memory = Unit {0}

abbrev pub Never : ℕ → Type 0
Never p = ⊥

-- a refusal changes nothing
abbrev pub IfRefused : DataFault → Type 0 → Type 0
IfRefused (fault.NoRow at) P = P
IfRefused fault.Full P = P
IfRefused (fault.Damaged at) P = P
IfRefused fault.File P = Unit {0}
IfRefused fault.Memory P = Unit {0}

-- how a refusal of the deleted list is told
abbrev pub data_fault : FreeFault → DataFault
data_fault free.Full = fault.Full
data_fault (free.Damaged at) = fault.Damaged at
data_fault free.File = fault.File
data_fault free.Memory = fault.Memory

-- a call was cut off by a failed file call or for want of memory
abbrev pub CutsOff : DataFault → Type 0
CutsOff (fault.NoRow at) = ⊥
CutsOff fault.Full = ⊥
CutsOff (fault.Damaged at) = ⊥
CutsOff fault.File = Unit {0}
CutsOff fault.Memory = Unit {0}

-- a deleted slot stands at a place, and a row takes it
abbrev pub Fills : SlotFile → SlotFile → ℕ → Holding → Type 0
Fills f g at m = (next : Option ℕ) × (hole_in f.defs.slot_length f.defs.rec_ref (bytes_of f.name m) at ≡ Some next) × (g ≡ record f { counts = filled_counts f.defs.slot_length next f.counts })

-- none stands there
abbrev pub LacksHole : SlotFile → ℕ → Holding → Type 0
LacksHole f at m = hole_in f.defs.slot_length f.defs.rec_ref (bytes_of f.name m) at ≡ None

-- a row stands at a position, or none does
abbrev pub HasRow : SlotFile → ℕ → Holding → Type 0
HasRow f at m = is_row f.defs (bytes_of f.name m) at ≡ true

abbrev pub LacksRow : SlotFile → ℕ → Holding → Type 0
LacksRow f at m = is_row f.defs (bytes_of f.name m) at ≡ false

-- the list of deleted slots begins at a place where the file has no slot
abbrev pub LacksFirst : SlotFile → ℕ → Type 0
LacksFirst f p = (f.counts.dellink ≡ Some p) × (is_slot f.defs.slot_length f.counts.length p ≡ false)
