-- The positions at which rows of a dynamic data file stand, as an object notes them.
use Rattle.std.specs.Prelude.{◌≡◌, ℕ, Bool, true, false, cond, List, Option, Some, None, is_some, Result, Ok}
use Rattle.std.specs.List.{list_any}
use Rattle.std.specs.Ordering.{nat_cmp}
use Rattle.std.specs.BTreeMap.{is_at}
use Rattle.myi_base.specs.Holding.{Holding, IfTold, bytes_of}
use Rattle.myi_pack.specs.Packed.{Values}
use Rattle.myi_chain.specs.Readable.{Row}
use Rattle.myi_data.specs.Readable.{readable}
use Rattle.myi_state.specs.State.{StoredRow, TableState, row_at}
use Rattle.myi_state.specs.Changes.{Change, step}
use Rattle.myi_slots.specs.declared.fault.DataFault.{DataFault}
use Rattle.myi_slots.specs.SlotFile.{SlotFile, IsFileOf, IsReply, IsRefusal}

-- the file, and the positions of its rows, once they were looked up
pub record NotedFile : Type 0 where
  pub file : SlotFile
  pub places : Option (List ℕ)

-- a position is among these, as a set finds it
abbrev pub is_among : ℕ → List ℕ → Bool
is_among p ps = list_any (is_at (nat_cmp p)) ps

-- the row of a file stands at a position
abbrev pub begins_at : ℕ → List Row → Bool
begins_at p rows = list_any (λ (r : Row). is_at (nat_cmp p) r.at) rows

-- these are the positions of the readable rows of the file
abbrev pub AreRead : SlotFile → List ℕ → Holding → Type 0
AreRead f ps m = (p : ℕ) → is_among p ps ≡ begins_at p (readable f.defs false (bytes_of f.name m))

-- where positions are noted, they are those of these rows
abbrev pub AreNoted : Option (List ℕ) → List StoredRow → Type 0
AreNoted None rows = Unit {0}
AreNoted (Some ps) rows = (p : ℕ) → is_among p ps ≡ is_some (row_at p rows)

-- the file stands for a state, and what is noted is of that state
abbrev pub IsNotedFileOf : NotedFile → TableState → Holding → Type 0
IsNotedFileOf f s m = IsFileOf f.file s m × AreNoted f.places s.rows

-- behind a step what is noted is of the state then
abbrev pub KeepsNotes : Change → NotedFile → NotedFile → Holding → Type 0
KeepsNotes c f g m = (s : TableState) → IsNotedFileOf f s m → AreNoted g.places (step f.file.defs s c).state.rows

-- a step was made, and what is noted is of the state then
abbrev pub StepsNoted : Change → NotedFile → NotedFile → ℕ → Holding → Holding → Type 0
StepsNoted c f g at m n = (s : TableState) → IsNotedFileOf f s m → ((step f.file.defs s c).reply ≡ Ok at) × IsNotedFileOf g (step f.file.defs s c).state n

-- a refusal is the reply of a step
abbrev pub RefusesNoted : Change → NotedFile → DataFault → Holding → Type 0
RefusesNoted c f e m = (s : TableState) → IsNotedFileOf f s m → IsRefusal (step f.file.defs s c).reply e

-- what is noted then is of each state of which it was
abbrev pub StaysNoted : NotedFile → NotedFile → Holding → Type 0
StaysNoted f g m = (s : TableState) → IsNotedFileOf f s m → AreNoted g.places s.rows

-- what is answered of a row that is read where a file stands for a state
abbrev pub ReadsNoted : NotedFile → ℕ → Result Values DataFault → Holding → Type 0
ReadsNoted f at r m = (s : TableState) → IsNotedFileOf f s m → IsReply at (row_at at s.rows) r

-- where nothing was noted, the positions of the readable rows may be; and else what was noted still is
abbrev pub NotesRead : SlotFile → Holding → Option (List ℕ) → Option (List ℕ) → Type 0
NotesRead f m None None = Unit {0}
NotesRead f m None (Some ps) = AreRead f ps m
NotesRead f m (Some ps) new = new ≡ Some ps

abbrev pub LooksUp : NotedFile → NotedFile → Holding → Type 0
LooksUp f g m = NotesRead f.file m f.places g.places

-- a position was noted, where positions are; or none is noted any more
abbrev pub MayNote : ℕ → Option (List ℕ) → Option (List ℕ) → Type 0
MayNote at old None = Unit {0}
MayNote at None (Some qs) = ⊥
MayNote at (Some ps) (Some qs) = (p : ℕ) → is_among p qs ≡ cond (is_at (nat_cmp at) p) true (is_among p ps)

-- a position is among those that are noted, or is not
abbrev pub HasNoted : ℕ → Bool → Option (List ℕ) → Type 0
HasNoted at is None = ⊥
HasNoted at is (Some ps) = is_among at ps ≡ is

-- where positions are noted, one is no more
abbrev pub MayForget : ℕ → Option (List ℕ) → Option (List ℕ) → Type 0
MayForget at None None = Unit {0}
MayForget at None (Some qs) = ⊥
MayForget at (Some ps) None = ⊥
MayForget at (Some ps) (Some qs) = (p : ℕ) → is_among p qs ≡ cond (is_at (nat_cmp at) p) false (is_among p ps)

-- a position was among those that were noted, or were looked up, and is no more
pub record Forgets (h : Option Holding) (at : ℕ) (f g : NotedFile) : Type 0 where
  pub places : Option (List ℕ)
  pub looked_up : IfTold h (λ m. NotesRead f.file m f.places places)
  pub stood : HasNoted at true places
  pub gone : MayForget at places g.places
