-- A row that is inserted in a MERGE list: in which table, and what stands then. And the tables when the list is closed.
use Rattle.std.specs.Prelude.{◌≡◌, ◌≢◌, ◌⊎◌, ◌+◌, ◌-◌, ℕ, zero, suc, List, [], ◌∷◌, ◌++◌, length, map, slice_get, slice_set, Option, Some, None, Result, Ok, Err}
use Rattle.std.specs.List.{AllByRecursion}
use Rattle.myi_base.specs.Holding.{Holding, IfTold, Told}
use Rattle.myi_opening.specs.Names.{rows_file, index_file}
use Rattle.myi_state.specs.State.{TableState}
use Rattle.myi_state.specs.Changes.{Change}
use Rattle.myi_tablestate.specs.Keyed.{keyed_step}
use Rattle.myi_mergelist.specs.declared.list.InsertMethod.{InsertMethod}
use Rattle.myi_mergelist.specs.declared.list.InsertMethod.TheVariants.{First, Last}
use Rattle.myi_table.specs.declared.fault.Cause.{Cause}
use Rattle.myi_table.specs.declared.fault.ChangeFault.{ChangeFault}
use Rattle.myi_table.specs.declared.fault.ChangeFault.TheVariants as fault
use Rattle.myi_table.specs.Faults.{fault_count, broken_by_fault}
use Rattle.myi_table.specs.Table.{OpenTable, defs_in, IfHolds, Makes, Refuses, IfReply, IsBroken, IsSame, KeepsRows, ChangesItsOwn}
use Rattle.myi_table.specs.Closing.{IsClosed}
use Rattle.myi_merge.specs.declared.fault.MergeInsertFault.{MergeInsertFault}
use Rattle.myi_merge.specs.declared.fault.MergeInsertFault.TheVariants as insertion
use Rattle.myi_merge.specs.Merged.{OpenMerge, AreWhole, IfHoldEach, HoldEachThen, StillHoldEach}

-- the table that takes the rows, by its number from 0
abbrev pub target_by : Option InsertMethod → ℕ → Option ℕ
target_by None count = None
target_by (Some First) count = Some 0
target_by (Some Last) count = Some (count - 1)

abbrev pub target : OpenMerge → Option ℕ
target g = target_by g.method (length g.tables)

-- at most the table that takes the rows is another one: the others, in their places, and the method are as they were
pub record ChangesTarget (old new : OpenMerge) : Type 0 where
  pub method : new.method ≡ old.method
  pub many : length new.tables ≡ length old.tables
  pub others : (i : ℕ) → target old ≢ Some i → slice_get new.tables i ≡ slice_get old.tables i

-- of the table that takes the rows, as it was and as it is, this holds
abbrev pub OfTarget : OpenMerge → OpenMerge → (OpenTable → OpenTable → Type 0) → Type 0
OfTarget old new P = (i : ℕ) (t u : OpenTable) → target old ≡ Some i → slice_get old.tables i ≡ Some t → slice_get new.tables i ≡ Some u → P t u

-- why that table is broken after an insertion with this answer: as before, or for what cut the insertion off
abbrev pub broken_behind : {T : Type 0} → Result T MergeInsertFault → ℕ → Option Cause → Option Cause
broken_behind (Ok done) faults before = before
broken_behind (Err insertion.NoInsertMethod) faults before = before
broken_behind (Err (insertion.Change f)) faults before = broken_by_fault f (fault_count faults) before

-- the fault is the reply of a step, and this holds
abbrev pub IfReplied : MergeInsertFault → Type 0 → Type 0
IfReplied insertion.NoInsertMethod P = Unit {0}
IfReplied (insertion.Change f) P = IfReply f P

-- One table was changed so, the one that takes the rows: of it this holds before and after, and only its two files are changed. The
-- others, and the list, are as before.
pub record ChangesOne (told next : Option Holding) (old new : OpenMerge) (P : ℕ → OpenTable → OpenTable → Type 0) : Type 0 where
  pub index : ℕ
  pub takes : target old ≡ Some index
  pub before : OpenTable
  pub stood : slice_get old.tables index ≡ Some before
  pub after : OpenTable
  pub tables : new.tables ≡ slice_set old.tables index after
  pub method : new.method ≡ old.method
  pub same : IsSame before after
  pub others : ChangesItsOwn told next before
  pub holds : P index before after

-- the states where the table of that number, from 0, makes a step
abbrev pub stepped : Change → ℕ → List OpenTable → List TableState → List TableState
stepped c i [] ss = ss
stepped c i (t ∷ ts) [] = []
stepped c zero (t ∷ ts) (s ∷ ss) = (keyed_step (defs_in t) s c).state ∷ ss
stepped c (suc i) (t ∷ ts) (s ∷ ss) = s ∷ stepped c i ts ss

-- The row was put into the table of that number, counted from 1, at that position, as a step of that table. Where all tables stand for
-- states they stand for them still, but that one for the state behind the step.
pub record IsInserted (c : Change) (told next : Option Holding) (old new : OpenMerge) (answer : ℕ × ℕ) (index : ℕ) (before after : OpenTable) : Type 0 where
  pub table : answer.0 ≡ index + 1
  pub made : Makes c told next before after answer.1
  pub states : IfHoldEach told old.tables (λ m ss. HoldEachThen next new.tables (stepped c index old.tables ss))

abbrev pub Inserts : Change → Option Holding → Option Holding → OpenMerge → OpenMerge → ℕ × ℕ → Type 0
Inserts c told next old new answer = ChangesOne told next old new (IsInserted c told next old new answer)

-- The table refused the row as a call on it alone does: as a reply of its step, or for what broke it, with nothing done. After a reply
-- all tables stand for the states that they stood for, and the data file of that table is as before.
pub record IsRefusal (c : Change) (told next : Option Holding) (old new : OpenMerge) (f : ChangeFault) (before after : OpenTable) : Type 0 where
  pub reply : Refuses c told before f
  pub first : IsBroken before after told next f
  pub still : IfReply f (StillHoldEach told next old.tables new.tables)
  pub rows : IfReply f (Told told next (KeepsRows before.name))

abbrev pub RefusesRow : Change → Option Holding → Option Holding → OpenMerge → OpenMerge → ChangeFault → Type 0
RefusesRow c told next old new f = ChangesOne told next old new (λ index. IsRefusal c told next old new f)

-- ---- closing

-- the files of each table stand for its state
abbrev pub EachClosed : List OpenTable → List TableState → Holding → Type 0
EachClosed [] [] m = Unit {0}
EachClosed [] (s ∷ ss) m = ⊥
EachClosed (t ∷ ts) [] m = ⊥
EachClosed (t ∷ ts) (s ∷ ss) m = IsClosed t s m × EachClosed ts ss m

-- the table refuses to be closed: for what broke it, or, where it is not broken, as the call was cut off
abbrev pub RefusesClosing : OpenTable → ChangeFault → Type 0
RefusesClosing t (fault.Broken by) = t.broken ≡ Some by
RefusesClosing t (fault.NoRow at) = ⊥
RefusesClosing t (fault.Duplicate key at) = ⊥
RefusesClosing t fault.Full = ⊥
RefusesClosing t (fault.Damaged at) = ⊥
RefusesClosing t fault.File = t.broken ≡ None
RefusesClosing t fault.Memory = t.broken ≡ None

-- where the table stood for a state its two files stand for it, as closing leaves them
abbrev pub ClosesOne : Option Holding → Option Holding → OpenTable → Type 0
ClosesOne told next t = IfHolds told t (λ m s. IfTold next (IsClosed t s))

-- both files of a table hold what they held
pub record Keeps (t : OpenTable) (m n : Holding) : Type 0 where
  pub rows : n (rows_file t.name) ≡ m (rows_file t.name)
  pub index : n (index_file t.name) ≡ m (index_file t.name)

-- and those of all these tables
abbrev pub KeepEach : List OpenTable → Holding → Holding → Type 0
KeepEach [] m n = Unit {0}
KeepEach (t ∷ ts) m n = Keeps t m n × KeepEach ts m n

-- the data file of each of these tables holds what it held
abbrev pub KeepEachRows : List OpenTable → Holding → Holding → Type 0
KeepEachRows [] m n = Unit {0}
KeepEachRows (t ∷ ts) m n = KeepsRows t.name m n × KeepEachRows ts m n

-- the table that refuses to be closed leaves its files where it is broken
abbrev pub IfBroken : ChangeFault → Type 0 → Type 0
IfBroken (fault.Broken by) P = P
IfBroken (fault.NoRow at) P = Unit {0}
IfBroken (fault.Duplicate key at) P = Unit {0}
IfBroken fault.Full P = Unit {0}
IfBroken (fault.Damaged at) P = Unit {0}
IfBroken fault.File P = Unit {0}
IfBroken fault.Memory P = Unit {0}

-- Closing stops at the first table that refuses it: those before it are closed, and their data files hold what they held, as its own does
-- and both files of those behind it. What its index file holds is free where it was not broken.
pub record StopsAtTable (told next : Option Holding) (ts : List OpenTable) (f : ChangeFault) : Type 0 where
  pub before : List OpenTable
  pub table : OpenTable
  pub after : List OpenTable
  pub parts : ts ≡ before ++ table ∷ after
  pub whole : AreWhole before
  pub refuses : RefusesClosing table f
  pub closed : AllByRecursion (ClosesOne told next) before
  pub rows : Told told next (KeepEachRows before)
  pub behind : Told told next (KeepEach after)
  pub kept : Told told next (KeepsRows table.name)
  pub nothing : IfBroken f (Told told next (Keeps table))

-- a file is one of those of the tables of these names
abbrev pub IsFileOfOne : List (List ℕ) → List ℕ → Type 0
IsFileOfOne [] q = ⊥
IsFileOfOne (name ∷ names) q = ((q ≡ rows_file name) ⊎ (q ≡ index_file name)) ⊎ IsFileOfOne names q

-- files of other names than those of the tables hold what they held
abbrev pub KeepsOtherFiles : List OpenTable → Holding → Holding → Type 0
KeepsOtherFiles ts m n = (q : List ℕ) → (IsFileOfOne (map (λ (t : OpenTable). t.name) ts) q → ⊥) → n q ≡ m q

abbrev pub ChangesTheirOwn : Option Holding → Option Holding → List OpenTable → Type 0
ChangesTheirOwn told next ts = Told told next (KeepsOtherFiles ts)

-- a file is the index file of one of the tables of these names
abbrev pub IsIndexOfOne : List (List ℕ) → List ℕ → Type 0
IsIndexOfOne [] q = ⊥
IsIndexOfOne (name ∷ names) q = (q ≡ index_file name) ⊎ IsIndexOfOne names q

-- files of other names than the index files of the tables hold what they held
abbrev pub KeepsAllButIndexes : List OpenTable → Holding → Holding → Type 0
KeepsAllButIndexes ts m n = (q : List ℕ) → (IsIndexOfOne (map (λ (t : OpenTable). t.name) ts) q → ⊥) → n q ≡ m q

abbrev pub ChangesIndexes : Option Holding → Option Holding → List OpenTable → Type 0
ChangesIndexes told next ts = Told told next (KeepsAllButIndexes ts)
