-- What a script is run on: a table, or the tables of a MERGE list. When it stands for a state, which is that of the table that takes the
-- rows beside the states of the others; and what calls on it leave.
use Rattle.std.specs.Prelude.{◌≡◌, ◌<◌, ◌≤◌, ◌+◌, ℕ, zero, suc, true, List, [], ◌∷◌, length, slice_get, Option, Some, None}
use Rattle.myi_base.specs.Holding.{Holding, IfTold}
use Rattle.myi_defs.specs.declared.types.Defs.{Defs}
use Rattle.myi_defs.specs.declared.types.RowFormat.TheVariants.{Static}
use Rattle.myi_keycache.specs.declared.setup.Counters.{Counters}
use Rattle.myi_state.specs.State.{TableState}
use Rattle.myi_script.specs.declared.types.Line.{Line}
use Rattle.myi_history.specs.History.{Taking, in_table, in_member, in_none, Beside, in_list, Statements}
use Rattle.myi_table.specs.Table as table
use Rattle.myi_table.specs.Table.{OpenTable}
use Rattle.myi_table.specs.Counting.{sum_of}
use Rattle.myi_merge.specs.Merged.{OpenMerge, HoldEach, AreKept, AreWhole, OfEach, counted_by}
use Rattle.myi_table.specs.Closing.{IsClosed}
use Rattle.myi_merge.specs.Changing.{ChangesTheirOwn, EachClosed, KeepEachRows}
use Rattle.myi_merge.specs.Changing as list
use Rattle.myi_shell.specs.Carrying as one
pub use Rattle.myi_share.specs.Taking.{AreNotBelow}
use Rattle.myi_shell.specs.declared.target.Target.{Target}
use Rattle.myi_shell.specs.declared.target.Target.TheVariants.{One, Many}

-- ---- the table that takes the rows

-- its number among the tables of a list, from 0; where none does, the first stands for it
abbrev pub index_by : Option ℕ → ℕ
index_by None = 0
index_by (Some i) = i

abbrev pub index_in : OpenMerge → ℕ
index_in g = index_by (list.target g)

abbrev pub taking_by : Option ℕ → Taking
taking_by None = in_none
taking_by (Some i) = in_member (i + 1)

abbrev pub taking : Target → Taking
taking (One t) = in_table
taking (Many g) = taking_by (list.target g)

-- where there is no table
abbrev pub no_defs : Defs
no_defs = record { format = Static; fields = []; keys = []; rec_ref = 0; key_ref = 0; row_length = 0; slot_length = 0; raw = [] }

abbrev pub defs_at : Option OpenTable → Defs
defs_at None = no_defs
defs_at (Some t) = table.defs_in t

-- its definitions
abbrev pub defs_in : Target → Defs
defs_in (One t) = table.defs_in t
defs_in (Many g) = defs_at (slice_get g.tables (index_in g))

-- a script of these lines on a target
abbrev pub script_on : Target → List Line → Statements
script_on t ls = record { lines = ls; takes = taking t }

-- ---- what it stands for

-- the state of the table that takes the rows, and those of the tables of a list beside it
pub record Standing : Type 0 where
  pub table : TableState
  pub beside : Beside

-- the table stands for another state, and the others stay
abbrev pub moved : Standing → TableState → Standing
moved s t = record { table = t; beside = s.beside }

-- where the files hold this, the table that takes the rows stands for its state, and the tables before and behind it stand for theirs
abbrev pub HoldState : Target → Standing → Holding → Type 0
HoldState (One t) s m = table.HoldState t s.table m
HoldState (Many g) s m = HoldEach g.tables (in_list s.beside s.table) m × (length s.beside.front ≡ index_in g)

abbrev pub HoldsThen : Option Holding → Target → Standing → Type 0
HoldsThen told t s = (m : Holding) × (told ≡ Some m) × HoldState t s m

-- where files tell what they hold, and the target stands so, this holds of what the files hold and how it stands
abbrev pub IfHolds : Option Holding → Target → (Holding → Standing → Type 0) → Type 0
IfHolds told t P = IfTold told (λ m. (s : Standing) → HoldState t s m → P m s)

-- the target stands as it stood
abbrev pub StillHolds : Option Holding → Option Holding → Target → Target → Type 0
StillHolds told next old new = IfHolds told old (λ m s. HoldsThen next new s)

-- where files tell what they hold, each table that is not broken stands for a state
abbrev pub IsKept : Option Holding → Target → Type 0
IsKept told (One t) = table.IsKept told t
IsKept told (Many g) = AreKept told g.tables

-- no table is broken
abbrev pub IsWhole : Target → Type 0
IsWhole (One t) = t.broken ≡ None
IsWhole (Many g) = AreWhole g.tables

-- what the key caches of all tables counted, and what was added
abbrev pub counted_in : Target → Counters
counted_in (One t) = sum_of t.rows.trees.cache.counters t.added
counted_in (Many g) = counted_by g.tables

-- ---- what calls leave

-- the same table: its name and setup, the header that was read, its definitions; more may be counted beside
pub record IsSameTable (old new : OpenTable) : Type 0 where
  pub name : new.name ≡ old.name
  pub setup : new.setup ≡ old.setup
  pub header : new.header ≡ old.header
  pub lost : new.lost ≡ old.lost
  pub defs : table.defs_in new ≡ table.defs_in old

-- what a round leaves of each table
abbrev pub IsSame : Target → Target → Type 0
IsSame (One t) (One u) = IsSameTable t u
IsSame (One t) (Many h) = ⊥
IsSame (Many g) (One u) = ⊥
IsSame (Many g) (Many h) = (h.method ≡ g.method) × OfEach g.tables h.tables table.IsSame

-- files of other names than those of the tables hold what they held
abbrev pub ChangesItsOwn : Option Holding → Option Holding → Target → Type 0
ChangesItsOwn told next (One t) = table.ChangesItsOwn told next t
ChangesItsOwn told next (Many g) = ChangesTheirOwn told next g.tables

-- the target is the same one, and files of other names hold what they held; counters do not fall
pub record IsCarried (told next : Option Holding) (old new : Target) : Type 0 where
  pub kept : IsKept next new
  pub same : IsSame old new
  pub defs : defs_in new ≡ defs_in old
  pub takes : taking new ≡ taking old
  pub others : ChangesItsOwn told next old
  pub counted : AreNotBelow (counted_in old) (counted_in new)

-- a table has its name, its data file holds what it held, and it is marked as changed where it was before
pub record IsUntouchedOne (told next : Option Holding) (old new : OpenTable) : Type 0 where
  pub name : new.name ≡ old.name
  pub untouched : one.IsUntouched told next old new

-- so it is with all tables
abbrev pub IsUntouched : Option Holding → Option Holding → Target → Target → Type 0
IsUntouched told next (One t) (One u) = IsUntouchedOne told next t u
IsUntouched told next (One t) (Many h) = ⊥
IsUntouched told next (Many g) (One u) = ⊥
IsUntouched told next (Many g) (Many h) = (h.method ≡ g.method) × OfEach g.tables h.tables (IsUntouchedOne told next)

-- the table of this number is touched by changes, and the others are untouched
abbrev pub TouchesAt : Option Holding → Option Holding → ℕ → ℕ → ℕ → List OpenTable → List OpenTable → Type 0
TouchesAt told next before now i [] [] = Unit {0}
TouchesAt told next before now i [] (u ∷ us) = ⊥
TouchesAt told next before now i (t ∷ ts) [] = ⊥
TouchesAt told next before now zero (t ∷ ts) (u ∷ us) = one.IsTouchedBy told next t u before now × OfEach ts us (IsUntouchedOne told next)
TouchesAt told next before now (suc i) (t ∷ ts) (u ∷ us) = IsUntouchedOne told next t u × TouchesAt told next before now i ts us

-- So many changes were accepted before, and so many now: where there are no more of them all tables are untouched, and else the one that
-- takes the rows is marked as changed, and the others are untouched.
abbrev pub IsTouchedBy : Option Holding → Option Holding → Target → Target → ℕ → ℕ → Type 0
IsTouchedBy told next (One t) (One u) before now = one.IsTouchedBy told next t u before now
IsTouchedBy told next (One t) (Many h) before now = ⊥
IsTouchedBy told next (Many g) (One u) before now = ⊥
IsTouchedBy told next (Many g) (Many h) before now = (before ≤ now) × (h.method ≡ g.method) × TouchesAt told next before now (index_in g) g.tables h.tables

-- ---- closing

-- the files of each table stand for its state, as closing leaves them
abbrev pub IsShut : Target → Standing → Holding → Type 0
IsShut (One t) s n = IsClosed t s.table n
IsShut (Many g) s n = EachClosed g.tables (in_list s.beside s.table) n

-- the data file of each table holds what it held
abbrev pub KeepsRows : Target → Holding → Holding → Type 0
KeepsRows (One t) m n = table.KeepsRows t.name m n
KeepsRows (Many g) m n = KeepEachRows g.tables m n
