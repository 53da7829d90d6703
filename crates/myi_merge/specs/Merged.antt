-- A MERGE list that is loaded (MySQL Reference Manual, "The MERGE Storage Engine"): its tables in the order of the list, and the
-- states that they stand for.
use Rattle.std.specs.Prelude.{◌≡◌, ◌<◌, ◌≤◌, List, [], ◌∷◌, ◌++◌, length, map, bytes_eq, Option, Some, None}
use Rattle.std.specs.List.{AllByRecursion, IsDistinct}
use Rattle.myi_base.specs.Holding.{Holding, IfTold}
use Rattle.myi_defs.specs.declared.types.Defs.{Defs}
use Rattle.myi_defs.specs.Sound.{IsSound}
use Rattle.myi_keycache.specs.declared.setup.Counters.{Counters}
use Rattle.myi_opening.specs.Names.{rows_file, index_file}
use Rattle.myi_state.specs.State.{TableState}
use Rattle.myi_mergelist.specs.declared.list.InsertMethod.{InsertMethod}
use Rattle.myi_mergelist.specs.MergeList.{most_names}
use Rattle.myi_table.specs.declared.fault.Cause.{Cause}
use Rattle.myi_table.specs.declared.fault.ReadFault.{ReadFault}
use Rattle.myi_table.specs.declared.fault.ReadFault.TheVariants as fault
use Rattle.myi_table.specs.Table.{OpenTable, defs_in, HoldState, IsKept}
use Rattle.myi_table.specs.Counting.{sum_of, no_counts}

-- the tables of a list, and where rows are inserted
pub record OpenMerge : Type 0 where
  pub tables : List OpenTable
  pub method : Option InsertMethod

-- ---- tables that are alike

-- two tables have one row format, the same fields and the same keys; how long their row pointers are is no part of that
pub record IsLike (one other : Defs) : Type 0 where
  pub format : one.format ≡ other.format
  pub fields : one.fields ≡ other.fields
  pub keys : one.keys ≡ other.keys

-- a table is like the first of these, where there is one
abbrev pub IsLikeFirst : List OpenTable → OpenTable → Type 0
IsLikeFirst [] t = Unit {0}
IsLikeFirst (first ∷ others) t = IsLike (defs_in first) (defs_in t)

-- these tables are all like the first
abbrev pub AreAlike : List OpenTable → Type 0
AreAlike [] = Unit {0}
AreAlike (first ∷ others) = AllByRecursion (λ (t : OpenTable). IsLike (defs_in first) (defs_in t)) others

-- a table has sound definitions and a tree for each key, and its two files are those of its name
pub record IsSoundTable (t : OpenTable) : Type 0 where
  pub sound : IsSound (defs_in t)
  pub each : length t.rows.trees.places ≡ length (defs_in t).keys
  pub rows : t.rows.rows.file.name ≡ rows_file t.name
  pub index : t.rows.trees.cache.name ≡ index_file t.name

-- What holds of each list: it has some tables, not too many, of different names, all like the first, each sound.
pub record IsMerge (g : OpenMerge) : Type 0 where
  pub some : 0 < length g.tables
  pub few : length g.tables ≤ most_names
  pub named : IsDistinct bytes_eq (map (λ (t : OpenTable). t.name) g.tables)
  pub alike : AreAlike g.tables
  pub sound : AllByRecursion IsSoundTable g.tables

-- ---- the states of the tables

-- these tables stand for these states, each for its own
abbrev pub HoldEach : List OpenTable → List TableState → Holding → Type 0
HoldEach [] [] m = Unit {0}
HoldEach [] (s ∷ ss) m = ⊥
HoldEach (t ∷ ts) [] m = ⊥
HoldEach (t ∷ ts) (s ∷ ss) m = HoldState t s m × HoldEach ts ss m

-- where files tell what they hold, each table that is not broken stands for a state
abbrev pub AreKept : Option Holding → List OpenTable → Type 0
AreKept told ts = AllByRecursion (IsKept told) ts

-- Where files tell what they hold, and the tables stand for states, this holds of what the files hold and the states.
abbrev pub IfHoldEach : Option Holding → List OpenTable → (Holding → List TableState → Type 0) → Type 0
IfHoldEach told ts P = IfTold told (λ m. (ss : List TableState) → HoldEach ts ss m → P m ss)

-- the tables stand for these states, where files tell what they hold
abbrev pub HoldEachThen : Option Holding → List OpenTable → List TableState → Type 0
HoldEachThen told ts ss = (m : Holding) × (told ≡ Some m) × HoldEach ts ss m

-- the tables stand for the states that they stood for
abbrev pub StillHoldEach : Option Holding → Option Holding → List OpenTable → List OpenTable → Type 0
StillHoldEach told next old new = IfHoldEach told old (λ m ss. HoldEachThen next new ss)

-- of each table, as it was and as it is, this holds
abbrev pub OfEach : List OpenTable → List OpenTable → (OpenTable → OpenTable → Type 0) → Type 0
OfEach [] [] P = Unit {0}
OfEach [] (u ∷ us) P = ⊥
OfEach (t ∷ ts) [] P = ⊥
OfEach (t ∷ ts) (u ∷ us) P = P t u × OfEach ts us P

-- ---- refusals

-- no table is broken
abbrev pub AreWhole : List OpenTable → Type 0
AreWhole ts = AllByRecursion (λ (t : OpenTable). t.broken ≡ None) ts

-- the first table that is broken is so for this cause
pub record FirstBroken (ts : List OpenTable) (by : Cause) : Type 0 where
  pub before : List OpenTable
  pub table : OpenTable
  pub after : List OpenTable
  pub parts : ts ≡ before ++ table ∷ after
  pub whole : AreWhole before
  pub broken : table.broken ≡ Some by

-- a reading is refused for the first broken table, where one is broken, and else for something else
abbrev pub IsRefusedFor : List OpenTable → ReadFault → Type 0
IsRefusedFor ts (fault.Broken by) = FirstBroken ts by
IsRefusedFor ts (fault.Damaged at) = AreWhole ts
IsRefusedFor ts fault.File = AreWhole ts
IsRefusedFor ts fault.Memory = AreWhole ts

-- ---- counters

-- what the tables counted: each count is the sum of theirs, or 2^64 - 1 where that is greater
abbrev pub counted_by : List OpenTable → Counters
counted_by [] = no_counts
counted_by (t ∷ ts) = sum_of (sum_of t.rows.trees.cache.counters t.added) (counted_by ts)
