-- Loading a MERGE list: why it is refused, and what stands then.
use Rattle.std.specs.Prelude.{◌≡◌, ◌≢◌, ◌⊎◌, ℕ, false, List, [], ◌∷◌, ◌++◌, map, codes, string_bytes, Option, Some, None, Err}
use Rattle.myi_base.specs.Holding.{Holding}
use Rattle.myi_opening.specs.declared.fault.TableFile.{TableFile}
use Rattle.myi_opening.specs.Names.{file_of}
use Rattle.myi_keycache.specs.declared.setup.CacheSetup.{CacheSetup}
use Rattle.myi_keycache.specs.Caching.{pages_of}
use Rattle.myi_mergelist.specs.declared.list.InsertMethod.{InsertMethod}
use Rattle.myi_mergelist.specs.declared.list.ListFault.{ListFault}
use Rattle.myi_mergelist.specs.declared.list.ListFault.TheVariants as list
use Rattle.myi_mergelist.specs.MergeList.{IsMergeList, IsNoList}
use Rattle.myi_table.specs.declared.fault.LoadFault.TheVariants as load
use Rattle.myi_table.specs.Table.{OpenTable}
use Rattle.myi_table.specs.Counting.{no_counts}
use Rattle.myi_table.specs.Loading.{table_in, IsLoaded}
use Rattle.myi_merge.specs.declared.fault.MergeFault.{MergeFault}
use Rattle.myi_merge.specs.declared.fault.MergeFault.TheVariants as fault
use Rattle.myi_merge.specs.Merged.{OpenMerge, IsLikeFirst, AreAlike}

-- how a text that is not read is told
abbrev pub of_list : ListFault → MergeFault
of_list list.List = fault.List
of_list list.Memory = fault.Memory

-- ---- the file of the list

abbrev pub list_file : List ℕ → List ℕ
list_file name = name ++ codes ".MRG"

-- the file of the list has these names and this method
pub record IsListIn (name : List ℕ) (members : List (List ℕ)) (method : Option InsertMethod) (m : Holding) : Type 0 where
  pub text : List ℕ
  pub there : m (list_file name) ≡ Some text
  pub list : IsMergeList text members method

-- some text is a list with these names and this method
abbrev pub SomeText : List (List ℕ) → Option InsertMethod → Type 0
SomeText members method = (text : List ℕ) × IsMergeList text members method

-- and these names, whatever the method
abbrev pub SomeNames : List (List ℕ) → Type 0
SomeNames members = (method : Option InsertMethod) × SomeText members method

-- the file of the list has these names, whatever its method
abbrev pub HasMembers : List ℕ → List (List ℕ) → Holding → Type 0
HasMembers name members m = (method : Option InsertMethod) × IsListIn name members method m

abbrev pub HasNoList : List ℕ → Holding → Type 0
HasNoList name m = (text : List ℕ) × (m (list_file name) ≡ Some text) × IsNoList text

-- the list is refused so: its file is missing, or no list
abbrev pub RefusesList : List ℕ → MergeFault → Holding → Type 0
RefusesList name (fault.Absent file) m = (string_bytes file ≡ list_file name) × (m (list_file name) ≡ None)
RefusesList name fault.List m = HasNoList name m
RefusesList name (fault.Differs table) m = ⊥
RefusesList name (fault.Def table def) m = ⊥
RefusesList name (fault.Foreign table) m = ⊥
RefusesList name fault.File m = Unit {0}
RefusesList name fault.Memory m = Unit {0}

-- and whatever files tell: the file that is missing is that of the list, and no table is told
abbrev pub TellsOfList : List ℕ → MergeFault → Type 0
TellsOfList name (fault.Absent file) = string_bytes file ≡ list_file name
TellsOfList name fault.List = Unit {0}
TellsOfList name (fault.Differs table) = ⊥
TellsOfList name (fault.Def table def) = ⊥
TellsOfList name (fault.Foreign table) = ⊥
TellsOfList name fault.File = Unit {0}
TellsOfList name fault.Memory = Unit {0}

-- ---- the tables

-- these are the tables of these names
abbrev pub EachLoaded : List (List ℕ) → List OpenTable → Holding → Type 0
EachLoaded [] [] m = Unit {0}
EachLoaded [] (t ∷ ts) m = ⊥
EachLoaded (name ∷ names) [] m = ⊥
EachLoaded (name ∷ names) (t ∷ ts) m = IsLoaded name t m × EachLoaded names ts m

-- a table as loading leaves it: its key cache has this setup, keeps no page and counted nothing, the table is neither changed nor
-- broken, and nothing is counted beside
pub record IsFresh (setup : CacheSetup) (t : OpenTable) : Type 0 where
  pub has : t.setup ≡ setup
  pub unchanged : t.changed ≡ false
  pub whole : t.broken ≡ None
  pub pages : pages_of t.rows.trees.cache ≡ []
  pub counted : t.rows.trees.cache.counters ≡ no_counts
  pub added : t.added ≡ no_counts

-- the table of this name is refused so, whatever stands before it in the list
abbrev pub StopsAtMember : List ℕ → MergeFault → Holding → Type 0
StopsAtMember name (fault.Absent file) m = (kind : TableFile) × (string_bytes file ≡ file_of kind name) × (table_in name m ≡ Err (load.Absent kind))
StopsAtMember name fault.List m = ⊥
StopsAtMember name (fault.Differs table) m = ⊥
StopsAtMember name (fault.Def table def) m = (string_bytes table ≡ name) × (table_in name m ≡ Err (load.Def def))
StopsAtMember name (fault.Foreign table) m = (string_bytes table ≡ name) × (table_in name m ≡ Err load.Foreign)
StopsAtMember name fault.File m = Unit {0}
StopsAtMember name fault.Memory m = Unit {0}

-- and whatever files tell: what is told is of the table of this name
abbrev pub TellsOfMember : List ℕ → MergeFault → Type 0
TellsOfMember name (fault.Absent file) = (kind : TableFile) × (string_bytes file ≡ file_of kind name)
TellsOfMember name fault.List = ⊥
TellsOfMember name (fault.Differs table) = string_bytes table ≡ name
TellsOfMember name (fault.Def table def) = string_bytes table ≡ name
TellsOfMember name (fault.Foreign table) = string_bytes table ≡ name
TellsOfMember name fault.File = Unit {0}
TellsOfMember name fault.Memory = Unit {0}

-- the table of this name is there, and is not like the first of these, which stand before it
pub record DiffersAt (name : List ℕ) (before : List OpenTable) (m : Holding) : Type 0 where
  pub table : OpenTable
  pub loaded : IsLoaded name table m
  pub differs : IsLikeFirst before table → ⊥

abbrev pub StopsBehind : List OpenTable → List ℕ → MergeFault → Holding → Type 0
StopsBehind before name (fault.Differs table) m = (string_bytes table ≡ name) × DiffersAt name before m
StopsBehind before name f m = StopsAtMember name f m

-- One of these names is refused so, and the tables of the names before it are there and alike: so it is the first. Of a call that was
-- cut off nothing is said here.
pub record FirstStopped (names : List (List ℕ)) (f : MergeFault) (m : Holding) : Type 0 where
  pub before : List (List ℕ)
  pub name : List ℕ
  pub after : List (List ℕ)
  pub parts : names ≡ before ++ name ∷ after
  pub tables : List OpenTable
  pub loaded : EachLoaded before tables m
  pub alike : AreAlike tables
  pub stopped : StopsBehind tables name f m

abbrev pub StopsAmong : List (List ℕ) → MergeFault → Holding → Type 0
StopsAmong names fault.File m = Unit {0}
StopsAmong names fault.Memory m = Unit {0}
StopsAmong names f m = FirstStopped names f m

-- `Differs` is told of no name that stands first
abbrev pub MayDiffer : List (List ℕ) → MergeFault → Type 0
MayDiffer before (fault.Absent file) = Unit {0}
MayDiffer before fault.List = Unit {0}
MayDiffer before (fault.Differs table) = before ≢ []
MayDiffer before (fault.Def table def) = Unit {0}
MayDiffer before (fault.Foreign table) = Unit {0}
MayDiffer before fault.File = Unit {0}
MayDiffer before fault.Memory = Unit {0}

-- Whatever files tell: what is told is of the table of one of these names.
pub record TellsOfOne (names : List (List ℕ)) (f : MergeFault) : Type 0 where
  pub before : List (List ℕ)
  pub name : List ℕ
  pub after : List (List ℕ)
  pub parts : names ≡ before ++ name ∷ after
  pub tells : TellsOfMember name f
  pub behind : MayDiffer before f

-- of a call that was cut off nothing is said
abbrev pub TellsAmong : List (List ℕ) → MergeFault → Type 0
TellsAmong names fault.File = Unit {0}
TellsAmong names fault.Memory = Unit {0}
TellsAmong names f = TellsOfOne names f

-- ---- the list as a whole

-- the list that was loaded is that of the file, and its tables are those of its names
pub record IsLoadedMerge (name : List ℕ) (g : OpenMerge) (m : Holding) : Type 0 where
  pub members : List (List ℕ)
  pub list : IsListIn name members g.method m
  pub tables : EachLoaded members g.tables m
  pub names : map (λ (t : OpenTable). t.name) g.tables ≡ members

-- the list is refused for its file, or else for the first table that is
abbrev pub RefusesMerge : List ℕ → MergeFault → Holding → Type 0
RefusesMerge name f m = RefusesList name f m ⊎ ((members : List (List ℕ)) × HasMembers name members m × StopsAmong members f m)

-- Whatever files tell: what is told is of the list, or of the table of one of the names of some list.
abbrev pub TellsOf : List ℕ → MergeFault → Type 0
TellsOf name f = TellsOfList name f ⊎ ((members : List (List ℕ)) × SomeNames members × TellsAmong members f)
