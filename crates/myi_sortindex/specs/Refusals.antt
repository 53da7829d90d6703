-- Why the pages of an index file are not sorted, and what is left then.
use Rattle.std.specs.Prelude.{◌≡◌, ◌⊎◌, ℕ, List, [], ◌∷◌, Option, None, Result, Ok, Err}
use Rattle.myi_base.specs.Holding.{Holding, IfTold, Told}
use Rattle.myi_opening.specs.declared.fault.TableFault.{TableFault}
use Rattle.myi_opening.specs.declared.fault.TableFault.TheVariants as table
use Rattle.myi_opening.specs.Names.{rows_file, index_file}
use Rattle.myi_opening.specs.Opening.{Table}
use Rattle.myi_opening.specs.Opening as opening
use Rattle.myi_pair.specs.declared.finding.Finding.{Finding}
use Rattle.myi_pair.specs.Findings.{findings}
use Rattle.myi_repair.specs.Faults.{RoseAtMost}
use Rattle.myi_sortindex.specs.declared.fault.SortFault.{SortFault}
use Rattle.myi_sortindex.specs.declared.fault.SortFault.TheVariants as sort

-- the fault that one of opening the table is
abbrev pub sort_fault : TableFault → SortFault
sort_fault (table.Absent f) = sort.Absent f
sort_fault (table.Def f) = sort.Def f
sort_fault table.File = sort.File
sort_fault table.Memory = sort.Memory

-- by what is wrong with its files: the first thing is told
abbrev pub clean_by : Table → List Finding → Result Table SortFault
clean_by t [] = Ok t
clean_by t (found ∷ others) = Err (sort.Damaged found)

-- by the table that was opened, or why it was not
abbrev pub table_by : Result Table TableFault → Result Table SortFault
table_by (Err f) = Err (sort_fault f)
table_by (Ok t) = clean_by t (findings t.defs t.rows t.index)

-- the table of this name, with whose files nothing is wrong, or why it is refused
unfoldable pub table_in : List ℕ → Holding → Result Table SortFault
table_in name m = table_by (opening.table_in (index_file name) (rows_file name) m)

-- the table is refused for this reason
abbrev pub Refuses : List ℕ → SortFault → Holding → Type 0
Refuses name fault m = table_in name m ≡ Err fault

-- it is refused for this reason, and nothing is changed
pub record IsRefused (name : List ℕ) (fault : SortFault) (old new : Option Holding) : Type 0 where
  pub reason : IfTold old (Refuses name fault)
  pub same : new ≡ old

-- a fault that is no refusal of the table
abbrev pub CutsOff : SortFault → Type 0
CutsOff fault = (fault ≡ sort.File) ⊎ (fault ≡ sort.Memory)

-- how many faults of the files an answer tells of
abbrev pub faults_told : SortFault → ℕ
faults_told (sort.Absent f) = 0
faults_told (sort.Def f) = 0
faults_told (sort.Damaged f) = 0
faults_told sort.File = 1
faults_told sort.Memory = 0

-- nothing changed, or no file has the working file's name
abbrev pub Clears : List ℕ → Holding → Holding → Type 0
Clears working m n = (n ≡ m) ⊎ (n working ≡ None)

-- Where no more calls failed than the error tells of, while the files' count of faults rose from the one number to the other,
-- the working file is not left.
abbrev pub IsCleared : List ℕ → Option Holding → Option Holding → ℕ → ℕ → SortFault → Type 0
IsCleared working old new before now fault = RoseAtMost (faults_told fault) before now → Told old new (Clears working)
