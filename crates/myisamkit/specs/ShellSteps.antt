-- What the code finds of a script and its tables, step by step.
use Rattle.std.specs.Prelude.{◌≡◌, ◌⊎◌, ℕ, Bool, true, false, List, Option, Some, None, Result, Ok, Err, Vec, map, slice_get, string_bytes}
use Rattle.std.specs.List.{AllByRecursion}
use Rattle.std.specs.declared.alloc.Global.{Global}
use Rattle.myi_base.specs.Holding.{Holding}
use Rattle.myi_defs.specs.declared.types.Defs.{Defs}
use Rattle.myi_defs.specs.declared.types.DefFault.{DefFault}
use Rattle.myi_pair.specs.declared.finding.Finding.{Finding}
use Rattle.myi_script.specs.declared.types.Line.{Line}
use Rattle.myi_script.specs.Script.{IsScript}
use Rattle.myi_history.specs.History.{is_list}
use Rattle.myi_history.specs.Lines.{MayRun}
use Rattle.myi_table.specs.Table.{OpenTable, defs_in}
use Rattle.myi_table.specs.Loading.{IsLoaded}
use Rattle.myi_merge.specs.Loading.{list_file, HasMembers, HasNoList, IsLoadedMerge}
use Rattle.myi_merge.specs.Merged.{IsMerge}
use Rattle.myi_shell.specs.declared.target.Target.{Target}
use Rattle.myi_shell.specs.declared.target.Target.TheVariants.{One, Many}
use Rattle.myi_shell.specs.Targets.{defs_at, taking, IsWhole}
use Rattle.myi_shell.specs.Targets as targets
use Rattle.myisamkit.specs.declared.status.Status.{Status}
use Rattle.myisamkit.specs.declared.status.Status.TheVariants as status
use Rattle.myisamkit.specs.declared.shell_text.Read.{Read}
use Rattle.myisamkit.specs.declared.shell_text.Read.TheVariants as read
use Rattle.myisamkit.specs.declared.shell_text.Tables.{Tables}
use Rattle.myisamkit.specs.declared.shell_ready.Found.{Found}
use Rattle.myisamkit.specs.declared.shell_ready.Found.TheVariants as found
use Rattle.myisamkit.specs.Shells.{Refusal, refusal, tables_in, text_in, Differ, IsRefused}

-- ---- before the script

-- whether the tables are those of a list
abbrev pub IsListed : Bool → List ℕ → Holding → Type 0
IsListed true name m = HasMembers name (tables_in name m) m
IsListed false name m = m (list_file name) ≡ None

-- these are the names of the tables that a script is run on, or there is a list that is none
abbrev pub AreTables : List ℕ → Option Tables → Holding → Type 0
AreTables name None m = HasNoList name m
AreTables name (Some t) m = (map (λ s. string_bytes s) t.names.items ≡ tables_in name m) × IsListed t.list name m

-- a refusal has a status of its own
abbrev pub IsRefusal : Status → Type 0
IsRefusal s = (s ≡ status.Refused) ⊎ (s ≡ status.Absent)

-- what was read is this text of the script, or why it is not read
abbrev pub IsRead : Result (List ℕ) Refusal → Read → Type 0
IsRead r (read.Refused s line) = r ≡ Err (refusal (string_bytes line) s)
IsRead r (read.Text text) = r ≡ Ok text.items

abbrev pub IsPlainRead : Read → Type 0
IsPlainRead (read.Refused s line) = IsRefusal s
IsPlainRead (read.Text text) = Unit {0}

-- what a check found, as a list
abbrev pub looked_at : Result (Vec Finding Global) DefFault → Result (List Finding) DefFault
looked_at (Ok found) = Ok found.items
looked_at (Err f) = Err f

-- ---- the tables

-- the definitions of the first table, by which lines are read
abbrev pub lines_defs : Target → Defs
lines_defs (One t) = defs_in t
lines_defs (Many g) = defs_at (slice_get g.tables 0)

-- no table is marked as changed
abbrev pub AreUnchanged : Target → Type 0
AreUnchanged (One t) = t.changed ≡ false
AreUnchanged (Many g) = AllByRecursion (λ (t : OpenTable). t.changed ≡ false) g.tables

-- what holds of each list
abbrev pub IsSoundList : Target → Type 0
IsSoundList (One t) = Unit {0}
IsSoundList (Many g) = IsMerge g

-- it is a list where a list was asked for; as loading leaves it, no table is broken or changed
pub record IsFresh (list : Bool) (t : Target) : Type 0 where
  pub kind : is_list (taking t) ≡ list
  pub whole : IsWhole t
  pub unchanged : AreUnchanged t
  pub sound : IsSoundList t

-- what was loaded are the tables of this name
abbrev pub IsTarget : List ℕ → Target → Holding → Type 0
IsTarget name (One t) m = (m (list_file name) ≡ None) × IsLoaded name t m × (t.name ≡ name)
IsTarget name (Many g) m = IsLoadedMerge name g m

-- or the tables of the list are not alike
abbrev pub IsLoadedOn : List ℕ → Option Target → Holding → Type 0
IsLoadedOn name None m = Differ name m
IsLoadedOn name (Some t) m = IsTarget name t m

-- nothing is wrong with the tables that were loaded, and the text of the script says these lines
pub record IsReady (name script : List ℕ) (t : Target) (said : List Line) (m : Holding) : Type 0 where
  pub text : List ℕ
  pub read : text_in name script m ≡ Ok text
  pub lines : IsScript (is_list (taking t)) (lines_defs t) text said
  pub loaded : IsTarget name t m

-- a script with these lines may run on these tables
pub record IsRunnable (t : Target) (said : List Line) : Type 0 where
  pub list : Bool
  pub fresh : IsFresh list t
  pub may : MayRun (targets.defs_in t) said

-- ---- before the run

abbrev pub IsFound : List ℕ → List ℕ → Found → Holding → Type 0
IsFound name script (found.Refused s line) m = IsRefused name script m (string_bytes line) s
IsFound name script (found.Ready t said) m = IsReady name script t said.lines m

abbrev pub IsPlain : Found → Type 0
IsPlain (found.Refused s line) = IsRefusal s
IsPlain (found.Ready t said) = IsRunnable t said.lines
