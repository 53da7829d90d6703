-- The tables that take no rows of a script: their data files stay, however it ends.
use Rattle.std.specs.Prelude.{◌≡◌, ◌≢◌, ◌⊎◌, ◌-◌, ℕ, Bool, false, List, [], ◌∷◌, map, slice_get, Option, Some, None}
use Rattle.std.specs.List.{AllByRecursion}
use Rattle.myi_base.specs.Holding.{Holding}
use Rattle.myi_script.specs.declared.types.Act.{Act}
use Rattle.myi_script.specs.declared.types.Line.{Line}
use Rattle.myi_history.specs.History.{Taking, in_table, in_member, in_none, Statements, change_of}
use Rattle.myi_table.specs.Table.{OpenTable, KeepsRows}
use Rattle.myi_shell.specs.declared.target.Target.{Target}
use Rattle.myi_shell.specs.declared.target.Target.TheVariants.{One, Many}
use Rattle.myi_shell.specs.Targets.{taking, script_on}

-- the number, from 0, of the table that takes rows, where one does
abbrev pub place_in : Taking → Option ℕ
place_in in_table = Some 0
place_in (in_member number) = Some (number - 1)
place_in in_none = None

-- no line asks a change of that table
abbrev pub AsksNothing : Statements → Type 0
AsksNothing ls = AllByRecursion (λ (l : Line). change_of ls.takes false (Some l.act) ≡ None) ls.lines

-- of the tables of these names, the data file of each that takes no rows holds what it held, and where nothing is asked that of each
abbrev pub KeepsRowsBut : Taking → Type 0 → List (List ℕ) → Holding → Holding → Type 0
KeepsRowsBut takes Nothing names m n = (i : ℕ) (name : List ℕ) → slice_get names i ≡ Some name → (place_in takes ≢ Some i) ⊎ Nothing → KeepsRows name m n

-- the data file of each table that takes no rows of such a script holds what it held
abbrev pub KeepsIdle : Statements → List (List ℕ) → Holding → Holding → Type 0
KeepsIdle ls names m n = KeepsRowsBut ls.takes (AsksNothing ls) names m n

-- ---- of a target

abbrev pub names_of : Target → List (List ℕ)
names_of (One t) = t.name ∷ []
names_of (Many g) = map (λ (t : OpenTable). t.name) g.tables

-- what a script of these lines leaves of its tables
abbrev pub LeavesIdle : Target → List Line → Holding → Holding → Type 0
LeavesIdle t ls m n = KeepsIdle (script_on t ls) (names_of t) m n

-- what a row leaves that is inserted
abbrev pub LeavesRow : Target → Holding → Holding → Type 0
LeavesRow t m n = KeepsRowsBut (taking t) ⊥ (names_of t) m n

-- what a statement leaves of them
abbrev pub LeavesUnasked : Target → Bool → Act → Holding → Holding → Type 0
LeavesUnasked t together a m n = KeepsRowsBut (taking t) (change_of (taking t) together (Some a) ≡ None) (names_of t) m n
