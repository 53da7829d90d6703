-- What the run of a script on a table, or on the tables of a MERGE list, prints, answers and leaves. The text of a script has free
-- numbers (what its reads find while others insert, what key caches counted), so it is a relation.
use Rattle.std.specs.Prelude.{◌≡◌, ◌⊎◌, ◌-◌, ℕ, true, take, List, [], ◌∷◌, ◌++◌, length, map, codes, Option, Some, None, Result, Ok, Err}
use Rattle.std.specs.List.{AllByRecursion}
use Rattle.myi_base.specs.Holding.{Holding, IfTold, bytes_of}
use Rattle.myi_base.specs.Output.{Appends, AppendsPart}
use Rattle.myi_defs.specs.declared.types.Defs.{Defs}
use Rattle.myi_defs.specs.declared.types.DefFault.{DefFault}
use Rattle.myi_defs.specs.Elsewhere.{AgreeOutsideState}
use Rattle.myi_deftext.specs.Text.{lines}
use Rattle.myi_header.specs.declared.state.State.{State}
use Rattle.myi_header.specs.Layout.{first_page_of}
use Rattle.myi_header.specs.StateOf.{state_of, has_mark}
use Rattle.myi_opening.specs.declared.fault.TableFault.{TableFault}
use Rattle.myi_opening.specs.declared.fault.TableFault.TheVariants as fault
use Rattle.myi_opening.specs.Names.{rows_file, index_file, file_of}
use Rattle.myi_opening.specs.Opening as opening
use Rattle.myi_pair.specs.declared.finding.Finding.{Finding}
use Rattle.myi_pair.specs.Clean.{IsClean}
use Rattle.myi_check.specs.Checking.{findings_in}
use Rattle.myi_state.specs.State.{TableState}
use Rattle.myi_state.specs.Changes.{Change, replay}
use Rattle.myi_tablestate.specs.Standing.{StandForTable}
use Rattle.myi_keyedrows.specs.Files.{defs_with}
use Rattle.myi_script.specs.Script.{IsScript, IsFirstOutside}
use Rattle.myi_history.specs.History.{Taking, in_table, in_member, in_none, is_list, Opening, ScriptRound, history_in, history}
use Rattle.myi_history.specs.Text.{Numbers, shell_text}
use Rattle.myi_history.specs.Bounds.{AreWithin}
use Rattle.myi_table.specs.Table.{KeepsRows}
use Rattle.myi_table.specs.Closing.{changed_bits}
use Rattle.myi_mergelist.specs.declared.list.InsertMethod.{InsertMethod}
use Rattle.myi_mergelist.specs.MergeList.{names}
use Rattle.myi_merge.specs.Loading.{list_file, IsListIn, HasNoList}
use Rattle.myi_merge.specs.Merged.{IsLike}
use Rattle.myi_merge.specs.Changing.{target_by, IsFileOfOne}
use Rattle.myi_shell.specs.Targets.{taking_by}
use Rattle.myi_shell.specs.Idle.{KeepsIdle}
use Rattle.myi_shell.specs.Running.{IsCutIn}
use Rattle.myisamkit.specs.declared.status.Status.{Status}
use Rattle.myisamkit.specs.declared.status.Status.TheVariants as status
use Rattle.myisamkit.specs.Statuses.{IsFault}
use Rattle.myisamkit.specs.Lines.{absent_line, refused_line, reason_of, finding_line, text_line}
use Rattle.myisamkit.specs.Dumps.{reason}

-- ---- what a script is run on

-- by the file of the list
abbrev pub tables_by : List ℕ → Option (List ℕ) → List (List ℕ)
tables_by name None = name ∷ []
tables_by name (Some text) = names text

-- the names of the tables that a script is run on: those in the list of this name, where there is one, and else this name
abbrev pub tables_in : List ℕ → Holding → List (List ℕ)
tables_in name m = tables_by name (m (list_file name))

-- there is no list of this name, and the script is run on a table
abbrev pub IsOnTable : List ℕ → Taking → Holding → Type 0
IsOnTable name takes m = (m (list_file name) ≡ None) × (takes ≡ in_table)

-- there is a list of this name, of which the table that its method names takes the rows that are inserted
abbrev pub IsOnList : List ℕ → Taking → Holding → Type 0
IsOnList name takes m = (method : Option InsertMethod) × IsListIn name (tables_in name m) method m × (takes ≡ taking_by (target_by method (length (tables_in name m))))

-- a script is run on these tables so
abbrev pub IsOn : List ℕ → Taking → Holding → Type 0
IsOn name takes m = IsOnTable name takes m ⊎ IsOnList name takes m

-- where the table that takes the rows stands among them, from 0; where none does, the first stands for it
abbrev pub place_of : Taking → ℕ
place_of in_table = 0
place_of (in_member number) = number - 1
place_of in_none = 0

-- ---- before the script

-- why no script is read: what is said, and the status
pub record Refusal : Type 0 where
  pub said : List ℕ
  pub status : Status

abbrev pub refusal : List ℕ → Status → Refusal
refusal said s = record { said = said; status = s }

abbrev pub or_else : Option (List ℕ) → Option (List ℕ) → Option (List ℕ)
or_else None later = later
or_else (Some said) later = Some said

-- what is said of the first of these names of which something is said
abbrev pub first_said : (List ℕ → Option (List ℕ)) → List (List ℕ) → Option (List ℕ)
first_said say [] = None
first_said say (name ∷ names) = or_else (say name) (first_said say names)

abbrev pub missing : List ℕ → Option (List ℕ) → Option (List ℕ)
missing file None = Some (absent_line file)
missing file (Some bytes) = None

-- what is said where a file of a table is absent: the index file goes first
abbrev pub absent_in : Holding → List ℕ → Option (List ℕ)
absent_in m name = or_else (missing (index_file name) (m (index_file name))) (missing (rows_file name) (m (rows_file name)))

-- what is said of a table that is there, if something is: that its definitions are refused, or what is found first
abbrev pub said_of : List ℕ → Result (List Finding) DefFault → Option (List ℕ)
said_of name (Err f) = Some (refused_line name (reason_of f))
said_of name (Ok []) = None
said_of name (Ok (f ∷ fs)) = Some (finding_line name f ++ reason name f)

-- the faults that cut a check off are none of what files hold
abbrev pub said_by : List ℕ → Result (List Finding) TableFault → Option (List ℕ)
said_by name (Err (fault.Absent f)) = Some (absent_line (file_of f name))
said_by name (Err (fault.Def f)) = said_of name (Err f)
said_by name (Err fault.File) = None
said_by name (Err fault.Memory) = None
said_by name (Ok looked) = said_of name (Ok looked)

-- what is said of the table of this name
abbrev pub wrong_in : Holding → List ℕ → Option (List ℕ)
wrong_in m name = said_by name (findings_in name m)

-- Files of tables that are absent go first, then that of the script, then what is wrong with a table.
abbrev pub text_by : List ℕ → Option (List ℕ) → Option (List ℕ) → Option (List ℕ) → Result (List ℕ) Refusal
text_by script (Some absent) wrong text = Err (refusal absent status.Absent)
text_by script None wrong None = Err (refusal (absent_line script) status.Absent)
text_by script None (Some said) (Some text) = Err (refusal said status.Refused)
text_by script None None (Some text) = Ok text

-- the same by the names of the tables
abbrev pub text_among : List (List ℕ) → List ℕ → Holding → Result (List ℕ) Refusal
text_among names script m = text_by script (first_said (absent_in m) names) (first_said (wrong_in m) names) (m script)

-- the text of the script, where nothing is wrong with the tables, or why it is not read
unfoldable pub text_in : List ℕ → List ℕ → Holding → Result (List ℕ) Refusal
text_in name script m = text_among (tables_in name m) script m

-- ---- the script

-- the table of a name is this one
abbrev pub IsTable : List ℕ → opening.Table → Holding → Type 0
IsTable name t m = opening.table_in (index_file name) (rows_file name) m ≡ Ok t

-- a table before a script: its name, its files, and the state that they stand for
pub record Member : Type 0 where
  pub name : List ℕ
  pub table : opening.Table
  pub state : TableState

pub record IsMember (m : Holding) (k : Member) : Type 0 where
  pub is : IsTable k.name k.table m
  pub stands : StandForTable k.table.defs k.state k.table.rows k.table.index

-- they have one row format, the same fields and the same keys
abbrev pub AreAlike : List Member → Type 0
AreAlike [] = Unit {0}
AreAlike (first ∷ others) = AllByRecursion (λ (k : Member). IsLike first.table.defs k.table.defs) others

-- the tables that a script is run on: those before the one that takes the rows, that one, and those behind it
pub record Members : Type 0 where
  pub front : List Member
  pub taker : Member
  pub back : List Member

abbrev pub all_of : Members → List Member
all_of ks = ks.front ++ ks.taker ∷ ks.back

abbrev pub states_of : List Member → List TableState
states_of ks = map (λ (k : Member). k.state) ks

-- the definitions of the first table, by which the lines of a script are read
abbrev pub first_defs : List Member → Member → Defs
first_defs [] k = k.table.defs
first_defs (first ∷ others) k = first.table.defs

-- these are the tables of this name, which are alike
pub record AreMembers (name : List ℕ) (takes : Taking) (ks : Members) (m : Holding) : Type 0 where
  pub on : IsOn name takes m
  pub names : map (λ (k : Member). k.name) (all_of ks) ≡ tables_in name m
  pub each : AllByRecursion (IsMember m) (all_of ks)
  pub alike : AreAlike (all_of ks)
  pub place : length ks.front ≡ place_of takes

-- How a script begins, with this setting of concurrent inserts: it has a text in the grammar, and there is nothing wrong with its tables.
pub record Begins (setting : ℕ) (name script : List ℕ) (m : Holding) (o : Opening) : Type 0 where
  pub text : List ℕ
  pub read : text_in name script m ≡ Ok text
  pub members : Members
  pub are : AreMembers name o.script.takes members m
  pub lines : IsScript (is_list o.script.takes) (first_defs members.front members.taker) text o.script.lines
  pub defs : o.defs ≡ members.taker.table.defs
  pub base : o.base ≡ members.taker.state
  pub beside : o.beside ≡ record { front = states_of members.front; back = states_of members.back }
  pub inserts : o.setting ≡ setting

-- ---- why no script is run

-- there is a list of this name that is none
pub record IsNoList (name : List ℕ) (m : Holding) (said : List ℕ) (s : Status) : Type 0 where
  pub none : HasNoList name m
  pub says : said ≡ refused_line name (codes "list")
  pub ends : s ≡ status.Refused

-- the script is not read
pub record IsNotRead (name script : List ℕ) (m : Holding) (said : List ℕ) (s : Status) : Type 0 where
  pub takes : Taking
  pub on : IsOn name takes m
  pub why : text_in name script m ≡ Err (refusal said s)

-- this is the table of the first of these names
abbrev pub IsFirst : List (List ℕ) → opening.Table → Holding → Type 0
IsFirst [] t m = ⊥
IsFirst (name ∷ names) t m = IsTable name t m

-- this is the table of one of these names
abbrev pub IsOneOf : List (List ℕ) → opening.Table → Holding → Type 0
IsOneOf [] t m = ⊥
IsOneOf (name ∷ names) t m = IsTable name t m ⊎ IsOneOf names t m

-- a table of the list is not like the first one
pub record Differ (name : List ℕ) (m : Holding) : Type 0 where
  pub first : opening.Table
  pub is_first : IsFirst (tables_in name m) first m
  pub other : opening.Table
  pub is_other : IsOneOf (tables_in name m) other m
  pub unlike : IsLike first.defs other.defs → ⊥

-- nothing is wrong with each table of the list, but they are not alike
pub record AreUnlike (name script : List ℕ) (m : Holding) (said : List ℕ) (s : Status) : Type 0 where
  pub takes : Taking
  pub on : IsOn name takes m
  pub text : List ℕ
  pub read : text_in name script m ≡ Ok text
  pub differ : Differ name m
  pub says : said ≡ refused_line name (codes "differs")
  pub ends : s ≡ status.Refused

-- a line of the text is the first that is not in the grammar
pub record IsOutside (name script : List ℕ) (m : Holding) (said : List ℕ) (s : Status) : Type 0 where
  pub text : List ℕ
  pub read : text_in name script m ≡ Ok text
  pub takes : Taking
  pub members : Members
  pub are : AreMembers name takes members m
  pub line : ℕ
  pub first : IsFirstOutside (is_list takes) (first_defs members.front members.taker) (lines text) line
  pub says : said ≡ text_line script line
  pub ends : s ≡ status.Refused

-- no line of a script is done, which is said with this status
abbrev pub IsRefused : List ℕ → List ℕ → Holding → List ℕ → Status → Type 0
IsRefused name script m said s = IsNoList name m said s ⊎ (IsNotRead name script m said s ⊎ (AreUnlike name script m said s ⊎ IsOutside name script m said s))

-- ---- what a run comes to

-- the script is run, and this is its text, with numbers within their bounds
pub record IsRun (setting : ℕ) (name script : List ℕ) (m : Holding) (said : List ℕ) (s : Status) : Type 0 where
  pub begin : Opening
  pub begins : Begins setting name script m begin
  pub numbers : List Numbers
  pub within : AreWithin begin numbers
  pub says : said ≡ shell_text begin numbers
  pub ends : s ≡ status.Ok

-- this may be said, with this status, by a run that nothing cuts off
abbrev pub ShellComesTo : ℕ → List ℕ → List ℕ → Holding → List ℕ → Status → Type 0
ShellComesTo setting name script m said s = IsRefused name script m said s ⊎ IsRun setting name script m said s

-- ---- what is written

-- such a text was written behind what was there
abbrev pub ShellSaid : ℕ → List ℕ → List ℕ → Status → Option (List ℕ) → Option (List ℕ) → Holding → Type 0
ShellSaid setting name script s old new m = (said : List ℕ) × ShellComesTo setting name script m said s × IfTold old (Appends said new)

-- nothing was written, or a first part of such a text
abbrev pub ShellSaidPart : ℕ → List ℕ → List ℕ → Option (List ℕ) → Option (List ℕ) → Holding → Type 0
ShellSaidPart setting name script old new m = (new ≡ old) ⊎ ((said : List ℕ) × (s : Status) × ShellComesTo setting name script m said s × IfTold old (AppendsPart said new))

-- by the status
abbrev pub ShellSays : ℕ → List ℕ → List ℕ → Option (List ℕ) → Option (List ℕ) → Status → Holding → Type 0
ShellSays setting name script old new s m = (IsFault s × ShellSaidPart setting name script old new m) ⊎ ((IsFault s → ⊥) × ShellSaid setting name script s old new m)

-- ---- the files

-- the changed bits of a table behind these changes: as they were where there is none, and else with those that a change sets
abbrev pub bits_behind : List Change → ℕ → ℕ
bits_behind [] bits = bits
bits_behind (c ∷ cs) bits = changed_bits bits

-- the header of an index file
abbrev pub header_in : Defs → List ℕ → List ℕ
header_in d index = take (first_page_of d) index

-- what a script leaves of a table's state as it was: how many programs have the table open, the key that its rows were sorted by, the
-- next number that a row would get of itself, which keys are in use, when it was repaired, and what follows these
pub record KeepsRest (old new : State) : Type 0 where
  pub open_count : new.open_count ≡ old.open_count
  pub sortkey : new.sortkey ≡ old.sortkey
  pub auto_increment : new.auto_increment ≡ old.auto_increment
  pub key_map : new.key_map ≡ old.key_map
  pub recover_time : new.recover_time ≡ old.recover_time
  pub rest : new.rest ≡ old.rest

-- A header has the bytes of these definitions outside its state, the mark, the changed bits behind these changes of a table whose index
-- file was this, and of the state of that one what is no number of rows, pages or bytes, and no root.
pub record IsHeaderBehind (d : Defs) (was : List ℕ) (changes : List Change) (header : List ℕ) : Type 0 where
  pub elsewhere : AgreeOutsideState d.raw header
  pub mark : has_mark d header ≡ true
  pub bits : (state_of d header).changed ≡ bits_behind changes (state_of d was).changed
  pub kept : KeepsRest (state_of d was) (state_of d header)

-- Behind these changes the two files of a table are a clean pair that stands for what they lead to, and the index file has such a
-- header. With no change the data file holds what it held.
pub record StandsBehind (m n : Holding) (changes : List Change) (k : Member) : Type 0 where
  pub index : List ℕ
  pub there : n (index_file k.name) ≡ Some index
  pub stand : StandForTable (defs_with k.table.defs index) (replay k.table.defs k.state changes) (bytes_of (rows_file k.name) n) index
  pub clean : IsClean (bytes_of (rows_file k.name) n) index
  pub header : IsHeaderBehind k.table.defs k.table.index changes (header_in k.table.defs index)
  pub rows : changes ≡ [] → KeepsRows k.name m n

-- the table that takes the rows stands behind these changes, and each other one behind none
pub record AreLeft (ks : Members) (changes : List Change) (m n : Holding) : Type 0 where
  pub taker : StandsBehind m n changes ks.taker
  pub front : AllByRecursion (StandsBehind m n []) ks.front
  pub back : AllByRecursion (StandsBehind m n []) ks.back

-- files of other names than those of the tables hold what they held
abbrev pub KeepsOthers : List ℕ → Holding → Holding → Type 0
KeepsOthers name m n = (q : List ℕ) → (IsFileOfOne (tables_in name m) q → ⊥) → n q ≡ m q

-- the script was run: the tables stand behind its history, and other files stay
pub record ShellDone (setting : ℕ) (name script : List ℕ) (m n : Holding) : Type 0 where
  pub begin : Opening
  pub begins : Begins setting name script m begin
  pub left : AreLeft begins.members (history begin) m n
  pub others : KeepsOthers name m n

-- a script that may be run is there: files of other names stay, and of its tables the data file of each that takes no rows of it
pub record IsCutOff (setting : ℕ) (name script : List ℕ) (m n : Holding) : Type 0 where
  pub begin : Opening
  pub begins : Begins setting name script m begin
  pub others : KeepsOthers name m n
  pub idle : KeepsIdle begin.script (tables_in name m) m n

-- it is cut off: nothing was changed, or a script was run
abbrev pub ShellCutOff : ℕ → List ℕ → List ℕ → Holding → Holding → Type 0
ShellCutOff setting name script m n = (n ≡ m) ⊎ IsCutOff setting name script m n

-- The files at a status. Where no script is run nothing is changed.
abbrev pub ShellLeaves : ℕ → List ℕ → List ℕ → Status → Holding → Holding → Type 0
ShellLeaves setting name script status.Ok m n = ShellDone setting name script m n
ShellLeaves setting name script status.FileFault m n = ShellCutOff setting name script m n
ShellLeaves setting name script status.SinkFault m n = KeepsOthers name m n
ShellLeaves setting name script status.Memory m n = ShellCutOff setting name script m n
ShellLeaves setting name script status.Findings m n = n ≡ m
ShellLeaves setting name script status.Usage m n = n ≡ m
ShellLeaves setting name script status.Refused m n = n ≡ m
ShellLeaves setting name script status.Absent m n = n ≡ m

-- ---- the files where the output fails

-- It failed at the lines of this round: all text of the rounds before it was written, and of its own a first part or nothing. The
-- tables stand behind the changes up to that round's end.
pub record ShellCutIn (setting : ℕ) (name script : List ℕ) (old new : Option (List ℕ)) (m n : Holding) : Type 0 where
  pub begin : Opening
  pub begins : Begins setting name script m begin
  pub front : List ScriptRound
  pub last : ScriptRound
  pub cut : IsCutIn begin front last old new
  pub left : AreLeft begins.members (history_in begin (front ++ last ∷ [])) m n

-- no script is run
abbrev pub IsNotRun : List ℕ → List ℕ → Holding → Type 0
IsNotRun name script m = (said : List ℕ) × (s : Status) × IsRefused name script m said s

-- it failed so, or where no script is run, and then nothing is changed
abbrev pub ShellFails : ℕ → List ℕ → List ℕ → Option (List ℕ) → Option (List ℕ) → Holding → Holding → Type 0
ShellFails setting name script old new m n = (IsNotRun name script m × (n ≡ m)) ⊎ ShellCutIn setting name script old new m n
