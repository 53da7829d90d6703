-- The steps of a script's lines, and what the lines of a script that may run meet.
use Rattle.std.specs.Prelude.{◌≡◌, ℕ, ◌+◌, ◌≤◌, Bool, true, ◌==◌, List, [], ◌∷◌, map, length, Option, Some, None, option_map, if◌then◌else◌}
use Rattle.std.specs.List.{AllByRecursion, flat_map, find}
use Rattle.myi_defs.specs.declared.types.Defs.{Defs}
use Rattle.myi_data.specs.Keys.{IsKeyNumber}
use Rattle.myi_keys.specs.declared.values.KeySeg.{KeySeg}
use Rattle.myi_pack.specs.Spelling.{fits}
use Rattle.myi_locks.specs.declared.steps.StepKind.{StepKind}
use Rattle.myi_locks.specs.declared.steps.StepKind.TheVariants as kind
use Rattle.myi_locks.specs.declared.steps.Step.{Step}
use Rattle.myi_script.specs.declared.types.Act.{Act}
use Rattle.myi_script.specs.declared.types.Act.TheVariants as act
use Rattle.myi_script.specs.declared.types.Line.{Line}
use Rattle.myi_script.specs.declared.types.Range.{Range}
use Rattle.myi_script.specs.Grammar.{segments_of}
use Rattle.myi_script.specs.Script.{is_end}

-- ---- steps

-- The kind of a statement's step, and of one that takes a lock that of the second. On a MERGE list no insert goes beside reads.
abbrev pub kind_of : Bool → Act → StepKind
kind_of list (act.Insert row) = if list then kind.Change else kind.Insert
kind_of list (act.Update at row) = kind.Change
kind_of list (act.Delete at) = kind.Change
kind_of list act.Scan = kind.Rows
kind_of list (act.Over range) = kind.Rows
kind_of list (act.Lock lock) = kind.Take lock
kind_of list act.Unlock = kind.Unlock
kind_of list act.Stats = kind.Stats
kind_of list act.End = kind.End

-- the kinds of its steps: before a lock is taken, the session's lock is given up
abbrev pub kinds : Bool → Act → List StepKind
kinds list (act.Lock lock) = kind.Release ∷ kind_of list (act.Lock lock) ∷ []
kinds list a = kind_of list a ∷ []

-- steps of these kinds, of a session and a line
abbrev pub steps_with : ℕ → ℕ → List StepKind → List Step
steps_with session line ks = map (λ k. record { session = session; line = line; kind = k }) ks

abbrev pub steps_of_line : Bool → Line → List Step
steps_of_line list l = steps_with l.session l.line (kinds list l.act)

-- the steps of a script on a table, or on a MERGE list
abbrev pub script_steps : Bool → List Line → List Step
script_steps list ls = flat_map (steps_of_line list) ls

-- the statement of a line, by the line's number
abbrev pub act_of : List Line → ℕ → Option Act
act_of ls n = option_map (λ (l : Line). l.act) (find (λ (l : Line). l.line == n) ls)

-- ---- lines of a script that may run

-- the lines' numbers rise, and the first is at least this one
abbrev pub LinesGrow : ℕ → List Line → Type 0
LinesGrow low [] = Unit {0}
LinesGrow low (l ∷ ls) = (low ≤ l.line) × LinesGrow (l.line + 1) ls

-- nothing of a session follows its end
abbrev pub NothingFollows : List Line → Type 0
NothingFollows [] = Unit {0}
NothingFollows (l ∷ ls) =
    (is_end l.act ≡ true → AllByRecursion (λ m. m.session ≡ l.session → ⊥) ls) × NothingFollows ls

-- a row that a statement brings has the form that the definitions ask for
abbrev pub BringsRow : Defs → Act → Type 0
BringsRow d (act.Insert row) = fits d row ≡ true
BringsRow d (act.Update at row) = fits d row ≡ true
BringsRow d a = Unit {0}

-- a bound of a range has all segments of the key of that number
abbrev pub HasAllSegments : Defs → ℕ → Option (List KeySeg) → Type 0
HasAllSegments d k None = Unit {0}
HasAllSegments d k (Some bound) = length bound ≡ length (segments_of d k)

-- a range is one of a key of the table
pub record IsRange (d : Defs) (range : Range) : Type 0 where
  pub key : IsKeyNumber d range.key
  pub from : HasAllSegments d range.key range.from
  pub to : HasAllSegments d range.key range.to

-- what a statement reads by a key is a range
abbrev pub ReadsRange : Defs → Act → Type 0
ReadsRange d (act.Over range) = IsRange d range
ReadsRange d a = Unit {0}

-- the sessions have the numbers 1 to 9
abbrev pub IsSession : ℕ → Type 0
IsSession n = (1 ≤ n) × (n ≤ 9)

-- lines of a script on a table with these definitions that may run: they count from 1
pub record MayRun (d : Defs) (ls : List Line) : Type 0 where
  pub grow : LinesGrow 1 ls
  pub ends : NothingFollows ls
  pub sessions : AllByRecursion (λ (l : Line). IsSession l.session) ls
  pub rows : AllByRecursion (λ (l : Line). BringsRow d l.act) ls
  pub ranges : AllByRecursion (λ (l : Line). ReadsRange d l.act) ls
