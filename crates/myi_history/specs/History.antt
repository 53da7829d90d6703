-- The rounds of a script on a table, and its history: the changes that the table accepts, round by round. In a round at most one
-- session changes the table, so the history depends on nothing else than how the script begins. On a MERGE list the table is the one
-- that takes the rows: the history is that table's, and it is empty where none does.
use Rattle.std.specs.Prelude.{ℕ, zero, suc, ◌+◌, Bool, true, false, ◌&&◌, ◌||◌, not, is_some, List, [], ◌∷◌, ◌++◌, length, fold, Option, Some, None, if◌then◌else◌}
use Rattle.std.specs.List.{flat_map}
use Rattle.myi_defs.specs.declared.types.Defs.{Defs}
use Rattle.myi_dellist.specs.Standing.{first_or}
use Rattle.myi_state.specs.State.{TableState}
use Rattle.myi_state.specs.Changes.{Change, insert, insert_at_end, delete, update}
use Rattle.myi_tablestate.specs.Keyed.{keyed_step, if_made}
use Rattle.myi_locks.specs.declared.steps.Step.{Step}
use Rattle.myi_locks.specs.declared.steps.Round.{Round}
use Rattle.myi_locks.specs.Steps.{writes_rows}
use Rattle.myi_locks.specs.Sessions.{holds_read, holds_local}
use Rattle.myi_locks.specs.Rounds.{LockState, next_round, has_steps}
use Rattle.myi_locks.specs.Done.{steps_of, advanced, held, is_together}
use Rattle.myi_locks.specs.Script.{opening}
use Rattle.myi_locks.specs.Laws.{steps_left}
use Rattle.myi_script.specs.declared.types.Act.{Act}
use Rattle.myi_script.specs.declared.types.Act.TheVariants as act
use Rattle.myi_script.specs.declared.types.Line.{Line}
use Rattle.myi_history.specs.Lines.{act_of, script_steps}

-- the table that takes the rows of inserts: the only one; that of this number of a MERGE list, counted from 1; or none of a list
pub data Taking : Type 0 where
  in_table : Taking
  in_member : ℕ → Taking
  in_none : Taking

abbrev pub is_list : Taking → Bool
is_list in_table = false
is_list (in_member number) = true
is_list in_none = true

-- the states of the tables of a list before and behind the one that takes the rows
pub record Beside : Type 0 where
  pub front : List TableState
  pub back : List TableState

-- the states of all tables of a list
abbrev pub in_list : Beside → TableState → List TableState
in_list b s = b.front ++ s ∷ b.back

-- the lines of a script, and which table takes the rows that they insert
pub record Statements : Type 0 where
  pub lines : List Line
  pub takes : Taking

-- How a script begins: the definitions of its table, its lines, the state of the table, and the setting of concurrent inserts. On a
-- list the table is the one that takes the rows, or the first where none does, and others stand beside it.
pub record Opening : Type 0 where
  pub defs : Defs
  pub script : Statements
  pub base : TableState
  pub beside : Beside
  pub setting : ℕ

-- A slot or block of the table is deleted. On a list no insert goes beside reads, so that is not asked.
abbrev pub has_hole : Taking → TableState → Bool
has_hole in_table s = is_some (first_or s.space.holes None)
has_hole (in_member number) s = false
has_hole in_none s = false

-- ---- what is asked of the table

-- what a statement asks; an insert of a round of kind Together is one at the end
abbrev pub table_change : Bool → Option Act → Option Change
table_change together (Some (act.Insert row)) = Some (if together then insert_at_end row else insert row)
table_change together (Some (act.Update at row)) = Some (update at row)
table_change together (Some (act.Delete at)) = Some (delete at)
table_change together (Some other) = None
table_change together None = None

-- of a list only inserts ask something
abbrev pub list_change : Option Act → Option Change
list_change (Some (act.Insert row)) = Some (insert row)
list_change (Some other) = None
list_change None = None

abbrev pub change_of : Taking → Bool → Option Act → Option Change
change_of in_table together a = table_change together a
change_of (in_member number) together a = list_change a
change_of in_none together a = None

-- the session holds READ or READ LOCAL
abbrev pub reads_only : LockState → ℕ → Bool
reads_only r n = holds_read (held r n) || holds_local (held r n)

-- what a step asks; a session that holds READ or READ LOCAL asks nothing
abbrev pub asks : Statements → LockState → Bool → Step → Option Change
asks ls r together x =
    if writes_rows x.kind && not (reads_only r x.session) then change_of ls.takes together (act_of ls.lines x.line) else None

-- ---- what it accepts

abbrev pub accepted_of : Defs → TableState → Option Change → List Change
accepted_of d s None = []
accepted_of d s (Some c) = if_made c [] (keyed_step d s c).reply

abbrev pub stepped_by : Defs → TableState → Option Change → TableState
stepped_by d s None = s
stepped_by d s (Some c) = (keyed_step d s c).state

-- the changes that are accepted of steps, one after the other
abbrev pub changes : Defs → (Step → Option Change) → TableState → List Step → List Change
changes d asked s [] = []
changes d asked s (x ∷ xs) = accepted_of d s (asked x) ++ changes d asked (stepped_by d s (asked x)) xs

-- the table behind them
abbrev pub state_after : Defs → (Step → Option Change) → TableState → List Step → TableState
state_after d asked s [] = s
state_after d asked s (x ∷ xs) = state_after d asked (stepped_by d s (asked x)) xs

-- ---- rounds

-- a round: the locks and the table before it, and how many changes were accepted before it
pub record ScriptRound : Type 0 where
  pub locks : LockState
  pub state : TableState
  pub before : ℕ
  pub round : Round

-- what its steps ask
abbrev pub asked_in : Statements → ScriptRound → Step → Option Change
asked_in ls p = asks ls p.locks (is_together p.round)

abbrev pub changes_in : Opening → ScriptRound → List Change
changes_in o p = changes o.defs (asked_in o.script p) p.state (steps_of p.round)

-- the round that comes next
abbrev pub round_from : Taking → LockState → TableState → ℕ → ScriptRound
round_from t r s n = record { locks = r; state = s; before = n; round = next_round r (has_hole t s) }

-- the table behind a round
abbrev pub state_behind : Opening → ScriptRound → TableState
state_behind o p = state_after o.defs (asked_in o.script p) p.state (steps_of p.round)

-- how many changes were accepted up to its end
abbrev pub number_behind : Opening → ScriptRound → ℕ
number_behind o p = p.before + length (changes_in o p)

-- the rounds from these locks and this table on; there are no more than steps
abbrev pub rounds : Opening → ℕ → LockState → TableState → ℕ → List ScriptRound
rounds o zero r s n = []
rounds o (suc fuel) r s n =
    if has_steps r
    then (let p : ScriptRound = round_from o.script.takes r s n in
    p ∷ rounds o fuel (advanced r p.round) (state_behind o p) (number_behind o p))
    else []

-- the locks before the first round
abbrev pub first_locks : Opening → LockState
first_locks o = opening o.setting (script_steps (is_list o.script.takes) o.script.lines)

-- the rounds of a script
unfoldable pub rounds_of : Opening → List ScriptRound
rounds_of o = rounds o (steps_left (first_locks o).sessions) (first_locks o) o.base 0

abbrev pub history_in : Opening → List ScriptRound → List Change
history_in o ps = flat_map (changes_in o) ps

-- the history of a script
abbrev pub history : Opening → List Change
history o = history_in o (rounds_of o)

-- the locks behind rounds that are done one after the other
abbrev pub locks_behind : LockState → List ScriptRound → LockState
locks_behind r ps = fold (λ q p. advanced q p.round) r ps
