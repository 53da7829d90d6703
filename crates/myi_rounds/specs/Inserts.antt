-- What the inserts of a session do and say while others read: each is one at the end of the table, behind those before it.
use Rattle.std.specs.Prelude.{◌≡◌, ◌++◌, ℕ, false, List, [], ◌∷◌, map, option_map, Option, Some, None, Result, Ok, Err}
use Rattle.myi_defs.specs.declared.types.Defs.{Defs}
use Rattle.myi_pack.specs.Packed.{Values}
use Rattle.myi_state.specs.State.{TableState}
use Rattle.myi_state.specs.Changes.{Change, insert_at_end}
use Rattle.myi_table.specs.Folding.{CanFold}
use Rattle.myi_locks.specs.declared.steps.Step.{Step}
use Rattle.myi_locks.specs.declared.steps.StepKind.TheVariants as kind
use Rattle.myi_script.specs.declared.types.Act.{Act}
use Rattle.myi_script.specs.declared.types.Act.TheVariants as act
use Rattle.myi_script.specs.declared.types.Line.{Line}
use Rattle.myi_history.specs.declared.answers.StepAnswer.{StepAnswer}
use Rattle.myi_history.specs.declared.answers.StepAnswer.TheVariants as step
use Rattle.myi_history.specs.Answers.{LineAnswer, answer_on}
use Rattle.myi_history.specs.History.{Opening, ScriptRound, in_table, reads_only, asked_in, accepted_of, stepped_by, changes, state_after}
use Rattle.myi_history.specs.Lines.{act_of}
use Rattle.myi_history.specs.RoundTexts.{answer_of}
use Rattle.myi_history.specs.Text.{reply_said}
use Rattle.myi_snapshots.specs.Appended.{with_rows}
use Rattle.myi_inserter.specs.declared.fault.InsertFault.{InsertFault}
use Rattle.myi_inserter.specs.declared.fault.InsertFault.TheVariants as fault
use Rattle.myi_inserter.specs.declared.inserter.TableInserter.{TableInserter}
use Rattle.myi_inserter.specs.Inserter.{IsInserter}
use Rattle.myi_rounds.specs.declared.inserting.Replied.{Replied}

-- ---- what is asked

-- the row that a statement inserts; another statement inserts none
abbrev pub inserted_row : Option Act → Option Values
inserted_row (Some (act.Insert row)) = Some row
inserted_row (Some other) = None
inserted_row None = None

-- what a step asks of the table
abbrev pub asked_by : List Line → Step → Option Change
asked_by ls x = option_map insert_at_end (inserted_row (act_of ls x.line))

-- ---- what is answered

-- what is told of an insert; what cuts it off, or want of room for words, is no answer
abbrev pub answer_to : Result ℕ InsertFault → Result StepAnswer InsertFault
answer_to (Ok at) = Ok (step.Made at)
answer_to (Err (fault.Duplicate key at)) = Ok (step.Duplicate key at)
answer_to (Err fault.Full) = Ok step.Full
answer_to (Err (fault.NoRoom need free)) = Err (fault.NoRoom need free)
answer_to (Err (fault.Damaged at)) = Err (fault.Damaged at)
answer_to (Err fault.File) = Err fault.File
answer_to (Err fault.Memory) = Err fault.Memory

-- what a line says that was answered, or asked nothing
abbrev pub lines_of : ℕ → Option StepAnswer → List LineAnswer
lines_of n None = []
lines_of n (Some a) = answer_on n (answer_of a) ∷ []

abbrev pub said_of : Replied → LineAnswer
said_of r = answer_on r.line (answer_of r.answer)

-- what steps say one after the other that ask this, where the table is in a state
abbrev pub inserts_said : Defs → (Step → Option Change) → TableState → List Step → List LineAnswer
inserts_said d asked s [] = []
inserts_said d asked s (x ∷ xs) = reply_said in_table d x.line s (asked x) ++ inserts_said d asked (stepped_by d s (asked x)) xs

-- ---- what is done

-- An inserter that had put these rows was asked for a change, or for nothing: it has put the rows that stand then behind those of the base,
-- and that is answered.
pub record IsAnswered (d : Defs) (base : TableState) (rows : List Values) (asked : Option Change) (answer : Option StepAnswer) (i : TableInserter) : Type 0 where
  pub more : List Values
  pub ready : IsInserter i more
  pub put : map insert_at_end more ≡ map insert_at_end rows ++ accepted_of d (with_rows d base rows) asked
  pub state : stepped_by d (with_rows d base rows) asked ≡ with_rows d base more
  pub said : (n : ℕ) → lines_of n answer ≡ reply_said in_table d n (with_rows d base rows) asked
  pub can : CanFold d base rows → CanFold d base more

-- What these steps ask was done, where the table was shared in this base: these rows were put, each of which was accepted behind those before
-- it, and the answers are what the steps say.
pub record HaveInserted (d : Defs) (ls : List Line) (base : TableState) (steps : List Step) (rows : List Values) (replies : List Replied) : Type 0 where
  pub put : changes d (asked_by ls) base steps ≡ map insert_at_end rows
  pub state : state_after d (asked_by ls) base steps ≡ with_rows d base rows
  pub said : map said_of replies ≡ inserts_said d (asked_by ls) base steps
  pub can : CanFold d base rows

-- ---- runs

-- In a round the step is an insert of a session that holds no READ or READ LOCAL, and asks of the table what its line inserts.
pub record InsertsAtEnd (o : Opening) (p : ScriptRound) (x : Step) : Type 0 where
  pub kind : x.kind ≡ kind.Insert
  pub free : reads_only p.locks x.session ≡ false
  pub asked : asked_in o.script p x ≡ asked_by o.script.lines x
