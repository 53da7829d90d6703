-- The inserts of a session in a round of kind Together, as a job that owns the inserter of the shared table: what holds of it, and what its
-- calls leave.
use Rattle.std.specs.Prelude.{◌≡◌, ◌+◌, ◌≤◌, ℕ, List, take, length, Option}
use Rattle.myi_adapters.specs.declared.reader_files.ReaderFiles.{ReaderFiles}
use Rattle.myi_adapters.specs.TwoReaders.{told_by}
use Rattle.myi_defs.specs.declared.types.Defs.{Defs}
use Rattle.myi_pack.specs.Packed.{Values}
use Rattle.myi_state.specs.State.{TableState}
use Rattle.myi_keyedrows.specs.declared.keyed_rows.KeyedRows.{KeyedRows}
use Rattle.myi_keyedrows.specs.KeyedRows.{HoldTable, IfHold}
use Rattle.myi_tail.specs.Seats.{Appending}
use Rattle.myi_locks.specs.declared.steps.Step.{Step}
use Rattle.myi_script.specs.declared.types.Line.{Line}
use Rattle.myi_history.specs.Lines.{MayRun}
use Rattle.myi_snapshots.specs.Known.{known_rows, values_of}
use Rattle.myi_inserter.specs.declared.file_inserter.Inserter.{Inserter}
use Rattle.myi_inserter.specs.declared.inserter.TableInserter.{TableInserter}
use Rattle.myi_inserter.specs.Inserter.{IsInserter, IsSameInserter}
use Rattle.myi_rounds.specs.declared.inserting.Replied.{Replied}
use Rattle.myi_rounds.specs.Inserts.{HaveInserted}

-- the rows that an inserter has put: those that its words spell
abbrev pub rows_put : TableInserter → List Values
rows_put i = values_of i.defs (known_rows i.defs i.appender.words)

-- the inserter: its definitions, the object on the two files, their reader objects, the appender, the number of changes before the sharing, and
-- the rows that it has put; the lines of the script; the steps of the run, and how many are done; and what they answered
pub record Inserts (R : Type 0) : Type 0 where
  pub defs : Defs
  pub base : KeyedRows
  pub files : ReaderFiles R
  pub appender : Appending
  pub number : ℕ
  pub rows : List Values
  pub lines : List Line
  pub steps : List Step
  pub done : ℕ
  pub replies : List Replied

-- a job of these parts
abbrev pub job_of : {R : Type 0} → Inserter R → List Line → List Step → ℕ → List Replied → Inserts R
job_of i ls steps done replies = record {
  defs = i.table.defs;
  base = i.table.rows;
  files = i.files;
  appender = i.table.appender;
  number = i.table.number;
  rows = rows_put i.table;
  lines = ls;
  steps = steps;
  done = done;
  replies = replies;
}

-- what the steps ask that are done was done
abbrev pub HasInserted : {R : Type 0} → Inserts R → TableState → Type 0
HasInserted j base = HaveInserted j.defs j.lines base (take j.done j.steps) j.rows j.replies

-- the inserter has put its rows and no others, the lines are those of a script that may run, and no more steps are done than there are
pub record IsInsertJob (i : TableInserter) (ls : List Line) (steps : List Step) (done : ℕ) : Type 0 where
  pub ready : IsInserter i (rows_put i)
  pub lines : MayRun i.defs ls
  pub within : done ≤ length steps

-- how many calls failed of two reader objects
abbrev pub faults_of : {R : Type 0} → (R → ℕ) → ReaderFiles R → ℕ
faults_of faults files = faults files.rows.reader + faults files.index.reader

-- an inserter for the same table in the same sharing; its objects tell the same, and it stands for each state that it stood for
pub record InsertsOn {R : Type 0} (shows : R → Option (List ℕ)) (old new : Inserter R) : Type 0 where
  pub same : IsSameInserter old.table new.table
  pub holds : told_by shows new.files ≡ told_by shows old.files
  pub still : IfHold (told_by shows old.files) old.table.rows (λ m own base. HoldTable new.table.rows own base m)

-- The job has gone on: its inserter is one for the same table in the same sharing, which stands for each state that it stood for, and what its
-- steps ask was done for each base for which it was, and for which the inserter stands.
pub record GoesOn {R : Type 0} (shows : R → Option (List ℕ)) (old new : Inserts R) : Type 0 where
  pub defs : new.defs ≡ old.defs
  pub number : new.number ≡ old.number
  pub tail : new.appender.tail ≡ old.appender.tail
  pub file : new.base.rows.file ≡ old.base.rows.file
  pub places : new.base.trees.places ≡ old.base.trees.places
  pub holds : told_by shows new.files ≡ told_by shows old.files
  pub still : IfHold (told_by shows old.files) old.base (λ m own base. HoldTable new.base own base m)
  pub lines : new.lines ≡ old.lines
  pub steps : new.steps ≡ old.steps
  pub later : old.done ≤ new.done
  pub inserted : IfHold (told_by shows old.files) old.base (λ m own base. HasInserted old base → HasInserted new base)
