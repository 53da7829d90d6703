-- The reads of a session in a round of kind Together, as a job that owns a reader of the shared table: what holds of it, and what its calls
-- leave.
use Rattle.std.specs.Prelude.{◌≡◌, ◌+◌, ◌^◌, ◌<◌, ◌≤◌, ℕ, List, take, length, Option, Some, None}
use Rattle.myi_adapters.specs.TwoReaders.{told_by}
use Rattle.myi_pack.specs.Packed.{Values}
use Rattle.myi_state.specs.State.{TableState}
use Rattle.myi_keyedrows.specs.KeyedRows.{HoldTable, IsKept, IfHold}
use Rattle.myi_tail.specs.Prefix.{BeginsWith}
use Rattle.myi_locks.specs.declared.steps.Step.{Step}
use Rattle.myi_script.specs.declared.types.Line.{Line}
use Rattle.myi_history.specs.Lines.{MayRun}
use Rattle.myi_history.specs.RoundTexts.{LineText}
use Rattle.myi_snapshots.specs.declared.snapshot.Snapshot.{Snapshot}
use Rattle.myi_snapshots.specs.Seen.{state_at}
use Rattle.myi_readers.specs.declared.file_reader.Reader.{Reader}
use Rattle.myi_readers.specs.declared.reader.TableReader.{TableReader}
use Rattle.myi_readers.specs.Reader.{IsReader, AreKnown, IsSameReader, end_known}
use Rattle.myi_rounds.specs.Reads.{AreRead, IsEarlier, RiseWithin, AllAre}

-- the reader; the lines of the script; the steps of the run, and how many are done; the snapshot of the session's Take, where it holds READ
-- or READ LOCAL; and what was said, each with its line
pub record Reads (R : Type 0) : Type 0 where
  pub reader : Reader R
  pub lines : List Line
  pub steps : List Step
  pub done : ℕ
  pub taken : Option Snapshot
  pub texts : List LineText

-- What the reads of steps said, where the table was shared in this base. A session without such a snapshot reads the base with the first rows
-- that the reader knows, as many as the read's number is above that at the beginning of the sharing; one with a snapshot reads the table of
-- that moment.
abbrev pub SaidBy : List Line → TableReader → TableState → Option Snapshot → List Step → List LineText → Type 0
SaidBy ls r base None steps texts =
    (known : List Values) → AreKnown r known → end_known r < 2 ^ 64
    → AreRead r.defs ls (state_at r.defs base r.number known) (RiseWithin r.number (r.number + length known)) steps texts
SaidBy ls r base (Some snap) steps texts =
    (known : List Values) → AreKnown r known → (s : TableState) → IsEarlier r.defs base snap s
    → AreRead r.defs ls (λ n. s) (AllAre snap.number) steps texts

-- the texts of the job are what the steps said that are done
abbrev pub HasSaid : {R : Type 0} → Reads R → TableState → Type 0
HasSaid j base = SaidBy j.lines j.reader.table base j.taken (take j.done j.steps) j.texts

-- the reader's next call may be made, the lines are those of a script that may run, and no more steps are done than there are
pub record IsReadJob {R : Type 0} (shows : R → Option (List ℕ)) (j : Reads R) : Type 0 where
  pub ready : IsReader j.reader.table
  pub kept : IsKept (told_by shows j.reader.files) j.reader.table.rows
  pub lines : MayRun j.reader.table.defs j.lines
  pub within : j.done ≤ length j.steps

-- how many calls failed of the two reader objects
abbrev pub faults_of : {R : Type 0} → (R → ℕ) → Reader R → ℕ
faults_of faults r = faults r.files.rows.reader + faults r.files.index.reader

-- A reader of the same table in the same sharing, which knows what it knew and perhaps more; its objects tell the same, and it stands for each
-- state that it stood for.
pub record ReadsOn {R : Type 0} (shows : R → Option (List ℕ)) (old new : Reader R) : Type 0 where
  pub same : IsSameReader old.table new.table
  pub ready : IsReader new.table
  pub more : BeginsWith new.table.seat.known old.table.seat.known
  pub holds : told_by shows new.files ≡ told_by shows old.files
  pub still : IfHold (told_by shows old.files) old.table.rows (λ m own base. HoldTable new.table.rows own base m)

-- The job has gone on: its texts are what its steps said for each base for which they were that, and for which the reader stands.
pub record GoesOn {R : Type 0} (shows : R → Option (List ℕ)) (old new : Reads R) : Type 0 where
  pub reader : ReadsOn shows old.reader new.reader
  pub lines : new.lines ≡ old.lines
  pub steps : new.steps ≡ old.steps
  pub taken : new.taken ≡ old.taken
  pub later : old.done ≤ new.done
  pub said : IfHold (told_by shows old.reader.files) old.reader.table.rows (λ m own base. HasSaid old base → HasSaid new base)
