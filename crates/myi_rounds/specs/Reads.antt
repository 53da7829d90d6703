-- What the reads of a session say while another session inserts at the table's end: each has a number of changes, behind which it reads
-- the table.
use Rattle.std.specs.Prelude.{◌≡◌, ◌-◌, ◌≤◌, ℕ, List, [], ◌∷◌, length}
use Rattle.std.specs.List.{AllByRecursion}
use Rattle.myi_defs.specs.declared.types.Defs.{Defs}
use Rattle.myi_pack.specs.Packed.{Values}
use Rattle.myi_state.specs.State.{TableState}
use Rattle.myi_state.specs.Sound.{IsState}
use Rattle.myi_locks.specs.declared.steps.Step.{Step}
use Rattle.myi_script.specs.declared.types.Line.{Line}
use Rattle.myi_script.specs.declared.types.Range as script
use Rattle.myi_table.specs.declared.ranges.Range.{Range}
use Rattle.myi_history.specs.Lines.{act_of}
use Rattle.myi_history.specs.Reads.{found}
use Rattle.myi_history.specs.Answers.{rows, LineAnswer, answer_on}
use Rattle.myi_history.specs.RoundTexts.{LineText, texts_of}
use Rattle.myi_history.specs.SideBySide.{RisesFrom}
use Rattle.myi_snapshots.specs.declared.snapshot.Snapshot.{Snapshot}
use Rattle.myi_snapshots.specs.Appended.{rows_before}
use Rattle.myi_snapshots.specs.Seen.{seen_rows}

-- ---- what a read finds

-- the range of a statement, whose keys are counted from 1, as one of the table, whose keys are counted from 0
abbrev pub table_range : script.Range → Range
table_range r = record { key = r.key - 1; from = r.from; to = r.to }

-- the rows of the state are those that a reader of a table in some base, which knows these rows, sees by a snapshot
pub record IsSeen (d : Defs) (base : TableState) (known : List Values) (snap : Snapshot) (s : TableState) : Type 0 where
  pub state : IsState d s
  pub rows : s.rows ≡ seen_rows d base known snap

-- the snapshot is of a moment before the table was in its base, and the state has the rows of the base that stood then
pub record IsEarlier (d : Defs) (base : TableState) (snap : Snapshot) (s : TableState) : Type 0 where
  pub within : snap.length ≤ base.space.end
  pub state : IsState d s
  pub rows : s.rows ≡ rows_before snap.length base.rows

-- ---- what reads say

-- what a read of a line says that finds the table in a state, after so many changes
abbrev pub read_said : Defs → List Line → TableState → ℕ → ℕ → LineAnswer
read_said d ls s line number = answer_on line (rows (found d s (act_of ls line)) number)

-- what the reads of steps say, each by its number, where the table is in these states after so many changes
abbrev pub reads_by : Defs → List Line → (ℕ → TableState) → List Step → List ℕ → List LineAnswer
reads_by d ls states [] ns = []
reads_by d ls states (x ∷ xs) [] = []
reads_by d ls states (x ∷ xs) (n ∷ ns) = read_said d ls (states n) x.line n ∷ reads_by d ls states xs ns

-- The texts are what the reads of these steps say, where the table is in these states, and each has a number, of which this holds.
pub record AreRead (d : Defs) (ls : List Line) (states : ℕ → TableState) (Fit : List ℕ → Type 0) (steps : List Step) (noted : List LineText) : Type 0 where
  pub numbers : List ℕ
  pub each : length numbers ≡ length steps
  pub fit : Fit numbers
  pub texts : noted ≡ texts_of (reads_by d ls states steps numbers)

-- ---- their numbers

-- none is below the first bound or one before it, or above the last bound
abbrev pub RiseWithin : ℕ → ℕ → List ℕ → Type 0
RiseWithin low high ns = RisesFrom low ns × AllByRecursion (λ n. n ≤ high) ns

-- each is this number
abbrev pub AllAre : ℕ → List ℕ → Type 0
AllAre number ns = AllByRecursion (λ n. n ≡ number) ns
