-- A round of kind Together on a table, whose runs go side by side: how far each came, and what it said.
use Rattle.std.specs.Prelude.{◌≡◌, ◌+◌, ◌<◌, ◌≤◌, ℕ, List, [], ◌∷◌, length, take, slice_index_or, Option, Some, None}
use Rattle.std.specs.List.{AllByRecursion}
use Rattle.myi_base.specs.Holding.{Holding}
use Rattle.myi_defs.specs.declared.types.Defs.{Defs}
use Rattle.myi_pack.specs.Packed.{Values}
use Rattle.myi_state.specs.State.{TableState}
use Rattle.myi_table.specs.Table.{OpenTable, HoldsThen}
use Rattle.myi_locks.specs.declared.steps.Step.{Step}
use Rattle.myi_script.specs.declared.types.Line.{Line}
use Rattle.myi_history.specs.RoundTexts.{LineText}
use Rattle.myi_snapshots.specs.declared.snapshot.Snapshot.{Snapshot}
use Rattle.myi_snapshots.specs.Appended.{with_rows}
use Rattle.myi_snapshots.specs.Seen.{state_at}
use Rattle.myi_rounds.specs.declared.round.AskedReads.{AskedReads}
use Rattle.myi_rounds.specs.declared.round.AskedRound.{AskedRound}
use Rattle.myi_rounds.specs.declared.round.WentReads.{WentReads}
use Rattle.myi_rounds.specs.declared.round.WentRound.{WentRound}
use Rattle.myi_rounds.specs.Inserts.{inserted_row, HaveInserted}
use Rattle.myi_rounds.specs.Reads.{AreRead, IsEarlier, RiseWithin, AllAre}

-- lists of the same length, whose items stand so to each other
abbrev pub EachOf : {A B : Type 0} → (A → B → Type 0) → List A → List B → Type 0
EachOf P [] [] = Unit {0}
EachOf P [] (y ∷ ys) = ⊥
EachOf P (x ∷ xs) [] = ⊥
EachOf P (x ∷ xs) (y ∷ ys) = P x y × EachOf P xs ys

-- no line inserts
abbrev pub InsertsNone : List Line → Type 0
InsertsNone ls = AllByRecursion (λ (l : Line). inserted_row (Some l.act) ≡ None) ls

-- ---- what is said

-- What a run of reads said, where the table was shared in this base after so many changes, and these rows were put meanwhile: of a session
-- without a snapshot each read has a number of changes, behind which it reads the table, and one with a snapshot reads the table of that
-- moment.
abbrev pub RunSaid : Defs → List Line → TableState → ℕ → List Values → Option Snapshot → List Step → List LineText → Type 0
RunSaid d ls base number rows None steps texts = AreRead d ls (state_at d base number rows) (RiseWithin number (number + length rows)) steps texts
RunSaid d ls base number rows (Some snap) steps texts = (s : TableState) → IsEarlier d base snap s → AreRead d ls (λ n. s) (AllAre snap.number) steps texts

-- a run of reads came so far, and said that
pub record HasRead (d : Defs) (ls : List Line) (base : TableState) (number : ℕ) (rows : List Values) (asked : AskedReads) (went : WentReads) : Type 0 where
  pub within : went.done ≤ length asked.steps.now
  pub said : RunSaid d ls base number rows asked.taken (take went.done asked.steps.now) went.texts

-- ---- a round

-- The runs of a round came so far, where the table was in this base: these rows were put, the table stands for the base with them, and each
-- run said what it says where these rows were put meanwhile.
pub record HasGone (d : Defs) (base : TableState) (next : Option Holding) (new : OpenTable) (asked : AskedRound) (went : WentRound) : Type 0 where
  pub rows : List Values
  pub made : went.made ≡ length rows
  pub within : went.inserted ≤ length asked.inserts.now
  pub inserted : HaveInserted d asked.lines.now base (take went.inserted asked.inserts.now) rows went.replies.items
  pub reads : EachOf (HasRead d asked.lines.now base asked.number rows) asked.reads.now went.reads.items
  pub now : HoldsThen next new (with_rows d base rows)

-- over any files: each run of reads is there, and no run has done more steps than it has
pub record IsWithin (asked : AskedRound) (went : WentRound) : Type 0 where
  pub inserts : went.inserted ≤ length asked.inserts.now
  pub each : length went.reads.items ≡ length asked.reads.now
  pub reads : (i : ℕ) (a : AskedReads) (w : WentReads) → i < length asked.reads.now → (slice_index_or went.reads.items i w).done ≤ length (slice_index_or asked.reads.now i a).steps.now
