-- A round of kind Together on a table, whose sessions go side by side: what the runs of reads say, each read by its number, and what was
-- done.
use Rattle.std.specs.Prelude.{◌≡◌, ◌⊎◌, ◌+◌, ◌-◌, ◌≤◌, ℕ, true, List, [], ◌∷◌, ◌++◌, map, take, drop, length, Option, Some, None, MatchBool, IsPermutation, if◌then◌else◌}
use Rattle.std.specs.List.{AllByRecursion, flat_map}
use Rattle.myi_base.specs.Holding.{Holding}
use Rattle.myi_defs.specs.declared.types.Defs.{Defs}
use Rattle.myi_keycache.specs.declared.setup.Counters.{Counters}
use Rattle.myi_state.specs.State.{TableState}
use Rattle.myi_state.specs.Changes.{Change, replay}
use Rattle.myi_state.specs.Sound.{IsState}
use Rattle.myi_locks.specs.declared.steps.Step.{Step}
use Rattle.myi_locks.specs.declared.steps.Run.{Run}
use Rattle.myi_locks.specs.declared.steps.Round.{Round}
use Rattle.myi_locks.specs.declared.steps.Round.TheVariants.{Finished, Alone, Together}
use Rattle.myi_locks.specs.Steps.{is_read}
use Rattle.myi_locks.specs.Done.{run_steps, steps_of, is_together}
use Rattle.myi_locks.specs.Laws.{IsRunOf}
use Rattle.myi_script.specs.declared.types.Line.{Line}
use Rattle.myi_history.specs.Answers.{LineAnswer}
use Rattle.myi_history.specs.Appending.{AreAppends}
use Rattle.myi_history.specs.History.{in_table, Statements, reads_only, changes, state_after}
use Rattle.myi_history.specs.RoundTexts.{LineText, texts_of}
use Rattle.myi_history.specs.SideBySide.{InsertsRow}
use Rattle.myi_pack.specs.Packed.{Values}
use Rattle.myi_snapshots.specs.declared.snapshot.Snapshot.{Snapshot}
use Rattle.myi_snapshots.specs.Appended.{with_rows}
use Rattle.myi_rounds.specs.Inserts.{asked_by, inserts_said, said_of, HaveInserted}
use Rattle.myi_rounds.specs.Rounds.{RunSaid, EachOf, HasRead}
use Rattle.myi_rounds.specs.declared.round.WentRound.{WentRound}
use Rattle.myi_rounds.specs.declared.fault.RoundFault.{RoundFault}
use Rattle.myi_rounds.specs.declared.fault.RoundFault.TheVariants as round
use Rattle.myi_rounds.specs.Reads.{IsEarlier, RiseWithin, AllAre, reads_by}
use Rattle.myi_rounds.specs.declared.round.AskedReads.{AskedReads}
use Rattle.myi_rounds.specs.declared.round.WentReads.{WentReads}
use Rattle.myi_shell.specs.declared.script_run.Taken.{Taken}
use Rattle.myi_shell.specs.declared.fault.ShellFault.{ShellFault}
use Rattle.myi_shell.specs.declared.fault.ShellFault.TheVariants as fault
use Rattle.myi_shell.specs.declared.target.Target.{Target}
use Rattle.myi_shell.specs.Targets.{Standing, moved, HoldsThen}
use Rattle.myi_shell.specs.Stepping.{RunState, AreDone, round_by}

-- ---- what is asked

abbrev pub snapshot_of : Taken → Snapshot
snapshot_of t = record { number = t.number; length = t.length }

-- the snapshot of a session's Take, where it holds READ or READ LOCAL
abbrev pub taken_of : RunState → ℕ → Option Snapshot
taken_of p n = if reads_only p.locks n then Some (snapshot_of (p.taken n)) else None

-- each run is asked its steps
abbrev pub AreAsked : RunState → List Run → List AskedReads → Type 0
AreAsked p [] [] = Unit {0}
AreAsked p [] (a ∷ asked) = ⊥
AreAsked p (run ∷ runs) [] = ⊥
AreAsked p (run ∷ runs) (a ∷ asked) = (a.steps.now ≡ run.steps) × (a.taken ≡ taken_of p run.session) × AreAsked p runs asked

-- ---- what reads say

-- What a session sees by a number of changes: where it holds READ or READ LOCAL the table of its Take, and else the table before the round
-- with the first changes of the round.
abbrev pub seen_at : Defs → RunState → TableState → (ℕ → TableState) → List Change → ℕ → ℕ → TableState
seen_at d p s early h n number = if reads_only p.locks n then early n else replay d s (take (number - p.number) h)

-- The numbers of a run's reads: in a session that holds READ or READ LOCAL that of its Take; else they do not fall, and lie between the
-- changes before the round and those behind it.
pub record RunIsFit (p : RunState) (behind : ℕ) (run : Run) (ns : List ℕ) : Type 0 where
  pub each : length ns ≡ length run.steps
  pub bounds : MatchBool (reads_only p.locks run.session) (AllAre (p.taken run.session).number ns) (RiseWithin p.number behind ns)

-- the runs say this by these numbers, one run after the other
abbrev pub RunsSay : Defs → List Line → RunState → (ℕ → ℕ → TableState) → ℕ → List Run → List ℕ → List LineAnswer → Type 0
RunsSay d ls p seen behind [] ns said = (ns ≡ []) × (said ≡ [])
RunsSay d ls p seen behind (run ∷ runs) ns said =
    (own : List ℕ) × (rest : List ℕ) × (more : List LineAnswer) × (ns ≡ own ++ rest) × (said ≡ reads_by d ls (seen run.session) run.steps own ++ more)
    × RunIsFit p behind run own × RunsSay d ls p seen behind runs rest more

-- ---- what was done

-- What a round of a script has: its inserts are those of its lines, and each run of reads is one of a session; and where a session holds
-- READ or READ LOCAL, there is the table of its Take, and the round's changes are inserts at the end.
pub record GoBeside (d : Defs) (ls : List Line) (p : RunState) (s : TableState) (tables : ℕ → TableState) (steps : List Step) (readers : List Run) : Type 0 where
  pub state : IsState d s
  pub inserts : AllByRecursion (InsertsRow ls p.locks) steps
  pub runs : AllByRecursion (IsRunOf is_read) readers
  pub early : (n : ℕ) → reads_only p.locks n ≡ true → IsEarlier d s (snapshot_of (p.taken n)) (tables n)
  pub appends : (n : ℕ) → reads_only p.locks n ≡ true → AreAppends d (changes d (asked_by ls) s steps)

-- The runs were done, and this was said: the table stands for the state behind the inserts, their changes are counted, and the lines are
-- noted in some order.
pub record AreDoneBeside (d : Defs) (ls : List Line) (p : RunState) (s : Standing) (early : ℕ → TableState) (inserts : List Step) (runs : List Run) (next : Option Holding) (table : Target) (new : RunState) : Type 0 where
  pub state : HoldsThen next table (moved s (state_after d (asked_by ls) s.table inserts))
  pub number : new.number ≡ p.number + length (changes d (asked_by ls) s.table inserts)
  pub numbers : List ℕ
  pub said : List LineAnswer
  pub reads : RunsSay d ls p (seen_at d p s.table early (changes d (asked_by ls) s.table inserts)) new.number runs numbers said
  pub texts : IsPermutation (p.texts ++ texts_of (said ++ inserts_said d (asked_by ls) s.table inserts)) new.texts

-- so it is with what a round of a script has
abbrev pub BesideEachOther : Defs → List Line → RunState → Standing → List Step → List Run → Option Holding → Target → RunState → Type 0
BesideEachOther d ls p s inserts runs next table new =
    (early : ℕ → TableState) → GoBeside d ls p s.table early inserts runs → AreDoneBeside d ls p s early inserts runs next table new

-- the round is one of kind Together, and its runs were done
abbrev pub IsDoneBeside : Defs → List Line → RunState → Standing → Round → Option Holding → Target → RunState → Type 0
IsDoneBeside d ls p s Finished next table new = ⊥
IsDoneBeside d ls p s (Alone x) next table new = ⊥
IsDoneBeside d ls p s (Together inserter readers) next table new = BesideEachOther d ls p s (run_steps inserter) readers.runs next table new

-- the steps of a round were done, by one thread, or on a table side by side
abbrev pub IsDone : Defs → Statements → RunState → Counters → Standing → Round → Option Holding → Target → RunState → Type 0
IsDone d ls p c s round next table new =
    AreDone d ls (is_together round) p s (steps_of round) (round_by d ls p c s round) next table new
    ⊎ ((ls.takes ≡ in_table) × IsDoneBeside d ls.lines p s round next table new)

-- ---- how far the runs came on threads

-- each run came so far, and said this
abbrev pub EachRunSaid : Defs → List Line → RunState → TableState → List Values → List Run → List WentReads → Type 0
EachRunSaid d ls p base rows [] [] = Unit {0}
EachRunSaid d ls p base rows [] (w ∷ went) = ⊥
EachRunSaid d ls p base rows (run ∷ runs) [] = ⊥
EachRunSaid d ls p base rows (run ∷ runs) (w ∷ went) =
    RunSaid d ls base p.number rows (taken_of p run.session) (take w.done run.steps) w.texts × EachRunSaid d ls p base rows runs went

-- Of what the target stood for these rows were put, as the first inserts ask; it stands for the table with them, and the runs of reads said
-- this.
pub record HaveGone (d : Defs) (ls : List Line) (p : RunState) (s : Standing) (inserts : List Step) (runs : List Run) (w : WentRound) (next : Option Holding) (table : Target) : Type 0 where
  pub rows : List Values
  pub inserted : HaveInserted d ls s.table (take w.inserted inserts) rows w.replies.items
  pub made : w.made ≡ length rows
  pub reads : EachRunSaid d ls p s.table rows runs w.reads.items
  pub state : HoldsThen next table (moved s (with_rows d s.table rows))

-- the same of what is asked
pub record HaveGoneAsked (d : Defs) (ls : List Line) (number : ℕ) (s : Standing) (inserts : List Step) (asked : List AskedReads) (w : WentRound) (next : Option Holding) (table : Target) : Type 0 where
  pub rows : List Values
  pub inserted : HaveInserted d ls s.table (take w.inserted inserts) rows w.replies.items
  pub made : w.made ≡ length rows
  pub reads : EachOf (HasRead d ls s.table number rows) asked w.reads.items
  pub state : HoldsThen next table (moved s (with_rows d s.table rows))

-- no run came further than its steps go
abbrev pub EachIsWithin : List Run → List WentReads → Type 0
EachIsWithin [] [] = Unit {0}
EachIsWithin [] (w ∷ went) = ⊥
EachIsWithin (run ∷ runs) [] = ⊥
EachIsWithin (run ∷ runs) (w ∷ went) = (w.done ≤ length run.steps) × EachIsWithin runs went

-- the run with the steps behind its first ones
abbrev pub run_behind : Run → ℕ → Run
run_behind run done = record { session = run.session; steps = drop done run.steps }

-- the runs with the steps that are not done
abbrev pub runs_left : List Run → List WentReads → List Run
runs_left [] went = []
runs_left (run ∷ runs) [] = []
runs_left (run ∷ runs) (w ∷ went) = run_behind run w.done ∷ runs_left runs went

-- the texts of runs, one after the other
abbrev pub texts_in : List WentReads → List LineText
texts_in went = flat_map (λ (w : WentReads). w.texts) went

-- what is noted of a round on threads
abbrev pub noted_of : WentRound → List LineText
noted_of w = texts_in w.reads.items ++ texts_of (map said_of w.replies.items)

-- how what cuts a round off is told
abbrev pub told_as : RoundFault → ShellFault
told_as (round.Damaged at) = fault.Damaged at
told_as round.File = fault.File
told_as round.Memory = fault.Memory
