-- A script that was begun on a table: what stands behind the rounds that are done, and what a run leaves.
use Rattle.std.specs.Prelude.{◌≡◌, ◌≢◌, ◌≤◌, ℕ, Bool, true, false, List, [], ◌∷◌, ◌++◌, length, take, Option, Some, Result, Ok, Err}
use Rattle.myi_base.specs.Holding.{Holding, IfTold}
use Rattle.myi_base.specs.Output.{Appends, AppendsPart}
use Rattle.myi_io.specs.declared.sink.SinkErr.{SinkErr}
use Rattle.myi_io.specs.declared.sink.SinkErr.TheVariants as sink
use Rattle.myi_defs.specs.declared.types.Defs.{Defs}
use Rattle.myi_state.specs.State.{TableState}
use Rattle.myi_state.specs.Sound.{IsState}
use Rattle.myi_state.specs.Changes.{Change, replay}
use Rattle.myi_history.specs.History.{Opening, Statements, ScriptRound, rounds_of, history_in, history}
use Rattle.myi_history.specs.Text.{Numbers, no_numbers, shell_text}
use Rattle.myi_history.specs.Bounds.{AreWithin}
use Rattle.myi_history.specs.Running.{HasRun, counted_in, locks_after, table_after, number_after, seen_number, seen_state, run_text}
use Rattle.myi_table.specs.declared.fault.ChangeFault.{ChangeFault}
use Rattle.myi_table.specs.declared.fault.ChangeFault.TheVariants as change
use Rattle.myi_table.specs.Table as table
use Rattle.myi_table.specs.Table.{OpenTable, KeepsRows}
use Rattle.myi_table.specs.Closing.{IsClosed}
use Rattle.myi_shell.specs.declared.fault.ShellFault.{ShellFault}
use Rattle.myi_shell.specs.declared.fault.ShellFault.TheVariants as fault
use Rattle.myi_shell.specs.declared.target.Target.{Target}
use Rattle.myi_shell.specs.declared.target.Target.TheVariants.{One, Many}
use Rattle.myi_shell.specs.Targets as on
use Rattle.myi_shell.specs.Targets.{Standing, IsSameTable, HoldsThen, IsTouchedBy, AreNotBelow}
use Rattle.myi_shell.specs.Stepping.{RunState, end_in}

-- how a script begins on a table with these definitions that stands for a state
abbrev pub opening_on : Defs → Statements → ℕ → Standing → Opening
opening_on d ls setting s = record { defs = d; script = ls; base = s.table; beside = s.beside; setting = setting }

-- the table stands for a state while such a script runs
abbrev pub standing_in : Opening → TableState → Standing
standing_in o s = record { table = s; beside = o.beside }

-- how things stand before a script: what was printed, what files hold, and its table
pub record Before : Type 0 where
  pub printed : Option (List ℕ)
  pub files : Option Holding
  pub table : Target

abbrev pub standing : Option (List ℕ) → Option Holding → Target → Before
standing printed files table = record { printed = printed; files = files; table = table }

-- of each script of this that begins on a state of a table with these definitions, and whatever stands before it, this holds
abbrev pub ForOpening : Defs → Statements → (Opening → Before → Type 0) → Type 0
ForOpening d ls P = (setting : ℕ) (base : Standing) (from : Before) → IsState d base.table → P (opening_on d ls setting base) from

-- ---- between rounds

-- Behind these rounds, with these numbers, the script and its table stand so.
pub record Stands (o : Opening) (front : List ScriptRound) (c : List Numbers) (told : Option Holding) (p : RunState) (t : Target) : Type 0 where
  pub run : HasRun o front c
  pub locks : p.locks ≡ locks_after o front
  pub table : HoldsThen told t (standing_in o (table_after o front))
  pub number : p.number ≡ number_after o front
  pub taken : (n : ℕ) → p.taken n ≡ record { number = seen_number o front n; length = end_in o.script.takes (seen_state o front n) }
  pub counted : AreNotBelow (counted_in no_numbers.counters front c) (on.counted_in t)
  pub texts : p.texts ≡ []

-- some rounds are done, and their text was printed behind what was printed before; the table is touched by their changes
pub record HasDone (o : Opening) (from : Before) (told : Option Holding) (p : RunState) (t : Target) (printed : Option (List ℕ)) : Type 0 where
  pub front : List ScriptRound
  pub numbers : List Numbers
  pub stands : Stands o front numbers told p t
  pub text : IfTold from.printed (Appends (run_text o front numbers) printed)
  pub touched : IsTouchedBy from.files told from.table t 0 (number_after o front)

-- ---- the end

-- the text of the script was printed, with numbers within their bounds
pub record IsPrinted (o : Opening) (start printed : Option (List ℕ)) : Type 0 where
  pub numbers : List Numbers
  pub within : AreWithin o numbers
  pub text : IfTold start (Appends (shell_text o numbers) printed)

-- of a text of the script, with numbers within their bounds, a first part was printed
pub record IsPrintedPart (o : Opening) (start printed : Option (List ℕ)) : Type 0 where
  pub numbers : List Numbers
  pub within : AreWithin o numbers
  pub text : IfTold start (AppendsPart (shell_text o numbers) printed)

-- The output failed at the lines of this round: all text of the rounds before it was printed, and of its own a first part or nothing.
pub record IsCutIn (o : Opening) (front : List ScriptRound) (last : ScriptRound) (start printed : Option (List ℕ)) : Type 0 where
  pub back : List ScriptRound
  pub rounds : rounds_of o ≡ front ++ last ∷ back
  pub numbers : List Numbers
  pub own : Numbers
  pub run : HasRun o (front ++ last ∷ []) (numbers ++ own ∷ [])
  pub text : IfTold start (λ xs. (k : ℕ) × (length (run_text o front numbers) ≤ k)
      × (k ≤ length (run_text o (front ++ last ∷ []) (numbers ++ own ∷ [])))
      × (printed ≡ Some (xs ++ take k (run_text o (front ++ last ∷ []) (numbers ++ own ∷ [])))))

-- it failed at the lines of a round, and the table stands for what the changes up to that round's end lead to, and is touched by them
pub record StandsBehind (o : Opening) (from : Before) (told : Option Holding) (t : Target) (printed : Option (List ℕ)) : Type 0 where
  pub front : List ScriptRound
  pub last : ScriptRound
  pub cut : IsCutIn o front last from.printed printed
  pub table : HoldsThen told t (standing_in o (table_after o (front ++ last ∷ [])))
  pub touched : IsTouchedBy from.files told from.table t 0 (number_after o (front ++ last ∷ []))

-- all rounds are done, and the table stands for the replay of the history, and is touched by its changes
pub record HasEnded (o : Opening) (from : Before) (told : Option Holding) (t : Target) (printed : Option (List ℕ)) : Type 0 where
  pub text : IsPrinted o from.printed printed
  pub table : HoldsThen told t (standing_in o (replay o.defs o.base (history o)))
  pub touched : IsTouchedBy from.files told from.table t 0 (length (history o))

-- a round was done, or there was none
abbrev pub HasGoneOn : Bool → Opening → Before → Option Holding → RunState → Target → Option (List ℕ) → Type 0
HasGoneOn true o from told p t printed = HasDone o from told p t printed
HasGoneOn false o from told p t printed = HasEnded o from told t printed

-- a run is not stopped by damage where files tell what they hold
abbrev pub IsStopped : Option Holding → ShellFault → Type 0
IsStopped told (fault.Damaged at) = IfTold told (λ m. ⊥)
IsStopped told fault.File = Unit {0}
IsStopped told fault.Sink = Unit {0}
IsStopped told fault.Memory = Unit {0}

-- the files of a table stand for a state, by the header that the table was closed with
pub record IsClosedAs (s : TableState) (t : OpenTable) (n : Holding) : Type 0 where
  pub last : OpenTable
  pub same : IsSameTable t last
  pub closed : IsClosed last s n

-- The two files are a clean pair that stands for what these changes lead to. With no change the data file holds what it held and the
-- table is marked as before; else it is marked as changed.
pub record IsClosedBy (s : TableState) (changes : List Change) (t : OpenTable) (m n : Holding) : Type 0 where
  pub files : IsClosedAs s t n
  pub rows : changes ≡ [] → KeepsRows t.name m n
  pub unmarked : changes ≡ [] → files.last.changed ≡ t.changed
  pub marked : changes ≢ [] → files.last.changed ≡ true

-- those of each of these tables are such a pair for its state, with no change
abbrev pub AreClosedUnchanged : List TableState → List OpenTable → Holding → Holding → Type 0
AreClosedUnchanged [] [] m n = Unit {0}
AreClosedUnchanged [] (t ∷ ts) m n = ⊥
AreClosedUnchanged (s ∷ ss) [] m n = ⊥
AreClosedUnchanged (s ∷ ss) (t ∷ ts) m n = IsClosedBy s [] t m n × AreClosedUnchanged ss ts m n

-- the first tables have no change, then comes the one that these changes are of, then those behind it
abbrev pub AreClosedWith : List TableState → TableState → List TableState → List Change → List OpenTable → Holding → Holding → Type 0
AreClosedWith front s back changes [] m n = ⊥
AreClosedWith [] s back changes (t ∷ ts) m n = IsClosedBy s changes t m n × AreClosedUnchanged back ts m n
AreClosedWith (q ∷ front) s back changes (t ∷ ts) m n = IsClosedBy q [] t m n × AreClosedWith front s back changes ts m n

-- the files of the target stand for what these changes lead to
abbrev pub AreClosed : Opening → List Change → Target → Holding → Holding → Type 0
AreClosed o changes (One t) m n = IsClosedBy (replay o.defs o.base changes) changes t m n
AreClosed o changes (Many g) m n = AreClosedWith o.beside.front (replay o.defs o.base changes) o.beside.back changes g.tables m n

-- they are such a pair for the history of the script
abbrev pub AreClosedAtEnd : Opening → Target → Holding → Holding → Type 0
AreClosedAtEnd o t m n = AreClosed o (history o) t m n

-- the output failed at the lines of a round, and the files are such a pair for the changes up to that round's end
pub record AreClosedBehind (o : Opening) (t : Target) (start printed : Option (List ℕ)) (m n : Holding) : Type 0 where
  pub front : List ScriptRound
  pub last : ScriptRound
  pub cut : IsCutIn o front last start printed
  pub closed : AreClosed o (history_in o (front ++ last ∷ [])) t m n

-- ---- how the answers are told

-- where the output failed, this holds
abbrev pub IfSink : {T : Type 0} → Result T ShellFault → Type 0 → Type 0
IfSink result P = result ≡ Err fault.Sink → P

abbrev pub of_sink : SinkErr → ShellFault
of_sink sink.Failed = fault.Sink
of_sink sink.Memory = fault.Memory

-- A run that broke its table has told the fault. A table that is not broken is refused for a file fault or want of memory alone.
abbrev pub told_before : Result (Unit {0}) ShellFault → Result (Unit {0}) ShellFault
told_before (Err (fault.Damaged at)) = Err (fault.Damaged at)
told_before (Err fault.File) = Err fault.File
told_before (Err fault.Sink) = Err fault.Memory
told_before (Err fault.Memory) = Err fault.Memory
told_before (Ok done) = Err fault.Memory

-- the fault of closing the table, where there is one, and else what the run answers
abbrev pub ended : Result (Unit {0}) ShellFault → Result (Unit {0}) ChangeFault → Result (Unit {0}) ShellFault
ended ran (Ok done) = ran
ended ran (Err (change.Broken by)) = told_before ran
ended ran (Err (change.NoRow at)) = told_before ran
ended ran (Err (change.Duplicate key at)) = told_before ran
ended ran (Err change.Full) = told_before ran
ended ran (Err (change.Damaged at)) = told_before ran
ended ran (Err change.File) = Err fault.File
ended ran (Err change.Memory) = Err fault.Memory
