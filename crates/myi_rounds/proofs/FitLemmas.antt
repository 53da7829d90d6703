-- The numbers of a job's reads, as those of a run, and what a script says by them.
use Rattle.std.proofs.Common.{◌≡◌, ℕ, ◌+◌, ◌^◌, ◌<◌, ◌≤◌, true, false, Bool, List, [], ◌∷◌, length, take, Option, None, Some, refl, sym, ap, subst, ◌∙◌, arith}
use Rattle.std.specs.Prelude.{MatchBool, if◌then◌else◌}
use Rattle.std.specs.List.{AllByRecursion}
use Rattle.myi_pack.specs.Packed.{Values}
use Rattle.myi_state.specs.State.{TableState}
use Rattle.myi_state.specs.Changes.{Change}
use Rattle.myi_locks.specs.declared.steps.Run.{Run}
use Rattle.myi_locks.specs.declared.steps.Step.{Step}
use Rattle.myi_locks.specs.Steps.{is_read}
use Rattle.myi_script.specs.declared.types.Line.{Line}
use Rattle.myi_history.specs.Answers.{LineAnswer, answer_on}
use Rattle.myi_history.specs.Bounds.{SessionNumber, number_at}
use Rattle.myi_history.specs.History.{Opening, ScriptRound, Taking, in_table, reads_only}
use Rattle.myi_history.specs.Lines.{act_of}
use Rattle.myi_history.specs.RoundTexts.{LineText}
use Rattle.myi_history.specs.SideBySide.{RisesFrom, RunFits}
use Rattle.myi_history.specs.Text as text
use Rattle.myi_history.specs.Text.{finds, rows_at, reads_said}
use Rattle.myi_snapshots.specs.declared.snapshot.Snapshot.{Snapshot}
use Rattle.myi_snapshots.specs.Seen.{state_at}
use Rattle.myi_readers.specs.declared.reader.TableReader.{TableReader}
use Rattle.myi_readers.specs.Reader.{AreKnown, rows_known, end_known}
use Rattle.myi_rounds.specs.Reads.{AreRead, RiseWithin, AllAre, read_said, reads_by}
use Rattle.myi_rounds.specs.ReadJob.{SaidBy}
use Rattle.myi_rounds.proofs.SaidLemmas.{rows_behind}

pub begun : (ls : List Line) (r : TableReader) (base : TableState) (taken : Option Snapshot) → SaidBy ls r base taken [] []
begun ls r base None = λ known are small. record { numbers = []; each = refl; fit = (tt, tt); texts = refl }
begun ls r base (Some snap) = λ known are s earlier. record { numbers = []; each = refl; fit = tt; texts = refl }

pub all_behind : (ls : List Line) (r : TableReader) (base : TableState) (rows : List Values) (steps : List Step) (texts : List LineText) → AreKnown r (take (length (rows_known r)) rows) → end_known r < 2 ^ 64 → SaidBy ls r base None steps texts
    → AreRead r.defs ls (state_at r.defs base r.number rows) (RiseWithin r.number (r.number + length rows)) steps texts
all_behind ls r base rows steps texts are small said =
    rows_behind r.defs ls base r.number (length (rows_known r)) rows steps texts (said (take (length (rows_known r)) rows) are small)

pub rising : (p : ScriptRound) (behind : ℕ) (taken : List SessionNumber) (run : Run) (ns : List ℕ) → reads_only p.locks run.session ≡ false → length ns ≡ length run.steps → RiseWithin p.before behind ns → RunFits p behind taken run ns
rising p behind taken run ns free each rise = record {
  each = each;
  bounds = subst (λ (b : Bool). MatchBool b (AllByRecursion (λ n. n ≡ number_at run.session taken) ns) (RisesFrom p.before ns × AllByRecursion (λ n. n ≤ behind) ns)) (sym free) rise;
}

pub of_take : (p : ScriptRound) (behind : ℕ) (taken : List SessionNumber) (run : Run) (ns : List ℕ) → reads_only p.locks run.session ≡ true → length ns ≡ length run.steps → AllAre (number_at run.session taken) ns → RunFits p behind taken run ns
of_take p behind taken run ns held each all = record {
  each = each;
  bounds = subst (λ (b : Bool). MatchBool b (AllByRecursion (λ n. n ≡ number_at run.session taken) ns) (RisesFrom p.before ns × AllByRecursion (λ n. n ≤ behind) ns)) (sym held) all;
}

one_said : (o : Opening) (h : List Change) (line n : ℕ) → o.script.takes ≡ in_table → answer_on line (rows_at o h line n) ≡ read_said o.defs o.script.lines (text.state_at o h n) line n
one_said o h line n is = ap (λ (t : Taking). answer_on line (finds t o.beside o.defs (text.state_at o h n) (act_of o.script.lines line) n)) is

pub all_said : (o : Opening) (h : List Change) (steps : List Step) (ns : List ℕ) → o.script.takes ≡ in_table → AllByRecursion (λ (x : Step). is_read x.kind ≡ true) steps → length ns ≡ length steps → reads_said o h steps ns ≡ reads_by o.defs o.script.lines (text.state_at o h) steps ns
all_said o h [] ns is reads each = refl
all_said o h (x ∷ xs) [] is reads each = absurd (omega (arith, each))
all_said o h (x ∷ xs) (n ∷ ns) is reads each =
    let first : reads_said o h (x ∷ xs) (n ∷ ns) ≡ answer_on x.line (rows_at o h x.line n) ∷ reads_said o h xs ns =
    ap (λ (b : Bool). if b then answer_on x.line (rows_at o h x.line n) ∷ reads_said o h xs ns else reads_said o h xs (n ∷ ns)) reads.0 in
    first ∙ ap (λ (a : LineAnswer). a ∷ reads_said o h xs ns) (one_said o h x.line n is) ∙ ap (λ l. read_said o.defs o.script.lines (text.state_at o h n) x.line n ∷ l) (all_said o h xs ns is reads.1 (omega (arith, each)))
