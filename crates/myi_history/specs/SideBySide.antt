-- The numbers of a round of kind Together whose sessions go side by side: which a session's reads may be given, one session after
-- the other.
use Rattle.std.specs.Prelude.{◌≡◌, ℕ, ◌≤◌, false, List, [], ◌∷◌, ◌++◌, length, MatchBool, Some}
use Rattle.std.specs.List.{AllByRecursion}
use Rattle.myi_pack.specs.Packed.{Values}
use Rattle.myi_locks.specs.declared.steps.Run.{Run}
use Rattle.myi_locks.specs.declared.steps.Step.{Step}
use Rattle.myi_locks.specs.declared.steps.StepKind.TheVariants as kind
use Rattle.myi_locks.specs.Rounds.{LockState}
use Rattle.myi_script.specs.declared.types.Act.TheVariants as act
use Rattle.myi_script.specs.declared.types.Line.{Line}
use Rattle.myi_history.specs.Lines.{act_of}
use Rattle.myi_history.specs.History.{ScriptRound, reads_only}
use Rattle.myi_history.specs.Bounds.{SessionNumber, number_at}

-- the first is not below this number, and none is below the one before it
abbrev pub RisesFrom : ℕ → List ℕ → Type 0
RisesFrom low [] = Unit {0}
RisesFrom low (n ∷ ns) = (low ≤ n) × RisesFrom n ns

-- The reads of a run have one number each. In a session that holds READ or READ LOCAL it is that of its Take; else the numbers do not
-- fall, and lie between the changes before the round and those behind it.
pub record RunFits (p : ScriptRound) (behind : ℕ) (taken : List SessionNumber) (run : Run) (ns : List ℕ) : Type 0 where
  pub each : length ns ≡ length run.steps
  pub bounds : MatchBool (reads_only p.locks run.session) (AllByRecursion (λ n. n ≡ number_at run.session taken) ns)
      (RisesFrom p.before ns × AllByRecursion (λ n. n ≤ behind) ns)

-- those of the runs of a round, one run after the other
abbrev pub RunsFit : ScriptRound → ℕ → List SessionNumber → List Run → List ℕ → Type 0
RunsFit p behind taken [] ns = ns ≡ []
RunsFit p behind taken (run ∷ runs) ns =
    (own : List ℕ) × (rest : List ℕ) × (ns ≡ own ++ rest) × RunFits p behind taken run own × RunsFit p behind taken runs rest

-- the step is an insert of a session that holds no READ and no READ LOCAL, and its line inserts a row
pub record InsertsRow (ls : List Line) (r : LockState) (x : Step) : Type 0 where
  pub kind : x.kind ≡ kind.Insert
  pub free : reads_only r x.session ≡ false
  pub row : Values
  pub inserts : act_of ls x.line ≡ Some (act.Insert row)
