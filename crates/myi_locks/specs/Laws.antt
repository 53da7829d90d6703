-- What the sessions of a script keep from round to round, and what the laws say of a round.
use Rattle.std.specs.Prelude.{◌≡◌, ℕ, ◌<◌, Bool, true, false, not, ◌&&◌, ◌||◌, List, [], ◌∷◌, length, ◌+◌, fold, Option, Some, None, Contains, ◌⊎◌}
use Rattle.std.specs.List.{AllByRecursion, list_any}
use Rattle.myi_locks.specs.declared.steps.LockKind.{LockKind}
use Rattle.myi_locks.specs.declared.steps.StepKind.{StepKind}
use Rattle.myi_locks.specs.declared.steps.Step.{Step}
use Rattle.myi_locks.specs.declared.steps.Run.{Run}
use Rattle.myi_locks.specs.declared.steps.Round.{Round}
use Rattle.myi_locks.specs.declared.steps.Round.TheVariants.{Finished, Alone, Together}
use Rattle.myi_locks.specs.Steps.{lock_after, comes_before, writes_rows, is_insert, is_read}
use Rattle.myi_locks.specs.Sessions.{Session, head, holds_any, holds_write, holds_read, holds_local, others_hold}
use Rattle.myi_locks.specs.Rounds.{LockState, next_round, may_be_concurrent}
use Rattle.myi_locks.specs.Done.{advanced, steps_of, held, is_together}
use Rattle.myi_locks.specs.Script.{is_take}

-- A session can do these steps from a lock on: each is its own, a lock is taken where none is held,
-- and none is held at the end.
abbrev pub CanDo : ℕ → Option LockKind → List Step → Type 0
CanDo n held [] = held ≡ None
CanDo n held (x ∷ xs) =
    (x.session ≡ n) × (is_take x.kind ≡ true → held ≡ None) × CanDo n (lock_after x.kind held) xs

-- the numbers of the sessions rise
abbrev pub Rising : List Session → Type 0
Rising [] = Unit {0}
Rising (s ∷ ss) = AllByRecursion (λ t. s.number < t.number) ss × Rising ss

-- what the sessions of a script keep
pub record IsLawful (ss : List Session) : Type 0 where
  pub rising : Rising ss
  pub each : AllByRecursion (λ s. CanDo s.number s.held s.left) ss

-- so it is with each next round of such sessions, whatever the setting is and whether the table has
-- holes
abbrev pub EachRound : (LockState → Bool → Round → Type 0) → Type 0
EachRound P = (r : LockState) (holes : Bool) → IsLawful r.sessions → P r holes (next_round r holes)

-- ---- steps and their number

-- how many steps are left
abbrev pub steps_left : List Session → ℕ
steps_left [] = 0
steps_left (s ∷ ss) = length s.left + steps_left ss

-- a round does a step
abbrev pub HoldsStep : Round → Type 0
HoldsStep round = 0 < length (steps_of round)

-- the rounds one after the other, where the list says before each whether the table has a hole
abbrev pub after_rounds : LockState → List Bool → LockState
after_rounds r [] = r
after_rounds r (hole ∷ holes) = after_rounds (advanced r (next_round r hole)) holes

-- where the session passes the test, its next step does not come before this one
abbrev pub IsNotBefore : (Session → Bool) → Step → Session → Type 0
IsNotBefore test x s =
    test s ≡ true → (y : Step) → head s.left ≡ Some y → comes_before y x ≡ false

-- This is the next step of a session that passes the test, and no next step of such a session comes
-- before it.
pub record IsFirst (test : Session → Bool) (x : Step) (ss : List Session) : Type 0 where
  pub session : Session
  pub among : Contains ss session
  pub passes : test session ≡ true
  pub next : head session.left ≡ Some x
  pub lowest : AllByRecursion (IsNotBefore test x) ss

-- ---- what goes together

-- One session has all steps of the round that write rows.
abbrev pub HasOneWriter : Round → Type 0
HasOneWriter round =
    (n : ℕ) × AllByRecursion (λ x. writes_rows x.kind ≡ true → x.session ≡ n) (steps_of round)

-- a round of kind Together has no other steps than reads and inserts
abbrev pub ReadsOrInserts : Round → Type 0
ReadsOrInserts round =
    is_together round ≡ true
    → AllByRecursion (λ x. is_read x.kind || is_insert x.kind ≡ true) (steps_of round)

-- an insert of the session may be concurrent, and the session holds no lock
abbrev pub goes_together : LockState → Bool → ℕ → Bool
goes_together r holes n = may_be_concurrent r holes n && not (holds_any (held r n))

-- An insert of the round runs in a round of kind Together exactly where it may be concurrent and
-- its session holds no lock.
abbrev pub RunsAsItMay : LockState → Bool → Bool → Step → Type 0
RunsAsItMay r holes together x =
    is_insert x.kind ≡ true → together ≡ goes_together r holes x.session

abbrev pub InsertsAreConcurrent : LockState → Bool → Round → Type 0
InsertsAreConcurrent r holes round =
    AllByRecursion (RunsAsItMay r holes (is_together round)) (steps_of round)

-- all of these steps are reads, or none is
abbrev pub AreReadsOrNone : List Step → Type 0
AreReadsOrNone xs =
    AllByRecursion (λ x. is_read x.kind ≡ true) xs ⊎ AllByRecursion (λ x. is_read x.kind ≡ false) xs

-- ---- runs

-- the steps of a run are of such kinds, and those of its session
abbrev pub IsRunOf : (StepKind → Bool) → Run → Type 0
IsRunOf test run = AllByRecursion (λ x. (test x.kind ≡ true) × (x.session ≡ run.session)) run.steps

-- the sessions of runs rise
abbrev pub AreRising : List Run → Type 0
AreRising [] = Unit {0}
AreRising (run ∷ runs) = AllByRecursion (λ q. run.session < q.session) runs × AreRising runs

abbrev pub IsInserter : Option Run → Type 0
IsInserter None = Unit {0}
IsInserter (Some run) = IsRunOf is_insert run

-- In a round of kind Together the run beside the readers is one of inserts, and those of the readers are of reads, each of a session of
-- its own, in the order of these.
abbrev pub HasOwnRuns : Round → Type 0
HasOwnRuns Finished = Unit {0}
HasOwnRuns (Alone x) = Unit {0}
HasOwnRuns (Together inserter readers) =
    IsInserter inserter × AllByRecursion (IsRunOf is_read) readers.runs × AreRising readers.runs

-- ---- locks

-- the lock that some steps of a session leave it, where it held this one before
abbrev pub lock_left : Option LockKind → List Step → Option LockKind
lock_left held xs = fold (λ h x. lock_after x.kind h) held xs

-- Where a session holds WRITE, no other session holds a lock.
abbrev pub IsExclusive : List Session → Type 0
IsExclusive ss =
    AllByRecursion (λ s. holds_write s.held ≡ true → others_hold holds_any s.number ss ≡ false) ss

-- a session holds READ or READ LOCAL
abbrev pub is_reader : Session → Bool
is_reader s = holds_read s.held || holds_local s.held

-- Where a session holds READ or READ LOCAL, a step that goes alone and writes rows is one of a
-- session that holds such a lock itself.
abbrev pub IsRefused : LockState → Round → Type 0
IsRefused r round =
    (x : Step) → round ≡ Alone x → writes_rows x.kind ≡ true → list_any is_reader r.sessions ≡ true
    → holds_read (held r x.session) || holds_local (held r x.session) ≡ true
