-- What a session still has to do, and its lock.
use Rattle.std.specs.Prelude.{ℕ, Bool, true, false, ◌==◌, ◌&&◌, not, filter, fold, List, [], ◌∷◌, Option, Some, None, if◌then◌else◌}
use Rattle.std.specs.List.{filter_map, list_any}
use Rattle.myi_locks.specs.declared.steps.LockKind.{LockKind}
use Rattle.myi_locks.specs.declared.steps.LockKind.TheVariants.{Read, ReadLocal, Write}
use Rattle.myi_locks.specs.declared.steps.StepKind.{StepKind}
use Rattle.myi_locks.specs.declared.steps.Step.{Step}
use Rattle.myi_locks.specs.Steps.{comes_before}

-- a session: its number, its steps that are not done, in line order, and the lock that it holds
pub record Session : Type 0 where
  pub number : ℕ
  pub left : List Step
  pub held : Option LockKind

-- the lock that is held is READ
abbrev pub holds_read : Option LockKind → Bool
holds_read (Some Read) = true
holds_read held = false

-- it is READ LOCAL
abbrev pub holds_local : Option LockKind → Bool
holds_local (Some ReadLocal) = true
holds_local held = false

-- it is WRITE
abbrev pub holds_write : Option LockKind → Bool
holds_write (Some Write) = true
holds_write held = false

-- a lock is held
abbrev pub holds_any : Option LockKind → Bool
holds_any None = false
holds_any (Some kind) = true

-- a session's next step is its first that is not done
abbrev pub head : List Step → Option Step
head [] = None
head (s ∷ ss) = Some s

-- there is a step, and its kind passes the test
abbrev pub passes : (StepKind → Bool) → Option Step → Bool
passes test None = false
passes test (Some s) = test s.kind

-- a session has a next step, and it is of that kind
abbrev pub is_next : (StepKind → Bool) → Session → Bool
is_next test s = passes test (head s.left)

-- another session than that one holds such a lock
abbrev pub others_hold : (Option LockKind → Bool) → ℕ → List Session → Bool
others_hold test n ss = list_any (λ s. not (s.number == n) && test s.held) ss

-- of two next steps the first; of two that no line orders, as two added Ends, the one of the
-- session that stands first
abbrev pub earlier : Option Step → Step → Option Step
earlier None b = Some b
earlier (Some a) b = if comes_before b a then Some b else Some a

-- of the next steps of the sessions that pass the test the first, where the sessions stand in the
-- order of their numbers
abbrev pub first : (Session → Bool) → List Session → Option Step
first test ss = fold earlier None (filter_map (λ s. head s.left) (filter test ss))
