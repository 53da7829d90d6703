-- The sessions after a round, and the lock that each holds.
use Rattle.std.specs.Prelude.{ℕ, ◌==◌, ◌++◌, map, fold, drop, Bool, true, false, List, [], ◌∷◌, Option, Some, None, if◌then◌else◌}
use Rattle.std.specs.List.{flat_map}
use Rattle.myi_locks.specs.declared.steps.LockKind.{LockKind}
use Rattle.myi_locks.specs.declared.steps.Step.{Step}
use Rattle.myi_locks.specs.declared.steps.Run.{Run}
use Rattle.myi_locks.specs.declared.steps.Round.{Round}
use Rattle.myi_locks.specs.declared.steps.Round.TheVariants.{Finished, Alone, Together}
use Rattle.myi_locks.specs.Steps.{lock_after}
use Rattle.myi_locks.specs.Sessions.{Session}
use Rattle.myi_locks.specs.Rounds.{LockState, lock_state, session_of}

-- a session after its next step
abbrev pub after : Step → Session → Session
after x s = record { number = s.number; left = drop 1 s.left; held = lock_after x.kind s.held }

-- a session after a step of some session
abbrev pub after_any : Step → Session → Session
after_any x s = if s.number == x.session then after x s else s

-- the sessions after a step of one of them
abbrev pub stepped : List Session → Step → List Session
stepped ss x = map (after_any x) ss

-- the steps of a run, if there is one
abbrev pub run_steps : Option Run → List Step
run_steps None = []
run_steps (Some run) = run.steps

-- the steps of a round: those of the inserter, then those of each reader
abbrev pub steps_of : Round → List Step
steps_of Finished = []
steps_of (Alone x) = x ∷ []
steps_of (Together inserter readers) =
    run_steps inserter ++ flat_map (λ run. run.steps) readers.runs

-- where the sessions stand after a round
abbrev pub advanced : LockState → Round → LockState
advanced r round = lock_state r.setting (fold stepped r.sessions (steps_of round))

-- the lock that a session holds, if there is the session
abbrev pub lock_in : Option Session → Option LockKind
lock_in None = None
lock_in (Some s) = s.held

-- the lock that the session of that number holds, and none where no session has it
abbrev pub held : LockState → ℕ → Option LockKind
held r n = lock_in (session_of n r.sessions)

-- the round is one of reads together
abbrev pub is_together : Round → Bool
is_together Finished = false
is_together (Alone x) = false
is_together (Together inserter readers) = true
