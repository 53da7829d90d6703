-- The sessions of a script: each has its steps in line order, and an End at their end, which is
-- added where the script does not say it.
use Rattle.std.specs.Prelude.{◌≡◌, ℕ, ◌≤◌, Bool, true, false, ◌==◌, nat_lt, ◌++◌, map, filter, fold, List, [], ◌∷◌, None, if◌then◌else◌, slice_get, length, ◌-◌}
use Rattle.std.specs.List.{AllByRecursion}
use Rattle.myi_locks.specs.declared.steps.StepKind.{StepKind}
use Rattle.myi_locks.specs.declared.steps.StepKind.TheVariants.{Release, Take, End}
use Rattle.myi_locks.specs.declared.steps.Step.{Step}
use Rattle.myi_locks.specs.Sessions.{Session, passes}
use Rattle.myi_locks.specs.Rounds.{LockState, lock_state}

-- ---- the steps of a script

-- the kinds that take a lock, give all up before, and end a session
abbrev pub is_take : StepKind → Bool
is_take (Take kind) = true
is_take kind = false

abbrev pub is_release : StepKind → Bool
is_release Release = true
is_release kind = false

abbrev pub is_end : StepKind → Bool
is_end End = true
is_end kind = false

-- the steps of a session
abbrev pub own : ℕ → List Step → List Step
own n xs = filter (λ x. x.session == n) xs

-- the lines never fall, and the first is at least this one
abbrev pub LinesRise : ℕ → List Step → Type 0
LinesRise low [] = Unit {0}
LinesRise low (x ∷ xs) = (low ≤ x.line) × LinesRise x.line xs

-- no line belongs to two sessions
abbrev pub LinesAreOwn : List Step → Type 0
LinesAreOwn [] = Unit {0}
LinesAreOwn (x ∷ xs) =
    AllByRecursion (λ y. y.line ≡ x.line → y.session ≡ x.session) xs × LinesAreOwn xs

-- each Take comes directly after a Release; the step before these ones was a Release, or was none
abbrev pub TakesFollow : Bool → List Step → Type 0
TakesFollow released [] = Unit {0}
TakesFollow released (x ∷ xs) =
    (is_take x.kind ≡ true → released ≡ true) × TakesFollow (is_release x.kind) xs

-- nothing follows an End
abbrev pub EndIsLast : List Step → Type 0
EndIsLast [] = Unit {0}
EndIsLast (x ∷ xs) = (is_end x.kind ≡ true → xs ≡ []) × EndIsLast xs

-- These steps may be those of a script: lines count from 1, and a `lock` line is a Release and a
-- Take.
pub record IsScript (xs : List Step) : Type 0 where
  pub rise : LinesRise 1 xs
  pub lines : LinesAreOwn xs
  pub takes : (n : ℕ) → TakesFollow false (own n xs)
  pub ends : (n : ℕ) → EndIsLast (own n xs)

-- ---- the sessions before the first round

-- a number put into a rising list, once
abbrev pub with_number : ℕ → List ℕ → List ℕ
with_number n [] = n ∷ []
with_number n (m ∷ ms) =
    if n == m then m ∷ ms
    else (if nat_lt n m then n ∷ m ∷ ms else m ∷ with_number n ms)

-- the sessions that have a step, in the order of their numbers
abbrev pub numbers : List Step → List ℕ
numbers xs = fold (λ ns x. with_number x.session ns) [] xs

-- the End that a session gets whose steps have none
abbrev pub added_end : ℕ → Step
added_end n = record { session = n; line = 0; kind = End }

-- a session's steps with an End at their end
abbrev pub with_end : ℕ → List Step → List Step
with_end n xs = if passes is_end (slice_get xs (length xs - 1)) then xs else xs ++ added_end n ∷ []

-- a session that has done no step
abbrev pub session_from : List Step → ℕ → Session
session_from xs n = record { number = n; left = with_end n (own n xs); held = None }

-- where the sessions stand before the first round
abbrev pub opening : ℕ → List Step → LockState
opening setting xs = lock_state setting (map (session_from xs) (numbers xs))
