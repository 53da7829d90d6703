-- Steps placed one after the other into the sessions that they belong to.
use Rattle.std.specs.Prelude.{◌==◌, nat_lt, ◌++◌, fold, List, [], ◌∷◌, None, if◌then◌else◌}
use Rattle.myi_locks.specs.declared.steps.Step.{Step}
use Rattle.myi_locks.specs.Sessions.{Session}
use Rattle.myi_locks.specs.Script.{with_end}

-- a session with one step
abbrev pub begun : Step → Session
begun x = record { number = x.session; left = x ∷ []; held = None }

-- a session with one more step
abbrev pub with_step : Step → Session → Session
with_step x s = record { number = s.number; left = s.left ++ x ∷ []; held = s.held }

-- a session whose last step is an End
abbrev pub ended : Session → Session
ended s = record { number = s.number; left = with_end s.number s.left; held = s.held }

-- a step put behind the others of its session
abbrev pub placed : Step → List Session → List Session
placed x [] = begun x ∷ []
placed x (s ∷ ss) =
    if nat_lt s.number x.session then s ∷ placed x ss
    else (if s.number == x.session then with_step x s ∷ ss else begun x ∷ s ∷ ss)

-- steps put one after the other
abbrev pub all_placed : List Step → List Session
all_placed xs = fold (λ ss x. placed x ss) [] xs
