-- The keys of each worker.
use Rattle.std.specs.Prelude.{◌≡◌, ℕ, ◌<◌, List, [], ◌∷◌, ◌++◌, length, map, set, slice_index_or}
use Rattle.myi_parallel.specs.declared.working.Share.{Share}
use Rattle.myi_parallel.specs.Asked.{Asked}
use Rattle.myi_parallel.specs.KeyTrees.{asked_of}
use Rattle.myi_parallel.specs.Dealing.{dealt}

-- what is asked of a worker
abbrev pub asked_in : Share → List Asked
asked_in s = map asked_of s.trees.items

-- what is asked of the worker of that number
abbrev pub share_of : List (List Asked) → ℕ → List Asked
share_of shares worker = slice_index_or shares worker []

-- one worker gets one more
abbrev pub GetsOne : ℕ → Asked → List (List Asked) → List (List Asked) → Type 0
GetsOne turn one old new = new ≡ set old turn (share_of old turn ++ one ∷ [])

-- these were dealt out to so many workers
pub record Deals (workers : ℕ) (all : List Asked) (shares : List (List Asked)) : Type 0 where
  pub count : length shares ≡ workers
  pub each : (worker : ℕ) → worker < workers → share_of shares worker ≡ dealt workers worker all
