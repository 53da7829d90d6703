-- How a key cache goes on through calls, whatever its file is: its setup, and what its counters say.
use Rattle.std.specs.Prelude.{◌≡◌, ◌-◌, ◌^◌, ◌≤◌, ℕ, min}
use Rattle.myi_keycache.specs.Caching.{Caching}

-- a counter did not fall; at the end of its type it stays
abbrev pub GoesOn : ℕ → ℕ → Type 0
GoesOn before after = min before (2 ^ 64 - 1) ≤ after

-- the setup is as before, no counter fell, and where no more pages were read than asked for, no more are now
pub record CountsOn (old new : Caching) : Type 0 where
  pub setup : new.setup ≡ old.setup
  pub read_requests : GoesOn old.counters.read_requests new.counters.read_requests
  pub reads : GoesOn old.counters.reads new.counters.reads
  pub write_requests : GoesOn old.counters.write_requests new.counters.write_requests
  pub writes : GoesOn old.counters.writes new.counters.writes
  pub fewer : old.counters.reads ≤ old.counters.read_requests → new.counters.reads ≤ new.counters.read_requests
