-- What is known of a file in part: bytes that were read from a place on.
use Rattle.std.specs.Prelude.{◌≡◌, ◌≤◌, ◌+◌, ◌-◌, ℕ, nat_le, if◌then◌else◌, List, [], length, take, drop, Option}
use Rattle.myi_base.specs.Holding.{Holding, bytes_of, IfTold}
use Rattle.myi_window.specs.declared.window.TheConstants.{WINDOW}

-- bytes of a file from a place on, as they were read
pub record Excerpt : Type 0 where
  pub from : ℕ
  pub bytes : List ℕ

-- nothing of a file
abbrev pub nothing : Excerpt
nothing = record { from = 0; bytes = [] }

-- the bytes from a place on; none where the place is before the excerpt
abbrev pub bytes_from : ℕ → Excerpt → List ℕ
bytes_from at e = if nat_le e.from at then drop (at - e.from) e.bytes else []

-- the bytes from a place up to an end
abbrev pub moved : ℕ → ℕ → Excerpt → Excerpt
moved at end e = record { from = at; bytes = take (end - at) (bytes_from at e) }

-- a list begins with these bytes
abbrev pub AreFront : List ℕ → List ℕ → Type 0
AreFront xs ys = xs ≡ take (length xs) ys

-- the excerpt stands in a file of these bytes
abbrev pub StandsIn : Excerpt → List ℕ → Type 0
StandsIn e d = AreFront e.bytes (drop e.from d)

-- the excerpt holds no byte at an end or behind it
abbrev pub EndsBy : ℕ → Excerpt → Type 0
EndsBy end e = e.from + length e.bytes ≤ end

-- an excerpt that stands in a file stands there after a call
abbrev pub GoesOnStanding : List ℕ → Excerpt → Excerpt → Holding → Type 0
GoesOnStanding name old new m = StandsIn old (bytes_of name m) → StandsIn new (bytes_of name m)

-- A call on an excerpt goes to a place of a file, and reads no byte at an end or behind it, in any files and whether or not
-- it failed. What stood in the file stands there then.
pub record GoesTo (name : List ℕ) (at end : ℕ) (holds : Option Holding) (old new : Excerpt) : Type 0 where
  pub from : new.from ≡ at
  pub inside : EndsBy end new
  pub stands : IfTold holds (GoesOnStanding name old new)

-- after a call on an excerpt of a file, it is the file from a place up to an end
abbrev pub HoldsTo : List ℕ → ℕ → ℕ → Excerpt → Excerpt → Holding → Type 0
HoldsTo name at end old new m = StandsIn old (bytes_of name m) → new.bytes ≡ take (end - at) (drop at (bytes_of name m))

-- after a call on an excerpt of a file, it is a whole window of the file from a place on, or all up to an end
abbrev pub IsFull : List ℕ → ℕ → ℕ → Excerpt → Excerpt → Holding → Type 0
IsFull name at end old new m = StandsIn old (bytes_of name m) → new.bytes ≡ take WINDOW (drop at (take end (bytes_of name m)))

-- after a call on an excerpt of a file, its first bytes are so many of the file from a place on
abbrev pub IsOver : List ℕ → ℕ → ℕ → Excerpt → Excerpt → Holding → Type 0
IsOver name at size old new m = StandsIn old (bytes_of name m) → take size new.bytes ≡ take size (drop at (bytes_of name m))
