-- What is held of the slots of a file: how long a slot is, and an excerpt of the file.
use Rattle.std.specs.Prelude.{◌<◌, ◌≤◌, ℕ, List, length, take}
use Rattle.myi_base.specs.Holding.{Holding, bytes_of}
use Rattle.myi_window.specs.Excerpt.{Excerpt, StandsIn}
use Rattle.myi_window.specs.declared.window.TheConstants.{WINDOW}
use Rattle.myi_chain.specs.declared.piece.Piece.{Piece}
use Rattle.myi_chain.specs.declared.piece.Piece.TheVariants.{Lent, Joined}

pub record SlotsHeld : Type 0 where
  pub size : ℕ
  pub held : Excerpt

-- the file, read up to an end, ends before a place, if an excerpt of it stands in it
abbrev pub EndsBefore : List ℕ → ℕ → ℕ → Excerpt → Holding → Type 0
EndsBefore name place end e m = StandsIn e (bytes_of name m) → length (take end (bytes_of name m)) < place

-- the bytes of a slot that a window can hold are lent, those of a longer one are joined
abbrev pub IsFormOf : ℕ → Piece → Type 0
IsFormOf size (Lent bytes) = size ≤ WINDOW
IsFormOf size (Joined bytes) = WINDOW < size
