-- What can happen to a tail: steps of any seats, in any order.
use Rattle.std.specs.Prelude.{◌≡◌, ℕ, ◌+◌, ◌≤◌, List, [], ◌∷◌, take, drop, slice_index, replicate}
use mathlib.Core.Option.{some}
use lib.ListN.{get_elem?}
use Rattle.myi_tail.specs.Prefix.{BeginsWith}
use Rattle.myi_tail.specs.Rule.{Moment}
use Rattle.myi_tail.specs.Plays.{opening}
use Rattle.myi_tail.specs.Steps.{AppenderView, ReaderView, reads, StoresWord, StoresCount, LooksAtCount, LoadsCount, LoadsWord, SplitsSeat, JoinsSeat}

-- a new table with room for so many words, with the appender's seat alone
abbrev pub new_table : ℕ → Moment
new_table words = record { cells = replicate (words + 1) 0; views = opening (words + 1) ∷ [] }

-- one step of any kind through any seat
pub data IsStep (before after : Moment) : Type 0 where
  stores_word : (seat : ℕ) (a : AppenderView) (word : ℕ) → StoresWord seat a word before after → IsStep before after
  stores_count : (seat : ℕ) (a : AppenderView) → StoresCount seat a before after → IsStep before after
  looks_at_count : (seat : ℕ) (a : AppenderView) → LooksAtCount seat a before after → IsStep before after
  loads_count : (seat : ℕ) (r : ReaderView) (count : ℕ) → LoadsCount seat r count before after → IsStep before after
  loads_word : (seat : ℕ) (r : ReaderView) (word : ℕ) → LoadsWord seat r word before after → IsStep before after
  splits_seat : (seat : ℕ) (a : AppenderView) → SplitsSeat seat a before after → IsStep before after
  joins_seat : (seat other : ℕ) (a : AppenderView) (r : ReaderView) → JoinsSeat seat other a r before after → IsStep before after

-- the moments after one come from each other by steps
abbrev pub IsRun : Moment → List Moment → Type 0
IsRun m [] = Unit {0}
IsRun m (n ∷ later) = IsStep m n × IsRun n later

-- the published words: so many of those in the cells as the count says
abbrev pub published_in : Moment → List ℕ
published_in m = take (slice_index m.cells 0) (drop 1 m.cells)

-- each reader saw at most the count, and knows the first of the published words
abbrev pub ReadersFollow : Moment → Type 0
ReadersFollow m = (seat : ℕ) (r : ReaderView) → get_elem? m.views seat ≡ some (reads r)
    → (r.seen ≤ slice_index m.cells 0) × BeginsWith (published_in m) r.known
