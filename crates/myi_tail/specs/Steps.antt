-- The kinds of step. Each is one operation on one cell through one seat, and at most the view of that seat
-- changes by it; at a split there is a new seat besides, and at a join one is spent.
use Rattle.std.specs.Prelude.{◌≡◌, ℕ, ◌+◌, ◌<◌, List, [], ◌∷◌, ◌++◌, length, slice_index, slice_set}
use mathlib.Core.Option.{some}
use lib.ListN.{get_elem?}
use Rattle.myi_tail.specs.declared.table.View.{View}
use Rattle.myi_tail.specs.declared.table.View.TheVariants.{Appends, Reads, Spent}
use Rattle.myi_tail.specs.Rule.{Moment}

-- the view of the seat was one and is another now, and no other view changes
pub record Turns (seat : ℕ) (old new : View) (before after : List View) : Type 0 where
  pub was : get_elem? before seat ≡ some old
  pub becomes : after ≡ slice_set before seat new

-- what an appender's view says
pub record AppenderView : Type 0 where
  pub size : ℕ
  pub words : List ℕ
  pub published : ℕ
  pub joined : List (List ℕ)

abbrev pub appends : AppenderView → View
appends a = Appends a.size a.words a.published a.joined

-- what a reader's view says
pub record ReaderView : Type 0 where
  pub size : ℕ
  pub seen : ℕ
  pub known : List ℕ

abbrev pub reads : ReaderView → View
reads r = Reads r.size r.seen r.known

-- the appender stores a word in the cell directly after those of its words
pub record StoresWord (seat : ℕ) (a : AppenderView) (word : ℕ) (before after : Moment) : Type 0 where
  pub room : length a.words + 1 < a.size
  pub cells : after.cells ≡ slice_set before.cells (length a.words + 1) word
  pub view : Turns seat (appends a) (appends record a { words = a.words ++ word ∷ [] }) before.views after.views

-- the appender stores the count of its words in the first cell
pub record StoresCount (seat : ℕ) (a : AppenderView) (before after : Moment) : Type 0 where
  pub cells : after.cells ≡ slice_set before.cells 0 (length a.words)
  pub view : Turns seat (appends a) (appends record a { published = length a.words }) before.views after.views

-- the appender looks at the count, which changes nothing
pub record LooksAtCount (seat : ℕ) (a : AppenderView) (before after : Moment) : Type 0 where
  pub was : get_elem? before.views seat ≡ some (appends a)
  pub same : after ≡ before

-- a reader loads the count
pub record LoadsCount (seat : ℕ) (r : ReaderView) (count : ℕ) (before after : Moment) : Type 0 where
  pub found : count ≡ slice_index before.cells 0
  pub cells : after.cells ≡ before.cells
  pub view : Turns seat (reads r) (reads record r { seen = count }) before.views after.views

-- a reader loads the next word below the count that it saw
pub record LoadsWord (seat : ℕ) (r : ReaderView) (word : ℕ) (before after : Moment) : Type 0 where
  pub below : length r.known < r.seen
  pub found : word ≡ slice_index before.cells (length r.known + 1)
  pub cells : after.cells ≡ before.cells
  pub view : Turns seat (reads r) (reads record r { known = r.known ++ word ∷ [] }) before.views after.views

-- a new seat is split from the appender's, for a reader that has seen nothing
pub record SplitsSeat (seat : ℕ) (a : AppenderView) (before after : Moment) : Type 0 where
  pub was : get_elem? before.views seat ≡ some (appends a)
  pub cells : after.cells ≡ before.cells
  pub views : after.views ≡ before.views ++ Reads a.size 0 [] ∷ []

-- a reader's seat is joined to the appender's, which notes what the reader knew
pub record JoinsSeat (seat other : ℕ) (a : AppenderView) (r : ReaderView) (before after : Moment) : Type 0 where
  pub was : get_elem? before.views seat ≡ some (appends a)
  pub other_was : get_elem? before.views other ≡ some (reads r)
  pub cells : after.cells ≡ before.cells
  pub views : after.views ≡ slice_set (slice_set before.views seat (appends record a { joined = a.joined ++ r.known ∷ [] })) other Spent
