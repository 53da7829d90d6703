-- The rule of a tail's table: what holds of its cells and of what each seat knows, whichever steps were
-- made by whichever thread.
use Rattle.std.specs.Prelude.{◌≡◌, ◌≢◌, ℕ, ◌<◌, ◌≤◌, List, length, drop, slice_index, All}
use mathlib.Core.Option.{some}
use lib.ListN.{get_elem?}
use Rattle.myi_tail.specs.declared.table.View.{View}
use Rattle.myi_tail.specs.declared.table.View.TheVariants.{Appends, Reads, Spent}
use Rattle.myi_tail.specs.Prefix.{BeginsWith}

-- the table at one moment: its cells, and the view of each seat
pub record Moment : Type 0 where
  pub cells : List ℕ
  pub views : List View

-- the first of the words, and no more than this many
pub record IsKnown (count : ℕ) (words known : List ℕ) : Type 0 where
  pub front : BeginsWith words known
  pub within : length known ≤ count

-- what a seat that is not the appender's knows is so
abbrev pub IsOther : ℕ → List ℕ → ℕ → View → Type 0
IsOther size words published (Appends n stored count joined) = ⊥
IsOther size words published (Reads n seen known) = (n ≡ size) × (seen ≤ published) × IsKnown seen words known
IsOther size words published Spent = Unit {0}

-- One view is the appender's. At most all of the words are published, and they fit the cells. Cell 0 is
-- the published count, and the cells behind it begin with the words. A reader saw at most that count; what
-- it knows is a front of the words, no longer than what it saw. What a joined reader knew is a front no
-- longer than the count. A spent view says nothing.
pub record Kept (m : Moment) : Type 0 where
  pub words : List ℕ
  pub published : ℕ
  pub appender : ℕ
  pub joined : List (List ℕ)
  pub appends : get_elem? m.views appender ≡ some (Appends (length m.cells) words published joined)
  pub fits : length words < length m.cells
  pub within : published ≤ length words
  pub counted : slice_index m.cells 0 ≡ published
  pub stored : BeginsWith (drop 1 m.cells) words
  pub all_known : All (IsKnown published words) joined
  pub others : (seat : ℕ) (view : View) → seat ≢ appender → get_elem? m.views seat ≡ some view
      → IsOther (length m.cells) words published view

-- the rule holds, with these words and so many of them published
abbrev pub Keeps : Moment → List ℕ → ℕ → Type 0
Keeps m words published = (k : Kept m) × (k.words ≡ words) × (k.published ≡ published)
