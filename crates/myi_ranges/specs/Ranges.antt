-- A reading of the rows whose key lies between bounds: how far it came, which pairs of the key's tree are still to come, what is
-- asked of the two files of the table, and how often these are asked.
use Rattle.std.specs.Prelude.{◌≡◌, ◌+◌, ◌*◌, ◌^◌, ◌≤◌, ℕ, suc, Bool, true, false, ◌&&◌, min, List, [], ◌∷◌, filter, length, Option, Some, None, MatchOption}
use Rattle.std.specs.Ordering.{is_lt}
use Rattle.myi_base.specs.Holding.{Holding, Told, OthersStay, blocks}
use Rattle.myi_defs.specs.declared.types.RowFormat.{RowFormat}
use Rattle.myi_defs.specs.declared.types.RowFormat.TheVariants.{Static, Dynamic}
use Rattle.myi_defs.specs.declared.types.Defs.{Defs}
use Rattle.myi_pack.specs.Packed.{Values}
use Rattle.myi_keys.specs.declared.values.KeySeg.{KeySeg}
use Rattle.myi_keylist.specs.declared.pair.Pair.{Pair}
use Rattle.myi_keylist.specs.PairOrder.{pair_cmp}
use Rattle.myi_keycache.specs.Kept.{AllWritten}
use Rattle.myi_keycache.specs.Caching.{pages_of}
use Rattle.myi_btree.specs.declared.fault.TreeFault.TheVariants as tree
use Rattle.myi_search.specs.Cursor.{CursorAt, StandsIn}
use Rattle.myi_slots.specs.SlotFile.{SlotFile, IsFileOf}
use Rattle.myi_slots.specs.declared.fault.DataFault.TheVariants as read
use Rattle.myi_state.specs.State.{StoredRow, TableState, row_at}
use Rattle.myi_blocks.specs.RowReading.{read_cost}
use Rattle.myi_keytrees.specs.Trees.{Trees}
use Rattle.myi_keytrees.specs.Standing.{list_of, Stand, StillStand}
use Rattle.myi_tablestate.specs.Keyed.{IsTable}
use Rattle.myi_tablestate.specs.Listed.{pair_of_row, listed}
use Rattle.myi_tablestate.specs.Matching.{reaches, stays_below}
use Rattle.myi_ranges.specs.declared.fault.RangeFault.{RangeFault}
use Rattle.myi_ranges.specs.declared.fault.RangeFault.TheVariants.{Index, Data}
use Rattle.myi_ranges.specs.declared.ranges.Reached.{Reached}
use Rattle.myi_ranges.specs.declared.ranges.Reached.TheVariants.{Start, Key, Behind, End}
use Rattle.myi_ranges.specs.declared.ranges.RangeRows.{RangeRows}

-- ---- what is to come

-- a pair stands behind another one; where none is given, each pair does
abbrev pub comes_behind : Option Pair → Pair → Bool
comes_behind None p = true
comes_behind (Some q) p = is_lt (pair_cmp q p)

-- a pair stands behind the place that a reading came to
abbrev pub is_left : Reached → Pair → Bool
is_left Start p = true
is_left (Key low) p = reaches (Some low) p.key
is_left (Behind c) p = comes_behind c.last p
is_left End p = false

-- where a reading with this lower bound begins
abbrev pub begin_at : Option (List KeySeg) → Reached
begin_at None = Start
begin_at (Some low) = Key low

-- those of these pairs that stand behind the place
abbrev pub left_of : Reached → List Pair → List Pair
left_of at pairs = filter (is_left at) pairs

-- the pair is the first that is left, and the others are those behind it
abbrev pub IsNext : Reached → List Pair → Pair → Type 0
IsNext at pairs p = left_of at pairs ≡ p ∷ filter (comes_behind (Some p)) pairs

-- what a reading has read ahead are the next pairs of the list
abbrev pub ReadsAhead : Reached → List Pair → Type 0
ReadsAhead Start pairs = Unit {0}
ReadsAhead (Key low) pairs = Unit {0}
ReadsAhead (Behind c) pairs = StandsIn pairs c
ReadsAhead End pairs = Unit {0}

-- the cursor stands in the list, behind the first pair that is left; or none is left
abbrev pub ComesTo : Reached → List Pair → Option CursorAt → Type 0
ComesTo at pairs None = left_of at pairs ≡ []
ComesTo at pairs (Some c) = (p : Pair) × (c.last ≡ Some p) × IsNext at pairs p × StandsIn pairs c

-- a pair is to come: it is left, and its key is not above the bound
abbrev pub comes : RangeRows → Pair → Bool
comes r p = is_left r.reached p && stays_below r.to p.key

-- the pairs of a table that are to come, in order
abbrev pub coming : Defs → RangeRows → List StoredRow → List Pair
coming d r rows = filter (comes r) (listed d (suc r.key) rows)

-- The answer is the row of the first pair to come, with its position, and what is to come then are the pairs behind it; or none
-- is to come.
abbrev pub Answers : Defs → TableState → RangeRows → RangeRows → Option (ℕ × Values) → Type 0
Answers d s old new None = coming d old s.rows ≡ []
Answers d s old new (Some (at, values)) = (r : StoredRow) × (row_at at s.rows ≡ Some r) × (r.values ≡ values) × (coming d old s.rows ≡ pair_of_row d (suc old.key) r ∷ coming d new s.rows)

-- ---- the files

-- The data file stands for a table, and the tree of the key, counted from 0, for its pairs; what the reading has read ahead are the
-- next of these, as it is where nothing was read or the table is as it was then.
pub record HasTable (d : Defs) (r : RangeRows) (trees : Trees) (f : SlotFile) (s : TableState) (m : Holding) : Type 0 where
  pub table : IsTable d s
  pub file : IsFileOf f s m
  pub own : ℕ → ℕ
  pub lists : List (List Pair)
  pub stand : Stand trees m own lists
  pub pairs : list_of lists r.key ≡ listed d (suc r.key) s.rows
  pub ahead : ReadsAhead r.reached (listed d (suc r.key) s.rows)

-- Trees were searched: they stand as before, each where it did, and of files that of the index alone may hold something else, what
-- was not written yet.
pub record Searched (told next : Option Holding) (old new : Trees) : Type 0 where
  pub stand : StillStand told next old new
  pub places : new.places ≡ old.places
  pub room : new.room ≡ old.room
  pub name : new.cache.name ≡ old.cache.name
  pub written : AllWritten (pages_of old.cache) → AllWritten (pages_of new.cache) × (next ≡ told)
  pub others : Told told next (OthersStay old.cache.name)

-- a reading is refused for damage only where files tell nothing, and never for want of a row or of room
abbrev pub NeverDamaged : Option Holding → RangeFault → Type 0
NeverDamaged told (Index (tree.Damaged at)) = told ≡ None
NeverDamaged told (Index tree.File) = Unit {0}
NeverDamaged told (Index tree.Memory) = Unit {0}
NeverDamaged told (Data (read.NoRow at)) = ⊥
NeverDamaged told (Data read.Full) = ⊥
NeverDamaged told (Data (read.Damaged at)) = told ≡ None
NeverDamaged told (Data read.File) = Unit {0}
NeverDamaged told (Data read.Memory) = Unit {0}

-- the position that a pointer names, but of a slot no place behind the end of the file
abbrev pub position_by_end : RowFormat → ℕ → ℕ → ℕ → ℕ
position_by_end Static size end pointer = min (pointer * size) end
position_by_end Dynamic size end pointer = pointer

abbrev pub position_within : Defs → ℕ → ℕ → ℕ
position_within d end pointer = position_by_end d.format d.slot_length end pointer

-- ---- how often the files are asked

-- how many searches of the tree the next pair takes at most, by the pairs that were read ahead
abbrev pub searches_behind : List Pair → ℕ
searches_behind [] = 1
searches_behind (p ∷ ahead) = 0

-- and by the place that a reading came to: from a key on one for the key, and one where no pair has it
abbrev pub searches : Reached → ℕ
searches Start = 1
searches (Key low) = 2
searches (Behind c) = searches_behind c.ahead
searches End = 0

-- a count rose by no more than so many searches of a tree of so many pairs may count for, each for a number of levels that it can
-- have, and one; and by so many more
pub record RoseBySearches (times pairs more before after : ℕ) : Type 0 where
  pub levels : ℕ
  pub fit : 2 ^ levels ≤ pairs + 1
  pub few : after ≤ before + times * (levels + 1) + more

-- how many reads a row may count for: its slot, or its blocks
abbrev pub row_cost_by : RowFormat → ℕ → StoredRow → ℕ
row_cost_by Static size r = blocks size
row_cost_by Dynamic size r = read_cost r.blocks

-- and none where no row is answered
abbrev pub row_cost : Defs → Option StoredRow → ℕ
row_cost d None = 0
row_cost d (Some r) = row_cost_by d.format d.slot_length r

-- the files were read no more often than the searches of the tree and the row that is answered may count for
abbrev pub ReadInFew : Defs → TableState → RangeRows → Option (ℕ × Values) → ℕ → ℕ → Type 0
ReadInFew d s old None before after = RoseBySearches (searches old.reached) (length (listed d (suc old.key) s.rows)) 0 before after
ReadInFew d s old (Some (at, values)) before after = RoseBySearches (searches old.reached) (length (listed d (suc old.key) s.rows)) (row_cost d (row_at at s.rows)) before after

-- the row is the first to come
abbrev pub IsFirstToCome : Defs → TableState → RangeRows → StoredRow → Type 0
IsFirstToCome d s old r = (row_at r.at s.rows ≡ Some r) × (others : List Pair) × (coming d old s.rows ≡ pair_of_row d (suc old.key) r ∷ others)

-- Where a fault is answered: the files were read no more often than the searches of the tree may count for, and, where it was come to, the
-- first row to come.
pub record FailsInFew (d : Defs) (s : TableState) (old : RangeRows) (before after : ℕ) : Type 0 where
  pub next : Option StoredRow
  pub comes : MatchOption next (Unit {0}) (IsFirstToCome d s old)
  pub few : RoseBySearches (searches old.reached) (length (listed d (suc old.key) s.rows)) (row_cost d next) before after
