-- Reading the rows of a table, one after the other: which are still to come, and how often the files are asked for them.
use Rattle.std.specs.Prelude.{◌≡◌, ◌⊎◌, ◌+◌, ◌<◌, ◌≤◌, ℕ, suc, List, [], ◌∷◌, ◌++◌, length, map, sum_by, Option, Some, None}
use Rattle.myi_base.specs.Holding.{Holding, IfTold}
use Rattle.myi_defs.specs.declared.types.Defs.{Defs}
use Rattle.myi_pack.specs.Packed.{Values}
use Rattle.myi_keylist.specs.declared.pair.Pair.{Pair}
use Rattle.myi_pair.specs.Clean.{placed_row}
use Rattle.myi_data.specs.Scanning.{TableScan, rows_ahead, IsAsKnown}
use Rattle.myi_state.specs.State.{StoredRow, TableState}
use Rattle.myi_tablestate.specs.Listed.{placed, pair_of_row, listed}
use Rattle.myi_tablestate.specs.Matching.{Bounds, AreMatching}
use Rattle.myi_ranges.specs.declared.ranges.RangeRows.{RangeRows}
use Rattle.myi_ranges.specs.declared.ranges.Reached.TheVariants.{End}
use Rattle.myi_ranges.specs.Ranges.{begin_at, coming, ReadsAhead, RoseBySearches, row_cost_by}
use Rattle.myi_table.specs.declared.ranges.Range.{Range}
use Rattle.myi_table.specs.declared.fault.ReadFault.{ReadFault}
use Rattle.myi_table.specs.declared.fault.ReadFault.TheVariants as fault
use Rattle.myi_table.specs.Table.{OpenTable, defs_in}

-- ---- all rows

-- the rows that a scan has still to answer, where the files hold this
abbrev pub rows_to_come : TableScan → Holding → List (ℕ × Values)
rows_to_come scan m = map (placed_row scan.test) (rows_ahead scan m)

-- of some rows the answer is the first, and these are the others; or there are none
abbrev pub IsFirst : List (ℕ × Values) → List (ℕ × Values) → Option (ℕ × Values) → Type 0
IsFirst rows others None = rows ≡ []
IsFirst rows others (Some row) = rows ≡ row ∷ others

-- all rows of a table are to come, in order of their positions, and the file is as the scan knows it
pub record BeginsWithAll (scan : TableScan) (s : TableState) (m : Holding) : Type 0 where
  pub rows : rows_to_come scan m ≡ map placed s.rows
  pub known : IsAsKnown scan m

-- a row was answered and the scan went on, or it is at its end
abbrev pub GoesOn : TableScan → TableScan → Option (ℕ × Values) → Type 0
GoesOn old new None = new.place ≡ new.end
GoesOn old new (Some row) = (old.place < new.place) × (new.place ≤ new.end)

-- the same rows are to come, or those behind the first of them
abbrev pub ComeOrPassed : List (ℕ × Values) → List (ℕ × Values) → Type 0
ComeOrPassed old new = (new ≡ old) ⊎ ((row : ℕ × Values) × (old ≡ row ∷ new))

-- After a failed file call the same rows are to come; where memory was wanting the first of them may have been passed; of a broken
-- table nothing was read.
abbrev pub ScanStays : ReadFault → Option Holding → TableScan → TableScan → Type 0
ScanStays (fault.Broken cause) told old new = new ≡ old
ScanStays (fault.Damaged at) told old new = ⊥
ScanStays fault.File told old new = IfTold told (λ m. rows_to_come new m ≡ rows_to_come old m)
ScanStays fault.Memory told old new = IfTold told (λ m. ComeOrPassed (rows_to_come old m) (rows_to_come new m))

-- ---- the rows of a key

-- the key of a reading is one of the table
abbrev pub HasKey : OpenTable → RangeRows → Type 0
HasKey t r = r.key < length t.rows.trees.places

-- what a reading has read ahead are the next pairs of the table, as it is where it has read nothing
abbrev pub IsAhead : OpenTable → RangeRows → TableState → Type 0
IsAhead t r s = ReadsAhead r.reached (listed (defs_in t) (suc r.key) s.rows)

-- the reading is of the same key and bounds, and at another place
abbrev pub IsSameReading : RangeRows → RangeRows → Type 0
IsSameReading old new = new ≡ record old { reached = new.reached }

-- nothing is to come any more
abbrev pub IsAtEnd : RangeRows → Type 0
IsAtEnd r = r.reached ≡ End

-- after a refusal nothing is to come any more, but of a broken table: there the reading is as before
abbrev pub StopsAt : ReadFault → RangeRows → RangeRows → Type 0
StopsAt (fault.Broken cause) old new = new ≡ old
StopsAt (fault.Damaged at) old new = IsAtEnd new
StopsAt fault.File old new = IsAtEnd new
StopsAt fault.Memory old new = IsAtEnd new

-- the fault is that of a broken table, and this holds
abbrev pub IfBroken : ReadFault → Type 0 → Type 0
IfBroken (fault.Broken cause) P = P
IfBroken (fault.Damaged at) P = Unit {0}
IfBroken fault.File P = Unit {0}
IfBroken fault.Memory P = Unit {0}

-- a reading of these rows, which has read nothing
abbrev pub begun : Range → RangeRows
begun r = record { key = r.key; to = r.to; reached = begin_at r.from }

-- the bounds of the rows that are asked for
abbrev pub bounds_of : Range → Bounds
bounds_of r = record { from = r.from; to = r.to }

-- how many reads of the files these rows may count for
abbrev pub cost_of : Defs → List StoredRow → ℕ
cost_of d rows = sum_by (λ (r : StoredRow). row_cost_by d.format d.slot_length r) rows

-- The answer is the rows of the table that match, in order of their keys and positions. The files were read no more often than these rows
-- and two searches more than there are rows may count for.
pub record AnswersRange (d : Defs) (s : TableState) (range : Range) (before after : ℕ) (answer : List (ℕ × Values)) : Type 0 where
  pub found : List StoredRow
  pub rows : answer ≡ map placed found
  pub matching : AreMatching d (suc range.key) (bounds_of range) s.rows found
  pub few : RoseBySearches (length found + 2) (length (listed d (suc range.key) s.rows)) (cost_of d found) before after

-- The files were read no more often than some of the rows that match, the first ones, and two searches more than there are of these may
-- count for.
pub record ReadsInRange (d : Defs) (s : TableState) (range : Range) (before after : ℕ) : Type 0 where
  pub read : List StoredRow
  pub others : List Pair
  pub first : coming d (begun range) s.rows ≡ map (pair_of_row d (suc range.key)) read ++ others
  pub few : RoseBySearches (length read + 2) (length (listed d (suc range.key) s.rows)) (cost_of d read) before after
