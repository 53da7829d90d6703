-- The next rows of several tables that are read at the same time, and what calls on the tables leave of these.
use Rattle.std.specs.Prelude.{◌≡◌, ◌+◌, ◌<◌, ◌≤◌, ℕ, zero, suc, Bool, true, false, List, [], ◌∷◌, ◌++◌, length, map, slice_get, slice_set, IsSome, Option, Some, None}
use Rattle.std.specs.Ordering.{is_lt}
use Rattle.std.specs.List.{AllByRecursion}
use Rattle.myi_defs.specs.declared.types.Defs.{Defs}
use Rattle.myi_keys.specs.Order.{key_cmp}
use Rattle.myi_data.specs.Keys.{key_of}
use Rattle.myi_pack.specs.Packed.{Values}
use Rattle.myi_state.specs.State.{StoredRow, TableState, row_at}
use Rattle.myi_tablestate.specs.Listed.{pair_of_row, listed}
use Rattle.myi_ranges.specs.declared.ranges.RangeRows.{RangeRows}
use Rattle.myi_ranges.specs.Ranges.{coming, Answers, searches, row_cost, RoseBySearches}
use Rattle.myi_table.specs.declared.ranges.Range.{Range}
use Rattle.myi_table.specs.declared.fault.ReadFault.{ReadFault}
use Rattle.myi_table.specs.declared.fault.ReadFault.TheVariants as fault
use Rattle.myi_table.specs.Reading.{IsAhead, IsSameReading, begun, cost_of}
use Rattle.myi_base.specs.Holding.{Holding, Told}
use Rattle.myi_table.specs.Table.{OpenTable, defs_in, IfHolds}
use Rattle.myi_merge.specs.Merged.{FirstBroken}
use Rattle.myi_merge.specs.Changing.{Keeps, KeepEach}
use Rattle.myi_merge.specs.Reading.{MergedRow, of_table}
use Rattle.myi_merge.specs.declared.ranges.Head.{Head}
use Rattle.myi_merge.specs.declared.ranges.Reading.{Reading}

-- a row comes before another by its key; each row comes before none
abbrev pub comes_before : Option Head → Option Head → Bool
comes_before None best = false
comes_before (Some head) None = true
comes_before (Some head) (Some best) = is_lt (key_cmp head.key best.key)

-- a row that is answered, as it was answered by the reading of its table
abbrev pub answer_of : Option Head → Option (ℕ × Values)
answer_of None = None
answer_of (Some head) = Some (head.at, head.row)

abbrev pub HasItsKey : Defs → ℕ → Option Head → Type 0
HasItsKey d k None = Unit {0}
HasItsKey d k (Some head) = head.key ≡ key_of d k head.row

-- the row is the next of a table's reading, with its key
pub record IsNextOf (d : Defs) (s : TableState) (old new : RangeRows) (head : Option Head) : Type 0 where
  pub answers : Answers d s old new (answer_of head)
  pub key : HasItsKey d (suc old.key) head

-- the reading of that number has a next row; none comes before it, and no reading before it has one with its key
pub record IsLeast (rs : List Reading) (index : ℕ) : Type 0 where
  pub least : Reading
  pub stands : slice_get rs index ≡ Some least
  pub there : IsSome least.head
  pub first : (i : ℕ) (r : Reading) → slice_get rs i ≡ Some r → comes_before r.head least.head ≡ false
  pub none : (i : ℕ) (r : Reading) → i < index → slice_get rs i ≡ Some r → IsSome r.head → comes_before least.head r.head ≡ true

-- ---- what came of one table

-- each row is the one at its position
abbrev pub IsThere : TableState → StoredRow → Type 0
IsThere s r = row_at r.at s.rows ≡ Some r

-- the next row of a reading is this one of the table, with its key
pub record Stands (d : Defs) (s : TableState) (k : ℕ) (h : Head) : Type 0 where
  pub row : StoredRow
  pub there : IsThere s row
  pub at : row.at ≡ h.at
  pub values : row.values ≡ h.row
  pub key : h.key ≡ key_of d k h.row

-- of the rows to come at the beginning these came, then the next one, and the others are to come still; or no row is to come
abbrev pub GoesOn : Defs → TableState → RangeRows → RangeRows → List StoredRow → Option Head → Type 0
GoesOn d s b r came None = coming d b s.rows ≡ map (pair_of_row d (suc b.key)) came
GoesOn d s b r came (Some h) = (n : Stands d s (suc b.key) h) × (coming d b s.rows ≡ map (pair_of_row d (suc b.key)) came ++ pair_of_row d (suc b.key) n.row ∷ coming d r s.rows)

-- these rows of a table came so far by a reading that began so
pub record Reads (d : Defs) (s : TableState) (b : RangeRows) (r : Reading) (came : List StoredRow) : Type 0 where
  pub same : IsSameReading b r.rows
  pub there : AllByRecursion (IsThere s) came
  pub goes_on : GoesOn d s b r.rows came r.head

-- ---- what came of all tables

-- of each table these rows came, and its reading goes on; tables are numbered from this number on
abbrev pub ReadEach : Range → ℕ → List OpenTable → List TableState → List Reading → List MergedRow → Type 0
ReadEach range n [] [] [] found = Unit {0}
ReadEach range n (t ∷ ts) (s ∷ ss) (r ∷ rs) found = Reads (defs_in t) s (begun range) r (of_table n found) × ReadEach range (n + 1) ts ss rs found
ReadEach range n [] [] (r ∷ rs) found = ⊥
ReadEach range n [] (s ∷ ss) rs found = ⊥
ReadEach range n (t ∷ ts) [] rs found = ⊥
ReadEach range n (t ∷ ts) (s ∷ ss) [] found = ⊥

-- how many reads the row that is read ahead may count for
abbrev pub head_cost : Defs → TableState → Option Head → ℕ
head_cost d s None = 0
head_cost d s (Some h) = row_cost d (row_at h.at s.rows)

-- behind a row the next one is found by one search at most
abbrev pub SearchesOnce : RangeRows → Option Head → Type 0
SearchesOnce r None = Unit {0}
SearchesOnce r (Some h) = searches r.reached ≤ 1

-- a count rose, table by table, by no more than the rows that came and the one that is read ahead may count for
abbrev pub ReadInFewEach : Range → ℕ → List OpenTable → List TableState → List Reading → List MergedRow → ℕ → ℕ → Type 0
ReadInFewEach range n [] [] [] found before now = now ≤ before
ReadInFewEach range n (t ∷ ts) (s ∷ ss) (r ∷ rs) found before now =
    (mid : ℕ) × RoseBySearches (length (of_table n found) + 2) (length (listed (defs_in t) (suc range.key) s.rows)) (cost_of (defs_in t) (of_table n found) + head_cost (defs_in t) s r.head) before mid × ReadInFewEach range (n + 1) ts ss rs found mid now
ReadInFewEach range n [] [] (r ∷ rs) found before now = ⊥
ReadInFewEach range n [] (s ∷ ss) rs found before now = ⊥
ReadInFewEach range n (t ∷ ts) [] rs found before now = ⊥
ReadInFewEach range n (t ∷ ts) (s ∷ ss) [] found before now = ⊥

-- what each reading has read ahead comes next in its table
abbrev pub AheadEach : Option Holding → List OpenTable → List Reading → Type 0
AheadEach told [] [] = Unit {0}
AheadEach told (t ∷ ts) (r ∷ rs) = IfHolds told t (λ m s. IsAhead t r.rows s) × AheadEach told ts rs
AheadEach told [] (r ∷ rs) = ⊥
AheadEach told (t ∷ ts) [] = ⊥

-- a reading is refused at once for the first broken table, and for nothing else
abbrev pub IsFirstBroken : List OpenTable → ReadFault → Type 0
IsFirstBroken ts (fault.Broken by) = FirstBroken ts by
IsFirstBroken ts (fault.Damaged at) = ⊥
IsFirstBroken ts fault.File = ⊥
IsFirstBroken ts fault.Memory = ⊥

-- a reading is not refused for a broken table
abbrev pub IsNotBroken : ReadFault → Type 0
IsNotBroken (fault.Broken by) = ⊥
IsNotBroken (fault.Damaged at) = Unit {0}
IsNotBroken fault.File = Unit {0}
IsNotBroken fault.Memory = Unit {0}

-- ---- the tables

-- this holds of the table of that number
abbrev pub AtTable : List OpenTable → ℕ → (OpenTable → Type 0) → Type 0
AtTable ts i P = (t : OpenTable) → slice_get ts i ≡ Some t → P t

-- both files of all tables but the one of that number hold what they held
abbrev pub KeepBut : ℕ → List OpenTable → Holding → Holding → Type 0
KeepBut i [] m n = Unit {0}
KeepBut zero (t ∷ ts) m n = KeepEach ts m n
KeepBut (suc i) (t ∷ ts) m n = Keeps t m n × KeepBut i ts m n

-- only the table of that number is another one, and the files of the others hold what they held
pub record IsOneRead (told next : Option Holding) (i : ℕ) (old new : List OpenTable) : Type 0 where
  pub table : OpenTable
  pub tables : new ≡ slice_set old i table
  pub keeps : Told told next (KeepBut i old)
