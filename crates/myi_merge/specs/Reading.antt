-- The rows that are read of a MERGE list, each with the number of its table, counted from 1. The order of rows with one key is this
-- project's own.
use Rattle.std.specs.Prelude.{◌≡◌, ◌+◌, ◌≤◌, ◌==◌, ℕ, suc, List, [], ◌∷◌, ◌++◌, length, map, filter, IsPermutation, IsSorted, Option}
use Rattle.std.specs.List.{AllByRecursion}
use Rattle.std.specs.declared.cmp.Ordering.{Ordering}
use Rattle.std.specs.Ordering.{nat_cmp, match_ordering}
use Rattle.std.specs.declared.cmp.Ordering.TheVariants.{Less, Greater}
use Rattle.myi_defs.specs.declared.types.Defs.{Defs}
use Rattle.myi_pack.specs.Packed.{Values}
use Rattle.myi_keys.specs.Order.{key_cmp}
use Rattle.myi_data.specs.Keys.{key_of}
use Rattle.myi_state.specs.State.{StoredRow, TableState}
use Rattle.myi_tablestate.specs.Listed.{listed}
use Rattle.myi_tablestate.specs.Matching.{Bounds, lies_between}
use Rattle.myi_search.specs.Counting.{CountsOn}
use Rattle.myi_ranges.specs.Ranges.{RoseBySearches}
use Rattle.myi_keyedrows.specs.KeyedRows.{IsLeft}
use Rattle.myi_table.specs.declared.fault.ReadFault.{ReadFault}
use Rattle.myi_table.specs.declared.fault.ReadFault.TheVariants as fault
use Rattle.myi_table.specs.declared.ranges.Range.{Range}
use Rattle.myi_table.specs.Reading.{bounds_of, cost_of}
use Rattle.myi_base.specs.Holding.{Holding}
use Rattle.myi_table.specs.Table.{OpenTable, defs_in, StillHolds, IsSame}
use Rattle.myi_merge.specs.Merged.{IsSoundTable, AreKept, StillHoldEach, OfEach}
use Rattle.myi_merge.specs.Changing.{ChangesIndexes, ChangesTheirOwn}

-- a row of a table, with the table's number
pub record MergedRow : Type 0 where
  pub table : ℕ
  pub row : StoredRow

-- as it is answered: the number of its table, its position, its values
abbrev pub answered : MergedRow → ℕ × ℕ × Values
answered r = (r.table, r.row.at, r.row.values)

abbrev pub numbered : ℕ → List StoredRow → List MergedRow
numbered number rows = map (λ (r : StoredRow). record { table = number; row = r }) rows

-- the rows of one table among these
abbrev pub of_table : ℕ → List MergedRow → List StoredRow
of_table n found = map (λ (r : MergedRow). r.row) (filter (λ (r : MergedRow). r.table == n) found)

-- ---- all rows

-- the rows of tables in these states, table by table, those of each in the order of their positions; the first table has this number
abbrev pub all_rows : ℕ → List TableState → List MergedRow
all_rows number [] = []
all_rows number (s ∷ ss) = numbered number s.rows ++ all_rows (number + 1) ss

-- the answer is all rows
abbrev pub AnswersAll : List TableState → List (ℕ × ℕ × Values) → Type 0
AnswersAll ss answer = answer ≡ map answered (all_rows 1 ss)

-- nothing is found damaged
abbrev pub NotDamaged : ReadFault → Type 0
NotDamaged (fault.Broken by) = Unit {0}
NotDamaged (fault.Damaged at) = ⊥
NotDamaged fault.File = Unit {0}
NotDamaged fault.Memory = Unit {0}

-- ---- the rows of a key

-- first by the keys, then by the numbers of the tables, then by the positions
abbrev pub placed_cmp : ℕ → ℕ → ℕ → ℕ → Ordering
placed_cmp table at other there = match_ordering (nat_cmp table other) Less (nat_cmp at there) Greater

abbrev pub merged_cmp : Defs → ℕ → MergedRow → MergedRow → Ordering
merged_cmp d k r q = match_ordering (key_cmp (key_of d k r.row.values) (key_of d k q.row.values)) Less (placed_cmp r.table r.row.at q.table q.row.at) Greater

-- found are the rows of all tables whose key lies between the bounds, in order of key, table and position
pub record AreMerged (d : Defs) (k : ℕ) (bounds : Bounds) (ss : List TableState) (found : List MergedRow) : Type 0 where
  pub same : IsPermutation (filter (λ (r : MergedRow). lies_between bounds (key_of d k r.row.values)) (all_rows 1 ss)) found
  pub order : IsSorted (merged_cmp d k) found

-- How often files are read: a count rose, for each table after the other, by no more than the rows that are found of it and two
-- searches more than these may count for. The first table has this number.
abbrev pub RoseByEach : Range → ℕ → List OpenTable → List TableState → List MergedRow → ℕ → ℕ → Type 0
RoseByEach range number [] [] found before after = after ≤ before
RoseByEach range number [] (s ∷ ss) found before after = ⊥
RoseByEach range number (t ∷ ts) [] found before after = ⊥
RoseByEach range number (t ∷ ts) (s ∷ ss) found before after =
    (mid : ℕ) × RoseBySearches (length (of_table number found) + 2) (length (listed (defs_in t) (suc range.key) s.rows)) (cost_of (defs_in t) (of_table number found)) before mid × RoseByEach range (number + 1) ts ss found mid after

-- The answer is these rows, and the files were read no more often than they may count for.
pub record AnswersMerged (d : Defs) (ts : List OpenTable) (ss : List TableState) (range : Range) (before after : ℕ) (answer : List (ℕ × ℕ × Values)) : Type 0 where
  pub found : List MergedRow
  pub rows : answer ≡ map answered found
  pub merged : AreMerged d (suc range.key) (bounds_of range) ss found
  pub few : RoseByEach range 1 ts ss found before after

-- ---- what it leaves

-- A reading leaves a table as it was but for its key cache, which goes on: it stands for the states that it stood for, it is no more changed
-- or broken than before, and its rows, trees and pages have the numbers that they had.
pub record IsOnlyRead (told next : Option Holding) (old new : OpenTable) : Type 0 where
  pub still : StillHolds told next old new
  pub same : IsSame old new
  pub broken : new.broken ≡ old.broken
  pub changed : new.changed ≡ old.changed
  pub left : IsLeft old.rows new.rows
  pub counted : CountsOn old.rows.trees.cache new.rows.trees.cache

-- Readings leave the tables the states that they stood for, their names and definitions; of each the files but the index file stay.
pub record AreCarried (told next : Option Holding) (old new : List OpenTable) : Type 0 where
  pub kept : AreKept next new
  pub still : StillHoldEach told next old new
  pub names : map (λ (t : OpenTable). t.name) new ≡ map (λ (t : OpenTable). t.name) old
  pub defs : map defs_in new ≡ map defs_in old
  pub broken : map (λ (t : OpenTable). t.broken) new ≡ map (λ (t : OpenTable). t.broken) old
  pub sound : AllByRecursion IsSoundTable new
  pub each : OfEach old new (IsOnlyRead told next)
  pub indexes : ChangesIndexes told next old
  pub others : ChangesTheirOwn told next old
