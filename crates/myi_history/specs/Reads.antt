-- The rows that a read finds: a scan finds all, in order of their positions, and a range those whose key lies between its
-- bounds, in order of key and position. On a MERGE list a scan finds those of all tables, one table after the other, and a range
-- goes by the key, then by the number of the table, then by the position.
use Rattle.std.specs.Prelude.{ℕ, ◌+◌, map, filter, if◌then◌else◌, List, [], ◌∷◌, ◌++◌, Option, Some, None}
use Rattle.std.specs.Ordering.{nat_cmp, ordering_then, is_gt}
use Rattle.std.specs.declared.cmp.Ordering.{Ordering}
use Rattle.myi_defs.specs.declared.types.Defs.{Defs}
use Rattle.myi_data.specs.Keys.{key_of}
use Rattle.myi_keys.specs.declared.values.KeySeg.{KeySeg}
use Rattle.myi_keys.specs.Order.{key_cmp}
use Rattle.myi_keylist.specs.PairOrder.{pair_cmp}
use Rattle.myi_pack.specs.Packed.{Values}
use Rattle.myi_state.specs.State.{StoredRow, TableState}
use Rattle.myi_pair.specs.KeyList.{PlacedRow}
use Rattle.myi_tablestate.specs.Listed.{placed}
use Rattle.myi_tablestate.specs.Matching.{Bounds, lies_between, placed_key}
use Rattle.myi_script.specs.declared.types.Range.{Range}
use Rattle.myi_script.specs.declared.types.Act.{Act}
use Rattle.myi_script.specs.declared.types.Act.TheVariants as act

-- a row put before the first whose key, and position, is not less
abbrev pub put_by_key : Defs → ℕ → StoredRow → List StoredRow → List StoredRow
put_by_key d k r [] = r ∷ []
put_by_key d k r (q ∷ qs) =
    if is_gt (pair_cmp (placed_key d k r) (placed_key d k q)) then q ∷ put_by_key d k r qs
    else r ∷ q ∷ qs

-- rows in order of the key of that number, and of their positions
abbrev pub by_key : Defs → ℕ → List StoredRow → List StoredRow
by_key d k [] = []
by_key d k (r ∷ rows) = put_by_key d k r (by_key d k rows)

-- those of the rows whose key lies between the bounds, in that order
unfoldable pub rows_between : Defs → ℕ → Bounds → List StoredRow → List StoredRow
rows_between d k bounds rows =
    by_key d k (filter (λ (r : StoredRow). lies_between bounds (key_of d k r.values)) rows)

abbrev pub bounds_of : Range → Bounds
bounds_of range = record { from = range.from; to = range.to }

-- what a statement that reads finds in a table
abbrev pub found : Defs → TableState → Option Act → List PlacedRow
found d s (Some act.Scan) = map placed s.rows
found d s (Some (act.Over range)) = map placed (rows_between d range.key (bounds_of range) s.rows)
found d s (Some other) = []
found d s None = []

-- ---- a list

-- a row of a list: the number of its table, counted from 1, its position, its values
abbrev pub MergedRow : Type 0
MergedRow = ℕ × ℕ × Values

abbrev pub of_number : ℕ → StoredRow → MergedRow
of_number number r = (number, r.at, r.values)

-- the rows of all tables, one table after the other; the first has this number
abbrev pub rows_from : ℕ → List TableState → List MergedRow
rows_from number [] = []
rows_from number (s ∷ ss) = map (of_number number) s.rows ++ rows_from (number + 1) ss

-- where a row of a list stands in order: its key, its table and its position
pub record MergedPlace : Type 0 where
  pub key : List KeySeg
  pub table : ℕ
  pub at : ℕ

abbrev pub place_of : Defs → ℕ → MergedRow → MergedPlace
place_of d k r = record { key = key_of d k r.2; table = r.0; at = r.1 }

abbrev pub place_cmp : MergedPlace → MergedPlace → Ordering
place_cmp p q = ordering_then (key_cmp p.key q.key) (ordering_then (nat_cmp p.table q.table) (nat_cmp p.at q.at))

-- a row put before the first that does not come before it
abbrev pub put_by_place : Defs → ℕ → MergedRow → List MergedRow → List MergedRow
put_by_place d k r [] = r ∷ []
put_by_place d k r (q ∷ qs) =
    if is_gt (place_cmp (place_of d k r) (place_of d k q)) then q ∷ put_by_place d k r qs
    else r ∷ q ∷ qs

abbrev pub by_place : Defs → ℕ → List MergedRow → List MergedRow
by_place d k [] = []
by_place d k (r ∷ rows) = put_by_place d k r (by_place d k rows)

-- those of the rows whose key lies between the bounds, in that order
unfoldable pub merged_between : Defs → ℕ → Bounds → List MergedRow → List MergedRow
merged_between d k bounds rows =
    by_place d k (filter (λ (r : MergedRow). lies_between bounds (key_of d k r.2)) rows)

-- what a statement that reads finds in the tables of a list
abbrev pub merged_found : Defs → List TableState → Option Act → List MergedRow
merged_found d ss (Some act.Scan) = rows_from 1 ss
merged_found d ss (Some (act.Over range)) = merged_between d range.key (bounds_of range) (rows_from 1 ss)
merged_found d ss (Some other) = []
merged_found d ss None = []
