-- The numbers of a table that its index file keeps.
use Rattle.std.specs.Prelude.{ℕ, List, length, sum_by, None}
use Rattle.myi_dellist.specs.Areas.{Area}
use Rattle.myi_dellist.specs.Standing.{first_or}
use Rattle.myi_state.specs.declared.counts.Counts.{Counts}
use Rattle.myi_state.specs.State.{TableState, row_areas}

-- how many bytes areas have together
abbrev pub total_bytes : List Area → ℕ
total_bytes areas = sum_by (λ (a : Area). a.size) areas

-- the rows, the deleted blocks, the blocks of rows (of static rows their slots), the bytes of deleted blocks, the length of
-- the data file, and the place of the first deleted block
unfoldable pub counts_of : TableState → Counts
counts_of s = record {
  records = length s.rows;
  del = length s.space.holes;
  split = length (row_areas s.rows);
  empty = total_bytes s.space.holes;
  length = s.space.end;
  dellink = first_or s.space.holes None;
}
