-- The rows that are seen by a snapshot and whose key lies between bounds, in order of the key and then of their positions.
use Rattle.std.specs.Prelude.{◌≡◌, ◌+◌, ℕ, suc, false, List, length, map, Option, None}
use Rattle.myi_base.specs.Holding.{Holding}
use Rattle.myi_defs.specs.declared.types.Defs.{Defs}
use Rattle.myi_pack.specs.Packed.{Values}
use Rattle.myi_pack.specs.Spelling.{fits}
use Rattle.myi_state.specs.State.{StoredRow, TableState}
use Rattle.myi_tablestate.specs.Listed.{placed, listed}
use Rattle.myi_tablestate.specs.Matching.{AreMatching}
use Rattle.myi_ranges.specs.declared.ranges.RangeRows.{RangeRows}
use Rattle.myi_ranges.specs.Ranges.{ReadsAhead, RoseBySearches}
use Rattle.myi_keyedrows.specs.declared.keyed_rows.KeyedRows.{KeyedRows}
use Rattle.myi_keyedrows.specs.KeyedRows.{HoldTable}
use Rattle.myi_table.specs.declared.ranges.Range.{Range}
use Rattle.myi_table.specs.Reading.{bounds_of, cost_of}
use Rattle.myi_snapshots.specs.declared.snapshot.Snapshot.{Snapshot}
use Rattle.myi_snapshots.specs.Seen.{seen_rows}
use Rattle.myi_readers.specs.declared.fault.SeenFault.{SeenFault}
use Rattle.myi_readers.specs.declared.fault.SeenFault.TheVariants as seen

-- the answer is the rows that are seen and match
pub record AnswersSeen (d : Defs) (base : TableState) (known : List Values) (snap : Snapshot) (range : Range) (answer : List (ℕ × Values)) : Type 0 where
  pub found : List StoredRow
  pub rows : answer ≡ map placed found
  pub matching : AreMatching d (suc range.key) (bounds_of range) (seen_rows d base known snap) found

-- the files were read no more often than the rows of the base that match, and two searches more than there are of these, may count for
pub record ReadsFew (d : Defs) (base : TableState) (range : Range) (before after : ℕ) : Type 0 where
  pub found : List StoredRow
  pub matching : AreMatching d (suc range.key) (bounds_of range) base.rows found
  pub few : RoseBySearches (length found + 2) (length (listed d (suc range.key) base.rows)) (cost_of d found) before after

-- a reading is refused for damage only where files tell nothing
abbrev pub NeverDamaged : Option Holding → SeenFault → Type 0
NeverDamaged told (seen.Damaged at) = told ≡ None
NeverDamaged told seen.File = Unit {0}
NeverDamaged told seen.Memory = Unit {0}

-- ---- one row after the other

-- Where the files hold this, the object stands for a table, of whose pairs those come next that a reading has read ahead.
pub record HoldRange (d : Defs) (r : RangeRows) (k : KeyedRows) (own : ℕ → ℕ) (s : TableState) (m : Holding) : Type 0 where
  pub table : HoldTable k own s m
  pub ahead : ReadsAhead r.reached (listed d (suc r.key) s.rows)

-- a row is refused as damaged that has not the form which the definitions ask for
abbrev pub IsUnfit : Defs → ℕ × Values → SeenFault → Type 0
IsUnfit d row (seen.Damaged at) = fits d row.1 ≡ false
IsUnfit d row seen.File = ⊥
IsUnfit d row seen.Memory = Unit {0}
