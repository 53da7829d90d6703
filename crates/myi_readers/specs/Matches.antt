-- The rows of the base that match, and those that are known, by their keys.
use Rattle.std.specs.Prelude.{◌≡◌, ℕ, suc, List}
use Rattle.myi_defs.specs.declared.types.Defs.{Defs}
use Rattle.myi_pack.specs.Packed.{Values}
use Rattle.myi_state.specs.State.{TableState}
use Rattle.myi_table.specs.declared.ranges.Range.{Range}
use Rattle.myi_table.specs.Reading.{bounds_of, AnswersRange}
use Rattle.myi_readers.specs.declared.keyed_row.KeyedRow.{KeyedRow}
use Rattle.myi_readers.specs.declared.reader.TableReader.{TableReader}
use Rattle.myi_readers.specs.Reader.{rows_known}
use Rattle.myi_readers.specs.Placed.{placed_before, placed_packed}
use Rattle.myi_readers.specs.KeyedRows.{all_keyed, all_between}

-- these are the rows that a range of the base answers, by their keys
pub record FindsBase (d : Defs) (base : TableState) (range : Range) (before after : ℕ) (found : List KeyedRow) : Type 0 where
  pub answer : List (ℕ × Values)
  pub answers : AnswersRange d base range before after answer
  pub keyed : found ≡ all_keyed d (suc range.key) answer

-- the rows that a reader knows, that match and that stand before a place, in order of their positions
abbrev pub known_matches : TableReader → Range → ℕ → List KeyedRow
known_matches r range place = all_keyed r.defs (suc range.key) (all_between r.defs (suc range.key) (bounds_of range) (placed_before place (placed_packed r.defs r.rows.rows.file.counts.length (rows_known r))))
