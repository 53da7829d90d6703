-- Closing a table: the state that its header gets, and what the two files are then.
use Rattle.std.specs.Prelude.{◌≡◌, ◌+◌, ◌-◌, ◌^◌, min, ℕ, true, List, length, take, map, if◌then◌else◌, bit_or, Some}
use Rattle.myi_base.specs.Holding.{Holding, bytes_of}
use Rattle.myi_defs.specs.Elsewhere.{AgreeOutsideState}
use Rattle.myi_header.specs.declared.state.State.{State}
use Rattle.myi_header.specs.Layout.{first_page_of}
use Rattle.myi_header.specs.Analysis.{not_analyzed, not_sorted_pages}
use Rattle.myi_header.specs.StateOf.{state_of, has_mark}
use Rattle.myi_btree.specs.declared.place.Place.{Place}
use Rattle.myi_state.specs.State.{TableState}
use Rattle.myi_tablestate.specs.Standing.{StandForTable}
use Rattle.myi_opening.specs.Names.{rows_file, index_file}
use Rattle.myi_keytrees.specs.InFile.{bytes_of_free, StandIn}
use Rattle.myi_rowtrees.specs.RowLists.{lists_of}
use Rattle.myi_keyedrows.specs.Files.{defs_with}
use Rattle.myi_table.specs.Table.{OpenTable, defs_in}

-- the bits that say of a table that it was changed and that the pages of its keys are not packed as tightly as they could be
-- (MySQL Internals Manual, "The .MYI file")
abbrev pub was_changed : ℕ
was_changed = 1

abbrev pub not_optimized_keys : ℕ
not_optimized_keys = 16

-- the bits of a table behind a change: these two, not analyzed, and pages not sorted
abbrev pub changed_bits : ℕ → ℕ
changed_bits bits = bit_or bits (was_changed + not_analyzed + not_optimized_keys + not_sorted_pages)

-- a number of eight bytes, or the greatest there is
abbrev pub kept_in_eight : ℕ → ℕ
kept_in_eight n = min n (2 ^ 64 - 1)

-- the state that was read, with the numbers of the rows, the roots of the trees, where their room begins, and the bytes that belong to
-- no page
abbrev pub closing_state : OpenTable → State
closing_state t = record t.header {
  changed = if t.changed then changed_bits t.header.changed else t.header.changed;
  records = t.rows.rows.file.counts.records;
  del = t.rows.rows.file.counts.del;
  split = t.rows.rows.file.counts.split;
  dellink = t.rows.rows.file.counts.dellink;
  key_file_length = t.rows.trees.room.end;
  data_file_length = t.rows.rows.file.counts.length;
  empty = t.rows.rows.file.counts.empty;
  key_empty = kept_in_eight (t.lost + bytes_of_free t.rows.trees.room.free);
  roots = map (λ (p : Place). p.root) t.rows.trees.places;
}

-- the bytes are a header with the mark and the state that the table is closed with
pub record HasState (t : OpenTable) (h : List ℕ) : Type 0 where
  pub long : length h ≡ first_page_of (defs_in t)
  pub mark : has_mark (defs_in t) h ≡ true
  pub elsewhere : AgreeOutsideState (defs_in t).raw h
  pub state : state_of (defs_in t) h ≡ closing_state t

-- The trees stand in the index file as it is, behind its header, each at its place with the pairs of its key.
abbrev pub TreesStand : OpenTable → TableState → Holding → Type 0
TreesStand t s m = (pages : List (List ℕ)) × StandIn (bytes_of (index_file t.name) m) (first_page_of (defs_in t)) t.rows.trees.room.end t.rows.trees.places (lists_of (defs_in t) s.rows) pages

-- the two files stand for a state, by the definitions of the table with another header, which the index file begins with
pub record IsClosed (t : OpenTable) (s : TableState) (m : Holding) : Type 0 where
  pub index : List ℕ
  pub there : m (index_file t.name) ≡ Some index
  pub header : HasState t (take (first_page_of (defs_in t)) index)
  pub stand : StandForTable (defs_with (defs_in t) index) s (bytes_of (rows_file t.name) m) index
