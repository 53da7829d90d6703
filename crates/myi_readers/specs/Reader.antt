-- A reader of a shared table: what holds of it before and after each call, what it knows, and what a call leaves.
use Rattle.std.specs.Prelude.{◌≡◌, ◌≢◌, ◌+◌, ◌^◌, ◌<◌, ℕ, List, length, slice_index_or, string_bytes}
use Rattle.myi_defs.specs.Sound.{IsSound}
use Rattle.myi_pack.specs.Packed.{Values}
use Rattle.myi_keycache.specs.Kept.{AllWritten}
use Rattle.myi_keycache.specs.Caching.{pages_of}
use Rattle.myi_keyedrows.specs.KeyedRows.{defs_of}
use Rattle.myi_tail.specs.Seats.{room_of}
use Rattle.myi_tail.specs.Spelled.{spelled}
use Rattle.myi_snapshots.specs.Appended.{AllFit}
use Rattle.myi_snapshots.specs.Known.{known_rows, packed_rows, end_with}
use Rattle.myi_readers.specs.declared.reader.TableReader.{TableReader}
use Rattle.myi_readers.specs.declared.known_keys.KnownKeys.{KnownKeys}
use Rattle.myi_readers.specs.Indexes.{AreIndexes}

-- The object on the two files is of these definitions, and keeps no unwritten page; the rows that are known are those that the words of
-- the seat spell, behind the end of the data file; in each key the first of them stand in an index; and the number of changes has its end.
pub record IsReader (r : TableReader) : Type 0 where
  pub sound : IsSound r.defs
  pub defs : defs_of r.rows ≡ r.defs
  pub named : string_bytes r.name ≡ r.rows.rows.file.name
  pub apart : r.rows.rows.file.name ≢ r.rows.trees.cache.name
  pub keys : length r.rows.trees.places ≡ length r.defs.keys
  pub written : AllWritten (pages_of r.rows.trees.cache)
  pub of_table : r.known.defs ≡ r.defs
  pub behind : r.known.begin ≡ r.rows.rows.file.counts.length
  pub room : r.known.room ≡ room_of r.seat.tail
  pub whole : r.known.whole ≡ spelled r.seat.known
  pub indexed : AreIndexes r.defs r.rows.rows.file.counts.length (known_rows r.defs r.seat.known) r.index.items
  pub small : r.number + room_of r.seat.tail < 2 ^ 64

-- the packed rows that the reader knows: those that its words spell
abbrev pub rows_known : TableReader → List (List ℕ)
rows_known r = known_rows r.defs r.seat.known

-- the index of a key, counted from 0, has all of them
abbrev pub IndexesAll : TableReader → ℕ → Type 0
IndexesAll r key = (other : KnownKeys) → (slice_index_or r.index.items key other).count ≡ length (rows_known r)

-- where the data file ends behind them
abbrev pub end_known : TableReader → ℕ
end_known r = end_with r.defs r.rows.rows.file.counts.length (rows_known r)

-- These are the rows that the reader knows: each has the form that the definitions ask for, and is packed in its spelling, as an inserter
-- packs it.
pub record AreKnown (r : TableReader) (rows : List Values) : Type 0 where
  pub packed : rows_known r ≡ packed_rows r.defs rows
  pub fit : AllFit r.defs rows

-- it is a reader of the same table in the same sharing
pub record IsSameReader (old new : TableReader) : Type 0 where
  pub defs : new.defs ≡ old.defs
  pub number : new.number ≡ old.number
  pub tail : new.seat.tail ≡ old.seat.tail
  pub file : new.rows.rows.file ≡ old.rows.rows.file
  pub places : new.rows.trees.places ≡ old.rows.trees.places
