-- The rows that a reader knows, by their keys: for each key of the table an index of the first of them, in which a range finds its rows.
use Rattle.std.specs.Prelude.{◌≡◌, ◌+◌, ◌-◌, ◌^◌, ◌<◌, ◌≤◌, ℕ, suc, Bool, false, nat_lt, List, [], ◌∷◌, length, take, map, filter, slice_index_or, unwrap_or, Option, Some, None, IsPermutation}
use Rattle.std.specs.Ordering.{is_gt}
use Rattle.std.specs.declared.ops.Bound.{Bound}
use Rattle.std.specs.declared.ops.Bound.TheVariants.{Included, Unbounded}
use Rattle.myi_defs.specs.declared.types.Defs.{Defs}
use Rattle.myi_pack.specs.Unpacking.{row_of}
use Rattle.myi_keys.specs.declared.values.KeySeg.{KeySeg}
use Rattle.myi_keys.specs.Order.{key_cmp}
use Rattle.myi_keylist.specs.declared.pair.Pair.{Pair}
use Rattle.myi_keylist.specs.PairOrder.{pair_with}
use Rattle.myi_data.specs.Keys.{key_of}
use Rattle.myi_snapshots.specs.Known.{size_of, end_with}
use Rattle.myi_snapshots.specs.Knowing.{Knowing, packed_of, told_place}
use Rattle.myi_readers.specs.declared.known_keys.KnownKeys.{KnownKeys}
use Rattle.myi_readers.specs.declared.keyed_row.KeyedRow.{KeyedRow}

-- packed rows one after the other from a position on, by their keys and their numbers, each with its position as it is told
abbrev pub numbered_keys : Defs → ℕ → ℕ → ℕ → List (List ℕ) → List (Pair × ℕ)
numbered_keys d k number at [] = []
numbered_keys d k number at (bytes ∷ packed) = (pair_with (key_of d k (unwrap_or (row_of d bytes) [])) number, told_place at) ∷ numbered_keys d k (suc number) (at + size_of d bytes) packed

-- the index has exactly the first of these packed rows, by their keys in the key of that number, counted from 1
pub record IsIndexOf (d : Defs) (k begin : ℕ) (packed : List (List ℕ)) (x : KnownKeys) : Type 0 where
  pub few : x.count ≤ length packed
  pub end : x.end ≡ told_place (end_with d begin (take x.count packed))
  pub rows : IsPermutation (numbered_keys d k 0 begin (take x.count packed)) x.places

-- it has the first of the rows that an object on words knows, by their keys in the key of that number, counted from 0
abbrev pub IndexesKnown : Defs → Knowing → ℕ → KnownKeys → Type 0
IndexesKnown d known key x = IsIndexOf d (suc key) known.begin (packed_of known) x

-- it has no row, behind a data file that ends there
abbrev pub IsEmptyIndex : ℕ → KnownKeys → Type 0
IsEmptyIndex end x = (d : Defs) (k : ℕ) (packed : List (List ℕ)) → IsIndexOf d k end packed x

-- there is such an index for each key of the table
pub record AreIndexes (d : Defs) (begin : ℕ) (packed : List (List ℕ)) (all : List KnownKeys) : Type 0 where
  pub keys : length all ≡ length d.keys
  pub each : (i : ℕ) (other : KnownKeys) → i < length all → IsIndexOf d (suc i) begin packed (slice_index_or all i other)

-- ---- what a range reads of an index

-- no key lies between the bounds: the least is above the greatest
abbrev pub are_crossed : Option (List KeySeg) → Option (List KeySeg) → Bool
are_crossed None to = false
are_crossed (Some low) None = false
are_crossed (Some low) (Some high) = is_gt (key_cmp low high)

-- the pairs of a least key and above
abbrev pub from_key : Option (List KeySeg) → Bound Pair
from_key None = Unbounded
from_key (Some low) = Included (pair_with low 0)

-- the pairs of a greatest key and below
abbrev pub to_key : Option (List KeySeg) → Bound Pair
to_key None = Unbounded
to_key (Some high) = Included (pair_with high (2 ^ 64 - 1))

-- the row of an entry, by its key and its position
abbrev pub entry_row : Defs → List (List ℕ) → Pair × ℕ → KeyedRow
entry_row d packed e = record { pair = pair_with e.0.key e.1; row = unwrap_or (row_of d (slice_index_or packed e.0.row [])) [] }

-- its row stands before a place
abbrev pub entry_before : ℕ → Pair × ℕ → Bool
entry_before place e = nat_lt e.1 place

-- the rows of those entries that stand before a place
abbrev pub entry_rows : Defs → List (List ℕ) → ℕ → List (Pair × ℕ) → List KeyedRow
entry_rows d packed place entries = map (entry_row d packed) (filter (entry_before place) entries)
