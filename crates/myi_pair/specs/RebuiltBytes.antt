-- A table of given rows, made anew, as bytes: of the data file each row, spelled anew, as such rows are stored; of the index
-- file the header with the state of a table of these rows, zeros up to the first page place, and the laid pages of each
-- key, in the order of the keys (the words are this project's own).
use Rattle.std.specs.Prelude.{◌+◌, ◌-◌, ◌*◌, ◌^◌, ℕ, List, [], ◌∷◌, ◌++◌, length, map, take, drop, replicate, Option, None}
use Rattle.myi_defs.specs.declared.types.Defs.{Defs}
use Rattle.myi_header.specs.declared.state.State.{State}
use Rattle.myi_header.specs.Layout.{page_sizes, first_page_of}
use Rattle.myi_header.specs.StateOf.{state_of}
use Rattle.myi_header.specs.HeaderOf.{header_of}
use Rattle.myi_header.specs.Analysis.{anew_bits}
use Rattle.myi_data.specs.Stored.{SizedRow, stored_size, stored_file, block_count}
use Rattle.myi_keylist.specs.declared.pair.Pair.{Pair}
use Rattle.myi_btree.specs.Walk.{Node}
use Rattle.myi_btree.specs.LaidPages.{root_of}
use Rattle.myi_btree.specs.Building.{laid_at, pages_bytes}
use Rattle.myi_pair.specs.FirstRows.{key_numbers}
use Rattle.myi_pair.specs.KeyList.{PlacedRow, key_list}
use Rattle.myi_pair.specs.Trees.{place_of, block_of_key}

-- rows one after the other, with their places, the first at a place
abbrev pub placed_from : Defs → ℕ → List SizedRow → List PlacedRow
placed_from d at [] = []
placed_from d at (row ∷ rows) = (at, row.values) ∷ placed_from d (at + stored_size d row) rows

-- trees one after the other: their bytes, their roots, and the place behind them
pub record LaidTrees : Type 0 where
  pub bytes : List ℕ
  pub roots : List (Option ℕ)
  pub end : ℕ

abbrev pub no_trees : ℕ → LaidTrees
no_trees first = record { bytes = []; roots = []; end = first }

abbrev pub pages_then : Defs → ℕ → ℕ → List Node → LaidTrees → LaidTrees
pages_then d k first nodes others = record {
  bytes = pages_bytes (place_of d k) nodes ++ others.bytes;
  roots = root_of (block_of_key d k) first nodes ∷ others.roots;
  end = others.end;
}

-- the trees of these keys with these pairs, a list for each key, the first page at a place
abbrev pub laid_trees : Defs → ℕ → List ℕ → List (List Pair) → LaidTrees
laid_trees d first [] lists = no_trees first
laid_trees d first (k ∷ ks) [] = no_trees first
laid_trees d first (k ∷ ks) (pairs ∷ lists) =
    let nodes = laid_at (place_of d k) first pairs in
    pages_then d k first nodes (laid_trees d (first + block_of_key d k * length nodes) ks lists)

-- for each key its key list
abbrev pub key_lists : Defs → List PlacedRow → List (List Pair)
key_lists d rows = map (λ k. key_list d k rows) (key_numbers d)

-- the trees of all keys, from the first page place on
unfoldable pub new_trees : Defs → List SizedRow → LaidTrees
new_trees d rows = laid_trees d (first_page_of d) (key_numbers d) (key_lists d (placed_from d 0 rows))

-- the kept bytes of the state, with no list of free pages
abbrev pub without_free_pages : Defs → List ℕ → List ℕ
without_free_pages d rest = take 24 rest ++ (replicate (8 * page_sizes d) 255 ++ drop (24 + 8 * page_sizes d) rest)

-- The state of a table of so many rows in so many blocks, from the state that it had. The table is
-- marked as not analyzed, and its pages as not sorted.
abbrev pub new_state : Defs → State → ℕ → ℕ → ℕ → List (Option ℕ) → ℕ → ℕ → State
new_state d s rows blocks data_length roots index_length now = record s {
  open_count = 0;
  changed = anew_bits;
  records = rows;
  del = 0;
  split = blocks;
  dellink = None;
  key_file_length = index_length;
  data_file_length = data_length;
  empty = 0;
  key_empty = 0;
  roots = roots;
  key_map = 2 ^ length d.keys - 1;
  recover_time = now;
  rest = without_free_pages d s.rest;
}

-- the state of a table of these rows
abbrev pub rebuilt_state : Defs → List SizedRow → ℕ → State
rebuilt_state d rows now =
    new_state d (state_of d d.raw) (length rows) (block_count d rows) (length (stored_file d rows)) (new_trees d rows).roots (new_trees d rows).end now

-- its index file
unfoldable pub rebuilt_index : Defs → List SizedRow → ℕ → List ℕ
rebuilt_index d rows now = header_of d (rebuilt_state d rows now) ++ (new_trees d rows).bytes

-- its two files, the data file first
abbrev pub rebuilt : Defs → List SizedRow → ℕ → List ℕ × List ℕ
rebuilt d rows now = (stored_file d rows, rebuilt_index d rows now)
