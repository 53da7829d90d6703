-- What is wrong with a pair of files: of each section the first failing thing (what is looked at is what myisamchk --check
-- looks at, MySQL Reference Manual, "myisamchk Check Options"; the sections and what is told of each are this project's own).
-- Nothing is wrong exactly where the pair is clean.
use Rattle.std.specs.Prelude.{◌-◌, ◌^◌, ◌||◌, ◌==◌, ℕ, Bool, true, false, not, min, is_none, List, [], ◌∷◌, ◌++◌, length, map, sum_by, Option, Some, None, if◌then◌else◌}
use Rattle.std.specs.Option.{option_map_or, option_to_list}
use Rattle.std.specs.List.{flat_map, list_all}
use Rattle.myi_base.specs.Ranges.{Range}
use Rattle.myi_defs.specs.declared.types.RowFormat.{RowFormat}
use Rattle.myi_defs.specs.declared.types.RowFormat.TheVariants.{Static, Dynamic}
use Rattle.myi_defs.specs.declared.types.Defs.{Defs}
use Rattle.myi_defs.specs.Addressable.{is_addressable}
use Rattle.myi_header.specs.declared.state.State.{State}
use Rattle.myi_header.specs.Layout.{first_page_of}
use Rattle.myi_header.specs.StateOf.{state_of, has_mark}
use Rattle.myi_frames.specs.Block.{Block, block_of}
use Rattle.myi_chain.specs.Meeting.{ranges_of}
use Rattle.myi_data.specs.Readable.{readable, deleted}
use Rattle.myi_btree.specs.Visit.{page_range}
use Rattle.myi_btree.specs.Events.{Event, first_bad, pages_in}
use Rattle.myi_btree.specs.Used.{up_to_used}
use Rattle.myi_btree.specs.TreeEvents.{tree_events}
use Rattle.myi_pair.specs.declared.finding.HeaderItem.{HeaderItem}
use Rattle.myi_pair.specs.declared.finding.HeaderItem.TheVariants.{Mark, Records, Del, Split, KeyFileLength, DataFileLength, Empty, KeyEmpty}
use Rattle.myi_pair.specs.declared.finding.Finding.{Finding}
use Rattle.myi_pair.specs.declared.finding.Finding.TheVariants as finding
use Rattle.myi_pair.specs.FirstRows.{key_numbers, is_unique}
use Rattle.myi_pair.specs.KeyList.{PlacedRow, key_list}
use Rattle.myi_pair.specs.Trees.{block_of_key, node_at, total}
use Rattle.myi_pair.specs.Clean.{placed_row, next_deleted}
use Rattle.myi_pair.specs.FirstBad.{first_failed, list_bad, walk_bad, first_gap}

-- ---- the trees

-- what the walk of a key's tree meets, where these ranges are busy
abbrev pub met_in : Defs → ℕ → List ℕ → Option ℕ → List Range → List Event
met_in d k x root busy = up_to_used (block_of_key d k) busy (tree_events (length x) (block_of_key d k) (node_at d.rec_ref (block_of_key d k) x) root)

-- the pages of a tree that has a walk
abbrev pub walk_pages : ℕ → List Event → List Range
walk_pages block es = if is_none (first_bad es) then map (page_range block) (pages_in es) else []

-- a key by its number, with what the walk of its tree meets
pub record KeyWalk : Type 0 where
  pub key : ℕ
  pub events : List Event

abbrev pub key_walk : ℕ → List Event → KeyWalk
key_walk key events = record { key = key; events = events }

-- the walks of these keys' trees: each may not meet a busy range, nor a page of a tree before it that has a walk
abbrev pub key_walks : Defs → List ℕ → List Range → List ℕ → List (Option ℕ) → List KeyWalk
key_walks d x busy [] roots = []
key_walks d x busy (k ∷ ks) [] = []
key_walks d x busy (k ∷ ks) (root ∷ roots) =
    key_walk k (met_in d k x root busy) ∷ key_walks d x (busy ++ walk_pages (block_of_key d k) (met_in d k x root busy)) ks roots

-- the walks of all trees: below the first page place all bytes are busy
unfoldable pub all_walks : Defs → List ℕ → List KeyWalk
all_walks d x = key_walks d x ((0, first_page_of d) ∷ []) (key_numbers d) (state_of d x).roots

-- each tree has a walk
abbrev pub all_walk : List KeyWalk → Bool
all_walk walks = list_all (λ (w : KeyWalk). is_none (first_bad w.events)) walks

-- how many bytes are in pages of trees that have a walk
abbrev pub page_bytes : Defs → List KeyWalk → ℕ
page_bytes d walks = sum_by (λ (w : KeyWalk). total (walk_pages (block_of_key d w.key) w.events)) walks

-- ---- the header

-- what of the header is looked at, each with whether it is so: the mark, and the numbers of the state
abbrev pub header_tests : Defs → State → List ℕ → List ℕ → List (HeaderItem × Bool)
header_tests d s rows x =
    (Mark, has_mark d x)
    ∷ (Records, s.records == length (readable d false rows))
    ∷ (Del, s.del == length (deleted d rows))
    ∷ (Split, s.split == length (ranges_of (readable d false rows)))
    ∷ (KeyFileLength, s.key_file_length == length x)
    ∷ (DataFileLength, s.data_file_length == length rows)
    ∷ (Empty, s.empty == total (deleted d rows))
    ∷ (KeyEmpty, not (all_walk (all_walks d x)) || (s.key_empty == length x - first_page_of d - page_bytes d (all_walks d x)))
    ∷ []

-- the first item of the header that is not so
unfoldable pub header_bad : Defs → List ℕ → List ℕ → Option HeaderItem
header_bad d rows x = first_failed (header_tests d (state_of d x) rows x)

-- ---- the list of deleted blocks

-- both are the same place, or none
abbrev pub same_link : Option ℕ → Option ℕ → Bool
same_link None None = true
same_link None (Some q) = false
same_link (Some p) None = false
same_link (Some p) (Some q) = p == q

abbrev pub names_by : RowFormat → List ℕ → ℕ → Option ℕ → Bool
names_by Static rows p before = true
names_by Dynamic rows p before = option_map_or (λ (b : Block). same_link b.prev before) (block_of rows p) false

-- a deleted block of a dynamic table names the one before it
abbrev pub names_before : Defs → List ℕ → ℕ → Option ℕ → Bool
names_before d rows p before = names_by d.format rows p before

abbrev pub deleted_places : Defs → List ℕ → List ℕ
deleted_places d rows = map (λ (a : Range). a.0) (deleted d rows)

-- The first place, in the order of the list, that is no deleted block, was met before, or does not name the one before it;
-- else the lowest deleted block that is not in the list. The list is as long as there are deleted blocks.
unfoldable pub deleted_bad : Defs → List ℕ → List ℕ → Option ℕ
deleted_bad d rows x = list_bad (next_deleted d rows) (names_before d rows) (length (deleted d rows)) (deleted_places d rows) None (state_of d x).dellink

-- ---- the keys

-- the page of the first bad thing that the walk of a key's tree meets, by the readable rows
abbrev pub key_bad : Defs → List PlacedRow → KeyWalk → Option ℕ
key_bad d rows w = walk_bad (is_unique d w.key) None (key_list d w.key rows) w.events

abbrev pub key_findings : Defs → List PlacedRow → KeyWalk → List Finding
key_findings d rows w = map (λ at. finding.Key w.key at) (option_to_list (key_bad d rows w))

-- the keys of a foreign file are not looked at
unfoldable pub keys_bad : Defs → List ℕ → List ℕ → List Finding
keys_bad d rows x = if has_mark d x then flat_map (key_findings d (map (placed_row d) (readable d false rows))) (all_walks d x) else []

-- ---- the bytes of the data file

-- the ranges of blocks of rows and of deleted blocks; none where the file is longer than row pointers reach
abbrev pub held : Defs → List ℕ → List Range
held d rows = if is_addressable d (length rows) then ranges_of (readable d false rows) ++ deleted d rows else []

-- the lowest byte that belongs to no row and to no deleted block
unfoldable pub rows_bad : Defs → List ℕ → Option ℕ
rows_bad d rows = first_gap (length rows) 0 (held d rows)

-- ---- all sections

-- a place from 2^64 on is told as 2^64 - 1
abbrev pub told : ℕ → ℕ
told p = min p (2 ^ 64 - 1)

-- what is wrong with the data file and the index file, under the definitions of the index file
unfoldable pub findings : Defs → List ℕ → List ℕ → List Finding
findings d rows x =
    map (λ item. finding.Header item) (option_to_list (header_bad d rows x))
    ++ (map (λ at. finding.Deleted (told at)) (option_to_list (deleted_bad d rows x))
    ++ (keys_bad d rows x
    ++ map (λ at. finding.Rows at) (option_to_list (rows_bad d rows))))
