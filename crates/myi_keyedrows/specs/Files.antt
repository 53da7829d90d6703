-- The object and the two files of a table: the object that was just opened on them; when it stands for a table that the files can be
-- closed with; and the index file that they are closed with.
use Rattle.std.specs.Prelude.{◌≡◌, ◌+◌, ◌-◌, ◌*◌, ◌/◌, ◌<◌, ℕ, true, max, List, [], length, take, map, None}
use Rattle.std.specs.List.{AllByRecursion}
use Rattle.myi_base.specs.Numbers.{num_at}
use Rattle.myi_base.specs.Holding.{Holding, bytes_of, resized, overwritten}
use Rattle.myi_defs.specs.declared.types.Defs.{Defs}
use Rattle.myi_defs.specs.Addressable.{is_addressable}
use Rattle.myi_defs.specs.Elsewhere.{AgreeOutsideState}
use Rattle.myi_header.specs.declared.state.State.{State}
use Rattle.myi_header.specs.Layout.{first_page_of}
use Rattle.myi_header.specs.StateOf.{state_of, has_mark}
use Rattle.myi_keycache.specs.Caching.{pages_of}
use Rattle.myi_btree.specs.declared.place.Place.{Place}
use Rattle.myi_btree.specs.Sizes.{IsPlaced}
use Rattle.myi_state.specs.State.{TableState}
use Rattle.myi_slots.specs.SlotFile.{counts_in}
use Rattle.myi_pair.specs.FirstRows.{key_numbers}
use Rattle.myi_pair.specs.Trees.{place_of}
use Rattle.myi_keytrees.specs.Trees.{kinds}
use Rattle.myi_keytrees.specs.InFile.{bytes_of_pages, bytes_of_free}
use Rattle.myi_rowtrees.specs.Places.{places_of}
use Rattle.myi_keyedrows.specs.declared.keyed_rows.KeyedRows.{KeyedRows}
use Rattle.myi_keyedrows.specs.KeyedRows.{defs_of, HoldTable}

-- the pages of each tree are made as those of its key
abbrev pub AreOfKeys : KeyedRows → Type 0
AreOfKeys k = kinds k.trees.places ≡ map (place_of (defs_of k)) (key_numbers (defs_of k))

-- ---- opening

-- where an index file with this state ends, or its header
abbrev pub used_end : Defs → State → ℕ
used_end d s = max (first_page_of d) s.key_file_length

-- where the room for new pages begins: the first multiple of 1024 that is not before that end
abbrev pub room_begin : Defs → State → ℕ
room_begin d s = (used_end d s + 1023) / 1024 * 1024

-- how many bytes behind the header belong to no page and come before the room
abbrev pub lost_bytes : Defs → State → ℕ
lost_bytes d s = s.key_empty + (room_begin d s - used_end d s)

-- Nothing was read yet: numbers and roots are those in the header of the index file x, the room begins behind it, and no page is
-- kept.
pub record IsOpened (k : KeyedRows) (x : List ℕ) : Type 0 where
  pub numbers : k.rows.file.counts ≡ counts_in (state_of (defs_of k) x)
  pub noted : k.rows.places ≡ None
  pub roots : k.trees.places ≡ places_of (defs_of k) (state_of (defs_of k) x).roots
  pub placed : AllByRecursion IsPlaced k.trees.places
  pub room : k.trees.room ≡ record { end = room_begin (defs_of k) (state_of (defs_of k) x); free = [] }
  pub kept : pages_of k.trees.cache ≡ []

-- ---- between the two

-- The object stands for a table whose data file is within reach of row pointers; no page and no free byte lies in the header; and of
-- the bytes behind the header so many are lost: they belong to no page, and no page is taken of them.
pub record HoldFiles (k : KeyedRows) (lost : ℕ) (own : ℕ → ℕ) (s : TableState) (m : Holding) : Type 0 where
  pub table : HoldTable k own s m
  pub reached : is_addressable (defs_of k) s.space.end ≡ true
  pub behind : (x : ℕ) → x < first_page_of (defs_of k) → own x ≡ 0
  pub counted : first_page_of (defs_of k) + bytes_of_pages k.trees.places table.trees.pages + bytes_of_free k.trees.room.free + lost ≡ k.trees.room.end

-- ---- closing

-- The bytes h are a header with the mark and the numbers of the table: those of its rows, the roots of its trees, where their room
-- begins, and how many bytes belong to no page.
pub record IsHeaderOf (k : KeyedRows) (lost : ℕ) (h : List ℕ) : Type 0 where
  pub long : length h ≡ first_page_of (defs_of k)
  pub mark : has_mark (defs_of k) h ≡ true
  pub elsewhere : AgreeOutsideState (defs_of k).raw h
  pub numbers : counts_in (state_of (defs_of k) h) ≡ k.rows.file.counts
  pub roots : (state_of (defs_of k) h).roots ≡ map (λ (p : Place). p.root) k.trees.places
  pub end : (state_of (defs_of k) h).key_file_length ≡ k.trees.room.end
  pub empty : (state_of (defs_of k) h).key_empty ≡ lost + bytes_of_free k.trees.room.free

-- the index file, cut where the room begins, with this header
abbrev pub closed_index : KeyedRows → List ℕ → Holding → List ℕ
closed_index k h m = overwritten 0 h (resized k.trees.room.end (bytes_of k.trees.cache.name m))

-- the same definitions, with the header of an index file
abbrev pub defs_with : Defs → List ℕ → Defs
defs_with d x = record d { raw = take (num_at 6 2 d.raw) x }
