-- A clean pair of files: what the index file says of the data file is so (what myisamchk checks: MySQL Reference
-- Manual, "myisamchk Check Options"; the mark is this project's own).
use Rattle.std.specs.Prelude.{◌≡◌, ◌+◌, ◌-◌, ◌*◌, ◌^◌, ◌<◌, ◌&&◌, ◌==◌, nat_le, nat_lt, ℕ, Bool, true, false, List, [], ◌∷◌, ◌++◌, length, map, option_map, option_and_then, unwrap_or, Option, Some, None, Ok, if◌then◌else◌, IsPermutation}
use Rattle.std.specs.List.{list_any}
use Rattle.myi_base.specs.Numbers.{num_at}
use Rattle.myi_base.specs.Ranges.{Range}
use Rattle.myi_defs.specs.declared.types.RowFormat.{RowFormat}
use Rattle.myi_defs.specs.declared.types.RowFormat.TheVariants.{Static, Dynamic}
use Rattle.myi_defs.specs.declared.types.Defs.{Defs}
use Rattle.myi_defs.specs.ReadDefs.{read_defs}
use Rattle.myi_defs.specs.Addressable.{is_addressable}
use Rattle.myi_header.specs.declared.state.State.{State}
use Rattle.myi_header.specs.Layout.{first_page_of}
use Rattle.myi_header.specs.StateOf.{state_of, has_mark}
use Rattle.myi_frames.specs.Block.{Block, block_of}
use Rattle.myi_pack.specs.Packed.{Values}
use Rattle.myi_pack.specs.Unpacking.{row_of}
use Rattle.myi_chain.specs.Readable.{Row}
use Rattle.myi_chain.specs.Meeting.{ranges_of}
use Rattle.myi_data.specs.Readable.{readable, deleted}
use Rattle.myi_data.specs.Stored.{SizedRow}
use Rattle.myi_pair.specs.FirstRows.{key_numbers, AreDistinct}
use Rattle.myi_pair.specs.KeyList.{PlacedRow}
use Rattle.myi_btree.specs.Walk.{Walked}
use Rattle.myi_pair.specs.Trees.{HaveWalks, AreKeyLists, all_pages, total}

-- the values of a readable row
abbrev pub values_of : Defs → Row → Values
values_of d row = unwrap_or (row_of d row.bytes) []

-- a readable row with the sizes of its blocks
abbrev pub sized_row : Defs → Row → SizedRow
sized_row d row = record { values = values_of d row; sizes = map (λ (a : Range). a.1 - a.0) row.blocks }

-- a readable row with its place
abbrev pub placed_row : Defs → Row → PlacedRow
placed_row d row = (row.at, values_of d row)

-- the byte at a place is one of the range
abbrev pub covers : ℕ → Range → Bool
covers p r = nat_le r.0 p && nat_lt p r.1

-- a row number in a deleted slot; all bytes FF are none
abbrev pub slot_named : ℕ → ℕ → ℕ → Option ℕ
slot_named slot_length rec_ref n = if n == 256 ^ rec_ref - 1 then None else Some (n * slot_length)

abbrev pub next_by : RowFormat → Defs → List ℕ → ℕ → Option ℕ
next_by Static d x p = slot_named d.slot_length d.rec_ref (num_at (p + 1) d.rec_ref x)
next_by Dynamic d x p = option_and_then (λ (b : Block). b.next) (block_of x p)

-- the deleted block that the one at a place names as the next
abbrev pub next_deleted : Defs → List ℕ → ℕ → Option ℕ
next_deleted d x p = next_by d.format d x p

abbrev pub NamesByFormat : RowFormat → List ℕ → ℕ → Option ℕ → Type 0
NamesByFormat Static x p before = Unit {0}
NamesByFormat Dynamic x p before = option_map (λ (b : Block). b.prev) (block_of x p) ≡ Some before

-- a deleted block of a dynamic table names the one before it
abbrev pub NamesBefore : Defs → List ℕ → ℕ → Option ℕ → Type 0
NamesBefore d x p before = NamesByFormat d.format x p before

-- the list of deleted blocks from a place on, behind one before it, is at these places
abbrev pub Follows : Defs → List ℕ → Option ℕ → Option ℕ → List ℕ → Type 0
Follows d x before at [] = at ≡ None
Follows d x before at (p ∷ ps) = (at ≡ Some p) × NamesBefore d x p before × Follows d x (Some p) (next_deleted d x p) ps

-- the list of deleted blocks has each of them once
abbrev pub ListsDeleted : Defs → List ℕ → Option ℕ → Type 0
ListsDeleted defs d head = (ps : List ℕ) × IsPermutation (map (λ (a : Range). a.0) (deleted defs d)) ps × Follows defs d None head ps

-- every byte of a data file belongs to a block of a row or to a deleted block
abbrev pub IsCovered : Defs → List ℕ → Type 0
IsCovered defs d = (p : ℕ) → p < length d → list_any (covers p) (ranges_of (readable defs false d) ++ deleted defs d) ≡ true

-- the numbers of a state are those of these files
pub record Counts (defs : Defs) (s : State) (d x : List ℕ) : Type 0 where
  pub records : s.records ≡ length (readable defs false d)
  pub del : s.del ≡ length (deleted defs d)
  pub split : s.split ≡ length (ranges_of (readable defs false d))
  pub key_file_length : s.key_file_length ≡ length x
  pub data_file_length : s.data_file_length ≡ length d
  pub empty : s.empty ≡ total (deleted defs d)

-- the data file d and the index file x are a clean pair
pub record IsClean (d x : List ℕ) : Type 0 where
  pub defs : Defs
  pub read : read_defs x ≡ Ok defs
  pub mark : has_mark defs x ≡ true
  pub addressable : is_addressable defs (length d) ≡ true
  pub covered : IsCovered defs d
  pub list : ListsDeleted defs d (state_of defs x).dellink
  pub counts : Counts defs (state_of defs x) d x
  -- each tree has a walk, whose pairs are its key list; what is left of the index file behind the header belongs to no
  -- page
  pub walks : List Walked
  pub trees : HaveWalks defs x ((0, first_page_of defs) ∷ []) (key_numbers defs) (state_of defs x).roots walks
  pub lists : AreKeyLists defs (map (placed_row defs) (readable defs false d)) (key_numbers defs) walks
  pub key_empty : (state_of defs x).key_empty ≡ length x - first_page_of defs - total (all_pages defs (key_numbers defs) walks)
  pub distinct : AreDistinct defs [] (map (values_of defs) (readable defs false d))
