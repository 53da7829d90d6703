-- A data file that stands for a state of its table: each row stands in its blocks, and the deleted ones are listed. In a static
-- table a deleted slot begins with a byte 0 and the number of the next one (MySQL Internals Manual, "MyISAM Static Data File
-- Layout"; that the number has as many bytes as a row pointer, high byte first, is this project's own).
use Rattle.std.specs.Prelude.{◌≡◌, ◌+◌, ◌-◌, ◌*◌, ◌^◌, ◌==◌, ℕ, if◌then◌else◌, List, [], ◌∷◌, length, map, take, drop, slice_index, unwrap_or, Option, Some, None}
use Rattle.std.specs.List.{AllByRecursion}
use Rattle.myi_base.specs.Numbers.{num_at}
use Rattle.myi_base.specs.Ranges.{Range}
use Rattle.myi_defs.specs.declared.types.RowFormat.{RowFormat}
use Rattle.myi_defs.specs.declared.types.RowFormat.TheVariants.{Static, Dynamic}
use Rattle.myi_defs.specs.declared.types.Defs.{Defs}
use Rattle.myi_frames.specs.Block.{Block, block_of}
use Rattle.myi_pack.specs.Unpacking.{row_of}
use Rattle.myi_chain.specs.Chain.{IsChain, row_bytes}
use Rattle.myi_chain.specs.Readable.{Row}
use Rattle.myi_dellist.specs.Areas.{Area}
use Rattle.myi_dellist.specs.Standing.{HasList, first_or}
use Rattle.myi_state.specs.State.{StoredRow, TableState}
use Rattle.myi_state.specs.Sound.{IsState}

-- ---- rows

abbrev pub area_of_block : Block → Area
area_of_block b = record { at = b.at; size = b.size }

-- the row's blocks are those of a chain at its position, whose bytes pack its values
pub record StandsInBlocks (d : Defs) (x : List ℕ) (r : StoredRow) : Type 0 where
  pub chain : List Block
  pub is : IsChain (block_of x) r.at [] chain
  pub blocks : map area_of_block chain ≡ r.blocks
  pub packs : row_of d (row_bytes chain) ≡ Some r.values

-- the bytes of the slot at a place
abbrev pub slot_bytes : Defs → List ℕ → ℕ → List ℕ
slot_bytes d x at = take d.slot_length (drop at x)

-- the row's slot packs its values
abbrev pub StandsInSlot : Defs → List ℕ → StoredRow → Type 0
StandsInSlot d x r = row_of d (slot_bytes d x r.at) ≡ Some r.values

abbrev pub RowStands : RowFormat → Defs → List ℕ → StoredRow → Type 0
RowStands Static d x r = StandsInSlot d x r
RowStands Dynamic d x r = StandsInBlocks d x r

-- ---- what is deleted

-- the place that a slot number of so many bytes names; all bytes FF name none
abbrev pub named_slot : ℕ → ℕ → ℕ → Option ℕ
named_slot size width n = if n == 256 ^ width - 1 then None else Some (n * size)

-- the place that the deleted slot at a place names as the next
abbrev pub next_in_slot : Defs → List ℕ → ℕ → Option ℕ
next_in_slot d x at = named_slot d.slot_length d.rec_ref (num_at (at + 1) d.rec_ref x)

-- each of these slots is deleted and names the next
abbrev pub ListSlots : Defs → List ℕ → List Area → Type 0
ListSlots d x [] = Unit {0}
ListSlots d x (h ∷ holes) = (slice_index (slot_bytes d x h.at) 0 ≡ 0) × (next_in_slot d x h.at ≡ first_or holes None) × ListSlots d x holes

abbrev pub HolesStand : RowFormat → Defs → List ℕ → List Area → Type 0
HolesStand Static d x holes = ListSlots d x holes
HolesStand Dynamic d x holes = HasList x holes

-- ---- the file

-- a data file of these bytes stands for a state
pub record StandsFor (d : Defs) (s : TableState) (x : List ℕ) : Type 0 where
  pub state : IsState d s
  pub long : length x ≡ s.space.end
  pub rows : AllByRecursion (RowStands d.format d x) s.rows
  pub holes : HolesStand d.format d x s.space.holes

-- ---- what is read of it

abbrev pub range_of_area : Area → Range
range_of_area a = (a.at, a.at + a.size)

abbrev pub area_of_range : Range → Area
area_of_range r = record { at = r.0; size = r.1 - r.0 }

-- a readable row as one of a state
abbrev pub stored_row : Defs → Row → StoredRow
stored_row d r = record { at = r.at; values = unwrap_or (row_of d r.bytes) []; blocks = map area_of_range r.blocks }
