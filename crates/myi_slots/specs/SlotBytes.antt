-- Slots of a static table as bytes: where one stands, a deleted one that the list needs, and what a deleted one begins with.
use Rattle.std.specs.Prelude.{◌+◌, ◌-◌, ◌*◌, ◌/◌, ◌%◌, ◌^◌, ◌==◌, ℕ, Bool, true, false, ◌&&◌, nat_le, nat_lt, if◌then◌else◌, List, ◌∷◌, length, drop, slice_index, Option, Some, None}
use Rattle.myi_base.specs.Numbers.{num, num_bytes}
use Rattle.myi_defs.specs.declared.types.Defs.{Defs}
use Rattle.myi_pack.specs.Packed.{Values}
use Rattle.myi_pack.specs.Unpacking.{row_of}
use Rattle.myi_data.specs.Readable.{packs}
use Rattle.myi_state.specs.Standing.{slot_bytes}

-- a slot of this size stands at a place of a file of this length
abbrev pub is_slot : ℕ → ℕ → ℕ → Bool
is_slot size end at = (at % size == 0) && nat_le (at + size) end

-- the slot at a place packs a row
unfoldable pub is_row : Defs → List ℕ → ℕ → Bool
is_row d x at = is_slot d.slot_length (length x) at && packs d (slot_bytes d x at)

-- the row at a place, if one stands there
unfoldable pub row_there : Defs → List ℕ → ℕ → Option Values
row_there d x at = if is_slot d.slot_length (length x) at then row_of d (slot_bytes d x at) else None

-- The slot that a number names as the next one; all bytes FF name none. A number that no slot of the file has is no link.
abbrev pub link_by : Bool → Bool → ℕ → Option (Option ℕ)
link_by none inside at = if none then Some None else (if inside then Some (Some at) else None)

unfoldable pub link_of : ℕ → ℕ → ℕ → ℕ → Option (Option ℕ)
link_of size width end n = link_by (n == 256 ^ width - 1) (nat_lt n (end / size)) (n * size)

-- the first bytes of a deleted slot: a 0, and a link
abbrev pub link_in : Bool → ℕ → ℕ → ℕ → List ℕ → Option (Option ℕ)
link_in true size width end head = link_of size width end (num width (drop 1 head))
link_in false size width end head = None

-- the next slot of the deleted one at a place, if one stands there
unfoldable pub hole_in : ℕ → ℕ → List ℕ → ℕ → Option (Option ℕ)
hole_in size width x at = link_in (is_slot size (length x) at && (slice_index (drop at x) 0 == 0)) size width (length x) (drop at x)

-- the number of the slot at a place, and the one that stands for none
abbrev pub slot_number : ℕ → ℕ → Option ℕ → ℕ
slot_number size width None = 256 ^ width - 1
slot_number size width (Some at) = at / size

-- what a deleted slot begins with
abbrev pub hole_bytes : ℕ → ℕ → Option ℕ → List ℕ
hole_bytes size width next = 0 ∷ num_bytes width (slot_number size width next)
