-- The readable rows and the deleted blocks of a table's data file, sound or damaged (this project's own
-- definition). In a static table a row is a slot that packs one, and a slot whose first byte is 0 is deleted
-- (MySQL Reference Manual, "Static (Fixed-Length) Table Characteristics"); what is left over at the file's end
-- belongs to no slot. In a dynamic table the rows are those of chains of blocks.
use Rattle.std.specs.Prelude.{◌+◌, ◌==◌, ℕ, Bool, false, if◌then◌else◌, List, [], ◌∷◌, length, filter, slice_index, is_some}
use Rattle.std.specs.List.{flat_map}
use Rattle.myi_base.specs.Ranges.{Range, is_apart}
use Rattle.myi_defs.specs.declared.types.RowFormat.{RowFormat}
use Rattle.myi_defs.specs.declared.types.RowFormat.TheVariants.{Static, Dynamic}
use Rattle.myi_defs.specs.declared.types.Defs.{Defs}
use Rattle.myi_pack.specs.Unpacking.{row_of}
use Rattle.myi_chain.specs.Readable.{Row, Item, row, free, rows_of, frees_of}
use Rattle.myi_chain.specs.Readable as chains
use Rattle.myi_chain.specs.Meeting.{ranges_of}
use Rattle.myi_data.specs.Slots.{Slot, slots_in}

-- bytes pack a row
abbrev pub packs : Defs → List ℕ → Bool
packs d b = is_some (row_of d b)

-- the bytes of the file that a slot takes
abbrev pub slot_range : Slot → Range
slot_range slot = (slot.at, slot.at + length slot.bytes)

-- the row in a slot is all its bytes
abbrev pub slot_row : Slot → Row
slot_row slot = record { at = slot.at; bytes = slot.bytes; blocks = slot_range slot ∷ [] }

-- what a slot is: deleted, a row, or neither
abbrev pub slot_items : (List ℕ → Bool) → Slot → List Item
slot_items accepts slot =
    if slice_index slot.bytes 0 == 0 then free (slot_range slot) ∷ [] else
    if accepts slot.bytes then row (slot_row slot) ∷ [] else []

-- what is met in bytes that stand at a place, by slots of a length
unfoldable pub items_at : (List ℕ → Bool) → ℕ → ℕ → List ℕ → List Item
items_at accepts size at xs = flat_map (slot_items accepts) (slots_in at size xs)

abbrev pub items_by : RowFormat → Defs → Bool → List ℕ → List Item
items_by Static d extend x = items_at (packs d) d.slot_length 0 x
items_by Dynamic d extend x = chains.items_in extend (packs d) x

-- What is met in the data file x of a table, in order of the places: rows, and slots or blocks that are
-- deleted. `extend` says whether in a dynamic table every place is tried; slots have their places.
unfoldable pub items_in : Defs → Bool → List ℕ → List Item
items_in d extend x = items_by d.format d extend x

-- the readable rows
unfoldable pub readable : Defs → Bool → List ℕ → List Row
readable d extend x = rows_of (items_in d extend x)

-- the deleted blocks: those that are passed and meet no block of a readable row, be it before or behind
unfoldable pub deleted : Defs → List ℕ → List Range
deleted d x = filter (λ a. is_apart a (ranges_of (readable d false x))) (frees_of (items_in d false x))
