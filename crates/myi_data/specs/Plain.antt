-- Static tables whose fields are all NORMAL: their rows are the slots whose first byte is not 0.
use Rattle.std.specs.Prelude.{◌≡◌, ◌==◌, ℕ, Bool, not, List, map, slice_index, filter, All}
use Rattle.myi_defs.specs.declared.types.RowFormat.TheVariants.{Static}
use Rattle.myi_defs.specs.declared.types.FieldKind.TheVariants.{Normal}
use Rattle.myi_defs.specs.declared.types.Defs.{Defs}
use Rattle.myi_chain.specs.Readable.{Row}
use Rattle.myi_data.specs.Slots.{slots_in}
use Rattle.myi_data.specs.Readable.{slot_row}

abbrev pub IsPlain : Defs → Type 0
IsPlain d = (d.format ≡ Static) × All (λ f. f.kind ≡ Normal) d.fields

-- the first byte is not 0
abbrev pub is_used : List ℕ → Bool
is_used slot = not (slice_index slot 0 == 0)

-- the rows in the used slots of bytes that stand at a place
unfoldable pub plain_rows : ℕ → ℕ → List ℕ → List Row
plain_rows at size xs = map slot_row (filter (λ s. is_used s.bytes) (slots_in at size xs))
