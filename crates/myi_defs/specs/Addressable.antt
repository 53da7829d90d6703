-- Whether a data file is within reach of the table's row pointers (MySQL Reference Manual, "CREATE TABLE", on
-- the pointer size of MyISAM tables; the limit of 2^40 bytes is this project's own).
use Rattle.std.specs.Prelude.{ℕ, Bool, ◌/◌, ◌-◌, ◌^◌, ◌&&◌, nat_le, nat_lt}
use Rattle.myi_defs.specs.declared.types.RowFormat.{RowFormat}
use Rattle.myi_defs.specs.declared.types.RowFormat.TheVariants.{Static, Dynamic}
use Rattle.myi_defs.specs.declared.types.Defs.{Defs}

-- how many row pointers a data file of that length needs: one a slot, or one a byte
abbrev pub pointers : RowFormat → ℕ → ℕ → ℕ
pointers Static slot_length length = length / slot_length
pointers Dynamic slot_length length = length

-- the file is short enough, and no row has the pointer that stands for none
unfoldable pub is_addressable : Defs → ℕ → Bool
is_addressable defs length = nat_le length (2 ^ 40) && nat_lt (pointers defs.format defs.slot_length length) (256 ^ defs.rec_ref - 1)
