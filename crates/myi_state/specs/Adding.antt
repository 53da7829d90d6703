-- What a row adds to a data file that it is put behind: in a static table its slot, in a dynamic one its blocks.
use Rattle.std.specs.Prelude.{ℕ, List}
use Rattle.myi_defs.specs.declared.types.RowFormat.{RowFormat}
use Rattle.myi_defs.specs.declared.types.RowFormat.TheVariants.{Static, Dynamic}
use Rattle.myi_defs.specs.declared.types.Defs.{Defs}
use Rattle.myi_pack.specs.Packed.{Values}
use Rattle.myi_pack.specs.Spelling.{spelling}
use Rattle.myi_dellist.specs.Appending.{end_bytes}

-- the bytes that a packed row has behind the end of a file
abbrev pub packed_at_end : RowFormat → ℕ → List ℕ → List ℕ
packed_at_end Static end row = row
packed_at_end Dynamic end row = end_bytes end row

-- the bytes that a row adds to a file that ends at this place
unfoldable pub added_bytes : Defs → Values → ℕ → List ℕ
added_bytes d values end = packed_at_end d.format end (spelling d values)
