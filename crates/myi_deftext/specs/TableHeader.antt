-- The parts of the header of a table that a text describes, by the table.
use Rattle.std.specs.Prelude.{ℕ, List, ◌++◌}
use Rattle.std.specs.List.{flat_map}
use Rattle.myi_deftext.specs.declared.text.Line.TheVariants as line
use Rattle.myi_deftext.specs.Grammar.{FieldSaid, KeySaid}
use Rattle.myi_deftext.specs.TextHeader.{field_bytes, seg_bytes, key_bytes}

-- a field, and a key with its segments behind it
abbrev pub field_header : FieldSaid → List ℕ
field_header f = field_bytes (line.Field f.kind f.length)

abbrev pub key_header : ℕ → KeySaid → List ℕ
key_header pointer k = key_bytes pointer k.unique k.segments ++ flat_map seg_bytes k.segments
