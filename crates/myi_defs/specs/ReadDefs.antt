-- Read definitions: what the bytes of an index file say of its table, or why the table is refused: the first
-- of fifteen conditions that holds decides, which have the numbers 1 to 14 and 16 (MySQL Internals Manual, "The
-- .MYI file", for what is read; the conditions are this project's own).
use Rattle.std.specs.Prelude.{◌≡◌, ℕ, Bool, not, ◌||◌, ◌==◌, nat_lt, if◌then◌else◌, List, length, map, unwrap_or, Option, Some, None, Result, Ok, Err}
use Rattle.std.specs.List.{position_or_len}
use Rattle.myi_defs.specs.declared.types.FieldKind.TheVariants.{Normal}
use Rattle.myi_defs.specs.declared.types.SegType.TheVariants.{Binary}
use Rattle.myi_defs.specs.declared.types.Field.{Field}
use Rattle.myi_defs.specs.declared.types.Segment.{Segment}
use Rattle.myi_defs.specs.declared.types.Key.{Key}
use Rattle.myi_defs.specs.declared.types.Defs.{Defs}
use Rattle.myi_defs.specs.declared.types.DefFault.{DefFault}
use Rattle.myi_defs.specs.declared.types.DefFault.TheVariants as fault
use Rattle.myi_defs.specs.declared.header.Front.{Front}
use Rattle.myi_defs.specs.declared.header.SegItem.{SegItem}
use Rattle.myi_defs.specs.declared.header.KeyItem.{KeyItem}
use Rattle.myi_defs.specs.declared.header.FieldItem.{FieldItem}
use Rattle.myi_defs.specs.declared.header.Outline.{Outline}
use Rattle.myi_defs.specs.Header.{front, header, fields_place, outline}
use Rattle.myi_defs.specs.Conditions.{has_bit, row_format, has_wrong_front, has_wrong_keys, has_wrong_fields, has_wrong_row, is_packed, has_checksum, has_fulltext, has_spatial, has_uniques, has_wrong_types, has_wrong_segment, is_held, has_wrong_place, has_wrong_collation, has_wrong_blocks, has_wrong_pointers, has_long_keys}

-- the file is cut short: it has no 24 bytes, or not the whole header
unfoldable pub is_short : List ℕ → Bool
is_short x = nat_lt (length x) 24 || nat_lt (length x) (front x).header_length

-- it does not begin with the bytes FE FE 07 01
unfoldable pub has_other_magic : Front → Bool
has_other_magic f = not (f.magic == 0xFEFE0701)

-- the lengths and counts in the header do not fit together
unfoldable pub has_wrong_lengths : Outline → Bool
has_wrong_lengths o =
    has_wrong_front o.front
    || has_wrong_keys o.front o.keys
    || has_wrong_fields o.front o.base (fields_place o.front o.keys)
    || has_wrong_row o.front o.base

-- a field of the definitions; a kind is always there in a table that is not refused
abbrev pub field_of : FieldItem → Field
field_of f = record { kind = unwrap_or f.kind Normal; length = f.length; start = f.start }

-- a segment; the first field that holds it is its field
abbrev pub segment_of : List FieldItem → SegItem → Segment
segment_of fields s = record {
  seg = unwrap_or s.seg Binary;
  language = s.language;
  null_bit = s.null_bit;
  null_pos = s.null_pos;
  length = s.length;
  start = s.start;
  field = position_or_len (is_held s) fields;
}

-- a key; flag 1 says that it is unique
abbrev pub key_of : List FieldItem → KeyItem → Key
key_of fields k = record {
  unique = has_bit 1 k.flag;
  block_length = k.block_length;
  segments = map (segment_of fields) k.segments;
}

-- the definitions that a header gives
abbrev pub definitions : Outline → List ℕ → Defs
definitions o h = record {
  format = row_format o.front.options;
  fields = map field_of o.fields;
  keys = map (key_of o.fields) o.keys;
  rec_ref = o.base.rec_ref;
  key_ref = o.base.key_ref;
  row_length = o.base.row_length;
  slot_length = o.base.slot_length;
  raw = h;
}

-- why a header is refused: the first of the third condition and those after it
unfoldable pub refusal : Outline → Option DefFault
refusal o =
    if has_wrong_lengths o then Some fault.Lengths  -- 3: lengths or counts do not fit together
    else if is_packed o then Some fault.Packed  -- 4: the data file is compressed
    else if has_checksum o then Some fault.Checksum  -- 5: rows have checksums
    else if has_fulltext o then Some fault.Fulltext  -- 6: a key is a full-text one
    else if has_spatial o then Some fault.Spatial  -- 7: a key is a spatial one
    else if has_uniques o then Some fault.Uniques  -- 8: there are unique constraints
    else if has_wrong_types o then Some fault.FieldType  -- 9: a field's type or length is not taken
    else if has_wrong_segment o then Some fault.SegType  -- 10: a segment's type is not taken
    else if has_wrong_place o then Some fault.SegPlace  -- 11: a segment lies in no field that can hold it
    else if has_wrong_collation o then Some fault.Collation  -- 12: a text's collation is not taken
    else if has_wrong_blocks o then Some fault.BlockLength  -- 13: a key's pages have a wrong length
    else if has_wrong_pointers o then Some fault.PointerSize  -- 14: a pointer has a wrong length
    else if has_long_keys o then Some fault.KeyTooLong  -- 16: a key may be too long
    else None

abbrev pub unless : Option DefFault → Defs → Result Defs DefFault
unless (Some f) d = Err f
unless None d = Ok d

abbrev pub judged : Outline → List ℕ → Result Defs DefFault
judged o h = unless (refusal o) (definitions o h)

unfoldable pub read_defs : List ℕ → Result Defs DefFault
read_defs x =
    if is_short x then Err fault.Short  -- 1: the file is cut short
    else if has_other_magic (front x) then Err fault.Magic  -- 2: it is no index file
    else judged (outline (front x) (header x)) (header x)

-- definitions that are those of their own header
abbrev pub AreDefs : Defs → Type 0
AreDefs d = read_defs d.raw ≡ Ok d
