-- The conditions on which a table is refused, from the third on. The first two are asked of the bytes
-- themselves and stand with read definitions. Which tables are refused is this project's own choice.
use Rattle.std.specs.Prelude.{◌≡◌, ℕ, ◌+◌, ◌*◌, ◌/◌, ◌%◌, Bool, true, false, not, ◌&&◌, ◌||◌, ◌==◌, nat_lt, bit_and, if◌then◌else◌, List, [], ◌∷◌, length, sum_by, count_by, Option, Some, None, is_none}
use Rattle.std.specs.List.{list_any}
use Rattle.myi_defs.specs.declared.types.RowFormat.{RowFormat}
use Rattle.myi_defs.specs.declared.types.RowFormat.TheVariants.{Static, Dynamic}
use Rattle.myi_defs.specs.declared.types.FieldKind.{FieldKind}
use Rattle.myi_defs.specs.declared.types.FieldKind.TheVariants.{Normal, SkipEndspace, SkipPrespace, SkipZero, Blob, Varchar}
use Rattle.myi_defs.specs.declared.types.SegType.{SegType}
use Rattle.myi_defs.specs.declared.header.Front.{Front}
use Rattle.myi_defs.specs.declared.header.Base.{Base}
use Rattle.myi_defs.specs.declared.header.SegItem.{SegItem}
use Rattle.myi_defs.specs.declared.header.KeyItem.{KeyItem}
use Rattle.myi_defs.specs.declared.header.FieldItem.{FieldItem}
use Rattle.myi_defs.specs.declared.header.Outline.{Outline}
use Rattle.myi_defs.specs.Header.{keys_place, fields_place}
use Rattle.myi_defs.specs.Kinds.{has_flag, is_text, is_collation, int_size, seg_cost, lies_in, is_plain_at}
use Rattle.myi_defs.specs.Layout.{most_fields, most_keys, most_segments, base_place}

-- a bit of a number is set
abbrev pub has_bit : ℕ → ℕ → Bool
has_bit bit n = not (bit_and n bit == 0)

-- the row format, by the options: 1 dynamic
abbrev pub row_format : ℕ → RowFormat
row_format options = if has_bit 1 options then Dynamic else Static

abbrev pub is_dynamic : Outline → Bool
is_dynamic o = has_bit 1 o.front.options

-- some segment of some key passes
abbrev pub some_segment : (SegItem → Bool) → List KeyItem → Bool
some_segment test keys = list_any (λ k. list_any test k.segments) keys

-- each field starts where those before it end
abbrev pub ItemsStartFrom : ℕ → List FieldItem → Type 0
ItemsStartFrom at [] = Unit {0}
ItemsStartFrom at (f ∷ fs) = (f.start ≡ at) × ItemsStartFrom (at + f.length) fs

-- a field has no bytes
abbrev pub is_empty : FieldItem → Bool
is_empty f = f.length == 0

-- 3 Lengths, of the first 24 bytes: the lengths of the sections are other than those of this format, the base
-- section is not where it must be or reaches past the header, or there are too many keys
unfoldable pub has_wrong_front : Front → Bool
has_wrong_front f =
    not (f.state_info_length == 176)
    || not (f.base_info_length == 100)
    || not (f.base_pos == base_place f.keys f.page_sizes f.key_parts)
    || nat_lt f.header_length (keys_place f)
    || nat_lt most_keys f.keys

-- 3 Lengths, of the keys: one has no segment or too many, or all have more than the header says, or they
-- reach past the header
abbrev pub has_wrong_segments : KeyItem → Bool
has_wrong_segments k = (length k.segments == 0) || nat_lt most_segments (length k.segments)

unfoldable pub has_wrong_keys : Front → List KeyItem → Bool
has_wrong_keys f keys =
    list_any has_wrong_segments keys
    || nat_lt f.key_parts (sum_by (λ k. length k.segments) keys)
    || nat_lt f.header_length (fields_place f keys)

-- 3 Lengths, of the fields and the row: there are no fields or too many, or they reach past the header;
-- the row has no bytes or more than 2^20, or the slot of a static table is shorter than the row or longer
-- than 2^20
unfoldable pub has_wrong_fields : Front → Base → ℕ → Bool
has_wrong_fields f b place =
    (b.fields == 0)
    || nat_lt most_fields b.fields
    || nat_lt f.header_length (place + 7 * b.fields)

unfoldable pub has_wrong_row : Front → Base → Bool
has_wrong_row f b =
    (b.row_length == 0)
    || nat_lt 1048576 b.row_length
    || not (has_bit 1 f.options) && (nat_lt b.slot_length b.row_length || nat_lt 1048576 b.slot_length)

-- 4 Packed, 5 Checksum: options of the table that are not taken
abbrev pub is_packed : Outline → Bool
is_packed o = has_bit 4 o.front.options

abbrev pub has_checksum : Outline → Bool
has_checksum o = has_bit 32 o.front.options

-- 6 Fulltext, 7 Spatial: kinds of keys that are not taken
unfoldable pub has_fulltext : Outline → Bool
has_fulltext o = not (o.front.fulltext_keys == 0) || list_any (λ k. has_bit 128 k.flag) o.keys

unfoldable pub has_spatial : Outline → Bool
has_spatial o = list_any (λ k. has_bit 1024 k.flag) o.keys

-- 8 Uniques: unique constraints without keys
abbrev pub has_uniques : Outline → Bool
has_uniques o = not (o.front.uniques == 0)

-- 9 FieldType: a field's type is none that is taken, or its length none that its type can have
abbrev pub is_wrong_length : Bool → FieldKind → ℕ → Bool
is_wrong_length dynamic Normal n = n == 0
is_wrong_length dynamic SkipEndspace n = n == 0
is_wrong_length dynamic SkipPrespace n = n == 0
is_wrong_length dynamic SkipZero n = n == 0
is_wrong_length dynamic Blob n = not dynamic || nat_lt n 9 || nat_lt 12 n
is_wrong_length dynamic Varchar n = nat_lt n 2 || (n == 257)

abbrev pub is_wrong_kind : Bool → Option FieldKind → ℕ → Bool
is_wrong_kind dynamic None n = true
is_wrong_kind dynamic (Some kind) n = is_wrong_length dynamic kind n

-- a field with a bit of its own in a packed row
abbrev pub is_flagged : Option FieldKind → Bool
is_flagged (Some kind) = has_flag kind
is_flagged None = false

-- 9 FieldType: or the fields are longer than the row, or the rows of a dynamic table begin with another number
-- of bytes than the flags need
unfoldable pub has_wrong_types : Outline → Bool
has_wrong_types o =
    list_any (λ f. is_wrong_kind (is_dynamic o) f.kind f.length) o.fields
    || nat_lt o.base.row_length (sum_by (λ f. f.length) o.fields)
    || is_dynamic o && not (o.base.pack_bits == (count_by (λ f. is_flagged f.kind) o.fields + 7) / 8)

-- 10 SegType: a segment's type is none that is taken
unfoldable pub has_wrong_segment : Outline → Bool
has_wrong_segment o = some_segment (λ s. is_none s.seg) o.keys

-- 11 SegPlace: an integer segment has another length than its type, or no field holds the segment, or the byte
-- that says whether there is a value lies in no field of plain bytes
abbrev pub is_held_as : SegItem → FieldItem → Option SegType → Option FieldKind → Bool
is_held_as s f (Some seg) (Some kind) = lies_in seg s.start s.length kind f.start f.length
is_held_as s f seg kind = false

abbrev pub is_held : SegItem → FieldItem → Bool
is_held s f = is_held_as s f s.seg f.kind

abbrev pub is_plain_as : ℕ → FieldItem → Option FieldKind → Bool
is_plain_as place f (Some kind) = is_plain_at place kind f.start f.length
is_plain_as place f None = false

abbrev pub has_other_size : Option ℕ → ℕ → Bool
has_other_size (Some n) length = not (length == n)
has_other_size None length = false

abbrev pub has_wrong_size : Option SegType → ℕ → Bool
has_wrong_size (Some seg) length = has_other_size (int_size seg) length
has_wrong_size None length = false

unfoldable pub is_misplaced : List FieldItem → SegItem → Bool
is_misplaced fields s =
    has_wrong_size s.seg s.length
    || not (list_any (is_held s) fields)
    || not (s.null_bit == 0) && not (list_any (λ f. is_plain_as s.null_pos f f.kind) fields)

unfoldable pub has_wrong_place : Outline → Bool
has_wrong_place o = some_segment (is_misplaced o.fields) o.keys

-- 12 Collation: a segment with a text has a collation that is not taken
abbrev pub is_text_as : Option SegType → Bool
is_text_as (Some seg) = is_text seg
is_text_as None = false

unfoldable pub has_wrong_collation : Outline → Bool
has_wrong_collation o = some_segment (λ s. is_text_as s.seg && not (is_collation s.language)) o.keys

-- 13 BlockLength: a key's pages are not of whole 1024 bytes up to 16 of them, or have no room for two entries,
-- each with the key, its two numbers in three bytes, a child in seven and a row pointer
abbrev pub most_key : KeyItem → ℕ
most_key k = sum_by (λ s. seg_cost s.length) k.segments

abbrev pub has_wrong_pages : ℕ → KeyItem → Bool
has_wrong_pages rec_ref k =
    not (k.block_length % 1024 == 0)
    || nat_lt k.block_length 1024
    || nat_lt 16384 k.block_length
    || nat_lt k.block_length (2 * (most_key k + 13 + rec_ref) + 9)

unfoldable pub has_wrong_blocks : Outline → Bool
has_wrong_blocks o = list_any (has_wrong_pages o.base.rec_ref) o.keys

-- 14 PointerSize: a pointer has too few or too many bytes, or a static slot has no room for a deleted row's
unfoldable pub has_wrong_pointers : Outline → Bool
has_wrong_pointers o =
    nat_lt o.base.rec_ref 2
    || nat_lt 8 o.base.rec_ref
    || nat_lt o.base.key_ref 1
    || nat_lt 8 o.base.key_ref
    || not (is_dynamic o) && nat_lt o.base.slot_length (o.base.rec_ref + 1)

-- 16 KeyTooLong (there is no condition 15): the segments of a key have more than 1000 bytes
unfoldable pub has_long_keys : Outline → Bool
has_long_keys o = list_any (λ k. nat_lt 1000 (sum_by (λ s. s.length) k.segments)) o.keys
