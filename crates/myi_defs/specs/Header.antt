-- What stands where in the header of an index file, all numbers high byte first (MySQL Internals Manual,
-- "The .MYI file"). The header begins with 24 bytes that every index file has. Then follow the state, of
-- which nothing is read here, the base section, the keys, each with its segments, and the fields.
use Rattle.std.specs.Prelude.{ℕ, zero, suc, ◌+◌, ◌*◌, ◌==◌, if◌then◌else◌, List, [], ◌∷◌, length, take, sum_by, Option, Some, None}
use Rattle.myi_base.specs.Numbers.{num_at}
use Rattle.myi_defs.specs.declared.types.FieldKind.{FieldKind}
use Rattle.myi_defs.specs.declared.types.FieldKind.TheVariants.{Normal, SkipEndspace, SkipPrespace, SkipZero, Blob, Varchar}
use Rattle.myi_defs.specs.declared.types.SegType.{SegType}
use Rattle.myi_defs.specs.declared.types.SegType.TheVariants.{Text, Binary, ShortInt, LongInt, UshortInt, UlongInt, Longlong, Ulonglong, Int24, Uint24, Int8, VarText, VarBinary}
use Rattle.myi_defs.specs.declared.header.Front.{Front}
use Rattle.myi_defs.specs.declared.header.Base.{Base}
use Rattle.myi_defs.specs.declared.header.SegItem.{SegItem}
use Rattle.myi_defs.specs.declared.header.KeyItem.{KeyItem}
use Rattle.myi_defs.specs.declared.header.FieldItem.{FieldItem}
use Rattle.myi_defs.specs.declared.header.Outline.{Outline}

-- the first 24 bytes
unfoldable pub front : List ℕ → Front
front x = record {
  magic = num_at 0 4 x;
  options = num_at 4 2 x;
  header_length = num_at 6 2 x;
  state_info_length = num_at 8 2 x;
  base_info_length = num_at 10 2 x;
  base_pos = num_at 12 2 x;
  key_parts = num_at 14 2 x;
  keys = num_at 18 1 x;
  uniques = num_at 19 1 x;
  page_sizes = num_at 21 1 x;
  fulltext_keys = num_at 22 1 x;
}

-- the base section, which has 100 bytes
unfoldable pub base : ℕ → List ℕ → Base
base at h = record {
  row_length = num_at (at + 44) 4 h;
  slot_length = num_at (at + 48) 4 h;
  fields = num_at (at + 64) 4 h;
  rec_ref = num_at (at + 72) 1 h;
  key_ref = num_at (at + 73) 1 h;
  pack_bits = num_at (at + 76) 2 h;
}

-- the segments that are taken, by the number of their type; a variable text and a variable binary have two
-- numbers each
abbrev pub seg_type : ℕ → Option SegType
seg_type n =
    if n == 1 then Some Text
    else if n == 2 then Some Binary
    else if n == 3 then Some ShortInt
    else if n == 4 then Some LongInt
    else if n == 8 then Some UshortInt
    else if n == 9 then Some UlongInt
    else if n == 10 then Some Longlong
    else if n == 11 then Some Ulonglong
    else if n == 12 then Some Int24
    else if n == 13 then Some Uint24
    else if n == 14 then Some Int8
    else if n == 15 then Some VarText
    else if n == 16 then Some VarBinary
    else if n == 17 then Some VarText
    else if n == 18 then Some VarBinary
    else None

-- a segment, which has 18 bytes; the two bytes of its language stand apart
unfoldable pub seg_item : ℕ → List ℕ → SegItem
seg_item at h = record {
  seg = seg_type (num_at at 1 h);
  language = num_at (at + 1) 1 h + 256 * num_at (at + 4) 1 h;
  null_bit = num_at (at + 2) 1 h;
  length = num_at (at + 8) 2 h;
  start = num_at (at + 10) 4 h;
  null_pos = num_at (at + 14) 4 h;
}

-- so many segments one after the other
unfoldable pub seg_items : ℕ → ℕ → List ℕ → List SegItem
seg_items zero at h = []
seg_items (suc n) at h = seg_item at h ∷ seg_items n (at + 18) h

-- a key, which has 12 bytes and then its segments
unfoldable pub key_item : ℕ → List ℕ → KeyItem
key_item at h = record {
  flag = num_at (at + 2) 2 h;
  block_length = num_at (at + 4) 2 h;
  segments = seg_items (num_at at 1 h) (at + 12) h;
}

abbrev pub key_length : KeyItem → ℕ
key_length k = 12 + 18 * length k.segments

-- so many keys one after the other
unfoldable pub key_items : ℕ → ℕ → List ℕ → List KeyItem
key_items zero at h = []
key_items (suc n) at h =
    let k = key_item at h in
    k ∷ key_items n (at + key_length k) h

-- the kinds of fields that are taken, by the number of their type
abbrev pub field_kind : ℕ → Option FieldKind
field_kind n =
    if n == 0 then Some Normal
    else if n == 1 then Some SkipEndspace
    else if n == 2 then Some SkipPrespace
    else if n == 3 then Some SkipZero
    else if n == 4 then Some Blob
    else if n == 8 then Some Varchar
    else None

-- a field, which has 7 bytes; `start` is its place in the row
unfoldable pub field_item : ℕ → ℕ → List ℕ → FieldItem
field_item start at h = record {
  kind = field_kind (num_at at 2 h);
  length = num_at (at + 2) 2 h;
  start = start;
}

-- so many fields one after the other, the first at `start` in the row
unfoldable pub field_items : ℕ → ℕ → ℕ → List ℕ → List FieldItem
field_items zero start at h = []
field_items (suc n) start at h =
    let f = field_item start at h in
    f ∷ field_items n (start + f.length) (at + 7) h

-- the header itself, the whole of it
abbrev pub header : List ℕ → List ℕ
header x = take (front x).header_length x

-- where the keys stand, how many bytes they take, and where the fields stand
abbrev pub keys_place : Front → ℕ
keys_place f = f.base_pos + 100

abbrev pub keys_length : List KeyItem → ℕ
keys_length keys = sum_by key_length keys

abbrev pub fields_place : Front → List KeyItem → ℕ
fields_place f keys = keys_place f + keys_length keys

-- everything that definitions are made of, from the first 24 bytes and the whole header
unfoldable pub outline : Front → List ℕ → Outline
outline f h =
    let b = base f.base_pos h in
    let keys = key_items f.keys (keys_place f) h in
    record { front = f; base = b; keys = keys; fields = field_items b.fields 0 (fields_place f keys) h }
