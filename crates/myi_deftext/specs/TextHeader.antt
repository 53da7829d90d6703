-- The header that a creating text stands for (this project's own). What the text says stands at its place, all
-- other numbers are 0, and one that does not fit its bytes is stored as the greatest that does.
use Rattle.std.specs.Prelude.{◌≡◌, ℕ, ◌+◌, ◌-◌, ◌*◌, ◌/◌, ◌%◌, ◌^◌, Bool, true, false, if◌then◌else◌, min, max, List, [], ◌∷◌, ◌++◌, length, sum_by, count_by, flat_map, Option, Some, None}
use Rattle.myi_base.specs.Items.{spelling}
use Rattle.myi_defs.specs.declared.types.RowFormat.{RowFormat}
use Rattle.myi_defs.specs.declared.types.RowFormat.TheVariants.{Static, Dynamic}
use Rattle.myi_defs.specs.declared.types.FieldKind.{FieldKind}
use Rattle.myi_defs.specs.declared.types.FieldKind.TheVariants.{Normal, SkipEndspace, SkipPrespace, SkipZero, Blob, Varchar}
use Rattle.myi_defs.specs.declared.types.SegType.{SegType}
use Rattle.myi_defs.specs.declared.types.SegType.TheVariants as seg
use Rattle.myi_defs.specs.declared.header.Front.{Front}
use Rattle.myi_defs.specs.declared.header.SegItem.{SegItem}
use Rattle.myi_deftext.specs.declared.text.Line.{Line}
use Rattle.myi_deftext.specs.declared.text.Line.TheVariants as line
use Rattle.myi_defs.specs.Kinds.{seg_cost}
use Rattle.myi_defs.specs.Conditions.{is_flagged}
use Rattle.myi_defs.specs.Layout.{mark, base_place, first_page}
use Rattle.myi_defs.specs.EmptyTable.{zeros, empty_state}

-- a number as it is stored in so many bytes
abbrev pub stored : ℕ → ℕ → ℕ
stored width n = min n (256 ^ width - 1)

-- the numbers, each in so many bytes, were appended
abbrev pub AddsNumbers : List ℕ → List ℕ → List ℕ → List ℕ → Type 0
AddsNumbers widths values new old = new ≡ old ++ spelling widths values

-- what the lines say of the whole table
abbrev pub format_said : List Line → RowFormat
format_said [] = Static
format_said (line.Rows r ∷ ls) = r
format_said (l ∷ ls) = format_said ls

-- six where no line says how many bytes a pointer has
abbrev pub pointer_said : List Line → ℕ
pointer_said [] = 6
pointer_said (line.Pointer n ∷ ls) = n
pointer_said (l ∷ ls) = pointer_said ls

abbrev pub is_field : Line → Bool
is_field (line.Field k n) = true
is_field l = false

abbrev pub is_key : Line → Bool
is_key (line.Key u) = true
is_key l = false

abbrev pub is_segment : Line → Bool
is_segment (line.Seg s) = true
is_segment l = false

abbrev pub field_length : Line → ℕ
field_length (line.Field k n) = n
field_length l = 0

abbrev pub has_flag : Line → Bool
has_flag (line.Field k n) = is_flagged (Some k)
has_flag l = false

-- the segments of a key: those before the next line of another kind
abbrev pub leading : List Line → List SegItem
leading (line.Seg s ∷ ls) = s ∷ leading ls
leading ls = []

-- the greatest key, and the least length of a page with room for four entries
abbrev pub key_most : List SegItem → ℕ
key_most segments = sum_by (λ s. seg_cost s.length) segments

abbrev pub page_length : ℕ → ℕ → ℕ
page_length pointer most = (4 * (most + 13 + pointer) + 9 + 1023) / 1024 * 1024

abbrev pub longest_page : ℕ → List Line → ℕ
longest_page pointer [] = 0
longest_page pointer (line.Key u ∷ ls) = max (page_length pointer (key_most (leading ls))) (longest_page pointer ls)
longest_page pointer (l ∷ ls) = longest_page pointer ls

-- the numbers of types
abbrev pub kind_number : FieldKind → ℕ
kind_number Normal = 0
kind_number SkipEndspace = 1
kind_number SkipPrespace = 2
kind_number SkipZero = 3
kind_number Blob = 4
kind_number Varchar = 8

abbrev pub seg_number : SegType → ℕ
seg_number seg.Text = 1
seg_number seg.Binary = 2
seg_number seg.ShortInt = 3
seg_number seg.LongInt = 4
seg_number seg.UshortInt = 8
seg_number seg.UlongInt = 9
seg_number seg.Longlong = 10
seg_number seg.Ulonglong = 11
seg_number seg.Int24 = 12
seg_number seg.Uint24 = 13
seg_number seg.Int8 = 14
seg_number seg.VarText = 15
seg_number seg.VarBinary = 16

-- a field, a segment and a key in bytes, in the order of their items
abbrev pub field_bytes : Line → List ℕ
field_bytes (line.Field k n) = spelling (2 ∷ 2 ∷ 1 ∷ 2 ∷ []) (kind_number k ∷ n ∷ 0 ∷ 0 ∷ [])
field_bytes l = []

abbrev pub seg_bytes_as : Option SegType → SegItem → List ℕ
seg_bytes_as None s = []
seg_bytes_as (Some t) s =
    spelling (1 ∷ 1 ∷ 1 ∷ 1 ∷ 1 ∷ 1 ∷ 2 ∷ 2 ∷ 4 ∷ 4 ∷ [])
    (seg_number t ∷ s.language % 256 ∷ s.null_bit ∷ 0 ∷ s.language / 256 ∷ 0 ∷ 0 ∷ s.length ∷ s.start ∷ s.null_pos ∷ [])

unfoldable pub seg_bytes : SegItem → List ℕ
seg_bytes s = seg_bytes_as s.seg s

unfoldable pub key_bytes : ℕ → Bool → List SegItem → List ℕ
key_bytes pointer unique segments =
    let most = key_most segments in
    spelling (1 ∷ 1 ∷ 2 ∷ 2 ∷ 2 ∷ 2 ∷ 2 ∷ [])
    (stored 1 (length segments) ∷ 0 ∷ (if unique then 1 else 0) ∷ stored 2 (page_length pointer most) ∷ stored 2 most ∷ stored 2 most ∷ stored 2 most ∷ [])

abbrev pub keys_bytes : ℕ → List Line → List ℕ
keys_bytes pointer [] = []
keys_bytes pointer (line.Key u ∷ ls) = key_bytes pointer u (leading ls) ++ keys_bytes pointer ls
keys_bytes pointer (line.Seg s ∷ ls) = seg_bytes s ++ keys_bytes pointer ls
keys_bytes pointer (l ∷ ls) = keys_bytes pointer ls

-- the numbers of keys, segments and fields, the greatest page length in units of 1024 bytes, and the lengths
-- and places that follow
abbrev pub keys_said : List Line → ℕ
keys_said ls = count_by is_key ls

abbrev pub parts_said : List Line → ℕ
parts_said ls = count_by is_segment ls

abbrev pub fields_said : List Line → ℕ
fields_said ls = count_by is_field ls

abbrev pub page_sizes : List Line → ℕ
page_sizes ls = stored 1 (longest_page (pointer_said ls) ls / 1024)

abbrev pub base_said : List Line → ℕ
base_said ls = base_place (keys_said ls) (page_sizes ls) (parts_said ls)

abbrev pub length_said : List Line → ℕ
length_said ls = base_said ls + 100 + 12 * keys_said ls + 18 * parts_said ls + 7 * fields_said ls

abbrev pub row_said : List Line → ℕ
row_said ls = sum_by field_length ls

abbrev pub slot_as : RowFormat → ℕ → ℕ → ℕ
slot_as Static row pointer = max row (pointer + 1)
slot_as Dynamic row pointer = row

abbrev pub options_as : RowFormat → ℕ
options_as Static = 0
options_as Dynamic = 1

unfoldable pub front_said : List Line → Front
front_said ls = record {
  magic = 0xFEFE0701;
  options = options_as (format_said ls);
  header_length = stored 2 (length_said ls);
  state_info_length = 176;
  base_info_length = 100;
  base_pos = stored 2 (base_said ls);
  key_parts = stored 2 (parts_said ls);
  keys = stored 1 (keys_said ls);
  uniques = 0;
  page_sizes = page_sizes ls;
  fulltext_keys = 0;
}

-- the first 24 bytes in their order; the language of the table is 8
unfoldable pub front_spelling : Front → List ℕ
front_spelling f =
    spelling (4 ∷ 2 ∷ 2 ∷ 2 ∷ 2 ∷ 2 ∷ 2 ∷ 2 ∷ 1 ∷ 1 ∷ 1 ∷ 1 ∷ 1 ∷ 1 ∷ [])
    (f.magic ∷ f.options ∷ f.header_length ∷ f.state_info_length ∷ f.base_info_length ∷ f.base_pos ∷ f.key_parts ∷ 0 ∷ f.keys ∷ f.uniques ∷ 8 ∷ f.page_sizes ∷ f.fulltext_keys ∷ 0 ∷ [])

-- the base section without its last six bytes, in its order
unfoldable pub base_spelling : List Line → ℕ → List ℕ
base_spelling ls end =
    spelling (8 ∷ 8 ∷ 8 ∷ 8 ∷ 8 ∷ 4 ∷ 4 ∷ 4 ∷ 4 ∷ 4 ∷ 4 ∷ 4 ∷ 4 ∷ 1 ∷ 1 ∷ 1 ∷ 1 ∷ 2 ∷ 2 ∷ 2 ∷ 2 ∷ 2 ∷ 1 ∷ 1 ∷ 2 ∷ 4 ∷ [])
    (end ∷ 0 ∷ 0 ∷ 0 ∷ 0  -- keystart to reloc
    ∷ 0 ∷ row_said ls ∷ slot_as (format_said ls) (row_said ls) (pointer_said ls)  -- mean_row_length, reclength, pack_reclength
    ∷ 0 ∷ 0 ∷ 0 ∷ fields_said ls ∷ 0  -- min_pack_length to pack_fields
    ∷ pointer_said ls ∷ 6 ∷ stored 1 (keys_said ls) ∷ 0  -- rec_reflength, key_reflength, keys, auto_key
    ∷ (count_by has_flag ls + 7) / 8 ∷ 0 ∷ 0 ∷ 0 ∷ 0  -- pack_bits to extra_alloc_bytes
    ∷ 0 ∷ 0 ∷ 0 ∷ 0 ∷ [])  -- extra_alloc_procent to raid_chunksize

unfoldable pub text_header : List Line → List ℕ
text_header ls =
    let f = front_said ls in
    let end = first_page (length_said ls) in
    front_spelling f ++ (empty_state f end ++ (base_spelling ls end ++ (mark ++ (keys_bytes (pointer_said ls) ls ++ (flat_map field_bytes ls ++ zeros (end - length_said ls))))))
