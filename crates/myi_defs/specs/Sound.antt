-- What the definitions of every table that is not refused keep. The crates above rest on these facts
-- alone; the law that joins them to the header stands with `read_defs`.
use Rattle.std.specs.Prelude.{◌≡◌, ◌≢◌, ◌≤◌, ◌<◌, ◌+◌, ◌*◌, ◌%◌, ℕ, true, false, List, [], ◌∷◌, length, All, HoldsAt, sum_by, Some}
use Rattle.myi_base.specs.Numbers.{num_at}
use Rattle.myi_defs.specs.declared.types.RowFormat.{RowFormat}
use Rattle.myi_defs.specs.declared.types.RowFormat.TheVariants.{Static, Dynamic}
use Rattle.myi_defs.specs.declared.types.FieldKind.{FieldKind}
use Rattle.myi_defs.specs.declared.types.FieldKind.TheVariants.{Normal, SkipEndspace, SkipPrespace, SkipZero, Blob, Varchar}
use Rattle.myi_defs.specs.declared.types.Field.{Field}
use Rattle.myi_defs.specs.declared.types.Segment.{Segment}
use Rattle.myi_defs.specs.declared.types.Key.{Key}
use Rattle.myi_defs.specs.declared.types.Defs.{Defs}
use Rattle.myi_defs.specs.Kinds.{int_size, is_text, is_collation, seg_cost, lies_in, is_plain_at}
use Rattle.myi_defs.specs.Layout.{most_fields, most_keys, most_segments, base_place}

-- the lengths that a field of a kind may have
abbrev pub IsLengthOf : RowFormat → FieldKind → ℕ → Type 0
IsLengthOf format Normal n = 0 < n
IsLengthOf format SkipEndspace n = 0 < n
IsLengthOf format SkipPrespace n = 0 < n
IsLengthOf format SkipZero n = 0 < n
IsLengthOf format Blob n = (format ≡ Dynamic) × (9 ≤ n) × (n ≤ 12)
IsLengthOf format Varchar n = (2 ≤ n) × (n ≢ 257)

-- each field starts where the fields before it end
abbrev pub StartFrom : ℕ → List Field → Type 0
StartFrom at [] = Unit {0}
StartFrom at (f ∷ fs) = (f.start ≡ at) × StartFrom (at + f.length) fs

-- the sum of the lengths of the fields
abbrev pub fields_length : List Field → ℕ
fields_length fs = sum_by (λ f. f.length) fs

-- a segment has the size and the collation of its type, and lies in the field that its number names, the first
-- that can hold it
pub record IsSoundSegment (fields : List Field) (s : Segment) : Type 0 where
  pub inside : s.field < length fields
  pub held : HoldsAt (λ f. lies_in s.seg s.start s.length f.kind f.start f.length ≡ true) fields s.field
  pub first : (k : ℕ) → k < s.field → HoldsAt (λ f. lies_in s.seg s.start s.length f.kind f.start f.length ≡ false) fields k
  pub size : (n : ℕ) → int_size s.seg ≡ Some n → s.length ≡ n
  pub collation : is_text s.seg ≡ true → is_collation s.language ≡ true
  pub null : s.null_bit ≢ 0 → (k : ℕ) × (k < length fields) × HoldsAt (λ f. is_plain_at s.null_pos f.kind f.start f.length ≡ true) fields k

-- how many bytes a key has at most: of each segment its own and its length in one byte or three
abbrev pub key_most : List Segment → ℕ
key_most segments = sum_by (λ s. seg_cost s.length) segments

-- a key has few segments and few bytes, and two of its entries fit into a page
pub record IsSoundKey (fields : List Field) (rec_ref : ℕ) (k : Key) : Type 0 where
  pub some_segments : 0 < length k.segments
  pub few_segments : length k.segments ≤ most_segments
  pub segments : All (IsSoundSegment fields) k.segments
  pub short : sum_by (λ s. s.length) k.segments ≤ 1000
  pub whole_block : k.block_length % 1024 ≡ 0
  pub some_block : 1024 ≤ k.block_length
  pub short_block : k.block_length ≤ 16384
  pub room : 2 * (key_most k.segments + 13 + rec_ref) + 9 ≤ k.block_length

pub record IsSound (d : Defs) : Type 0 where
  pub some_fields : 0 < length d.fields
  pub few_fields : length d.fields ≤ most_fields
  pub lengths : All (λ f. IsLengthOf d.format f.kind f.length) d.fields
  pub starts : StartFrom 0 d.fields
  pub total : fields_length d.fields ≤ d.row_length
  pub some_row : 0 < d.row_length
  pub short_row : d.row_length ≤ 1048576
  pub long_slot : d.format ≡ Static → d.row_length ≤ d.slot_length
  pub short_slot : d.format ≡ Static → d.slot_length ≤ 1048576
  pub slot_pointer : d.format ≡ Static → d.rec_ref + 1 ≤ d.slot_length
  pub rec_ref_least : 2 ≤ d.rec_ref
  pub rec_ref_most : d.rec_ref ≤ 8
  pub key_ref_least : 1 ≤ d.key_ref
  pub key_ref_most : d.key_ref ≤ 8
  pub few_keys : length d.keys ≤ most_keys
  pub keys_sound : All (IsSoundKey d.fields d.rec_ref) d.keys
  pub key_parts : sum_by (λ k. length k.segments) d.keys ≤ num_at 14 2 d.raw
  pub header : length d.raw ≡ num_at 6 2 d.raw
  pub keys : num_at 18 1 d.raw ≡ length d.keys
  pub base : num_at 12 2 d.raw ≡ base_place (length d.keys) (num_at 21 1 d.raw) (num_at 14 2 d.raw)
  pub base_inside : num_at 12 2 d.raw + 100 ≤ length d.raw
