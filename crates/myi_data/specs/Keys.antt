-- The key of a row (MySQL Internals Manual, "The .MYI file", on key segments: a segment is a part of a field, and where
-- a bit of the null bits is set in the row there is no value).
use Rattle.std.specs.Prelude.{◌≡◌, ◌+◌, ◌-◌, ◌==◌, ◌<◌, ◌≤◌, ℕ, zero, suc, Bool, true, false, not, ◌&&◌, if◌then◌else◌, List, [], ◌∷◌, length, map, take, drop, slice_index, slice_index_or, slice_get, bit_and, HoldsAt, Option, None}
use Rattle.std.specs.Option.{option_map_or}
use Rattle.myi_defs.specs.declared.types.RowFormat.{RowFormat}
use Rattle.myi_defs.specs.declared.types.Field.{Field}
use Rattle.myi_defs.specs.declared.types.Segment.{Segment}
use Rattle.myi_defs.specs.declared.types.Key.{Key}
use Rattle.myi_defs.specs.declared.types.Defs.{Defs}
use Rattle.myi_defs.specs.Kinds.{is_variable, is_plain_at}
use Rattle.myi_pack.specs.Packed.{Values}
use Rattle.myi_pack.specs.Spelling.{fits_fields}
use Rattle.myi_keys.specs.declared.values.KeySeg.{KeySeg}
use Rattle.myi_keys.specs.declared.values.KeySeg.TheVariants.{Absent, Weights}
use Rattle.myi_keys.specs.Weights.{weights}

-- one value for each field, of its form in one of the formats
abbrev pub AreValues : List Field → Values → Type 0
AreValues fs row = (format : RowFormat) × (fits_fields format fs row ≡ true)

-- the byte at a place of the unpacked row, which lies in a field that is stored as it is
abbrev pub byte_at : List Field → Values → ℕ → ℕ
byte_at [] row place = 0
byte_at (f ∷ fs) [] place = 0
byte_at (f ∷ fs) (v ∷ row) place = if is_plain_at place f.kind f.start f.length then slice_index v (place - f.start) else byte_at fs row place

-- a field that is stored as it is has the place
abbrev pub IsPlainPlace : List Field → ℕ → Type 0
IsPlainPlace fs place = (k : ℕ) × (k < length fs) × HoldsAt (λ f. is_plain_at place f.kind f.start f.length ≡ true) fs k

-- the row has no value in the segment: the byte at null_pos has a bit of null_bit
abbrev pub is_absent : List Field → Values → Segment → Bool
is_absent fs row s = not (s.null_bit == 0) && not (bit_and (byte_at fs row s.null_pos) s.null_bit == 0)

-- what of a field's value is the segment's: all content of a variable one, and else its bytes in the unpacked row
abbrev pub part_of : Segment → ℕ → List ℕ → List ℕ
part_of s start v = if is_variable s.seg then v else take s.length (drop (s.start - start) v)

-- a segment that is not variable lies in a value of so many bytes, of a field that starts at a place
abbrev pub LiesIn : Segment → ℕ → ℕ → Type 0
LiesIn s start size = is_variable s.seg ≡ false → (start ≤ s.start) × (s.start - start + s.length ≤ size)

-- where a field starts in the unpacked row
abbrev pub start_of : List Field → ℕ → ℕ
start_of fs i = option_map_or (λ f. f.start) (slice_get fs i) 0

-- the segment's content in the row
abbrev pub content : List Field → Values → Segment → List ℕ
content fs row s = part_of s (start_of fs s.field) (slice_index_or row s.field [])

-- the segment of the key: absent, or the weights of its content
abbrev pub seg_of : List Field → Values → Segment → KeySeg
seg_of fs row s = if is_absent fs row s then Absent else Weights (weights s (content fs row s))

-- a key of the table has this number; keys are numbered from 1
abbrev pub IsKeyNumber : Defs → ℕ → Type 0
IsKeyNumber d k = (0 < k) × (k ≤ length d.keys)

-- the key of a number
abbrev pub key_at : List Key → ℕ → Option Key
key_at keys zero = None
key_at keys (suc i) = slice_get keys i

-- the segments of the key of a number
abbrev pub segments_of : List Key → ℕ → List Segment
segments_of keys k = option_map_or (λ key. key.segments) (key_at keys k) []

-- the key of that number of a row
unfoldable pub key_of : Defs → ℕ → Values → List KeySeg
key_of d k row = map (seg_of d.fields row) (segments_of d.keys k)

-- where field k has the byte at null_pos, the segment has no value exactly where that byte has a bit of null_bit
abbrev pub TellsNull : Defs → Values → Segment → ℕ → Field → Type 0
TellsNull d row s k f =
    is_plain_at s.null_pos f.kind f.start f.length ≡ true
    → seg_of d.fields row s ≡ (if bit_and (slice_index (slice_index_or row k []) (s.null_pos - f.start)) s.null_bit == 0 then Weights (weights s (content d.fields row s)) else Absent)
