-- The one spelling that a writer gives a row: a flag is set exactly where that makes the row shorter, each
-- length is the shortest, and what a static row does not need is zeros. And which rows have one. (A server
-- writes rows so: MySQL Internals Manual, "MyISAM Dynamic Data File Layout"; the words are this project's own.)
use Rattle.std.specs.Prelude.{◌+◌, ◌-◌, ◌/◌, ◌%◌, ◌^◌, ℕ, Bool, true, false, not, ◌&&◌, ◌||◌, ◌==◌, nat_le, nat_lt, if◌then◌else◌, List, [], ◌∷◌, ◌++◌, length, replicate, slice_index, Option, Some, None}
use Rattle.std.specs.List.{list_all}
use Rattle.myi_base.specs.Numbers.{num_bytes, low_num_bytes}
use Rattle.myi_base.specs.Blanks.{without_blanks}
use Rattle.myi_defs.specs.declared.types.RowFormat.{RowFormat}
use Rattle.myi_defs.specs.declared.types.RowFormat.TheVariants.{Static, Dynamic}
use Rattle.myi_defs.specs.declared.types.FieldKind.{FieldKind}
use Rattle.myi_defs.specs.declared.types.FieldKind.TheVariants.{Normal, SkipEndspace, SkipPrespace, SkipZero, Blob, Varchar}
use Rattle.myi_defs.specs.declared.types.Field.{Field}
use Rattle.myi_defs.specs.declared.types.Defs.{Defs}
use Rattle.myi_defs.specs.Kinds.{has_flag}
use Rattle.myi_pack.specs.Lengths.{length_bytes}
use Rattle.myi_pack.specs.Flags.{flag_count, flag_bytes, packed_bits}
use Rattle.myi_pack.specs.Packed.{Values}

abbrev pub is_all : ℕ → List ℕ → Bool
is_all byte v = list_all (λ b. b == byte) v

-- without its leading spaces
abbrev pub trimmed_start : List ℕ → List ℕ
trimmed_start [] = []
trimmed_start (x ∷ xs) = if x == 32 then trimmed_start xs else x ∷ xs

-- the shortest length of k bytes of content in a SKIP_ENDSPACE or SKIP_PRESPACE field of n bytes
abbrev pub skip_length : ℕ → ℕ → List ℕ
skip_length n k = if nat_le n 255 || nat_lt k 128 then k ∷ [] else (k % 128 + 128) ∷ (k / 128) ∷ []

-- that length has a form, and the content and its length are shorter than the field
abbrev pub is_shorter : ℕ → ℕ → Bool
is_shorter n k = (nat_le n 255 || nat_lt k 32768) && nat_lt (length (skip_length n k) + k) n

-- the value v of such a field, which is c without its spaces
abbrev pub skipped_bytes : ℕ → List ℕ → List ℕ → List ℕ
skipped_bytes n c v = if is_shorter n (length c) then skip_length n (length c) ++ c else v

-- the shortest length of k bytes of content in a VARCHAR field of n bytes
abbrev pub varchar_length : ℕ → ℕ → List ℕ
varchar_length n k = if nat_le n 256 || nat_lt k 255 then k ∷ [] else 255 ∷ num_bytes 2 k

-- the flag of a field in a dynamic row is set
abbrev pub field_flag : FieldKind → ℕ → List ℕ → Bool
field_flag Normal n v = false
field_flag SkipEndspace n v = is_shorter n (length (without_blanks v))
field_flag SkipPrespace n v = is_shorter n (length (trimmed_start v))
field_flag SkipZero n v = is_all 0 v
field_flag Blob n v = length v == 0
field_flag Varchar n v = false

-- the bytes of a field in a dynamic row
abbrev pub field_bytes : FieldKind → ℕ → List ℕ → List ℕ
field_bytes Normal n v = v
field_bytes SkipEndspace n v = skipped_bytes n (without_blanks v) v
field_bytes SkipPrespace n v = skipped_bytes n (trimmed_start v) v
field_bytes SkipZero n v = if is_all 0 v then [] else v
field_bytes Blob n v = if length v == 0 then [] else low_num_bytes (n - 8) (length v) ++ v
field_bytes Varchar n v = varchar_length n (length v) ++ v

-- the bytes of a field in a static row
abbrev pub slot_bytes : FieldKind → ℕ → List ℕ → List ℕ
slot_bytes Normal n v = v
slot_bytes SkipEndspace n v = v
slot_bytes SkipPrespace n v = v
slot_bytes SkipZero n v = v
slot_bytes Blob n v = []
slot_bytes Varchar n v = low_num_bytes (length_bytes n) (length v) ++ (v ++ replicate (n - (length_bytes n + length v)) 0)

abbrev pub spelled_field : RowFormat → FieldKind → ℕ → List ℕ → List ℕ
spelled_field Static kind n v = slot_bytes kind n v
spelled_field Dynamic kind n v = field_bytes kind n v

abbrev pub spelled_fields : RowFormat → List Field → Values → List ℕ
spelled_fields format [] vs = []
spelled_fields format (f ∷ fs) [] = []
spelled_fields format (f ∷ fs) (v ∷ vs) = spelled_field format f.kind f.length v ++ spelled_fields format fs vs

-- the flags of those fields that have one
abbrev pub flags_of : List Field → Values → List Bool
flags_of [] vs = []
flags_of (f ∷ fs) [] = []
flags_of (f ∷ fs) (v ∷ vs) = if has_flag f.kind then field_flag f.kind f.length v ∷ flags_of fs vs else flags_of fs vs

-- these bytes and zeros up to n bytes
abbrev pub filled : ℕ → List ℕ → List ℕ
filled n x = x ++ replicate (n - length x) 0

abbrev pub spelled_row : RowFormat → Defs → Values → List ℕ
spelled_row Static d row = filled d.slot_length (spelled_fields Static d.fields row)
spelled_row Dynamic d row = packed_bits (flag_bytes (flag_count d.fields)) (flags_of d.fields row) ++ spelled_fields Dynamic d.fields row

unfoldable pub spelling : Defs → Values → List ℕ
spelling d row = spelled_row d.format d row

-- the value is of the form of a field
abbrev pub fits_field : RowFormat → FieldKind → ℕ → List ℕ → Bool
fits_field format Normal n v = length v == n
fits_field format SkipEndspace n v = length v == n
fits_field format SkipPrespace n v = length v == n
fits_field format SkipZero n v = length v == n
fits_field Static Blob n v = false
fits_field Dynamic Blob n v = nat_lt (length v) (256 ^ (n - 8))
fits_field format Varchar n v = nat_le (length v + length_bytes n) n && nat_lt (length v) 65536

-- there is one value for each field, of its form
abbrev pub fits_fields : RowFormat → List Field → Values → Bool
fits_fields format [] [] = true
fits_fields format [] (v ∷ vs) = false
fits_fields format (f ∷ fs) [] = false
fits_fields format (f ∷ fs) (v ∷ vs) = fits_field format f.kind f.length v && fits_fields format fs vs

-- how many bytes the spelling of a dynamic row has, and none where it is not of the form of its fields
abbrev pub packed_length : List Field → Values → Option ℕ
packed_length fs vs = if fits_fields Dynamic fs vs then Some (flag_bytes (flag_count fs) + length (spelled_fields Dynamic fs vs)) else None

-- a file can hold the spelling: a slot whose first byte is 0 is a deleted one, and the length of a packed row has at
-- most four bytes
abbrev pub can_stand : RowFormat → Defs → Values → Bool
can_stand Static d row = not (slice_index (spelling d row) 0 == 0)
can_stand Dynamic d row = nat_lt (length (spelling d row)) (2 ^ 32)

unfoldable pub fits : Defs → Values → Bool
fits d row = fits_fields d.format d.fields row && can_stand d.format d row
