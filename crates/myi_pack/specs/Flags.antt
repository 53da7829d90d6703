-- The flag bytes before the fields of a dynamic row: one bit for each field that may be left out or cut
-- short, in the order of the fields, the lowest bit of the first byte first (MySQL Internals Manual,
-- "MyISAM Dynamic Data File Layout").
use Rattle.std.specs.Prelude.{◌+◌, ◌*◌, ◌/◌, ◌%◌, ◌^◌, ◌==◌, ℕ, zero, suc, Bool, if◌then◌else◌, List, [], ◌∷◌, take, drop, slice_index, slice_set, bit_or, count_by}
use Rattle.myi_defs.specs.declared.types.FieldKind.{FieldKind}
use Rattle.myi_defs.specs.declared.types.Field.{Field}
use Rattle.myi_defs.specs.Kinds.{has_flag}

-- how many fields have a flag
abbrev pub flag_count : List Field → ℕ
flag_count fs = count_by (λ f. has_flag f.kind) fs

-- how many bytes so many flags take
abbrev pub flag_bytes : ℕ → ℕ
flag_bytes count = (count + 7) / 8

-- flag k is set
unfoldable pub flag_at : List ℕ → ℕ → Bool
flag_at flags k = slice_index flags (k / 8) / 2 ^ (k % 8) % 2 == 1

-- the number of the next field's flag, where flag k is this field's if it has one
abbrev pub next_flag : FieldKind → ℕ → ℕ
next_flag kind k = if has_flag kind then k + 1 else k

-- the byte whose bits these are, the lowest first
abbrev pub byte_of : List Bool → ℕ
byte_of [] = 0
byte_of (b ∷ bs) = (if b then 1 else 0) + 2 * byte_of bs

-- these bits in n bytes, and spare bits 0
abbrev pub packed_bits : ℕ → List Bool → List ℕ
packed_bits zero bs = []
packed_bits (suc n) bs = byte_of (take 8 bs) ∷ packed_bits n (drop 8 bs)

-- flag k is set where the bit is, and is as before elsewhere
abbrev pub with_flag : List ℕ → ℕ → Bool → List ℕ
with_flag flags k bit = if bit then slice_set flags (k / 8) (bit_or (slice_index flags (k / 8)) (2 ^ (k % 8))) else flags

-- the same for these bits, from flag k on
abbrev pub with_flags : List ℕ → ℕ → List Bool → List ℕ
with_flags flags k [] = flags
with_flags flags k (b ∷ bs) = with_flags (with_flag flags k b) (k + 1) bs
