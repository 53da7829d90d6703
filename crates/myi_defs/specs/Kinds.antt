-- Words on the kinds of fields and the types of key segments (MySQL Internals Manual, "The .MYI file", on the
-- sections of keys and fields).
use Rattle.std.specs.Prelude.{ℕ, ◌+◌, Bool, true, false, not, ◌&&◌, ◌||◌, ◌==◌, nat_lt, nat_le, if◌then◌else◌, Option, Some, None}
use Rattle.myi_defs.specs.declared.types.FieldKind.{FieldKind}
use Rattle.myi_defs.specs.declared.types.FieldKind.TheVariants.{Normal, SkipEndspace, SkipPrespace, SkipZero, Blob, Varchar}
use Rattle.myi_defs.specs.declared.types.SegType.{SegType}
use Rattle.myi_defs.specs.declared.types.SegType.TheVariants.{Text, ShortInt, LongInt, UshortInt, UlongInt, Longlong, Ulonglong, Int24, Uint24, Int8, VarText, VarBinary}

-- a field of which each row has all bytes
abbrev pub is_fixed : FieldKind → Bool
is_fixed Normal = true
is_fixed SkipEndspace = true
is_fixed SkipPrespace = true
is_fixed SkipZero = true
is_fixed Blob = false
is_fixed Varchar = false

-- a field with a bit of its own in a packed row
abbrev pub has_flag : FieldKind → Bool
has_flag Normal = false
has_flag SkipEndspace = true
has_flag SkipPrespace = true
has_flag SkipZero = true
has_flag Blob = true
has_flag Varchar = false

-- a segment of a field whose content has a length of its own
abbrev pub is_variable : SegType → Bool
is_variable VarText = true
is_variable VarBinary = true
is_variable seg = false

-- a segment that a collation orders
abbrev pub is_text : SegType → Bool
is_text Text = true
is_text VarText = true
is_text seg = false

-- the collations that are taken: latin1_swedish_ci, ascii_general_ci, utf8mb4_bin, latin1_bin, binary,
-- ascii_bin and utf8mb3_bin
abbrev pub is_collation : ℕ → Bool
is_collation n = (n == 8) || (n == 11) || (n == 46) || (n == 47) || (n == 63) || (n == 65) || (n == 83)

-- how many bytes an integer segment has
abbrev pub int_size : SegType → Option ℕ
int_size ShortInt = Some 2
int_size LongInt = Some 4
int_size UshortInt = Some 2
int_size UlongInt = Some 4
int_size Longlong = Some 8
int_size Ulonglong = Some 8
int_size Int24 = Some 3
int_size Uint24 = Some 3
int_size Int8 = Some 1
int_size seg = None

-- how many bytes a segment takes at most in a key: its own and its length in one byte or three
abbrev pub seg_cost : ℕ → ℕ
seg_cost length = if nat_lt length 254 then length + 1 else length + 3

-- a segment's bytes from `start` on lie in a field of that kind and size at `at`; a variable one begins with it
abbrev pub lies_in : SegType → ℕ → ℕ → FieldKind → ℕ → ℕ → Bool
lies_in seg start length kind at size =
    if is_variable seg then not (is_fixed kind) && (at == start)
    else is_fixed kind && nat_le at start && nat_le (start + length) (at + size)

-- the byte at a place lies in a field of fixed bytes that are stored as they are
abbrev pub is_plain_at : ℕ → FieldKind → ℕ → ℕ → Bool
is_plain_at place Normal at size = nat_le at place && nat_lt place (at + size)
is_plain_at place kind at size = false
