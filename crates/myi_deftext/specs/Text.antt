-- The creating text, this project's own: lines of words that say which table is to be made. First `rows static`
-- or `rows dynamic`, then `pointer N` or nothing, then one `field KIND LENGTH` or more, then keys, each
-- `key unique` or `key plain` followed by one
-- `seg TYPE START LENGTH COLLATION NULLBIT NULLPOS` or more.
use Rattle.std.specs.Prelude.{ℕ, ◌+◌, ◌-◌, ◌*◌, Bool, true, false, not, ◌&&◌, ◌||◌, ◌==◌, nat_lt, nat_le, if◌then◌else◌, List, [], ◌∷◌, length, take, fold, slice_index, filter_map, Option, Some, None, option_map, option_and_then, codes, bytes_eq}
use Rattle.std.specs.List.{list_all, slice_split}
use Rattle.myi_defs.specs.declared.types.RowFormat.{RowFormat}
use Rattle.myi_defs.specs.declared.types.RowFormat.TheVariants.{Static, Dynamic}
use Rattle.myi_defs.specs.declared.types.FieldKind.{FieldKind}
use Rattle.myi_defs.specs.declared.types.FieldKind.TheVariants.{Normal, SkipEndspace, SkipPrespace, SkipZero, Blob, Varchar}
use Rattle.myi_defs.specs.declared.types.SegType.{SegType}
use Rattle.myi_defs.specs.declared.types.SegType.TheVariants as seg
use Rattle.myi_deftext.specs.declared.text.Line.{Line}
use Rattle.myi_deftext.specs.declared.text.Line.TheVariants as line
use Rattle.myi_defs.specs.Layout.{most_fields, most_keys, most_segments}
use Rattle.myi_deftext.specs.declared.text.LineKind.{LineKind}
use Rattle.myi_deftext.specs.declared.text.LineKind.TheVariants as kind
use Rattle.myi_deftext.specs.declared.text.Stage.{Stage}

-- a text without the line feed at its end, which may be left out
abbrev pub without_end : List ℕ → List ℕ
without_end text = if nat_lt 0 (length text) && (slice_index text (length text - 1) == 10) then take (length text - 1) text else text

-- the lines, and the words of a line, between which one space stands
abbrev pub lines : List ℕ → List (List ℕ)
lines text = slice_split (λ b. b == 10) (without_end text)

abbrev pub words : List ℕ → List (List ℕ)
words line = slice_split (λ b. b == 32) line

-- decimal digits, without a sign or a leading zero
abbrev pub is_digit : ℕ → Bool
is_digit b = nat_le 48 b && nat_le b 57

unfoldable pub is_decimal : List ℕ → Bool
is_decimal word = list_all is_digit word && (length word == 1 || nat_lt 1 (length word) && not (slice_index word 0 == 48))

unfoldable pub value : List ℕ → ℕ
value word = fold (λ n b. n * 10 + (b - 48)) 0 word

-- the number that a word says, from a least one to a greatest
unfoldable pub number : ℕ → ℕ → List ℕ → Option ℕ
number least most word = if is_decimal word && nat_le least (value word) && nat_le (value word) most then Some (value word) else None

-- the words for things
unfoldable pub format_of : List ℕ → Option RowFormat
format_of w =
    if bytes_eq w (codes "static") then Some Static
    else if bytes_eq w (codes "dynamic") then Some Dynamic
    else None

unfoldable pub unique_of : List ℕ → Option Bool
unique_of w =
    if bytes_eq w (codes "unique") then Some true
    else if bytes_eq w (codes "plain") then Some false
    else None

unfoldable pub kind_of : List ℕ → Option FieldKind
kind_of w =
    if bytes_eq w (codes "normal") then Some Normal
    else if bytes_eq w (codes "skip_endspace") then Some SkipEndspace
    else if bytes_eq w (codes "skip_prespace") then Some SkipPrespace
    else if bytes_eq w (codes "skip_zero") then Some SkipZero
    else if bytes_eq w (codes "varchar") then Some Varchar
    else if bytes_eq w (codes "blob") then Some Blob
    else None

unfoldable pub signed_of : List ℕ → Option SegType
signed_of w =
    if bytes_eq w (codes "short_int") then Some seg.ShortInt
    else if bytes_eq w (codes "long_int") then Some seg.LongInt
    else if bytes_eq w (codes "longlong") then Some seg.Longlong
    else if bytes_eq w (codes "int24") then Some seg.Int24
    else if bytes_eq w (codes "int8") then Some seg.Int8
    else None

unfoldable pub unsigned_of : List ℕ → Option SegType
unsigned_of w =
    if bytes_eq w (codes "ushort_int") then Some seg.UshortInt
    else if bytes_eq w (codes "ulong_int") then Some seg.UlongInt
    else if bytes_eq w (codes "ulonglong") then Some seg.Ulonglong
    else if bytes_eq w (codes "uint24") then Some seg.Uint24
    else None

-- the first of two that is there
abbrev pub first_of : Option SegType → Option SegType → Option SegType
first_of (Some t) other = Some t
first_of None other = other

unfoldable pub seg_of : List ℕ → Option SegType
seg_of w =
    if bytes_eq w (codes "text") then Some seg.Text
    else if bytes_eq w (codes "binary") then Some seg.Binary
    else if bytes_eq w (codes "vartext") then Some seg.VarText
    else if bytes_eq w (codes "varbinary") then Some seg.VarBinary
    else first_of (signed_of w) (unsigned_of w)

-- what a line says; each number fits its stored bytes
unfoldable pub field_line : List ℕ → List ℕ → Option Line
field_line kind length = option_and_then (λ k. option_map (λ n. line.Field k n) (number 0 65535 length)) (kind_of kind)

abbrev pub seg_parts : Option SegType → Option ℕ → Option ℕ → Option ℕ → Option ℕ → Option ℕ → Option Line
seg_parts (Some t) (Some s) (Some n) (Some c) (Some b) (Some p) = Some (line.Seg (record { seg = Some t; language = c; null_bit = b; length = n; start = s; null_pos = p }))
seg_parts t s n c b p = None

unfoldable pub seg_line : List ℕ → List ℕ → List ℕ → List ℕ → List ℕ → List ℕ → Option Line
seg_line type start length collation null_bit null_pos =
    seg_parts (seg_of type) (number 0 4294967295 start) (number 0 65535 length) (number 0 65535 collation) (number 0 255 null_bit) (number 0 4294967295 null_pos)

unfoldable pub two_words : List ℕ → List ℕ → Option Line
two_words a b =
    if bytes_eq a (codes "rows") then option_map (λ r. line.Rows r) (format_of b)
    else if bytes_eq a (codes "pointer") then option_map (λ n. line.Pointer n) (number 2 8 b)
    else if bytes_eq a (codes "key") then option_map (λ u. line.Key u) (unique_of b)
    else None

unfoldable pub line_of : List (List ℕ) → Option Line
line_of (a ∷ b ∷ []) = two_words a b
line_of (a ∷ b ∷ c ∷ []) = if bytes_eq a (codes "field") then field_line b c else None
line_of (a ∷ b ∷ c ∷ d ∷ e ∷ f ∷ g ∷ []) = if bytes_eq a (codes "seg") then seg_line b c d e f g else None
line_of ws = None

-- which line may follow, within the limits of fields, keys and segments of a key
abbrev pub start : Stage
start = record { last = kind.Start; fields = 0; keys = 0; segments = 0 }

abbrev pub is_start : LineKind → Bool
is_start kind.Start = true
is_start p = false

abbrev pub is_rows : LineKind → Bool
is_rows kind.Rows = true
is_rows p = false

abbrev pub is_fields : LineKind → Bool
is_fields kind.Fields = true
is_fields p = false

abbrev pub is_pointer : LineKind → Bool
is_pointer kind.Pointer = true
is_pointer p = false

abbrev pub is_key : LineKind → Bool
is_key kind.Key = true
is_key p = false

abbrev pub is_segments : LineKind → Bool
is_segments kind.Segments = true
is_segments p = false

abbrev pub next_field : Stage → Option Stage
next_field s =
    if (is_rows s.last || is_pointer s.last || is_fields s.last) && nat_lt s.fields most_fields
    then Some (record s { last = kind.Fields; fields = s.fields + 1 })
    else None

abbrev pub next_key : Stage → Option Stage
next_key s =
    if (is_fields s.last || is_segments s.last) && nat_lt s.keys most_keys
    then Some (record s { last = kind.Key; keys = s.keys + 1; segments = 0 })
    else None

abbrev pub next_segment : Stage → Option Stage
next_segment s =
    if (is_key s.last || is_segments s.last) && nat_lt s.segments most_segments
    then Some (record s { last = kind.Segments; segments = s.segments + 1 })
    else None

abbrev pub next : Stage → Line → Option Stage
next s (line.Rows r) = if is_start s.last then Some (record s { last = kind.Rows }) else None
next s (line.Pointer n) = if is_rows s.last then Some (record s { last = kind.Pointer }) else None
next s (line.Field k n) = next_field s
next s (line.Key u) = next_key s
next s (line.Seg g) = next_segment s

-- a text may end with a field or a segment
abbrev pub may_end : LineKind → Bool
may_end p = is_fields p || is_segments p

unfoldable pub step : Stage → List ℕ → Option Stage
step s l = option_and_then (next s) (line_of (words l))

-- the number of the first line that is outside, after n lines
abbrev pub outside : Option Stage → ℕ → List (List ℕ) → Option ℕ
outside None n ls = Some n
outside (Some s) n [] = if may_end s.last then None else Some (n + 1)
outside (Some s) n (l ∷ ls) = outside (step s l) (n + 1) ls

-- what the lines say
abbrev pub said : List (List ℕ) → List Line
said ls = filter_map (λ l. line_of (words l)) ls
