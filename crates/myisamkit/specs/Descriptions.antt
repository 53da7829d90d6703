-- The lines that describe a table (the texts are this project's own; the words for types are those of creating texts).
use Rattle.std.specs.Prelude.{◌+◌, ℕ, Bool, true, false, List, [], ◌∷◌, ◌++◌, length, codes, decimal}
use Rattle.std.specs.List.{flat_map}
use Rattle.myi_defs.specs.declared.types.RowFormat.{RowFormat}
use Rattle.myi_defs.specs.declared.types.RowFormat.TheVariants.{Static, Dynamic}
use Rattle.myi_defs.specs.declared.types.SegType.{SegType}
use Rattle.myi_defs.specs.declared.types.SegType.TheVariants as seg
use Rattle.myi_defs.specs.declared.types.Segment.{Segment}
use Rattle.myi_defs.specs.declared.types.Key.{Key}
use Rattle.myi_defs.specs.declared.types.Defs.{Defs}

abbrev pub type_word : SegType → List ℕ
type_word seg.Text = codes "text"
type_word seg.Binary = codes "binary"
type_word seg.ShortInt = codes "short_int"
type_word seg.LongInt = codes "long_int"
type_word seg.UshortInt = codes "ushort_int"
type_word seg.UlongInt = codes "ulong_int"
type_word seg.Longlong = codes "longlong"
type_word seg.Ulonglong = codes "ulonglong"
type_word seg.Int24 = codes "int24"
type_word seg.Uint24 = codes "uint24"
type_word seg.Int8 = codes "int8"
type_word seg.VarText = codes "vartext"
type_word seg.VarBinary = codes "varbinary"

abbrev pub format_word : RowFormat → List ℕ
format_word Static = codes "static"
format_word Dynamic = codes "dynamic"

abbrev pub unique_word : Bool → List ℕ
unique_word true = codes "unique"
unique_word false = codes "plain"

-- a segment: its type, its place in the unpacked row and its length
abbrev pub segment_text : Segment → List ℕ
segment_text s = codes ", " ++ (type_word s.seg ++ (codes " at " ++ (decimal s.start ++ (codes " length " ++ decimal s.length))))

-- a key of this number
abbrev pub key_line : List ℕ → ℕ → Key → List ℕ
key_line name number k =
    name ++ (codes ": key " ++ (decimal number ++ (codes " " ++ (unique_word k.unique ++ (flat_map segment_text k.segments ++ codes "\n")))))

-- keys, numbered from here on
abbrev pub key_lines : List ℕ → ℕ → List Key → List ℕ
key_lines name number [] = []
key_lines name number (k ∷ keys) = key_line name number k ++ key_lines name (number + 1) keys

-- the rows of a table: their format, how many fields they have and how long they are unpacked
abbrev pub rows_line : List ℕ → Defs → List ℕ
rows_line name defs =
    name ++ (codes ": " ++ (format_word defs.format ++ (codes ", " ++ (decimal (length defs.fields) ++ (codes " fields, " ++ (decimal (length defs.keys) ++ (codes " keys, row " ++ (decimal defs.row_length ++ codes " bytes\n"))))))))

abbrev pub description : List ℕ → Defs → List ℕ
description name defs = rows_line name defs ++ key_lines name 1 defs.keys
