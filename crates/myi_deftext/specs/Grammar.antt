-- The grammar of creating texts, this project's own, as a relation of the lines of a text and the table that they
-- describe. It says nothing of how a text is read.
use Rattle.std.specs.Prelude.{◌≡◌, ◌<◌, ◌≤◌, ◌+◌, ℕ, Bool, true, false, List, [], ◌∷◌, ◌++◌, length, map, take, Option, Some, None, codes}
use Rattle.std.specs.List.{AllByRecursion}
use Rattle.myi_defs.specs.declared.types.RowFormat.{RowFormat}
use Rattle.myi_defs.specs.declared.types.RowFormat.TheVariants.{Static, Dynamic}
use Rattle.myi_defs.specs.declared.types.FieldKind.{FieldKind}
use Rattle.myi_defs.specs.declared.types.FieldKind.TheVariants.{Normal, SkipEndspace, SkipPrespace, SkipZero, Blob, Varchar}
use Rattle.myi_defs.specs.declared.types.SegType.{SegType}
use Rattle.myi_defs.specs.declared.types.SegType.TheVariants as seg
use Rattle.myi_defs.specs.declared.header.SegItem.{SegItem}
use Rattle.myi_deftext.specs.declared.text.Line.{Line}
use Rattle.myi_deftext.specs.declared.text.Line.TheVariants as line
use Rattle.myi_defs.specs.Layout.{most_fields, most_keys, most_segments}
use Rattle.myi_deftext.specs.Text.{words, is_decimal, value}

-- the words for things
abbrev pub format_word : RowFormat → List ℕ
format_word Static = codes "static"
format_word Dynamic = codes "dynamic"

abbrev pub unique_word : Bool → List ℕ
unique_word true = codes "unique"
unique_word false = codes "plain"

abbrev pub kind_word : FieldKind → List ℕ
kind_word Normal = codes "normal"
kind_word SkipEndspace = codes "skip_endspace"
kind_word SkipPrespace = codes "skip_prespace"
kind_word SkipZero = codes "skip_zero"
kind_word Blob = codes "blob"
kind_word Varchar = codes "varchar"

abbrev pub type_word : SegType → List ℕ
type_word seg.Text = codes "text"
type_word seg.Binary = codes "binary"
type_word seg.ShortInt = codes "short_int"
type_word seg.LongInt = codes "long_int"
type_word seg.UshortInt = codes "ushort_int"
type_word seg.UlongInt = codes "ulong_int"
type_word seg.Longlong = codes "longlong"
type_word seg.Ulonglong = codes "ulonglong"
type_word seg.Int24 = codes "int24"
type_word seg.Uint24 = codes "uint24"
type_word seg.Int8 = codes "int8"
type_word seg.VarText = codes "vartext"
type_word seg.VarBinary = codes "varbinary"

-- a word is a number from a least one to a greatest, in decimal digits without a sign or a leading zero
pub record IsNumber (least most : ℕ) (word : List ℕ) (n : ℕ) : Type 0 where
  pub decimal : is_decimal word ≡ true
  pub value_is : value word ≡ n
  pub least_is : least ≤ n
  pub most_is : n ≤ most

-- a line is a segment: its type, its place in the unpacked row, its length, its collation, and where a row says that it
-- has no value there
pub record IsSegment (l : List ℕ) (s : SegItem) : Type 0 where
  pub seg : SegType
  pub start : List ℕ
  pub length : List ℕ
  pub collation : List ℕ
  pub null_bit : List ℕ
  pub null_pos : List ℕ
  pub words_are : words l ≡ codes "seg" ∷ type_word seg ∷ start ∷ length ∷ collation ∷ null_bit ∷ null_pos ∷ []
  pub seg_is : s.seg ≡ Some seg
  pub start_is : IsNumber 0 4294967295 start s.start
  pub length_is : IsNumber 0 65535 length s.length
  pub collation_is : IsNumber 0 65535 collation s.language
  pub null_bit_is : IsNumber 0 255 null_bit s.null_bit
  pub null_pos_is : IsNumber 0 4294967295 null_pos s.null_pos

-- what a line says, by its words, between which one space stands; each number fits its stored bytes
abbrev pub Says : List ℕ → Line → Type 0
Says l (line.Rows r) = words l ≡ codes "rows" ∷ format_word r ∷ []
Says l (line.Pointer n) = (w : List ℕ) × (words l ≡ codes "pointer" ∷ w ∷ []) × IsNumber 2 8 w n
Says l (line.Field k n) = (w : List ℕ) × (words l ≡ codes "field" ∷ kind_word k ∷ w ∷ []) × IsNumber 0 65535 w n
Says l (line.Key u) = words l ≡ codes "key" ∷ unique_word u ∷ []
Says l (line.Seg s) = IsSegment l s

-- lines say these things, one after the other
abbrev pub EachSays : List (List ℕ) → List Line → Type 0
EachSays [] [] = Unit {0}
EachSays [] (g ∷ gs) = ⊥
EachSays (l ∷ ls) [] = ⊥
EachSays (l ∷ ls) (g ∷ gs) = Says l g × EachSays ls gs

-- what a text describes: how the rows stand, how many bytes a pointer has where that is said, the fields and the keys
pub record FieldSaid : Type 0 where
  pub kind : FieldKind
  pub length : ℕ

pub record KeySaid : Type 0 where
  pub unique : Bool
  pub segments : List SegItem

pub record TableSaid : Type 0 where
  pub format : RowFormat
  pub pointer : Option ℕ
  pub fields : List FieldSaid
  pub keys : List KeySaid

-- what the lines of such a text say: first the rows and the pointer, then the fields, then the keys, each before its
-- segments
abbrev pub pointer_lines : Option ℕ → List Line
pointer_lines None = []
pointer_lines (Some n) = line.Pointer n ∷ []

abbrev pub field_lines : List FieldSaid → List Line
field_lines fs = map (λ f. line.Field f.kind f.length) fs

abbrev pub segment_lines : List SegItem → List Line
segment_lines ss = map (λ s. line.Seg s) ss

abbrev pub key_lines : List KeySaid → List Line
key_lines [] = []
key_lines (k ∷ ks) = line.Key k.unique ∷ (segment_lines k.segments ++ key_lines ks)

abbrev pub table_lines : TableSaid → List Line
table_lines t = line.Rows t.format ∷ (pointer_lines t.pointer ++ (field_lines t.fields ++ key_lines t.keys))

-- there is a field, each key has a segment, and there are not too many of them
pub record HasSegments (k : KeySaid) : Type 0 where
  pub some_segments : 0 < length k.segments
  pub few_segments : length k.segments ≤ most_segments

pub record IsInLimits (t : TableSaid) : Type 0 where
  pub some_fields : 0 < length t.fields
  pub few_fields : length t.fields ≤ most_fields
  pub few_keys : length t.keys ≤ most_keys
  pub segments : AllByRecursion HasSegments t.keys

-- these lines describe this table
pub record Describe (ls : List (List ℕ)) (t : TableSaid) : Type 0 where
  pub says : EachSays ls (table_lines t)
  pub limits : IsInLimits t

-- lines are in the grammar; lines can be gone on with so that they are
abbrev pub AreText : List (List ℕ) → Type 0
AreText ls = (t : TableSaid) × Describe ls t

abbrev pub AreBeginning : List (List ℕ) → Type 0
AreBeginning ls = (more : List (List ℕ)) × AreText (ls ++ more)

-- The first line outside the grammar: those before it can be gone on with, and with it they cannot. Where all lines can
-- be gone on with and are no whole text, it is the line after the last.
pub record IsFirstOutside (ls : List (List ℕ)) (n : ℕ) : Type 0 where
  pub before : ℕ
  pub number : n ≡ before + 1
  pub inside : before ≤ length ls
  pub begins : AreBeginning (take before ls)
  pub outside : n ≤ length ls → AreBeginning (take n ls) → ⊥
  pub early : before ≡ length ls → AreText ls → ⊥
