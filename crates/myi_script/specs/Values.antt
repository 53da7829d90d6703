-- Values in scripts, this project's own: which contents a field or a key segment can have, and how they are written.
use Rattle.std.specs.Prelude.{◌≡◌, ℕ, ◌+◌, ◌-◌, ◌/◌, ◌%◌, ◌^◌, ◌<◌, ◌≤◌, Bool, true, false, ◌==◌, nat_lt, nat_le, if◌then◌else◌, List, [], ◌∷◌, ◌++◌, length, replicate, Option, Some, None, MatchBool}
use Rattle.std.specs.List.{AllByRecursion, flat_map}
use Rattle.myi_base.specs.Numbers.{low_num_bytes}
use Rattle.myi_defs.specs.declared.types.FieldKind.{FieldKind}
use Rattle.myi_defs.specs.declared.types.FieldKind.TheVariants.{Normal, SkipEndspace, SkipPrespace, SkipZero, Blob, Varchar}
use Rattle.myi_defs.specs.declared.types.Field.{Field}
use Rattle.myi_defs.specs.declared.types.SegType.{SegType}
use Rattle.myi_defs.specs.declared.types.SegType.TheVariants as seg
use Rattle.myi_defs.specs.declared.types.Segment.{Segment}
use Rattle.myi_defs.specs.Kinds.{is_variable}
use Rattle.myi_deftext.specs.Grammar.{IsNumber}
use Rattle.myi_pack.specs.Lengths.{length_bytes}
use Rattle.myi_script.specs.declared.form.Numbers.{Numbers}
use Rattle.myi_script.specs.declared.form.Numbers.TheVariants.{Nothing, Unsigned, Signed, Either}
use Rattle.myi_script.specs.declared.form.Form.{Form}

-- ---- forms: which contents there are

abbrev pub up_to : ℕ → Form
up_to n = record { fixed = false; most = n; numbers = Nothing }

-- a fixed field of at most eight bytes may hold a number of either kind
abbrev pub field_numbers : ℕ → Numbers
field_numbers n = if nat_le n 8 then Either else Nothing

abbrev pub kind_form : FieldKind → ℕ → Form
kind_form Normal n = record { fixed = true; most = n; numbers = field_numbers n }
kind_form SkipEndspace n = record { fixed = true; most = n; numbers = field_numbers n }
kind_form SkipPrespace n = record { fixed = true; most = n; numbers = field_numbers n }
kind_form SkipZero n = record { fixed = true; most = n; numbers = field_numbers n }
kind_form Blob n = up_to (256 ^ (n - 8) - 1)
kind_form Varchar n = up_to (n - length_bytes n)

-- the contents of a field
unfoldable pub field_form : Field → Form
field_form f = kind_form f.kind f.length

abbrev pub segment_numbers : SegType → Numbers
segment_numbers seg.ShortInt = Signed
segment_numbers seg.LongInt = Signed
segment_numbers seg.Longlong = Signed
segment_numbers seg.Int24 = Signed
segment_numbers seg.Int8 = Signed
segment_numbers seg.UshortInt = Unsigned
segment_numbers seg.UlongInt = Unsigned
segment_numbers seg.Ulonglong = Unsigned
segment_numbers seg.Uint24 = Unsigned
segment_numbers seg.Text = Nothing
segment_numbers seg.Binary = Nothing
segment_numbers seg.VarText = Nothing
segment_numbers seg.VarBinary = Nothing

-- the contents of a key segment
unfoldable pub segment_form : Segment → Form
segment_form s = if is_variable s.seg then up_to s.length else record { fixed = true; most = s.length; numbers = segment_numbers s.seg }

-- the greatest number that stands for a content of n bytes, and how far below 0 the least one is
abbrev pub greatest : Numbers → ℕ → Option ℕ
greatest Nothing n = None
greatest Unsigned n = Some (256 ^ n - 1)
greatest Signed n = Some (256 ^ n / 2 - 1)
greatest Either n = Some (256 ^ n - 1)

abbrev pub depth : Numbers → ℕ → Option ℕ
depth Nothing n = None
depth Unsigned n = None
depth Signed n = Some (256 ^ n / 2)
depth Either n = Some (256 ^ n / 2)

-- contents for which numbers stand have one to eight bytes
abbrev pub IsNumbered : Numbers → ℕ → Type 0
IsNumbered Nothing n = Unit {0}
IsNumbered Unsigned n = (0 < n) × (n ≤ 8)
IsNumbered Signed n = (0 < n) × (n ≤ 8)
IsNumbered Either n = (0 < n) × (n ≤ 8)

abbrev pub IsForm : Form → Type 0
IsForm f = IsNumbered f.numbers f.most

-- a content has the length, or at most the greatest
abbrev pub fits_form : Form → ℕ → Bool
fits_form f n = if f.fixed then n == f.most else nat_le n f.most

abbrev pub FitsForm : Form → ℕ → Type 0
FitsForm f n = MatchBool f.fixed (n ≡ f.most) (n ≤ f.most)

-- ---- values: how a content is written

-- two hexadecimal digits a byte, 0-9 and A-F, of one byte at least
abbrev pub hex_digit : ℕ → ℕ
hex_digit d = if nat_lt d 10 then 48 + d else 55 + d

abbrev pub hex_text : List ℕ → List ℕ
hex_text v = flat_map (λ x. hex_digit (x / 16) ∷ hex_digit (x % 16) ∷ []) v

pub record IsHex (f : Form) (w v : List ℕ) : Type 0 where
  pub text : w ≡ hex_text v
  pub bytes : AllByRecursion (λ x. x < 256) v
  pub some : 0 < length v
  pub fits : FitsForm f (length v)

-- printable ASCII without the quote, between quotes; a content of one length is filled up with spaces
abbrev pub IsPrintable : ℕ → Type 0
IsPrintable b = (32 ≤ b) × (b < 127) × (b ≡ 39 → ⊥)

abbrev pub filled : Form → List ℕ → List ℕ
filled f t = if f.fixed then t ++ replicate (f.most - length t) 32 else t

pub record IsQuoted (f : Form) (t w v : List ℕ) : Type 0 where
  pub text : w ≡ 39 ∷ (t ++ 39 ∷ [])
  pub printable : AllByRecursion IsPrintable t
  pub fits : length t ≤ f.most
  pub content : v ≡ filled f t

-- `#` and a number, which is stored low byte first
pub record IsPositive (f : Form) (most n : ℕ) (d w v : List ℕ) : Type 0 where
  pub numbered : greatest f.numbers f.most ≡ Some most
  pub text : w ≡ 35 ∷ d
  pub number : IsNumber 0 most d n
  pub content : v ≡ low_num_bytes f.most n

-- `#-` and a number that is not 0
pub record IsNegative (f : Form) (most n : ℕ) (d w v : List ℕ) : Type 0 where
  pub numbered : depth f.numbers f.most ≡ Some most
  pub text : w ≡ 35 ∷ 45 ∷ d
  pub number : IsNumber 1 most d n
  pub content : v ≡ low_num_bytes f.most (256 ^ f.most - n)

-- `-`, no bytes, where there is no one length
pub record IsEmpty (f : Form) (w v : List ℕ) : Type 0 where
  pub variable : f.fixed ≡ false
  pub text : w ≡ 45 ∷ []
  pub content : v ≡ []

-- a word is a value with this content
pub data IsValue (f : Form) (w v : List ℕ) : Type 0 where
  hex : IsHex f w v → IsValue f w v
  quoted : (t : List ℕ) → IsQuoted f t w v → IsValue f w v
  positive : (most n : ℕ) (d : List ℕ) → IsPositive f most n d w v → IsValue f w v
  negative : (most n : ℕ) (d : List ℕ) → IsNegative f most n d w v → IsValue f w v
  empty : IsEmpty f w v → IsValue f w v
