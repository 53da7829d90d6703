-- The parts of a header are read as they were spelled: a segment, a key with its segments, a field, and lists of them.
use Rattle.std.proofs.Common.{◌≡◌, ℕ, ◌+◌, ◌*◌, ◌/◌, ◌%◌, ◌<◌, ◌≤◌, if◌then◌else◌, Bool, true, false, List, [], ◌∷◌, ◌++◌, length, map, Some, refl, sym, ap, subst, ◌∙◌, arith, lit<, length-append}
use Rattle.std.specs.List.{AllByRecursion, flat_map}
use Rattle.myi_base.specs.Numbers.{num_at}
use Rattle.myi_base.specs.Items.{spelling, Fit}
use Rattle.myi_base.proofs.CallerLemmas.{length-spelling}
use Rattle.myi_defs.specs.declared.types.FieldKind.{FieldKind}
use Rattle.myi_defs.specs.declared.types.FieldKind.TheVariants.{Normal, SkipEndspace, SkipPrespace, SkipZero, Blob, Varchar}
use Rattle.myi_defs.specs.declared.types.SegType.{SegType}
use Rattle.myi_defs.specs.declared.types.SegType.TheVariants as seg
use Rattle.myi_defs.specs.declared.header.SegItem.{SegItem}
use Rattle.myi_defs.specs.declared.header.KeyItem.{KeyItem}
use Rattle.myi_defs.specs.declared.header.FieldItem.{FieldItem}
use Rattle.myi_defs.specs.Header.{seg_type, seg_item, seg_items, key_item, key_items, key_length, field_kind, field_item, field_items}
use Rattle.myi_deftext.specs.Grammar.{FieldSaid, KeySaid}
use Rattle.myi_deftext.specs.TextHeader.{stored, kind_number, seg_number, key_most, page_length, seg_bytes_as, seg_bytes, key_bytes}
use Rattle.myi_deftext.specs.TableHeader.{field_header, key_header}
use Rattle.myi_textlaws.proofs.PlaceLemmas.{read_at, regrouped, handed_on, further}

-- ---- a segment

-- the numbers of a segment fit its bytes
pub record SegmentFits (s : SegItem) : Type 0 where
  pub seg : SegType
  pub seg_is : s.seg ≡ Some seg
  pub language : s.language ≤ 65535
  pub null_bit : s.null_bit ≤ 255
  pub length : s.length ≤ 65535
  pub start : s.start ≤ 4294967295
  pub null_pos : s.null_pos ≤ 4294967295

type_back : (t : SegType) → seg_type (seg_number t) ≡ Some t
type_back seg.Text = refl
type_back seg.Binary = refl
type_back seg.ShortInt = refl
type_back seg.LongInt = refl
type_back seg.UshortInt = refl
type_back seg.UlongInt = refl
type_back seg.Longlong = refl
type_back seg.Ulonglong = refl
type_back seg.Int24 = refl
type_back seg.Uint24 = refl
type_back seg.Int8 = refl
type_back seg.VarText = refl
type_back seg.VarBinary = refl

type_small : (t : SegType) → seg_number t < 256
type_small seg.Text = lit< tt
type_small seg.Binary = lit< tt
type_small seg.ShortInt = lit< tt
type_small seg.LongInt = lit< tt
type_small seg.UshortInt = lit< tt
type_small seg.UlongInt = lit< tt
type_small seg.Longlong = lit< tt
type_small seg.Ulonglong = lit< tt
type_small seg.Int24 = lit< tt
type_small seg.Uint24 = lit< tt
type_small seg.Int8 = lit< tt
type_small seg.VarText = lit< tt
type_small seg.VarBinary = lit< tt

abbrev segment_widths : List ℕ
segment_widths = 1 ∷ 1 ∷ 1 ∷ 1 ∷ 1 ∷ 1 ∷ 2 ∷ 2 ∷ 4 ∷ 4 ∷ []

abbrev segment_numbers : SegType → SegItem → List ℕ
segment_numbers t s = seg_number t ∷ s.language % 256 ∷ s.null_bit ∷ 0 ∷ s.language / 256 ∷ 0 ∷ 0 ∷ s.length ∷ s.start ∷ s.null_pos ∷ []

segment_fit : (s : SegItem) (fits : SegmentFits s) → Fit segment_widths (segment_numbers fits.seg s)
segment_fit s fits = (
  type_small fits.seg,
  (omega arith, (omega (arith, fits.null_bit), (omega arith, (omega (arith, fits.language), (omega arith, (omega arith, (omega (arith, fits.length), (omega (arith, fits.start), (omega (arith, fits.null_pos), tt))))))))),
)

segment_spelled : (s : SegItem) (fits : SegmentFits s) → seg_bytes s ≡ spelling segment_widths (segment_numbers fits.seg s)
unfolding seg_bytes
segment_spelled s fits = ap (λ t. seg_bytes_as t s) fits.seg_is

length-segment : (s : SegItem) → SegmentFits s → length (seg_bytes s) ≡ 18
length-segment s fits = ap length (segment_spelled s fits) ∙ length-spelling segment_widths (segment_numbers fits.seg s) (segment_fit s fits)

segment_read_as : (t : SegType) (s : SegItem) (at : ℕ) (front back : List ℕ) → s.seg ≡ Some t → Fit segment_widths (segment_numbers t s) → length front ≡ at → seg_item at (front ++ (spelling segment_widths (segment_numbers t s) ++ back)) ≡ s
unfolding seg_item
segment_read_as t s at front back is fit start =
    let ws : List ℕ = segment_widths in
    let vs : List ℕ = segment_numbers t s in
    let h : List ℕ = front ++ (spelling ws vs ++ back) in
    let here : at + 0 ≡ at = omega arith in
    let number : num_at at 1 h ≡ seg_number t = ap (λ p. num_at p 1 h) (sym here) ∙ read_at at ws vs front back 0 start fit (lit< tt) in
    let low : num_at (at + 1) 1 h ≡ s.language % 256 = read_at at ws vs front back 1 start fit (lit< tt) in
    let high : num_at (at + 4) 1 h ≡ s.language / 256 = read_at at ws vs front back 4 start fit (lit< tt) in
    let kind : seg_type (num_at at 1 h) ≡ s.seg = ap seg_type number ∙ type_back t ∙ sym is in
    let language : num_at (at + 1) 1 h + 256 * num_at (at + 4) 1 h ≡ s.language = omega (arith, low, high) in
    let null_bit : num_at (at + 2) 1 h ≡ s.null_bit = read_at at ws vs front back 2 start fit (lit< tt) in
    let long : num_at (at + 8) 2 h ≡ s.length = read_at at ws vs front back 7 start fit (lit< tt) in
    let place : num_at (at + 10) 4 h ≡ s.start = read_at at ws vs front back 8 start fit (lit< tt) in
    let null_pos : num_at (at + 14) 4 h ≡ s.null_pos = read_at at ws vs front back 9 start fit (lit< tt) in
    λ i. record { seg = kind i; language = language i; null_bit = null_bit i; length = long i; start = place i; null_pos = null_pos i }

segment_read : (s : SegItem) (at : ℕ) (front back : List ℕ) → SegmentFits s → length front ≡ at → seg_item at (front ++ (seg_bytes s ++ back)) ≡ s
segment_read s at front back fits start =
    ap (λ bs. seg_item at (front ++ (bs ++ back))) (segment_spelled s fits)
    ∙ segment_read_as fits.seg s at front back fits.seg_is (segment_fit s fits) start

segments_read : (ss : List SegItem) (at : ℕ) (front back : List ℕ) → AllByRecursion SegmentFits ss → length front ≡ at → seg_items (length ss) at (front ++ (flat_map seg_bytes ss ++ back)) ≡ ss
unfolding seg_items
segments_read [] at front back fits start = refl
segments_read (s ∷ ss) at front back fits start =
    let rest : List ℕ = flat_map seg_bytes ss in
    let first : seg_item at (front ++ ((seg_bytes s ++ rest) ++ back)) ≡ s =
    ap (seg_item at) (handed_on front (seg_bytes s) rest back) ∙ segment_read s at front (rest ++ back) fits.0 start in
    let others : seg_items (length ss) (at + 18) (front ++ ((seg_bytes s ++ rest) ++ back)) ≡ ss =
    ap (seg_items (length ss) (at + 18)) (regrouped front (seg_bytes s) rest back)
    ∙ segments_read ss (at + 18) (front ++ seg_bytes s) back fits.1 (further at 18 front (seg_bytes s) start (length-segment s fits.0)) in
    ap (λ x. x ∷ seg_items (length ss) (at + 18) (front ++ ((seg_bytes s ++ rest) ++ back))) first ∙ ap (λ xs. s ∷ xs) others

length-segments : (ss : List SegItem) → AllByRecursion SegmentFits ss → length (flat_map seg_bytes ss) ≡ 18 * length ss
length-segments [] fits = refl
length-segments (s ∷ ss) fits =
    let one = length-segment s fits.0 in
    let rest = length-segments ss fits.1 in
    omega (arith, length-append (seg_bytes s) (flat_map seg_bytes ss), one, rest)

-- ---- a key

-- the numbers of a key fit its bytes
pub record KeyFits (k : KeySaid) : Type 0 where
  pub segments : AllByRecursion SegmentFits k.segments
  pub few : length k.segments ≤ 16

-- a key as its header has it
abbrev pub key_stored : ℕ → KeySaid → KeyItem
key_stored pointer k = record {
  flag = if k.unique then 1 else 0;
  block_length = stored 2 (page_length pointer (key_most k.segments));
  segments = k.segments;
}

abbrev key_widths : List ℕ
key_widths = 1 ∷ 1 ∷ 2 ∷ 2 ∷ 2 ∷ 2 ∷ 2 ∷ []

abbrev key_numbers : ℕ → KeySaid → List ℕ
key_numbers pointer k =
    stored 1 (length k.segments) ∷ 0 ∷ (if k.unique then 1 else 0) ∷ stored 2 (page_length pointer (key_most k.segments)) ∷ stored 2 (key_most k.segments) ∷ stored 2 (key_most k.segments) ∷ stored 2 (key_most k.segments) ∷ []

flag_small : (unique : Bool) → (if unique then 1 else 0) < 65536
flag_small true = lit< tt
flag_small false = lit< tt

stored_small : (n : ℕ) → stored 2 n < 65536
stored_small n = omega arith

key_fit : (pointer : ℕ) (k : KeySaid) → Fit key_widths (key_numbers pointer k)
key_fit pointer k = (
  omega arith,
  (omega arith, (flag_small k.unique, (stored_small (page_length pointer (key_most k.segments)), (stored_small (key_most k.segments), (stored_small (key_most k.segments), (stored_small (key_most k.segments), tt)))))),
)

key_spelled : (pointer : ℕ) (k : KeySaid) → key_bytes pointer k.unique k.segments ≡ spelling key_widths (key_numbers pointer k)
unfolding key_bytes
key_spelled pointer k = refl

length-front_of_key : (pointer : ℕ) (k : KeySaid) → length (key_bytes pointer k.unique k.segments) ≡ 12
length-front_of_key pointer k = ap length (key_spelled pointer k) ∙ length-spelling key_widths (key_numbers pointer k) (key_fit pointer k)

pub length-key : (pointer : ℕ) (k : KeySaid) → KeyFits k → length (key_header pointer k) ≡ 12 + 18 * length k.segments
length-key pointer k fits =
    let front = length-front_of_key pointer k in
    let rest = length-segments k.segments fits.segments in
    omega (arith, length-append (key_bytes pointer k.unique k.segments) (flat_map seg_bytes k.segments), front, rest)

record KeyFront (pointer : ℕ) (k : KeySaid) (at : ℕ) (h : List ℕ) : Type 0 where
  pub count : num_at at 1 h ≡ length k.segments
  pub flag : num_at (at + 2) 2 h ≡ (if k.unique then 1 else 0)
  pub pages : num_at (at + 4) 2 h ≡ stored 2 (page_length pointer (key_most k.segments))

key_front : (pointer : ℕ) (k : KeySaid) (at : ℕ) (front back : List ℕ) → length k.segments ≤ 16 → length front ≡ at → KeyFront pointer k at (front ++ (key_bytes pointer k.unique k.segments ++ back))
key_front pointer k at front back few start =
    let ws : List ℕ = key_widths in
    let vs : List ℕ = key_numbers pointer k in
    let h : List ℕ = front ++ (spelling ws vs ++ back) in
    let fit = key_fit pointer k in
    let here : at + 0 ≡ at = omega arith in
    let count : num_at at 1 h ≡ stored 1 (length k.segments) = ap (λ p. num_at p 1 h) (sym here) ∙ read_at at ws vs front back 0 start fit (lit< tt) in
    let whole : stored 1 (length k.segments) ≡ length k.segments = omega arith in
    let facts : KeyFront pointer k at h = record {
      count = count ∙ whole;
      flag = read_at at ws vs front back 2 start fit (lit< tt);
      pages = read_at at ws vs front back 3 start fit (lit< tt);
    } in
    subst (λ bs. KeyFront pointer k at (front ++ (bs ++ back))) (sym (key_spelled pointer k)) facts

key_read : (pointer : ℕ) (k : KeySaid) (at : ℕ) (front back : List ℕ) → KeyFits k → length front ≡ at → key_item at (front ++ (key_header pointer k ++ back)) ≡ key_stored pointer k
unfolding key_item
key_read pointer k at front back fits start =
    let first : List ℕ = key_bytes pointer k.unique k.segments in
    let rest : List ℕ = flat_map seg_bytes k.segments in
    let h : List ℕ = front ++ ((first ++ rest) ++ back) in
    let facts : KeyFront pointer k at h =
    subst (KeyFront pointer k at) (sym (handed_on front first rest back)) (key_front pointer k at front (rest ++ back) fits.few start) in
    let segments : seg_items (num_at at 1 h) (at + 12) h ≡ k.segments =
    ap (λ n. seg_items n (at + 12) h) facts.count
    ∙ ap (seg_items (length k.segments) (at + 12)) (regrouped front first rest back)
    ∙ segments_read k.segments (at + 12) (front ++ first) back fits.segments (further at 12 front first start (length-front_of_key pointer k)) in
    λ i. record { flag = facts.flag i; block_length = facts.pages i; segments = segments i }

pub keys_read : (pointer : ℕ) (ks : List KeySaid) (at : ℕ) (front back : List ℕ) → AllByRecursion KeyFits ks → length front ≡ at → key_items (length ks) at (front ++ (flat_map (key_header pointer) ks ++ back)) ≡ map (key_stored pointer) ks
unfolding key_items
keys_read pointer [] at front back fits start = refl
keys_read pointer (k ∷ ks) at front back fits start =
    let one : List ℕ = key_header pointer k in
    let rest : List ℕ = flat_map (key_header pointer) ks in
    let h : List ℕ = front ++ ((one ++ rest) ++ back) in
    let n : ℕ = 12 + 18 * length k.segments in
    let first : key_item at h ≡ key_stored pointer k =
    ap (key_item at) (handed_on front one rest back) ∙ key_read pointer k at front (rest ++ back) fits.0 start in
    let others : key_items (length ks) (at + n) h ≡ map (key_stored pointer) ks =
    ap (key_items (length ks) (at + n)) (regrouped front one rest back)
    ∙ keys_read pointer ks (at + n) (front ++ one) back fits.1 (further at n front one start (length-key pointer k fits.0)) in
    ap (λ (x : KeyItem). x ∷ key_items (length ks) (at + key_length x) h) first ∙ ap (λ xs. key_stored pointer k ∷ xs) others

-- ---- a field

abbrev pub FieldFits : FieldSaid → Type 0
FieldFits f = f.length ≤ 65535

-- fields as their headers have them, the first at a place of the row
abbrev pub placed : ℕ → List FieldSaid → List FieldItem
placed start [] = []
placed start (f ∷ fs) = record { kind = Some f.kind; length = f.length; start = start } ∷ placed (start + f.length) fs

kind_back : (k : FieldKind) → field_kind (kind_number k) ≡ Some k
kind_back Normal = refl
kind_back SkipEndspace = refl
kind_back SkipPrespace = refl
kind_back SkipZero = refl
kind_back Blob = refl
kind_back Varchar = refl

kind_small : (k : FieldKind) → kind_number k < 65536
kind_small Normal = lit< tt
kind_small SkipEndspace = lit< tt
kind_small SkipPrespace = lit< tt
kind_small SkipZero = lit< tt
kind_small Blob = lit< tt
kind_small Varchar = lit< tt

abbrev field_widths : List ℕ
field_widths = 2 ∷ 2 ∷ 1 ∷ 2 ∷ []

abbrev field_numbers : FieldSaid → List ℕ
field_numbers f = kind_number f.kind ∷ f.length ∷ 0 ∷ 0 ∷ []

field_fit : (f : FieldSaid) → FieldFits f → Fit field_widths (field_numbers f)
field_fit f fits = (kind_small f.kind, (omega arith, (lit< tt, (lit< tt, tt))))

pub length-field : (f : FieldSaid) → FieldFits f → length (field_header f) ≡ 7
length-field f fits = length-spelling field_widths (field_numbers f) (field_fit f fits)

field_read : (f : FieldSaid) (row at : ℕ) (front back : List ℕ) → FieldFits f → length front ≡ at → field_item row at (front ++ (field_header f ++ back)) ≡ record { kind = Some f.kind; length = f.length; start = row }
unfolding field_item
field_read f row at front back fits start =
    let ws : List ℕ = field_widths in
    let vs : List ℕ = field_numbers f in
    let h : List ℕ = front ++ (spelling ws vs ++ back) in
    let fit = field_fit f fits in
    let here : at + 0 ≡ at = omega arith in
    let number : num_at at 2 h ≡ kind_number f.kind = ap (λ p. num_at p 2 h) (sym here) ∙ read_at at ws vs front back 0 start fit (lit< tt) in
    let kind : field_kind (num_at at 2 h) ≡ Some f.kind = ap field_kind number ∙ kind_back f.kind in
    let long : num_at (at + 2) 2 h ≡ f.length = read_at at ws vs front back 1 start fit (lit< tt) in
    λ i. record { kind = kind i; length = long i; start = row }

pub fields_read : (fs : List FieldSaid) (row at : ℕ) (front back : List ℕ) → AllByRecursion FieldFits fs → length front ≡ at → field_items (length fs) row at (front ++ (flat_map field_header fs ++ back)) ≡ placed row fs
unfolding field_items
fields_read [] row at front back fits start = refl
fields_read (f ∷ fs) row at front back fits start =
    let one : List ℕ = field_header f in
    let rest : List ℕ = flat_map field_header fs in
    let h : List ℕ = front ++ ((one ++ rest) ++ back) in
    let item : FieldItem = record { kind = Some f.kind; length = f.length; start = row } in
    let first : field_item row at h ≡ item =
    ap (field_item row at) (handed_on front one rest back) ∙ field_read f row at front (rest ++ back) fits.0 start in
    let others : field_items (length fs) (row + f.length) (at + 7) h ≡ placed (row + f.length) fs =
    ap (field_items (length fs) (row + f.length) (at + 7)) (regrouped front one rest back)
    ∙ fields_read fs (row + f.length) (at + 7) (front ++ one) back fits.1 (further at 7 front one start (length-field f fits.0)) in
    ap (λ (x : FieldItem). x ∷ field_items (length fs) (row + x.length) (at + 7) h) first ∙ ap (λ xs. item ∷ xs) others
