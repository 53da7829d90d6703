-- The field that has a place of the unpacked row, and the byte there.
use Rattle.std.proofs.Common.{◌≡◌, ℕ, zero, suc, ◌+◌, ◌-◌, ◌<◌, ◌≤◌, Bool, true, false, leb, List, [], ◌∷◌, length, get_or, refl, sym, ap, subst, ◌∙◌, arith}
use Rattle.std.specs.Prelude.{◌≢◌, nat_le, nat_lt, slice_index, bit_and, not, ◌==◌, if◌then◌else◌}
use Rattle.std.specs.List.Sorted.{IsNonDecreasingBy, IsPartitionPoint}
use Rattle.std.proofs.lemmas.Bool.{and_parts, leb-true, leb-false, ltb-true, ne_eqb}
use Rattle.std.proofs.lemmas.List.{get_or_default}
use Rattle.myi_defs.specs.declared.types.RowFormat.{RowFormat}
use Rattle.myi_defs.specs.declared.types.FieldKind.{FieldKind}
use Rattle.myi_defs.specs.declared.types.FieldKind.TheVariants.{Normal, SkipEndspace, SkipPrespace, SkipZero, Blob, Varchar}
use Rattle.myi_defs.specs.declared.types.Field.{Field}
use Rattle.myi_defs.specs.declared.types.Segment.{Segment}
use Rattle.myi_defs.specs.declared.types.Defs.{Defs}
use Rattle.myi_defs.specs.Kinds.{is_fixed, is_plain_at}
use Rattle.myi_defs.specs.Sound.{IsSound, StartFrom}
use Rattle.myi_keys.specs.declared.values.KeySeg.TheVariants.{Absent, Weights}
use Rattle.myi_keys.specs.Weights.{weights}
use Rattle.myi_pack.specs.Packed.{Values}
use Rattle.myi_pack.specs.Spelling.{fits, fits_field, fits_fields}
use Rattle.myi_data.specs.Keys.{AreValues, IsPlainPlace, byte_at, start_of, content, seg_of, TellsNull}
use Rattle.myi_data.proofs.KeyLemmas.{length-row, field_fits, start_at, fixed_long, values_fit}

-- ---- fields in order of their starts

start_behind : (fs : List Field) (at i : ℕ) (d : Field) → StartFrom at fs → i < length fs → at ≤ (get_or fs i d).start
start_behind [] at i d starts inside = absurd (omega arith)
start_behind (f ∷ fs) at zero d starts inside = omega (arith, starts.0)
start_behind (f ∷ fs) at (suc i) d starts inside = omega (arith, start_behind fs (at + f.length) i d starts.1 (omega arith))

ends_before : (fs : List Field) (at i j : ℕ) (d : Field) → StartFrom at fs → i < j → j < length fs → (get_or fs i d).start + (get_or fs i d).length ≤ (get_or fs j d).start
ends_before [] at i j d starts less inside = absurd (omega arith)
ends_before (f ∷ fs) at i zero d starts less inside = absurd (omega arith)
ends_before (f ∷ fs) at zero (suc j) d starts less inside = omega (arith, starts.0, start_behind fs (at + f.length) j d starts.1 (omega arith))
ends_before (f ∷ fs) at (suc i) (suc j) d starts less inside = ends_before fs (at + f.length) i j d starts.1 (omega arith) (omega arith)

pub starts_rise : (fs : List Field) → StartFrom 0 fs → IsNonDecreasingBy (λ (f : Field). f.start) fs
starts_rise fs starts i j d le inside = by (leb j i) refl
  where
    by : (t : Bool) → leb j i ≡ t → (get_or fs i d).start ≤ (get_or fs j d).start
    by true e = let same : i ≡ j = omega (arith, leb-true _ _ e) in omega (arith, ap (λ k. (get_or fs k d).start) same)
    by false e = omega (arith, ends_before fs 0 i j d starts (omega (arith, leb-false _ _ e)) inside)

-- ---- the field of a place

plain_bounds : (place : ℕ) (k : FieldKind) (at size : ℕ) → is_plain_at place k at size ≡ true → (at ≤ place) × (place < at + size) × (is_fixed k ≡ true)
plain_bounds place Normal at size e = let p = and_parts (nat_le at place) (nat_lt place (at + size)) e in (leb-true _ _ p.0, ltb-true _ _ p.1, refl)
plain_bounds place SkipEndspace at size e = absurd cc
plain_bounds place SkipPrespace at size e = absurd cc
plain_bounds place SkipZero at size e = absurd cc
plain_bounds place Blob at size e = absurd cc
plain_bounds place Varchar at size e = absurd cc

-- so many fields start at or before a place
pub record IsCount (fs : List Field) (place count : ℕ) : Type 0 where
  pub few : count ≤ length fs
  pub before : (k : ℕ) (f : Field) → k < count → (get_or fs k f).start ≤ place
  pub behind : (k : ℕ) (f : Field) → count ≤ k → k < length fs → place < (get_or fs k f).start

-- what `partition_point` finds
pub counted : (fs : List Field) (place count : ℕ) → count ≤ length fs → IsPartitionPoint (λ (f : Field). leb f.start place ≡ true) (λ (f : Field). leb f.start place ≡ false) fs count → IsCount fs place count
counted fs place count few point = record {
  few = few;
  before = λ k f lt. leb-true _ _ (point.0 k f (omega arith) lt);
  behind = λ k f le lt. omega (arith, leb-false _ _ (point.1 k f le lt));
}

-- the last of these fields has it
pub record HasPlace (fs : List Field) (place i : ℕ) : Type 0 where
  pub inside : i < length fs
  pub plain : (d : Field) → is_plain_at place (get_or fs i d).kind (get_or fs i d).start (get_or fs i d).length ≡ true

pub last_field : (fs : List Field) (place count : ℕ) → StartFrom 0 fs → IsPlainPlace fs place → IsCount fs place count → (0 < count) × HasPlace fs place (count - 1)
last_field fs place count starts plain is = (some, record { inside = omega (arith, some, is.few); plain = λ d. subst (λ i. is_plain_at place (get_or fs i d).kind (get_or fs i d).start (get_or fs i d).length ≡ true) at (plain.2 d) })
  where
    d : Field
    d = record { kind = Normal; length = 0; start = 0 }

    bounds : ((get_or fs plain.0 d).start ≤ place) × (place < (get_or fs plain.0 d).start + (get_or fs plain.0 d).length)
    bounds = let b = plain_bounds place (get_or fs plain.0 d).kind (get_or fs plain.0 d).start (get_or fs plain.0 d).length (plain.2 d) in (b.0, b.1)

    below : plain.0 < count
    below = by (leb count plain.0) refl
      where
        by : (t : Bool) → leb count plain.0 ≡ t → plain.0 < count
        by true e = absurd (omega (arith, bounds.0, is.behind plain.0 d (leb-true _ _ e) plain.1))
        by false e = omega (arith, leb-false _ _ e)

    last : count ≤ plain.0 + 1
    last = by (leb count (plain.0 + 1)) refl
      where
        by : (t : Bool) → leb count (plain.0 + 1) ≡ t → count ≤ plain.0 + 1
        by true e = leb-true _ _ e
        by false e =
            let more : plain.0 + 1 < count = omega (arith, leb-false _ _ e) in
            absurd (omega (arith, bounds.1, is.before (plain.0 + 1) d more, ends_before fs 0 plain.0 (plain.0 + 1) d starts (omega arith) (omega (arith, more, is.few))))

    some : 0 < count
    some = omega (arith, below)

    at : plain.0 ≡ count - 1
    at = omega (arith, below, last)

-- ---- the byte there

pub place_from : (fs : List Field) (place i : ℕ) (d : Field) → HasPlace fs place i → (get_or fs i d).start ≤ place
place_from fs place i d has = (plain_bounds place (get_or fs i d).kind (get_or fs i d).start (get_or fs i d).length (has.plain d)).0

pub value_there : (fs : List Field) (row : Values) (place i : ℕ) → AreValues fs row → HasPlace fs place i → i < length row
value_there fs row place i fit has = omega (arith, has.inside, length-row fit.0 fs row fit.1)

more_place : (f : Field) (fs : List Field) (place i : ℕ) → HasPlace (f ∷ fs) place (suc i) → HasPlace fs place i
more_place f fs place i has = record { inside = omega (arith, has.inside); plain = has.plain }

-- a field that the place is behind is passed
passed : (f : Field) (fs : List Field) (v : List ℕ) (row : Values) (at place i byte : ℕ) → StartFrom at (f ∷ fs) → HasPlace (f ∷ fs) place (suc i) → byte_at fs row place ≡ byte → (t : Bool) → is_plain_at place f.kind f.start f.length ≡ t → (if t then slice_index v (place - f.start) else byte_at fs row place) ≡ byte
passed f fs v row at place i byte starts has is false e = is
passed f fs v row at place i byte starts has is true e =
    absurd (omega (arith, (plain_bounds place f.kind f.start f.length e).1, place_from fs place i f (more_place f fs place i has), ends_before (f ∷ fs) at 0 (suc i) f starts (omega arith) has.inside))

byte_from : (fs : List Field) (format : RowFormat) (row : Values) (at place i : ℕ) (d : Field) → StartFrom at fs → fits_fields format fs row ≡ true → HasPlace fs place i → byte_at fs row place ≡ slice_index (get_or row i []) (place - (get_or fs i d).start)
byte_from [] format row at place i d starts fit has = absurd (omega (arith, has.inside))
byte_from (f ∷ fs) format [] at place i d starts fit has = absurd cc
byte_from (f ∷ fs) format (v ∷ row) at place zero d starts fit has = rw (has.plain d) refl
byte_from (f ∷ fs) format (v ∷ row) at place (suc i) d starts fit has =
    let rest = byte_from fs format row (at + f.length) place i d starts.1 (and_parts (fits_field format f.kind f.length v) (fits_fields format fs row) fit).1 (more_place f fs place i has) in
    passed f fs v row at place i _ starts has rest (is_plain_at place f.kind f.start f.length) refl

module _ (fs : List Field) (row : Values) (place i start : ℕ) (v : List ℕ) (starts : StartFrom 0 fs) (fit : AreValues fs row) (has : HasPlace fs place i) (is : start ≡ start_of fs i) where
  some : Field
  some = record { kind = Normal; length = 0; start = 0 }

  here : start ≡ (get_or fs i some).start
  here = is ∙ start_at fs i some has.inside

  pub start_before : start ≤ place
  start_before = omega (arith, here, place_from fs place i some has)

  pub inside_value : get_or row i [] ≡ v → place - start < length v
  inside_value value =
      let b = plain_bounds place (get_or fs i some).kind (get_or fs i some).start (get_or fs i some).length (has.plain some) in
      let long = fixed_long fit.0 (get_or fs i some).kind (get_or fs i some).length (get_or row i []) b.2 (field_fits fit.0 fs row i some fit.1 has.inside) in
      omega (arith, here, b.0, b.1, long, ap (λ (x : List ℕ). length x) value)

  pub byte_there : get_or row i [] ≡ v → slice_index v (place - start) ≡ byte_at fs row place
  byte_there value =
      ap (λ (x : List ℕ). slice_index x (place - start)) (sym value) ∙ ap (λ n. slice_index (get_or row i []) (place - n)) here ∙ sym (byte_from fs fit.0 row 0 place i some starts fit.1 has)

-- ---- what the byte tells of a segment

absent_by : (fs : List Field) (row : Values) (s : Segment) (byte : ℕ) → s.null_bit ≢ 0 → byte_at fs row s.null_pos ≡ byte → (t : Bool) → (bit_and byte s.null_bit == 0) ≡ t → seg_of fs row s ≡ (if t then Weights (weights s (content fs row s)) else Absent)
absent_by fs row s byte some is t e =
    let bit : (bit_and (byte_at fs row s.null_pos) s.null_bit == 0) ≡ t = ap (λ b. bit_and b s.null_bit == 0) is ∙ e in
    rw (ne_eqb s.null_bit 0 some, bit) (by t)
  where
    by : (t : Bool) → (if not t then Absent else Weights (weights s (content fs row s))) ≡ (if t then Weights (weights s (content fs row s)) else Absent)
    by true = refl
    by false = refl

pub null_told : (d : Defs) (row : Values) (s : Segment) (k : ℕ) → IsSound d → fits d row ≡ true → s.null_bit ≢ 0 → k < length d.fields → (f : Field) → TellsNull d row s k (get_or d.fields k f)
null_told d row s k sound fit some inside f plain =
    let has : HasPlace d.fields s.null_pos k = record {
      inside = inside;
      plain = λ e. subst (λ (g : Field). is_plain_at s.null_pos g.kind g.start g.length ≡ true) (get_or_default d.fields k f e inside) plain;
    } in
    let byte = byte_from d.fields d.format row 0 s.null_pos k f sound.starts (values_fit d row fit) has in
    absent_by d.fields row s _ some byte _ refl

pub always_valued : (fs : List Field) (row : Values) (s : Segment) → s.null_bit ≡ 0 → seg_of fs row s ≡ Weights (weights s (content fs row s))
always_valued fs row s none = rw none refl
