-- What contents the values of a form have, and that the values of a key segment can be weighed.
use Rattle.std.proofs.Common.{◌≡◌, ℕ, ◌-◌, ◌^◌, ◌<◌, ◌≤◌, List, ◌++◌, length, replicate, Some, Bool, true, false, cond, refl, ap, sym, ◌∙◌, arith, subst, length-append, inl, inr}
use Rattle.std.specs.Prelude.{MatchBool, IsSome}
use Rattle.std.proofs.lemmas.List.{length-replicate}
use Rattle.std.proofs.lemmas.Bool.Decides.{nat_tests, leb_tells}
use Rattle.myi_base.proofs.CallerLemmas.{length-low_num_bytes}
use Rattle.myi_defs.specs.declared.types.Field.{Field}
use Rattle.myi_defs.specs.declared.types.FieldKind.{FieldKind}
use Rattle.myi_defs.specs.declared.types.FieldKind.TheVariants as kind
use Rattle.myi_defs.specs.declared.types.RowFormat.{RowFormat}
use Rattle.myi_defs.specs.declared.types.SegType.{SegType}
use Rattle.myi_defs.specs.declared.types.SegType.TheVariants as seg
use Rattle.myi_defs.specs.declared.types.Segment.{Segment}
use Rattle.myi_defs.specs.Kinds.{int_size, is_text, is_collation, is_variable}
use Rattle.myi_defs.specs.Sound.{IsLengthOf, IsSoundSegment}
use Rattle.myi_keys.specs.Collations.{collation_of}
use Rattle.myi_keys.specs.Weights.{weights, CanWeighBy, CanWeigh}
use Rattle.myi_keys.proofs.CallerLemmas.{weights_few}
use Rattle.myi_script.specs.declared.form.Form.{Form}
use Rattle.myi_script.specs.Values.{up_to, field_numbers, kind_form, field_form, segment_numbers, segment_form, IsNumbered, IsForm, FitsForm, filled, IsValue, hex, quoted, positive, negative, empty}
use Rattle.myi_script.specs.Reading.{value_of}
use Rattle.myi_script.proofs.ValueLemmas.{value_sound}

-- ---- lengths of contents

exact_fits : (f : Form) (n : ℕ) → n ≡ f.most → FitsForm f n
exact_fits f n e = go f.fixed
  where
    go : (b : Bool) → MatchBool b (n ≡ f.most) (n ≤ f.most)
    go true = e
    go false = omega (arith, e)

filled_fits : (f : Form) (t : List ℕ) → length t ≤ f.most → FitsForm f (length (filled f t))
filled_fits f t le = go f.fixed
  where
    go : (b : Bool) → MatchBool b (length (cond b (t ++ replicate (f.most - length t) 32) t) ≡ f.most) (length (cond b (t ++ replicate (f.most - length t) 32) t) ≤ f.most)
    go true = let n = length-append t (replicate (f.most - length t) 32) in let m = length-replicate {A = ℕ} (f.most - length t) 32 in omega (arith, n, m, le)
    go false = le

empty_fits : (f : Form) → f.fixed ≡ false → FitsForm f 0
empty_fits f e = rw e (omega arith)

-- a value's content has a length that there is
pub value_fits : (f : Form) (w v : List ℕ) → IsValue f w v → FitsForm f (length v)
value_fits f w v (hex h) = h.fits
value_fits f w v (quoted t h) = let P : List ℕ → Type 0 = λ q. FitsForm f (length q) in subst P (sym h.content) (filled_fits f t h.fits)
value_fits f w v (positive most n d h) = exact_fits f (length v) (ap length h.content ∙ length-low_num_bytes f.most n)
value_fits f w v (negative most n d h) = exact_fits f (length v) (ap length h.content ∙ length-low_num_bytes f.most (256 ^ f.most - n))
value_fits f w v (empty h) = let P : List ℕ → Type 0 = λ q. FitsForm f (length q) in subst P (sym h.content) (empty_fits f h.variable)

-- ---- forms of fields and segments

numbered : (n : ℕ) → 0 < n → IsNumbered (field_numbers n) n
numbered n some = elim (leb_tells n 8) [ inl p ↦ rw p.0 (some, p.1) | inr p ↦ rw p.0 tt ]

pub field_is_form : (format : RowFormat) (f : Field) → IsLengthOf format f.kind f.length → IsForm (field_form f)
unfolding field_form
field_is_form format f h = go f.kind h
  where
    go : (k : FieldKind) → IsLengthOf format k f.length → IsForm (kind_form k f.length)
    go kind.Normal some = numbered f.length some
    go kind.SkipEndspace some = numbered f.length some
    go kind.SkipPrespace some = numbered f.length some
    go kind.SkipZero some = numbered f.length some
    go kind.Blob some = tt
    go kind.Varchar some = tt

-- an integer has its type's size
abbrev pub IsSized : SegType → ℕ → Type 0
IsSized t n = (k : ℕ) → int_size t ≡ Some k → n ≡ k

abbrev pub type_form : SegType → ℕ → Form
type_form t n = cond (is_variable t) (up_to n) (record { fixed = true; most = n; numbers = segment_numbers t })

sized : (n k : ℕ) → n ≡ k → 0 < k → k ≤ 8 → (0 < n) × (n ≤ 8)
sized n k e low high = (omega arith, omega arith)

type_is_form : (t : SegType) (n : ℕ) → IsSized t n → IsForm (type_form t n)
type_is_form seg.Text n size = tt
type_is_form seg.Binary n size = tt
type_is_form seg.ShortInt n size = sized n 2 (size 2 refl) (omega arith) (omega arith)
type_is_form seg.LongInt n size = sized n 4 (size 4 refl) (omega arith) (omega arith)
type_is_form seg.UshortInt n size = sized n 2 (size 2 refl) (omega arith) (omega arith)
type_is_form seg.UlongInt n size = sized n 4 (size 4 refl) (omega arith) (omega arith)
type_is_form seg.Longlong n size = sized n 8 (size 8 refl) (omega arith) (omega arith)
type_is_form seg.Ulonglong n size = sized n 8 (size 8 refl) (omega arith) (omega arith)
type_is_form seg.Int24 n size = sized n 3 (size 3 refl) (omega arith) (omega arith)
type_is_form seg.Uint24 n size = sized n 3 (size 3 refl) (omega arith) (omega arith)
type_is_form seg.Int8 n size = sized n 1 (size 1 refl) (omega arith) (omega arith)
type_is_form seg.VarText n size = tt
type_is_form seg.VarBinary n size = tt

pub segment_is_form : (fields : List Field) (s : Segment) → IsSoundSegment fields s → IsForm (segment_form s)
unfolding segment_form
segment_is_form fields s h = type_is_form s.seg s.length h.size

taken : (n : ℕ) → is_collation n ≡ true → IsSome (collation_of n)
taken n e = grind (arith, nat_tests)

can : (t : SegType) (language n : ℕ) (v : List ℕ) → IsSized t n → (is_text t ≡ true → is_collation language ≡ true) → FitsForm (type_form t n) (length v) → CanWeighBy t language n v
can seg.Text language n v size text fits = taken language (text refl)
can seg.Binary language n v size text fits = fits
can seg.ShortInt language n v size text fits = fits ∙ size 2 refl
can seg.LongInt language n v size text fits = fits ∙ size 4 refl
can seg.UshortInt language n v size text fits = fits ∙ size 2 refl
can seg.UlongInt language n v size text fits = fits ∙ size 4 refl
can seg.Longlong language n v size text fits = fits ∙ size 8 refl
can seg.Ulonglong language n v size text fits = fits ∙ size 8 refl
can seg.Int24 language n v size text fits = fits ∙ size 3 refl
can seg.Uint24 language n v size text fits = fits ∙ size 3 refl
can seg.Int8 language n v size text fits = fits ∙ size 1 refl
can seg.VarText language n v size text fits = taken language (text refl)
can seg.VarBinary language n v size text fits = tt

-- what is read as a value of a segment can be weighed, and has few weights
pub value_weighs : (fields : List Field) (s : Segment) (w v : List ℕ) → IsSoundSegment fields s → value_of (segment_form s) w ≡ Some v → CanWeigh s v
unfolding segment_form
value_weighs fields s w v h e = can s.seg s.language s.length v h.size h.collation (value_fits (segment_form s) w v (value_sound (segment_form s) w v e))

pub value_short : (fields : List Field) (s : Segment) (w v : List ℕ) → IsSoundSegment fields s → s.length ≤ 1000 → value_of (segment_form s) w ≡ Some v → length (weights s v) ≤ 1000
value_short fields s w v h le e = let n = weights_few s v h.size (value_weighs fields s w v h e) in omega (arith, n, le)
