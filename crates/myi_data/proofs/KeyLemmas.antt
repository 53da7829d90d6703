-- What a row that has the form of its definitions gives the segments of a key.
use Rattle.std.proofs.Common.{◌≡◌, ℕ, zero, suc, ◌+◌, ◌-◌, ◌<◌, ◌≤◌, Bool, true, false, not, ◌&&◌, ◌||◌, eqb, List, [], ◌∷◌, length, map, take, drop, get_or, Option, Some, None, refl, sym, ap, subst, ◌∙◌, arith}
use Rattle.std.specs.Prelude.{IsSome, sum_by, nat_le, if◌then◌else◌}
use Rattle.std.specs.List.{AllByRecursion}
use Rattle.std.specs.Option.{option_map_or}
use Rattle.std.proofs.lemmas.Option.{slice_get-get_or}
use Rattle.std.proofs.lemmas.Bool.{and_parts, leb-true, eqb-true}
use Rattle.std.proofs.lemmas.List.{length-take-le, length-drop, length-map, take_all}
use Rattle.std.proofs.lemmas.List.Sums.{sum_by-cons}
use Rattle.std.proofs.lemmas.List.Elements.{recursion_from_All, All-from_recursion, All-get_or}
use Rattle.myi_defs.specs.declared.types.RowFormat.{RowFormat}
use Rattle.myi_defs.specs.declared.types.RowFormat.TheVariants.{Static, Dynamic}
use Rattle.myi_defs.specs.declared.types.FieldKind.{FieldKind}
use Rattle.myi_defs.specs.declared.types.FieldKind.TheVariants.{Normal, SkipEndspace, SkipPrespace, SkipZero, Blob, Varchar}
use Rattle.myi_defs.specs.declared.types.SegType.{SegType}
use Rattle.myi_defs.specs.declared.types.SegType.TheVariants as types
use Rattle.myi_defs.specs.declared.types.Field.{Field}
use Rattle.myi_defs.specs.declared.types.Segment.{Segment}
use Rattle.myi_defs.specs.declared.types.Key.{Key}
use Rattle.myi_defs.specs.declared.types.Defs.{Defs}
use Rattle.myi_defs.specs.Kinds.{is_fixed, is_variable, is_text, int_size, lies_in}
use Rattle.myi_defs.specs.Sound.{IsSound, IsSoundSegment, IsSoundKey}
use Rattle.myi_pack.specs.Packed.{Values}
use Rattle.myi_pack.specs.Spelling.{fits, fits_field, fits_fields, can_stand}
use Rattle.myi_keys.specs.declared.values.KeySeg.{KeySeg}
use Rattle.myi_keys.specs.declared.values.KeySeg.TheVariants.{Absent, Weights}
use Rattle.myi_keys.specs.Collations.{collation_of}
use Rattle.myi_keys.specs.Weights.{weights, CanWeigh, CanWeighBy}
use Rattle.myi_keys.specs.Limits.{IsSeg, IsKey}
use Rattle.myi_keys.proofs.CallerLemmas.{weights_short}
use Rattle.myi_data.specs.Keys.{AreValues, LiesIn, part_of, start_of, is_absent, content, seg_of, IsKeyNumber, key_at, segments_of, key_of}

-- ---- one value for each field

pub length-row : (format : RowFormat) (fs : List Field) (vs : Values) → fits_fields format fs vs ≡ true → length vs ≡ length fs
length-row format [] [] e = refl
length-row format [] (v ∷ vs) e = absurd cc
length-row format (f ∷ fs) [] e = absurd cc
length-row format (f ∷ fs) (v ∷ vs) e = ap suc (length-row format fs vs (and_parts (fits_field format f.kind f.length v) (fits_fields format fs vs) e).1)

pub field_fits : (format : RowFormat) (fs : List Field) (vs : Values) (i : ℕ) (d : Field) → fits_fields format fs vs ≡ true → i < length fs → fits_field format (get_or fs i d).kind (get_or fs i d).length (get_or vs i []) ≡ true
field_fits format [] vs i d e inside = absurd (omega arith)
field_fits format (f ∷ fs) [] i d e inside = absurd cc
field_fits format (f ∷ fs) (v ∷ vs) zero d e inside = (and_parts (fits_field format f.kind f.length v) (fits_fields format fs vs) e).0
field_fits format (f ∷ fs) (v ∷ vs) (suc i) d e inside = field_fits format fs vs i d (and_parts (fits_field format f.kind f.length v) (fits_fields format fs vs) e).1 (omega arith)

pub start_at : (fs : List Field) (i : ℕ) (d : Field) → i < length fs → start_of fs i ≡ (get_or fs i d).start
start_at [] i d inside = absurd (omega arith)
start_at (f ∷ fs) zero d inside = refl
start_at (f ∷ fs) (suc i) d inside = start_at fs i d (omega arith)

pub fixed_long : (format : RowFormat) (k : FieldKind) (n : ℕ) (v : List ℕ) → is_fixed k ≡ true → fits_field format k n v ≡ true → length v ≡ n
fixed_long Static Normal n v fixed e = eqb-true _ _ e
fixed_long Static SkipEndspace n v fixed e = eqb-true _ _ e
fixed_long Static SkipPrespace n v fixed e = eqb-true _ _ e
fixed_long Static SkipZero n v fixed e = eqb-true _ _ e
fixed_long Static Blob n v fixed e = absurd cc
fixed_long Static Varchar n v fixed e = absurd cc
fixed_long Dynamic Normal n v fixed e = eqb-true _ _ e
fixed_long Dynamic SkipEndspace n v fixed e = eqb-true _ _ e
fixed_long Dynamic SkipPrespace n v fixed e = eqb-true _ _ e
fixed_long Dynamic SkipZero n v fixed e = eqb-true _ _ e
fixed_long Dynamic Blob n v fixed e = absurd cc
fixed_long Dynamic Varchar n v fixed e = absurd cc

-- ---- the content of a segment can be weighed

some_field : Field
some_field = record { kind = Normal; length = 0; start = 0 }

fixed_place : (variable : Bool) (seg : SegType) (start long : ℕ) (k : FieldKind) (at size : ℕ) → is_variable seg ≡ variable → variable ≡ false → lies_in seg start long k at size ≡ true → (is_fixed k ≡ true) × (at ≤ start) × (start + long ≤ at + size)
fixed_place true seg start long k at size is off lies = absurd cc
fixed_place false seg start long k at size is off lies =
    let three : (is_fixed k && nat_le at start && nat_le (start + long) (at + size)) ≡ true = sym (ap (λ (b : Bool). if b then (not (is_fixed k) && eqb at start) else (is_fixed k && nat_le at start && nat_le (start + long) (at + size))) is) ∙ lies in
    let outer = and_parts (is_fixed k && nat_le at start) (nat_le (start + long) (at + size)) three in
    let inner = and_parts (is_fixed k) (nat_le at start) outer.0 in
    (inner.0, leb-true _ _ inner.1, leb-true _ _ outer.1)

module _ (format : RowFormat) (fs : List Field) (vs : Values) (s : Segment) (sound : IsSoundSegment fs s) (fit : fits_fields format fs vs ≡ true) where
  field : Field
  field = get_or fs s.field some_field

  value : List ℕ
  value = get_or vs s.field []

  fixed_length : is_variable s.seg ≡ false → length (content fs vs s) ≡ s.length
  unfolding field value
  fixed_length fixed =
      let place = fixed_place (is_variable s.seg) s.seg s.start s.length field.kind field.start field.length refl fixed (sound.held some_field) in
      let long : length value ≡ field.length = fixed_long format field.kind field.length value place.0 (field_fits format fs vs s.field some_field fit sound.inside) in
      let start : start_of fs s.field ≡ field.start = start_at fs s.field some_field sound.inside in
      let part : content fs vs s ≡ take s.length (drop (s.start - field.start) value) = ap (λ (b : Bool). if b then value else take s.length (drop (s.start - start_of fs s.field) value)) fixed ∙ ap (λ n. take s.length (drop (s.start - n) value)) start in
      ap (λ (b : List ℕ). length b) part ∙ length-take-le s.length (drop (s.start - field.start) value) (omega (arith, place.1, place.2, long, length-drop (s.start - field.start) value))

  lies : is_variable s.seg ≡ false → (field.start ≤ s.start) × (s.start - field.start + s.length ≤ length value)
  unfolding field value
  lies fixed =
      let place = fixed_place (is_variable s.seg) s.seg s.start s.length field.kind field.start field.length refl fixed (sound.held some_field) in
      let long : length value ≡ field.length = fixed_long format field.kind field.length value place.0 (field_fits format fs vs s.field some_field fit sound.inside) in
      (place.1, omega (arith, place.1, place.2, long))

  pub lies_at : (start : ℕ) (v : List ℕ) → start ≡ start_of fs s.field → get_or vs s.field [] ≡ v → LiesIn s start (length v)
  unfolding field value
  lies_at start v at shown fixed =
      let is = lies fixed in
      let here : start ≡ field.start = at ∙ start_at fs s.field some_field sound.inside in
      (omega (arith, is.0, here), omega (arith, is.1, here, ap (λ (b : List ℕ). length b) shown))

  int_length : (n : ℕ) → is_variable s.seg ≡ false → int_size s.seg ≡ Some n → length (content fs vs s) ≡ n
  int_length n fixed is = fixed_length fixed ∙ sound.size n is

  pick : {X : Type 0} (a b c d e f g : Bool) (x1 x2 x3 x4 x5 x6 x7 : X) → (a || b || c || d || e || f || g) ≡ true → IsSome (if a then Some x1 else if b then Some x2 else if c then Some x3 else if d then Some x4 else if e then Some x5 else if f then Some x6 else if g then Some x7 else None)
  pick true b c d e f g x1 x2 x3 x4 x5 x6 x7 h = refl
  pick false true c d e f g x1 x2 x3 x4 x5 x6 x7 h = refl
  pick false false true d e f g x1 x2 x3 x4 x5 x6 x7 h = refl
  pick false false false true e f g x1 x2 x3 x4 x5 x6 x7 h = refl
  pick false false false false true f g x1 x2 x3 x4 x5 x6 x7 h = refl
  pick false false false false false true g x1 x2 x3 x4 x5 x6 x7 h = refl
  pick false false false false false false true x1 x2 x3 x4 x5 x6 x7 h = refl
  pick false false false false false false false x1 x2 x3 x4 x5 x6 x7 h = absurd cc

  has_collation : is_text s.seg ≡ true → IsSome (collation_of s.language)
  has_collation text = pick (eqb s.language 8) (eqb s.language 11) (eqb s.language 46) (eqb s.language 47) (eqb s.language 63) (eqb s.language 65) (eqb s.language 83) _ _ _ _ _ _ _ (sound.collation text)

  by_type : (t : SegType) → s.seg ≡ t → CanWeighBy t s.language s.length (content fs vs s)
  by_type types.Text e = has_collation (ap is_text e)
  by_type types.Binary e = fixed_length (ap is_variable e)
  by_type types.ShortInt e = int_length 2 (ap is_variable e) (ap int_size e)
  by_type types.LongInt e = int_length 4 (ap is_variable e) (ap int_size e)
  by_type types.UshortInt e = int_length 2 (ap is_variable e) (ap int_size e)
  by_type types.UlongInt e = int_length 4 (ap is_variable e) (ap int_size e)
  by_type types.Longlong e = int_length 8 (ap is_variable e) (ap int_size e)
  by_type types.Ulonglong e = int_length 8 (ap is_variable e) (ap int_size e)
  by_type types.Int24 e = int_length 3 (ap is_variable e) (ap int_size e)
  by_type types.Uint24 e = int_length 3 (ap is_variable e) (ap int_size e)
  by_type types.Int8 e = int_length 1 (ap is_variable e) (ap int_size e)
  by_type types.VarText e = has_collation (ap is_text e)
  by_type types.VarBinary e = tt

  pub can_weigh : CanWeigh s (content fs vs s)
  can_weigh = by_type s.seg refl

pub weigh_part : (fs : List Field) (vs : Values) (s : Segment) (start : ℕ) (v part : List ℕ) → IsSoundSegment fs s → AreValues fs vs → start ≡ start_of fs s.field → get_or vs s.field [] ≡ v → part ≡ part_of s start v → CanWeigh s part
weigh_part fs vs s start v part sound fit at value is =
    let same : content fs vs s ≡ part = ap (λ n. part_of s n (get_or vs s.field [])) (sym at) ∙ ap (part_of s start) value ∙ sym is in
    subst (CanWeigh s) same (can_weigh fit.0 fs vs s sound fit.1)

-- the segment lies in the value of its field
pub part_lies : (fs : List Field) (vs : Values) (s : Segment) (start : ℕ) (v : List ℕ) → IsSoundSegment fs s → AreValues fs vs → start ≡ start_of fs s.field → get_or vs s.field [] ≡ v → LiesIn s start (length v)
part_lies fs vs s start v sound fit at shown = lies_at fit.0 fs vs s sound fit.1 start v at shown

-- ---- the key

seg_small : (fs : List Field) (vs : Values) (s : Segment) → CanWeigh s (content fs vs s) → s.length ≤ 1000 → IsSeg (seg_of fs vs s)
unfolding weights
seg_small fs vs s can short = by_absent (is_absent fs vs s)
  where
    by_absent : (b : Bool) → IsSeg (if b then Absent else Weights (weights s (content fs vs s)))
    by_absent true = tt
    by_absent false = let few = weights_short s (content fs vs s) can in omega (arith, few)

segs_small : (format : RowFormat) (fs : List Field) (vs : Values) (ss : List Segment) → fits_fields format fs vs ≡ true → AllByRecursion (IsSoundSegment fs) ss → sum_by (λ s. s.length) ss ≤ 1000 → AllByRecursion IsSeg (map (seg_of fs vs) ss)
segs_small format fs vs [] fit sound short = tt
segs_small format fs vs (s ∷ ss) fit sound short =
    let all : sum_by (λ (t : Segment). t.length) (s ∷ ss) ≡ s.length + sum_by (λ (t : Segment). t.length) ss = sum_by-cons (λ (t : Segment). t.length) s ss in
    (seg_small fs vs s (can_weigh format fs vs s sound.0 fit) (omega (arith, all)), segs_small format fs vs ss fit sound.1 (omega (arith, all)))

pub key_is : (format : RowFormat) (fs : List Field) (rec_ref : ℕ) (vs : Values) (k : Key) → fits_fields format fs vs ≡ true → IsSoundKey fs rec_ref k → IsKey (map (seg_of fs vs) k.segments)
key_is format fs rec_ref vs k fit sound = (
  omega (arith, length-map k.segments (seg_of fs vs), sound.few_segments),
  All-from_recursion IsSeg (map (seg_of fs vs) k.segments) (segs_small format fs vs k.segments fit (recursion_from_All (IsSoundSegment fs) k.segments sound.segments) sound.short),
)

pub key_is_at : (keys : List Key) (k : ℕ) (d : Key) → 0 < k → k ≤ length keys → key_at keys k ≡ Some (get_or keys (k - 1) d)
key_is_at keys zero d some inside = absurd (omega arith)
key_is_at keys (suc i) d some inside =
    let e : i ≡ suc i - 1 = omega arith in
    slice_get-get_or keys i d (omega arith) ∙ ap (λ j. Some (get_or keys j d)) e

pub segments_at : (keys : List Key) (k : ℕ) (d : Key) → 0 < k → k ≤ length keys → segments_of keys k ≡ (get_or keys (k - 1) d).segments
segments_at keys k d some inside = ap (λ (o : Option Key). option_map_or (λ (x : Key). x.segments) o []) (key_is_at keys k d some inside)

pub values_fit : (d : Defs) (row : Values) → fits d row ≡ true → fits_fields d.format d.fields row ≡ true
unfolding fits
values_fit d row e = (and_parts (fits_fields d.format d.fields row) (can_stand d.format d row) e).0

-- the segments of the key are those of the row, and make a key
pub key_made : (d : Defs) (row : Values) (n : ℕ) (fs : List Field) (keys : List Key) (segs : List Segment) (i : ℕ) (parts : List KeySeg) (k : Key) → IsSound d → fits d row ≡ true → fs ≡ d.fields → keys ≡ d.keys → IsKeyNumber d n → k ≡ get_or keys (n - 1) k → segs ≡ k.segments → length segs ≤ i → parts ≡ map (seg_of fs row) (take i segs)
    → IsKey parts × (parts ≡ key_of d n row)
unfolding key_of
key_made d row n fs keys segs i parts k sound fit fields is_keys inside is same all made =
    let here : k ≡ get_or d.keys (n - 1) k = is ∙ ap (λ (ks : List Key). get_or ks (n - 1) k) is_keys in
    let good : IsSoundKey d.fields d.rec_ref k = subst (IsSoundKey d.fields d.rec_ref) (sym here) (All-get_or (IsSoundKey d.fields d.rec_ref) d.keys (n - 1) k (omega (arith, inside.0, inside.1)) sound.keys_sound) in
    let whole : parts ≡ map (seg_of d.fields row) k.segments = made ∙ ap (map (seg_of fs row)) (take_all i segs all ∙ same) ∙ ap (λ (gs : List Field). map (seg_of gs row) k.segments) fields in
    let found : segments_of d.keys n ≡ k.segments = segments_at d.keys n k inside.0 inside.1 ∙ ap (λ (x : Key). x.segments) (sym here) in
    (subst IsKey (sym whole) (key_is d.format d.fields d.rec_ref row k (values_fit d row fit) good), whole ∙ ap (map (seg_of d.fields row)) (sym found))

-- ---- the code of the key

-- the segments of the row's key, all of them
pub key_whole : (d : Defs) (row : Values) (n : ℕ) (fs : List Field) (keys : List Key) (segs : List Segment) (k : Key) → IsSound d → fits d row ≡ true → fs ≡ d.fields → keys ≡ d.keys → IsKeyNumber d n → k ≡ get_or keys (n - 1) k → segs ≡ k.segments
    → IsKey (map (seg_of fs row) segs) × (map (seg_of fs row) segs ≡ key_of d n row)
key_whole d row n fs keys segs k sound fit fields is_keys inside is same =
    key_made d row n fs keys segs (length segs) (map (seg_of fs row) segs) k sound fit fields is_keys inside is same (omega arith) (ap (map (seg_of fs row)) (sym (take_all (length segs) segs (omega arith))))

all_at : (f : Segment → KeySeg) (segs : List Segment) (i : ℕ) (d : Segment) → AllByRecursion IsSeg (map f segs) → i < length segs → IsSeg (f (get_or segs i d))
all_at f [] i d are inside = absurd (omega arith)
all_at f (s ∷ segs) zero d are inside = are.0
all_at f (s ∷ segs) (suc i) d are inside = all_at f segs i d are.1 (omega arith)

pub seg_short : (fs : List Field) (row here : Values) (segs : List Segment) (i : ℕ) (d : Segment) → here ≡ row → IsKey (map (seg_of fs row) segs) → i < length segs → IsSeg (seg_of fs here (get_or segs i d))
seg_short fs row here segs i d same is inside =
    subst (λ (vs : Values). IsSeg (seg_of fs vs (get_or segs i d))) (sym same) (all_at (seg_of fs row) segs i d (recursion_from_All IsSeg (map (seg_of fs row) segs) is.1) inside)

-- the part that is taken is the content in the row
pub part_is : (fs : List Field) (vs : Values) (s : Segment) (start : ℕ) (v part : List ℕ) → start ≡ start_of fs s.field → get_or vs s.field [] ≡ v → part ≡ part_of s start v → part ≡ content fs vs s
part_is fs vs s start v part at value is = is ∙ ap (part_of s start) (sym value) ∙ ap (λ n. part_of s n (get_or vs s.field [])) at
