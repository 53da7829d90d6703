-- The spelling of a whole row packs it, no packing is shorter, and what is packed fits.
use Rattle.std.proofs.Common.{◌≡◌, ◌≢◌, ℕ, zero, suc, ◌+◌, ◌-◌, ◌<◌, ◌≤◌, Bool, true, false, not, cond, List, [], ◌∷◌, ◌++◌, length, get_or, replicate, Some, refl, sym, ap, subst, ◌∙◌, arith, length-append, append_assoc}
use Rattle.std.specs.Prelude.{◌&&◌, ◌==◌, ◌^◌, nat_le, nat_lt, slice_index, All, option_and_then}
use Rattle.std.proofs.lemmas.Bool.{ne_eqb, lt-ltb}
use Rattle.std.proofs.lemmas.List.{length-replicate}
use Rattle.std.proofs.lemmas.List.Elements.{All-head}
use Rattle.myi_base.specs.Numbers.{low_num_bytes}
use Rattle.myi_defs.specs.declared.types.RowFormat.{RowFormat}
use Rattle.myi_defs.specs.declared.types.RowFormat.TheVariants.{Static, Dynamic}
use Rattle.myi_defs.specs.declared.types.FieldKind.{FieldKind}
use Rattle.myi_defs.specs.declared.types.FieldKind.TheVariants.{Normal, SkipEndspace, SkipPrespace, SkipZero, Blob, Varchar}
use Rattle.myi_defs.specs.declared.types.Field.{Field}
use Rattle.myi_defs.specs.declared.types.Defs.{Defs}
use Rattle.myi_defs.specs.Sound.{IsLengthOf, IsSound}
use Rattle.myi_pack.specs.Lengths.{length_bytes}
use Rattle.myi_defs.specs.Kinds.{has_flag}
use Rattle.myi_pack.specs.Flags.{flag_at, next_flag, flag_count, flag_bytes, packed_bits}
use Rattle.myi_pack.specs.Packed.{Values, PacksField, FillsField, HoldsField, HoldsFields, IsDynamicRow, IsStaticRow, IsRow, Packs}
use Rattle.myi_pack.specs.Unpacking.{row_of, ended, fields_of, parts_of}
use Rattle.myi_pack.specs.Spelling.{field_flag, field_bytes, slot_bytes, spelled_fields, flags_of, filled, spelled_row, spelling, fits_field, fits_fields, can_stand, fits}
use Rattle.myi_pack.proofs.FlagLemmas.{few-flags, flag-packed, length-packed, bytes-packed, spare-packed}
use Rattle.myi_pack.proofs.SpellingLemmas.{both, length-slot_bytes, length-slots, first-low, first-varchar, first-append, first-slots}
use Rattle.myi_pack.proofs.SpellingLaws.{field-spelled, field-least, field-fits, slot-spelled, slot-fits, and}
use Rattle.myi_pack.proofs.RowLaws.{dynamic-again, static-again}

-- ---- the fields

bit-free : (kind : FieldKind) (n : ℕ) (b c : Bool) (v x : List ℕ) → has_flag kind ≡ false → PacksField kind n b v x → PacksField kind n c v x
bit-free Normal n b c v x e h = h
bit-free SkipEndspace n b c v x e h = absurd cc
bit-free SkipPrespace n b c v x e h = absurd cc
bit-free SkipZero n b c v x e h = absurd cc
bit-free Blob n b c v x e h = absurd cc
bit-free Varchar n b c v x e h = h

pub fields-spelled : (fs : List Field) (k : ℕ) (flags : List ℕ) (vs : Values) → fits_fields Dynamic fs vs ≡ true → ((i : ℕ) → i < length (flags_of fs vs) → flag_at flags (k + i) ≡ get_or (flags_of fs vs) i false)
    → HoldsFields Dynamic fs k flags vs (spelled_fields Dynamic fs vs)
fields-spelled [] k flags [] fit h = refl
fields-spelled [] k flags (v ∷ vs) fit h = absurd cc
fields-spelled (f ∷ fs) k flags [] fit h = absurd cc
fields-spelled (f ∷ fs) k flags (v ∷ vs) fit h =
    let b = both _ _ fit in
    let s = field-spelled f.kind f.length v b.0 in
    by (has_flag f.kind) refl s h (λ k' g. fields-spelled fs k' flags vs b.1 g)
  where
    by : (b : Bool) → has_flag f.kind ≡ b → PacksField f.kind f.length (field_flag f.kind f.length v) v (field_bytes f.kind f.length v)
        → ((i : ℕ) → i < length (cond b (field_flag f.kind f.length v ∷ flags_of fs vs) (flags_of fs vs)) → flag_at flags (k + i) ≡ get_or (cond b (field_flag f.kind f.length v ∷ flags_of fs vs) (flags_of fs vs)) i false)
        → ((k' : ℕ) → ((i : ℕ) → i < length (flags_of fs vs) → flag_at flags (k' + i) ≡ get_or (flags_of fs vs) i false) → HoldsFields Dynamic fs k' flags vs (spelled_fields Dynamic fs vs))
        → (x : List ℕ) × (y : List ℕ) × (field_bytes f.kind f.length v ++ spelled_fields Dynamic fs vs ≡ x ++ y) × PacksField f.kind f.length (flag_at flags k) v x × HoldsFields Dynamic fs (cond b (k + 1) k) flags vs y
    by true e s h more =
        let first : flag_at flags k ≡ field_flag f.kind f.length v = ap (flag_at flags) (omega arith) ∙ h 0 (omega arith) in
        let P : Bool → Type 0 = λ t. PacksField f.kind f.length t v (field_bytes f.kind f.length v) in
        (field_bytes f.kind f.length v, spelled_fields Dynamic fs vs, refl, subst P (sym first) s, more (k + 1) (λ i lt. ap (flag_at flags) (omega arith) ∙ h (suc i) (omega arith)))
    by false e s h more = (field_bytes f.kind f.length v, spelled_fields Dynamic fs vs, refl, bit-free f.kind f.length _ _ v _ e s, more k h)

pub slots-spelled : (fs : List Field) (k : ℕ) (flags : List ℕ) (vs : Values) → fits_fields Static fs vs ≡ true → HoldsFields Static fs k flags vs (spelled_fields Static fs vs)
slots-spelled [] k flags [] fit = refl
slots-spelled [] k flags (v ∷ vs) fit = absurd cc
slots-spelled (f ∷ fs) k flags [] fit = absurd cc
slots-spelled (f ∷ fs) k flags (v ∷ vs) fit =
    let b = both _ _ fit in
    (slot_bytes f.kind f.length v, spelled_fields Static fs vs, refl, slot-spelled f.kind f.length v b.0, slots-spelled fs (next_flag f.kind k) flags vs b.1)

pub fields-least : (fs : List Field) (k : ℕ) (flags : List ℕ) (vs : Values) (y : List ℕ) → HoldsFields Dynamic fs k flags vs y → length (spelled_fields Dynamic fs vs) ≤ length y
fields-least [] k flags [] y h = omega arith
fields-least [] k flags (v ∷ vs) y h = absurd h
fields-least (f ∷ fs) k flags [] y h = absurd h
fields-least (f ∷ fs) k flags (v ∷ vs) y h =
    let one = field-least f.kind f.length (flag_at flags k) v h.0 h.3 in
    let more = fields-least fs (next_flag f.kind k) flags vs h.1 h.4 in
    omega (arith, ap length h.2, length-append h.0 h.1, length-append (field_bytes f.kind f.length v) (spelled_fields Dynamic fs vs))

held-fits : (format : RowFormat) (kind : FieldKind) (n : ℕ) (bit : Bool) (v x : List ℕ) → HoldsField format kind n bit v x → fits_field format kind n v ≡ true
held-fits Static kind n bit v x h = slot-fits kind n v x h
held-fits Dynamic kind n bit v x h = field-fits kind n bit v x h

pub fields-fit : (format : RowFormat) (fs : List Field) (k : ℕ) (flags : List ℕ) (vs : Values) (y : List ℕ) → HoldsFields format fs k flags vs y → fits_fields format fs vs ≡ true
fields-fit format [] k flags [] y h = refl
fields-fit format [] k flags (v ∷ vs) y h = absurd h
fields-fit format (f ∷ fs) k flags [] y h = absurd h
fields-fit format (f ∷ fs) k flags (v ∷ vs) y h = and _ _ (held-fits format f.kind f.length (flag_at flags k) v h.0 h.3) (fields-fit format fs (next_flag f.kind k) flags vs h.1 h.4)

-- ---- a dynamic row

spelled-dynamic : (fs : List Field) (vs : Values) → fits_fields Dynamic fs vs ≡ true → IsDynamicRow fs vs (packed_bits (flag_bytes (flag_count fs)) (flags_of fs vs) ++ spelled_fields Dynamic fs vs)
spelled-dynamic fs vs fit =
    let n = flag_bytes (flag_count fs) in
    let bits = flags_of fs vs in
    let few = few-flags fs vs in
    record {
      flags = packed_bits n bits;
      content = spelled_fields Dynamic fs vs;
      whole = refl;
      count = length-packed n bits;
      spare = λ k le. spare-packed n bits k (omega arith);
      fields = fields-spelled fs 0 (packed_bits n bits) vs fit (λ i lt. ap (flag_at (packed_bits n bits)) (omega arith) ∙ flag-packed n bits i (omega arith));
    }

dynamic-least : (fs : List Field) (vs : Values) (b : List ℕ) → IsDynamicRow fs vs b → length (packed_bits (flag_bytes (flag_count fs)) (flags_of fs vs) ++ spelled_fields Dynamic fs vs) ≤ length b
dynamic-least fs vs b h =
    omega (
      arith,
      ap length h.whole,
      length-append h.flags h.content,
      h.count,
      length-append (packed_bits (flag_bytes (flag_count fs)) (flags_of fs vs)) (spelled_fields Dynamic fs vs),
      length-packed (flag_bytes (flag_count fs)) (flags_of fs vs),
      fields-least fs 0 h.flags vs h.content h.fields,
    )

-- ---- a static row

first-filled : (kind : FieldKind) (n : ℕ) (v x : List ℕ) → 0 < n → FillsField kind n v x → (0 < length x) × (get_or x 0 0 ≡ get_or (slot_bytes kind n v) 0 0)
first-filled Normal n v x some h = (omega (arith, ap length h.1, h.0), ap (λ (y : List ℕ). get_or y 0 0) h.1)
first-filled SkipEndspace n v x some h = (omega (arith, ap length h.1, h.0), ap (λ (y : List ℕ). get_or y 0 0) h.1)
first-filled SkipPrespace n v x some h = (omega (arith, ap length h.1, h.0), ap (λ (y : List ℕ). get_or y 0 0) h.1)
first-filled SkipZero n v x some h = (omega (arith, ap length h.1, h.0), ap (λ (y : List ℕ). get_or y 0 0) h.1)
first-filled Blob n v x some h = absurd h
first-filled Varchar n v x some h =
    let e : x ≡ low_num_bytes (length_bytes n) (length v) ++ (v ++ h.1) = h.5 ∙ ap (λ (y : List ℕ). y ++ (v ++ h.1)) h.3.1 in
    (omega (arith, h.4), ap (λ (y : List ℕ). get_or y 0 0) e ∙ first-low (length_bytes n) (length v) (v ++ h.1) (width (nat_le n 256)) ∙ sym (first-varchar n v))
  where
    width : (b : Bool) → 0 < cond b 1 2
    width true = omega arith
    width false = omega arith

positive : (kind : FieldKind) (n : ℕ) → IsLengthOf Static kind n → 0 < n
positive Normal n p = p
positive SkipEndspace n p = p
positive SkipPrespace n p = p
positive SkipZero n p = p
positive Blob n p = omega (arith, p.1)
positive Varchar n p = omega (arith, p.0)

first-held : (fs : List Field) (k : ℕ) (flags : List ℕ) (vs : Values) (y rest : List ℕ) → 0 < length fs → All (λ f. IsLengthOf Static f.kind f.length) fs → HoldsFields Static fs k flags vs y → get_or (y ++ rest) 0 0 ≡ get_or (spelled_fields Static fs vs) 0 0
first-held [] k flags vs y rest some l h = absurd (omega arith)
first-held (f ∷ fs) k flags [] y rest some l h = absurd h
first-held (f ∷ fs) k flags (v ∷ vs) y rest some l h =
    let n = positive f.kind f.length (All-head (λ f. IsLengthOf Static f.kind f.length) f fs l) in
    let one = first-filled f.kind f.length v h.0 n h.3 in
    let fit = length-slot_bytes f.kind f.length v (slot-fits f.kind f.length v h.0 h.3) in
    let e : y ++ rest ≡ h.0 ++ (h.1 ++ rest) = ap (λ (z : List ℕ). z ++ rest) h.2 ∙ append_assoc h.0 h.1 rest in
    ap (λ (z : List ℕ). get_or z 0 0) e ∙ first-append h.0 (h.1 ++ rest) one.0 ∙ one.1 ∙ sym (first-append (slot_bytes f.kind f.length v) (spelled_fields Static fs vs) (omega arith))

length-filled : (n : ℕ) (x : List ℕ) → length x ≤ n → length (filled n x) ≡ n
length-filled n x h = omega (arith, length-append x (replicate (n - length x) 0), length-replicate {A = ℕ})

spelled-static : (d : Defs) (row : Values) → d.format ≡ Static → IsSound d → fits_fields Static d.fields row ≡ true → slice_index (filled d.slot_length (spelled_fields Static d.fields row)) 0 ≢ 0 → IsStaticRow d.fields d.slot_length row (filled d.slot_length (spelled_fields Static d.fields row))
spelled-static d row e sound fit told =
    let n = length-slots d.fields row fit in
    let long = sound.long_slot e in
    record {
      content = spelled_fields Static d.fields row;
      rest = replicate (d.slot_length - length (spelled_fields Static d.fields row)) 0;
      whole = refl;
      slot = length-filled d.slot_length (spelled_fields Static d.fields row) (omega (arith, sound.total));
      read = told;
      fields = slots-spelled d.fields 0 [] row fit;
    }

-- ---- the row

not-zero : (x : ℕ) → not (x == 0) ≡ true → x ≢ 0
not-zero zero e z = absurd cc
not-zero (suc x) e z = omega arith

told-zero : (x : ℕ) → x ≢ 0 → not (x == 0) ≡ true
told-zero x h = let e : (x == 0) ≡ false = ne_eqb x 0 h in rw e refl

pub row-spelled : (d : Defs) (row : Values) → IsSound d → fits d row ≡ true → Packs d row (spelling d row)
unfolding fits spelling
row-spelled d row sound h = by d.format refl h
  where
    by : (format : RowFormat) → d.format ≡ format → (fits_fields format d.fields row && can_stand format d row) ≡ true → IsRow format d row (spelled_row format d row)
    by Static e t =
        let b = both (fits_fields Static d.fields row) (not (slice_index (spelled_row d.format d row) 0 == 0)) t in
        let P : RowFormat → Type 0 = λ format. slice_index (spelled_row format d row) 0 ≢ 0 in
        spelled-static d row e sound b.0 (subst P e (not-zero _ b.1))
    by Dynamic e t = spelled-dynamic d.fields row (both (fits_fields Dynamic d.fields row) (nat_lt (length (spelled_row d.format d row)) (2 ^ 32)) t).0

pub row-reads : (d : Defs) (row : Values) → IsSound d → fits d row ≡ true → row_of d (spelling d row) ≡ Some row
unfolding fits spelling row_of spelled-dynamic
row-reads d row sound h = by d.format refl h
  where
    by : (format : RowFormat) → d.format ≡ format → (fits_fields format d.fields row && can_stand format d row) ≡ true → option_and_then (λ p. ended format (fields_of format d.fields 0 p.0 p.1)) (parts_of format d (spelled_row format d row)) ≡ Some row
    by Static e t =
        let b = both (fits_fields Static d.fields row) (not (slice_index (spelled_row d.format d row) 0 == 0)) t in
        let P : RowFormat → Type 0 = λ format. slice_index (spelled_row format d row) 0 ≢ 0 in
        static-again d row (spelled_row Static d row) (spelled-static d row e sound b.0 (subst P e (not-zero _ b.1)))
    by Dynamic e t =
        dynamic-again d row (spelled_row Dynamic d row) (spelled-dynamic d.fields row (both (fits_fields Dynamic d.fields row) (nat_lt (length (spelled_row d.format d row)) (2 ^ 32)) t).0) (bytes-packed (flag_bytes (flag_count d.fields)) (flags_of d.fields row))

pub row-least : (d : Defs) (row : Values) (b : List ℕ) → IsSound d → Packs d row b → length (spelling d row) ≤ length b
unfolding spelling
row-least d row b sound h = by d.format refl h
  where
    by : (format : RowFormat) → d.format ≡ format → IsRow format d row b → length (spelled_row format d row) ≤ length b
    by Static e t =
        let n = length-slots d.fields row (fields-fit Static d.fields 0 [] row t.content t.fields) in
        let long = sound.long_slot e in
        omega (arith, t.slot, sound.total, length-filled d.slot_length (spelled_fields Static d.fields row) (omega (arith, sound.total)))
    by Dynamic e t = dynamic-least d.fields row b t

-- no packing is shorter than the spelling
pub row-fits : (d : Defs) (row : Values) (b : List ℕ) → IsSound d → Packs d row b → (d.format ≡ Dynamic → length b < 2 ^ 32) → fits d row ≡ true
unfolding fits spelling
row-fits d row b sound h short = by d.format refl h
  where
    by : (format : RowFormat) → d.format ≡ format → IsRow format d row b → (fits_fields format d.fields row && can_stand format d row) ≡ true
    by Static e t =
        let fit = fields-fit Static d.fields 0 [] row t.content t.fields in
        let L : RowFormat → Type 0 = λ format. All (λ (f : Field). IsLengthOf format f.kind f.length) d.fields in
        let l = subst L e sound.lengths in
        let some = first-slots d.fields row sound.some_fields l fit in
        let spelled : slice_index (spelled_row Static d row) 0 ≡ slice_index b 0 =
        first-append (spelled_fields Static d.fields row) (replicate (d.slot_length - length (spelled_fields Static d.fields row)) 0) some
        ∙ sym (first-held d.fields 0 [] row t.content t.rest sound.some_fields l t.fields) ∙ ap (λ (y : List ℕ). get_or y 0 0) (sym t.whole) in
        let told : slice_index (spelled_row Static d row) 0 ≢ 0 = λ z. t.read (sym spelled ∙ z) in
        let P : RowFormat → Type 0 = λ format. slice_index (spelled_row format d row) 0 ≢ 0 in
        and _ _ fit (told-zero _ (subst P (sym e) told))
    by Dynamic e t =
        let fit = fields-fit Dynamic d.fields 0 t.flags row t.content t.fields in
        and _ _ fit (lt-ltb _ _ (omega (arith, short e, dynamic-least d.fields row b t, ap (λ (f : RowFormat). length (spelled_row f d row)) e)))
