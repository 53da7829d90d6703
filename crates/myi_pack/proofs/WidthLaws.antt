-- How many bytes a row of a dynamic table is spelled in.
use Rattle.std.proofs.Common.{◌≡◌, ℕ, ◌+◌, ◌-◌, ◌^◌, ◌<◌, ◌≤◌, ◌==◌, Bool, true, false, if◌then◌else◌, List, [], ◌++◌, length, nat_lt, nat_le, Some, None, refl, subst, arith, length-append}
use Rattle.std.proofs.lemmas.Bool.{and_parts, ltb-true, lt-leb, le-ltb}
use Rattle.std.proofs.Math.Nat.{pow-le-pow_right}
use Rattle.myi_base.specs.Numbers.{low_num_bytes}
use Rattle.myi_base.proofs.CallerLemmas.{length-num_bytes, length-low_num_bytes}
use Rattle.myi_defs.specs.declared.types.RowFormat.{RowFormat}
use Rattle.myi_defs.specs.declared.types.RowFormat.TheVariants.{Dynamic}
use Rattle.myi_defs.specs.declared.types.FieldKind.{FieldKind}
use Rattle.myi_defs.specs.declared.types.FieldKind.TheVariants.{Blob}
use Rattle.myi_defs.specs.declared.types.Field.{Field}
use Rattle.myi_defs.specs.declared.types.Defs.{Defs}
use Rattle.myi_defs.specs.Sound.{IsLengthOf}
use Rattle.myi_pack.specs.Flags.{flag_count, flag_bytes, packed_bits}
use Rattle.myi_pack.specs.Packed.{Values}
use Rattle.myi_pack.specs.Spelling.{varchar_length, field_bytes, packed_length, spelled_fields, flags_of, spelled_row, spelling, fits_field, fits_fields, can_stand, fits}
use Rattle.myi_pack.proofs.FlagLemmas.{length-packed}

-- ---- a field

pub varchar-wide : (n k : ℕ) → 256 < n → 255 ≤ k → length (varchar_length n k) ≡ 3
varchar-wide n k long more =
    let t : nat_le n 256 ≡ false = lt-leb _ _ long in
    let s : nat_lt k 255 ≡ false = le-ltb _ _ more in
    rw (t, s) (omega (arith, length-num_bytes 2 k))

pub blob-width : (n : ℕ) (v : List ℕ) → length (field_bytes Blob n v) ≡ (if length v == 0 then 0 else n - 8 + length v)
blob-width n v = by (length v == 0)
  where
    by : (b : Bool) → length (if b then [] else low_num_bytes (n - 8) (length v) ++ v) ≡ (if b then 0 else n - 8 + length v)
    by true = refl
    by false = omega (arith, length-append (low_num_bytes (n - 8) (length v)) v, length-low_num_bytes (n - 8) (length v))

-- four bytes count a BLOB
pub blob-below : (kind : FieldKind) (n : ℕ) (v : List ℕ) → kind ≡ Blob → IsLengthOf Dynamic kind n → fits_field Dynamic kind n v ≡ true → (n ≤ 12) × (length v < 2 ^ 32)
blob-below kind n v is long fit =
    let narrow : n ≤ 12 = (subst (λ k. IsLengthOf Dynamic k n) is long).2 in
    let few : n - 8 ≤ 4 = omega (arith, narrow) in
    let most : 256 ^ (n - 8) ≤ 256 ^ 4 = pow-le-pow_right (omega arith) few in
    (narrow, omega (arith, most, ltb-true _ _ (subst (λ k. fits_field Dynamic k n v ≡ true) is fit)))

-- ---- the row

-- a row whose bytes were counted is of the form of its fields
pub counted : (fs : List Field) (vs : Values) (n : ℕ) → Some n ≡ packed_length fs vs → (fits_fields Dynamic fs vs ≡ true) × (n ≡ flag_bytes (flag_count fs) + length (spelled_fields Dynamic fs vs))
counted fs vs n e = by (fits_fields Dynamic fs vs) (flag_bytes (flag_count fs) + length (spelled_fields Dynamic fs vs)) e
  where
    by : (b : Bool) (k : ℕ) → Some n ≡ (if b then Some k else None) → (b ≡ true) × (n ≡ k)
    by true k e = (refl, cc)
    by false k e = absurd cc

pub decides-dynamic : (d : Defs) (row : Values) (fs : List Field) (vs : Values) (n : ℕ) → fs ≡ d.fields → vs ≡ row → d.format ≡ Dynamic → fits_fields d.format fs vs ≡ true
    → n ≡ flag_bytes (flag_count fs) + length (spelled_fields Dynamic fs vs) → nat_lt n (2 ^ 32) ≡ fits d row
unfolding fits spelling
decides-dynamic d row fs vs n f v dynamic fit is =
    let P : RowFormat → List Field → Values → Type 0 = λ x y z. fits_fields x y z ≡ true in
    let all : fits_fields Dynamic d.fields row ≡ true = subst (λ x. P x d.fields row) dynamic (subst (P d.format d.fields) v (subst (λ y. P d.format y vs) f fit)) in
    let same : n ≡ flag_bytes (flag_count d.fields) + length (spelled_fields Dynamic d.fields row) = rw (← f, ← v) is in
    let flags = packed_bits (flag_bytes (flag_count d.fields)) (flags_of d.fields row) in
    let long : length (spelled_row Dynamic d row) ≡ n = omega (arith, same, length-append flags (spelled_fields Dynamic d.fields row), length-packed (flag_bytes (flag_count d.fields)) (flags_of d.fields row)) in
    rw (dynamic, all, long) refl

-- of a row that fits this is a part of what it says
pub row-told : (d : Defs) (row : Values) → d.format ≡ Dynamic → fits d row ≡ true → length (spelling d row) < 2 ^ 32
unfolding fits
row-told d row dynamic fit =
    ltb-true _ _ (subst (λ (x : RowFormat). can_stand x d row ≡ true) dynamic (and_parts (fits_fields d.format d.fields row) (can_stand d.format d row) fit).1)
