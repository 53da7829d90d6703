-- What the loops that write a row do, over plain lists.
use Rattle.std.proofs.Common.{◌≡◌, ℕ, zero, suc, ◌+◌, ◌-◌, ◌%◌, ◌<◌, ◌≤◌, Bool, true, false, not, cond, List, [], ◌∷◌, ◌++◌, length, get_or, drop, replicate, refl, sym, subst, ◌∙◌, arith, length-append}
use Rattle.std.specs.Prelude.{◌&&◌, ◌==◌, nat_le}
use Rattle.std.proofs.lemmas.Bool.{leb-true, eqb-true}
use Rattle.myi_defs.specs.declared.types.RowFormat.{RowFormat}
use Rattle.myi_defs.specs.declared.types.RowFormat.TheVariants.{Static}
use Rattle.std.specs.Prelude.{All}
use Rattle.std.proofs.lemmas.List.{length-replicate}
use Rattle.std.proofs.lemmas.List.Sums.{sum_by-cons}
use Rattle.std.proofs.lemmas.List.Elements.{All-head}
use Rattle.myi_base.specs.Numbers.{low_num_bytes}
use Rattle.myi_base.proofs.CallerLemmas.{length-low_num_bytes}
use Rattle.myi_defs.specs.declared.types.FieldKind.{FieldKind}
use Rattle.myi_defs.specs.declared.types.FieldKind.TheVariants.{Normal, SkipEndspace, SkipPrespace, SkipZero, Blob, Varchar}
use Rattle.myi_defs.specs.declared.types.Field.{Field}
use Rattle.myi_defs.specs.declared.types.Defs.{Defs}
use Rattle.myi_defs.specs.Sound.{IsLengthOf, fields_length}
use Rattle.myi_pack.specs.Lengths.{length_bytes}
use Rattle.myi_pack.specs.Packed.{Values}
use Rattle.myi_pack.specs.Spelling.{slot_bytes, filled, spelling, fits_field, fits_fields, spelled_fields, fits}

pub empty : {A : Type 0} (xs : List A) → length xs < 1 → xs ≡ []
empty [] e = refl
empty (x ∷ xs) e = absurd (omega arith)

-- ---- fields without a value

pub no_value : (format : RowFormat) (fs : List Field) (i : ℕ) (vs : Values) → i < length fs → length vs < 1 → fits_fields format (drop i fs) vs ≡ false
no_value format [] i vs h e = absurd (omega arith)
no_value format (f ∷ fs) zero [] h e = refl
no_value format (f ∷ fs) zero (v ∷ vs) h e = absurd (omega arith)
no_value format (f ∷ fs) (suc i) vs h e = no_value format fs i vs (omega arith) e

-- ---- a slot

pub both : (a b : Bool) → (a && b) ≡ true → (a ≡ true) × (b ≡ true)
both true b e = (refl, e)
both false b e = absurd cc

length-varchar : (n : ℕ) (v : List ℕ) → length v + length_bytes n ≤ n → length (slot_bytes Varchar n v) ≡ n
length-varchar n v h =
    omega (arith, length-append (low_num_bytes (length_bytes n) (length v)) (v ++ replicate (n - (length_bytes n + length v)) 0), length-append v (replicate (n - (length_bytes n + length v)) 0), length-low_num_bytes (length_bytes n) (length v), length-replicate {A = ℕ})

pub length-slot_bytes : (kind : FieldKind) (n : ℕ) (v : List ℕ) → fits_field Static kind n v ≡ true → length (slot_bytes kind n v) ≡ n
length-slot_bytes Normal n v h = eqb-true _ _ h
length-slot_bytes SkipEndspace n v h = eqb-true _ _ h
length-slot_bytes SkipPrespace n v h = eqb-true _ _ h
length-slot_bytes SkipZero n v h = eqb-true _ _ h
length-slot_bytes Blob n v h = absurd cc
length-slot_bytes Varchar n v h = length-varchar n v (leb-true _ _ (both _ _ h).0)

pub length-slots : (fs : List Field) (vs : Values) → fits_fields Static fs vs ≡ true → length (spelled_fields Static fs vs) ≡ fields_length fs
length-slots [] [] h = refl
length-slots [] (v ∷ vs) h = absurd cc
length-slots (f ∷ fs) [] h = absurd cc
length-slots (f ∷ fs) (v ∷ vs) h =
    let b = both _ _ h in
    let one = length-slot_bytes f.kind f.length v b.0 in
    let more = length-slots fs vs b.1 in
    omega (arith, length-append (slot_bytes f.kind f.length v) (spelled_fields Static fs vs), sum_by-cons (λ (g : Field). g.length) f fs)

pub first-low : (w k : ℕ) (rest : List ℕ) → 0 < w → get_or (low_num_bytes w k ++ rest) 0 0 ≡ k % 256
unfolding low_num_bytes
first-low zero k rest h = absurd (omega arith)
first-low (suc w) k rest h = omega arith

pub first-varchar : (n : ℕ) (v : List ℕ) → get_or (slot_bytes Varchar n v) 0 0 ≡ length v % 256
first-varchar n v = first-low (length_bytes n) (length v) _ (some (nat_le n 256))
  where
    some : (b : Bool) → 0 < cond b 1 2
    some true = omega arith
    some false = omega arith

pub first-append : (x y : List ℕ) → 0 < length x → get_or (x ++ y) 0 0 ≡ get_or x 0 0
first-append [] y h = absurd (omega arith)
first-append (a ∷ x) y h = refl

pub first-slots : (fs : List Field) (vs : Values) → 0 < length fs → All (λ f. IsLengthOf Static f.kind f.length) fs → fits_fields Static fs vs ≡ true → 0 < length (spelled_fields Static fs vs)
first-slots [] vs some l h = absurd (omega arith)
first-slots (f ∷ fs) [] some l h = absurd cc
first-slots (f ∷ fs) (v ∷ vs) some l h =
    let one = length-slot_bytes f.kind f.length v (both _ _ h).0 in
    let n : 0 < f.length = positive f.kind f.length (All-head (λ f. IsLengthOf Static f.kind f.length) f fs l) in
    omega (arith, length-append (slot_bytes f.kind f.length v) (spelled_fields Static fs vs))
  where
    positive : (kind : FieldKind) (n : ℕ) → IsLengthOf Static kind n → 0 < n
    positive Normal n p = p
    positive SkipEndspace n p = p
    positive SkipPrespace n p = p
    positive SkipZero n p = p
    positive Blob n p = omega (arith, p.1)
    positive Varchar n p = omega (arith, p.0)

-- a static row that has one value for each field fits where its first byte is not 0
pub fits-static : (d : Defs) (row : Values) → d.format ≡ Static → 0 < length d.fields → All (λ f. IsLengthOf d.format f.kind f.length) d.fields → fits_fields d.format d.fields row ≡ true → fits d row ≡ not (get_or (spelled_fields Static d.fields row) 0 0 == 0)
unfolding fits spelling
fits-static d row e some l h =
    let P : RowFormat → Type 0 = λ x. All (λ (f : Field). IsLengthOf x f.kind f.length) d.fields in
    let Q : RowFormat → Type 0 = λ x. fits_fields x d.fields row ≡ true in
    let h' : fits_fields Static d.fields row ≡ true = subst Q e h in
    let s = first-slots d.fields row some (subst P e l) h' in
    let a : get_or (filled d.slot_length (spelled_fields Static d.fields row)) 0 0 ≡ get_or (spelled_fields Static d.fields row) 0 0 = first-append _ _ s in
    rw (e, h', a) refl

pub written-slots : (out new : List ℕ) (fs gs : List Field) (vs ws : Values) → out ≡ [] → gs ≡ fs → ws ≡ vs → new ≡ out ++ spelled_fields Static gs ws → fits_fields Static fs vs ≡ true → length new ≡ fields_length fs
written-slots out new fs gs vs ws o g w e h = rw (e, o, g, w) (length-slots fs vs h)

pub decides : (d : Defs) (row : Values) (fs : List Field) (vs : Values) (r : Bool) → fs ≡ d.fields → vs ≡ row → d.format ≡ Static → 0 < length d.fields → All (λ f. IsLengthOf d.format f.kind f.length) d.fields
    → fits_fields d.format fs vs ≡ true → r ≡ not (get_or (spelled_fields Static fs vs) 0 0 == 0) → r ≡ fits d row
decides d row fs vs r f v e some l h is =
    let P : List Field → Type 0 = λ x. fits_fields d.format x row ≡ true in
    let Q : Values → Type 0 = λ x. fits_fields d.format fs x ≡ true in
    is ∙ rw (f, v) (sym (fits-static d row e some l (subst P f (subst Q v h))))

pub fits-each : (d : Defs) (row : Values) (format : RowFormat) (fs : List Field) (vs : Values) → fits d row ≡ true → d.format ≡ format → fs ≡ d.fields → vs ≡ row → fits_fields format fs vs ≡ true
unfolding fits
fits-each d row format fs vs h e f v = rw (f, v, ← e) (both _ _ h).0
