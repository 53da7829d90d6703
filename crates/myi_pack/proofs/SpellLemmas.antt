-- Rows spelled from their views, value by value.
use Rattle.std.proofs.Common.{◌≡◌, ℕ, ◌<◌, Bool, true, false, ◌&&◌, Some, None, List, [], ◌∷◌, ◌++◌, length, drop, refl, sym, ap, ◌∙◌, arith, append_assoc}
use Rattle.myi_defs.specs.declared.types.RowFormat.{RowFormat}
use Rattle.myi_defs.specs.declared.types.RowFormat.TheVariants.{Static}
use Rattle.myi_defs.specs.declared.types.Field.{Field}
use Rattle.myi_pack.specs.declared.fields.FieldView.{FieldView}
use Rattle.myi_pack.specs.Packed.{Values}
use Rattle.myi_pack.specs.Views.{field_value, IsNextShown}
use Rattle.myi_pack.specs.Spelling.{fits_field, fits_fields, slot_bytes, spelled_fields}
use Rattle.myi_pack.proofs.SpellingLemmas.{no_value}

pub next_value : (vs left : Values) (r : ℕ × FieldView) (v : List ℕ) → IsNextShown vs (Some r) left → v ≡ field_value r.0 r.1 → vs ≡ v ∷ left
next_value [] left r v next is = absurd next
next_value (u ∷ us) left r v next is = ap (λ x. x ∷ us) (next.0 ∙ sym is) ∙ ap (λ xs. v ∷ xs) (sym next.1)

pub no_next : (format : RowFormat) (fs : List Field) (i : ℕ) (vs left : Values) → i < length fs → IsNextShown vs None left → fits_fields format (drop i fs) vs ≡ false
no_next format fs i [] left inside next = no_value format fs i [] inside (omega arith)
no_next format fs i (v ∷ vs) left inside next = absurd next

both : (a b : Bool) → (a && b) ≡ true → (a ≡ true) × (b ≡ true)
both true b e = (refl, e)
both false b e = absurd cc

pub slot_fits : (f : Field) (fs gs : List Field) (v : List ℕ) (us vs : Values) → gs ≡ f ∷ fs → us ≡ v ∷ vs → fits_fields Static gs us ≡ true → (fits_field Static f.kind f.length v ≡ true) × (fits_fields Static fs vs ≡ true)
slot_fits f fs gs v us vs g u h =
    let e : (fits_field Static f.kind f.length v && fits_fields Static fs vs) ≡ true = rw (g, u) at h in
    both (fits_field Static f.kind f.length v) (fits_fields Static fs vs) e

pub slot_step : (f : Field) (fs gs : List Field) (v : List ℕ) (us vs : Values) (out after total : List ℕ) → gs ≡ f ∷ fs → us ≡ v ∷ vs → after ≡ out ++ slot_bytes f.kind f.length v → out ++ spelled_fields Static gs us ≡ total → after ++ spelled_fields Static fs vs ≡ total
slot_step f fs gs v us vs out after total g u more so_far =
    ap (λ t. t ++ spelled_fields Static fs vs) more ∙ append_assoc out (slot_bytes f.kind f.length v) (spelled_fields Static fs vs) ∙ (rw (g, u) at so_far)
