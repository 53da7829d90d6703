-- The spelling of a row has a byte.
use Rattle.std.proofs.Common.{◌≡◌, ℕ, ◌+◌, ◌<◌, Bool, true, false, inl, inr, List, [], ◌∷◌, length, refl, ap, subst, ◌∙◌, arith, length-append}
use Rattle.std.specs.Prelude.{All, if◌then◌else◌}
use Rattle.std.specs.List.{AllByRecursion}
use Rattle.std.proofs.lemmas.List.Elements.{recursion_from_All}
use Rattle.std.proofs.lemmas.List.Sums.{sum_by-cons}
use Rattle.myi_defs.specs.declared.types.RowFormat.{RowFormat}
use Rattle.myi_defs.specs.declared.types.RowFormat.TheVariants.{Static, Dynamic}
use Rattle.myi_defs.specs.declared.types.FieldKind.{FieldKind}
use Rattle.myi_defs.specs.declared.types.FieldKind.TheVariants.{Normal, SkipEndspace, SkipPrespace, SkipZero, Blob, Varchar}
use Rattle.myi_defs.specs.declared.types.Field.{Field}
use Rattle.myi_defs.specs.declared.types.Defs.{Defs}
use Rattle.myi_defs.specs.Sound.{IsSound, IsLengthOf}
use Rattle.myi_pack.specs.Lengths.{IsVarcharLength}
use Rattle.myi_defs.specs.Kinds.{has_flag}
use Rattle.myi_pack.specs.Flags.{flag_count, flag_bytes}
use Rattle.myi_pack.specs.Packed.{Values, PacksField, IsDynamicRow, IsRow}
use Rattle.myi_pack.specs.Spelling.{spelling, fits}
use Rattle.myi_pack.proofs.CallerLemmas.{row-spelled}

length_some : (n k : ℕ) (p : List ℕ) → IsVarcharLength n k p → 0 < length p
length_some n k p (inl h) = omega (arith, ap (λ (q : List ℕ). length q) h.1)
length_some n k p (inr h) = omega (arith, ap (λ (q : List ℕ). length q) h.2)

field_some : (kind : FieldKind) (n : ℕ) (bit : Bool) (v x : List ℕ) → has_flag kind ≡ false → IsLengthOf Dynamic kind n → PacksField kind n bit v x → 0 < length x
field_some Normal n bit v x none l h = omega (arith, l, h.0, ap (λ (q : List ℕ). length q) h.1)
field_some SkipEndspace n bit v x none l h = absurd cc
field_some SkipPrespace n bit v x none l h = absurd cc
field_some SkipZero n bit v x none l h = absurd cc
field_some Blob n bit v x none l h = absurd cc
field_some Varchar n bit v x none l h = omega (arith, length_some n (length v) h.0 h.2, ap (λ (q : List ℕ). length q) h.3, length-append h.0 v)

flags_some : (f : Field) (fs : List Field) (b : Bool) → has_flag f.kind ≡ b → b ≡ true → 0 < flag_bytes (flag_count (f ∷ fs))
flags_some f fs b e is =
    let one : flag_count (f ∷ fs) ≡ (if has_flag f.kind then 1 else 0) + flag_count fs = sum_by-cons (λ (g : Field). if has_flag g.kind then 1 else 0) f fs in
    let two : flag_count (f ∷ fs) ≡ 1 + flag_count fs = one ∙ ap (λ (c : Bool). (if c then 1 else 0) + flag_count fs) (e ∙ is) in
    omega (arith, two)

dynamic_some : (fs : List Field) (v : Values) (b : List ℕ) → 0 < length fs → AllByRecursion (λ f. IsLengthOf Dynamic f.kind f.length) fs → IsDynamicRow fs v b → 0 < length b
dynamic_some [] v b some l h = absurd (omega arith)
dynamic_some (f ∷ fs) [] b some l h = absurd h.fields
dynamic_some (f ∷ fs) (v ∷ vs) b some l h = flagged (has_flag f.kind) refl
  where
    long : length b ≡ length h.flags + length h.content
    long = ap (λ (q : List ℕ). length q) h.whole ∙ length-append h.flags h.content

    flagged : (c : Bool) → has_flag f.kind ≡ c → 0 < length b
    flagged true e = omega (arith, long, h.count, flags_some f fs true e refl)
    flagged false e =
        let x = h.fields.0 in
        let one : 0 < length x = field_some f.kind f.length _ v x e l.0 h.fields.3 in
        omega (arith, long, one, ap (λ (q : List ℕ). length q) h.fields.2, length-append x h.fields.1)

pub spelling_some : (d : Defs) (v : Values) → IsSound d → fits d v ≡ true → 0 < length (spelling d v)
spelling_some d v s f = of_format d.format refl (row-spelled d v s f)
  where
    of_format : (format : RowFormat) → d.format ≡ format → IsRow format d v (spelling d v) → 0 < length (spelling d v)
    of_format Static e h = omega (arith, h.slot, s.slot_pointer e)
    of_format Dynamic e h =
        let lengths : All (λ (g : Field). IsLengthOf Dynamic g.kind g.length) d.fields = subst (λ (t : RowFormat). All (λ (g : Field). IsLengthOf t g.kind g.length) d.fields) e s.lengths in
        dynamic_some d.fields v (spelling d v) s.some_fields (recursion_from_All (λ (g : Field). IsLengthOf Dynamic g.kind g.length) d.fields lengths) h
