-- The fields of a static row by their numbers: each stands at its start.
use Rattle.std.proofs.Common.{◌≡◌, ℕ, zero, suc, ◌+◌, ◌-◌, ◌<◌, ◌≤◌, Bool, true, false, List, [], ◌∷◌, length, get_or, take, drop, Option, Some, None, refl, sym, ap, subst, ◌∙◌, arith}
use Rattle.std.specs.Prelude.{IsSome, nat_le, if◌then◌else◌, option_and_then}
use Rattle.std.proofs.lemmas.Bool.{leb-true}
use Rattle.std.proofs.lemmas.List.{length-drop, drop-drop}
use Rattle.std.proofs.lemmas.List.Elements.{All-get_or}
use Rattle.myi_defs.specs.declared.types.RowFormat.{RowFormat}
use Rattle.myi_defs.specs.declared.types.RowFormat.TheVariants.{Static}
use Rattle.myi_defs.specs.declared.types.FieldKind.{FieldKind}
use Rattle.myi_defs.specs.declared.types.FieldKind.TheVariants.{Normal, SkipEndspace, SkipPrespace, SkipZero, Blob, Varchar}
use Rattle.myi_defs.specs.declared.types.Field.{Field}
use Rattle.myi_defs.specs.Sound.{IsLengthOf, StartFrom}
use Rattle.myi_pack.specs.Packed.{Values}
use Rattle.myi_pack.specs.Flags.{next_flag}
use Rattle.myi_pack.specs.Unpacking.{Cut, cut, as_value, put_front, then_fields, value_before, filled_varchar, filled_field, field_of, fields_of}
use Rattle.myi_pack.specs.Left.{values_of, values_left, IsPlaced}
use Rattle.myi_pack.proofs.ViewLemmas.{length-values}

-- so many bytes were taken off the front
abbrev Takes : ℕ → List ℕ → Cut → Type 0
Takes n b c = (r : List ℕ × List ℕ) → c ≡ Some r → (r.1 ≡ drop n b) × (n ≤ length b)

cut_off : (n : ℕ) (b : List ℕ) → Takes n b (cut n b)
cut_off n b r is = by (nat_le n (length b)) refl is
  where
    by : (t : Bool) → nat_le n (length b) ≡ t → (if t then Some (take n b, drop n b) else None) ≡ Some r → (r.1 ≡ drop n b) × (n ≤ length b)
    by false e h = absurd cc
    by true e h = (sym (ap (λ (o : Option (List ℕ × List ℕ)). second o) h), leb-true _ _ e)
      where
        second : Option (List ℕ × List ℕ) → List ℕ
        second None = []
        second (Some x) = x.1

varchar_off : (n : ℕ) (b : List ℕ) (c : Cut) → Takes n b c → Takes n b (option_and_then (λ x. value_before (filled_varchar n x.0) x.1) c)
varchar_off n b None t r is = absurd cc
varchar_off n b (Some x) t r is = by (filled_varchar n x.0) is
  where
    by : (f : Cut) → value_before f x.1 ≡ Some r → (r.1 ≡ drop n b) × (n ≤ length b)
    by None h = absurd cc
    by (Some y) h = (sym (ap second h) ∙ (t x refl).0, (t x refl).1)
      where
        second : Option (List ℕ × List ℕ) → List ℕ
        second None = []
        second (Some z) = z.1

filled_off : (kind : FieldKind) (n : ℕ) (b : List ℕ) → Takes n b (filled_field kind n b)
filled_off Normal n b = cut_off n b
filled_off SkipEndspace n b = cut_off n b
filled_off SkipPrespace n b = cut_off n b
filled_off SkipZero n b = cut_off n b
filled_off Blob n b = λ r is. absurd cc
filled_off Varchar n b = varchar_off n b (cut n b) (cut_off n b)

-- the field stands at its start, where the fields before them end at a place
pub record StandsAt (kind : FieldKind) (n start at : ℕ) (b v : List ℕ) : Type 0 where
  pub behind : at ≤ start
  pub inside : start - at ≤ length b
  pub value : as_value (filled_field kind n (drop (start - at) b)) ≡ Some v

front_some : (v : List ℕ) (o : Option (Values × List ℕ)) → IsSome (put_front v o) → IsSome o × (values_of (put_front v o) ≡ v ∷ values_of o)
front_some v None some = absurd cc
front_some v (Some r) some = (refl, refl)

pub then_some : (more : List ℕ → Option (Values × List ℕ)) (c : Cut) → IsSome (then_fields more c) → (r : List ℕ × List ℕ) × (c ≡ Some r) × IsSome (more r.1) × (values_of (then_fields more c) ≡ r.0 ∷ values_of (more r.1))
then_some more None some = absurd cc
then_some more (Some r) some = let s = front_some r.0 (more r.1) some in (r, refl, s.0, s.1)

pub stands_at_start : (fs : List Field) (k : ℕ) (flags b : List ℕ) (at i : ℕ) (d : Field) → StartFrom at fs → IsSome (fields_of Static fs k flags b) → i < length fs
    → StandsAt (get_or fs i d).kind (get_or fs i d).length (get_or fs i d).start at b (get_or (values_left Static fs k flags b) i [])
unfolding field_of
stands_at_start [] k flags b at i d starts some inside = absurd (omega arith)
stands_at_start (f ∷ fs) k flags b at zero d starts some inside =
    let t = then_some (fields_of Static fs (next_flag f.kind k) flags) (filled_field f.kind f.length b) some in
    let none : f.start - at ≡ 0 = omega (arith, starts.0) in
    record {
      behind = omega (arith, starts.0);
      inside = omega (arith, none);
      value = ap (λ n. as_value (filled_field f.kind f.length (drop n b))) none ∙ ap as_value t.1 ∙ sym (ap (λ (vs : Values). Some (get_or vs 0 [])) t.3);
    }
stands_at_start (f ∷ fs) k flags b at (suc i) d starts some inside =
    let t = then_some (fields_of Static fs (next_flag f.kind k) flags) (filled_field f.kind f.length b) some in
    let off = filled_off f.kind f.length b t.0 t.1 in
    let next = stands_at_start fs (next_flag f.kind k) flags t.0.1 (at + f.length) i d starts.1 t.2 (omega arith) in
    let start = (get_or fs i d).start in
    let long : length t.0.1 ≡ length b - f.length = ap length off.0 ∙ length-drop f.length b in
    let same : drop (start - (at + f.length)) t.0.1 ≡ drop (start - at) b = ap (drop (start - (at + f.length))) off.0 ∙ drop-drop (start - (at + f.length)) f.length b ∙ ap (λ n. drop n b) (omega (arith, next.behind)) in
    record {
      behind = omega (arith, next.behind);
      inside = omega (arith, next.behind, next.inside, long, off.1);
      value = ap (λ (x : List ℕ). as_value (filled_field (get_or fs i d).kind (get_or fs i d).length x)) (sym same) ∙ next.value ∙ sym (ap (λ (vs : Values). Some (get_or vs (suc i) [])) t.3);
    }

pub found_some : (c : Cut) (v : List ℕ) → as_value c ≡ Some v → IsSome c
found_some None v is = absurd cc
found_some (Some r) v is = refl

-- what a row with places shows of a field that it has
pub record IsThere (fs : List Field) (b : List ℕ) (row : Values) (i : ℕ) (d : Field) : Type 0 where
  pub inside : i < length fs
  pub few : i < 4096
  pub long : IsLengthOf Static (get_or fs i d).kind (get_or fs i d).length
  pub starts : (get_or fs i d).start ≤ length b
  pub value : as_value (filled_field (get_or fs i d).kind (get_or fs i d).length (drop (get_or fs i d).start b)) ≡ Some (get_or row i [])

static_there : (fs : List Field) (flags b : List ℕ) (i : ℕ) (d : Field) → IsPlaced Static fs flags b → i < length (values_left Static fs 0 flags b) → IsThere fs b (values_left Static fs 0 flags b) i d
static_there fs flags b i d placed has =
    let inside : i < length fs = omega (arith, has, length-values Static fs 0 flags b placed.left.some) in
    let at = stands_at_start fs 0 flags b 0 i d placed.starts placed.left.some inside in
    let start : (get_or fs i d).start - 0 ≡ (get_or fs i d).start = omega arith in
    record {
      inside = inside;
      few = omega (arith, inside, placed.left.few);
      long = All-get_or (λ (f : Field). IsLengthOf Static f.kind f.length) fs i d inside placed.left.lengths;
      starts = omega (arith, at.inside, start);
      value = ap (λ n. as_value (filled_field (get_or fs i d).kind (get_or fs i d).length (drop n b))) (sym start) ∙ at.value;
    }

pub field_there : (format : RowFormat) (fs : List Field) (flags b : List ℕ) (row : Values) (i : ℕ) (d : Field) → format ≡ Static → IsPlaced format fs flags b → values_left format fs 0 flags b ≡ row → i < length row → IsThere fs b row i d
field_there format fs flags b row i d static placed is has =
    let e : values_left Static fs 0 flags b ≡ row = sym (ap (λ (f : RowFormat). values_left f fs 0 flags b) static) ∙ is in
    let P : RowFormat → Type 0 = λ f. IsPlaced f fs flags b in
    subst (λ (r : Values). IsThere fs b r i d) e (static_there fs flags b i d (subst P static placed) (omega (arith, has, ap (λ (r : Values). length r) e)))

same_value : (c : Cut) (v w : List ℕ) → as_value c ≡ Some v → as_value c ≡ Some w → v ≡ w
same_value c v w e h = ap (λ (o : Option (List ℕ)). of o) (sym e ∙ h)
  where
    of : Option (List ℕ) → List ℕ
    of None = []
    of (Some x) = x

pub shown_there : (fs : List Field) (b : List ℕ) (row : Values) (i : ℕ) (d : Field) (v : List ℕ) → IsThere fs b row i d → as_value (filled_field (get_or fs i d).kind (get_or fs i d).length (drop (get_or fs i d).start b)) ≡ Some v → get_or row i [] ≡ v
shown_there fs b row i d v there is = same_value _ _ _ there.value is
