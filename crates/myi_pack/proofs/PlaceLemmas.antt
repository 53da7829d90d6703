-- The places of the fields of a dynamic row: the bytes behind a field are the end of the row's bytes, and
-- where a field begins, the next one begins behind it.
use Rattle.std.proofs.Common.{◌≡◌, ℕ, zero, suc, ◌+◌, ◌-◌, ◌<◌, ◌≤◌, Bool, true, false, List, [], ◌∷◌, ◌++◌, length, get_or, drop, Some, None, refl, sym, ap, subst, ◌∙◌, arith, length-append}
use Rattle.std.specs.Prelude.{IsSome, if◌then◌else◌}
use Rattle.std.proofs.lemmas.List.{length-drop, drop-drop, get_or-drop}
use Rattle.std.proofs.Math.Seq.{drop-append_seam, drop-cons}
use Rattle.myi_base.specs.Numbers.{AreBytes}
use Rattle.myi_base.proofs.CallerLemmas.{bytes-drop}
use Rattle.myi_defs.specs.declared.types.RowFormat.{RowFormat}
use Rattle.myi_defs.specs.declared.types.RowFormat.TheVariants.{Dynamic}
use Rattle.myi_defs.specs.declared.types.FieldKind.TheVariants.{Normal}
use Rattle.myi_defs.specs.declared.types.Field.{Field}
use Rattle.myi_defs.specs.Kinds.{has_flag}
use Rattle.myi_defs.specs.Sound.{IsLengthOf}
use Rattle.myi_pack.specs.declared.places.FieldPlace.{FieldPlace}
use Rattle.myi_pack.specs.Packed.{Values}
use Rattle.myi_pack.specs.Flags.{flag_at, next_flag}
use Rattle.myi_pack.specs.Unpacking.{Cut, field_of, fields_of}
use Rattle.myi_pack.specs.Left.{values_left, IsLeft, IsPlaced}
use Rattle.myi_pack.specs.Places.{first_place, place_of, IsBegun, AreBegun}
use Rattle.myi_pack.proofs.FieldLaws.{packed-takes}
use Rattle.myi_pack.proofs.ViewLemmas.{length-values}
use Rattle.myi_pack.proofs.NumberedLemmas.{then_some}

-- ---- the bytes behind a field

ends_with : (at : ℕ) (b x r : List ℕ) → at ≤ length b → drop at b ≡ x ++ r → (length r ≤ length b) × (drop (length b - length r) b ≡ r)
ends_with at b x r inside e =
    let long : length b - at ≡ length x + length r = sym (length-drop at b) ∙ ap length e ∙ length-append x r in
    let from : length b - length r ≡ at + length x = omega (arith, long, inside) in
    (omega (arith, long), ap (λ n. drop n b) from ∙ sym (drop-drop (length x) at b) ∙ ap (drop (length x)) e ∙ drop-append_seam x r)

ends_behind : (f : Field) (bit : Bool) (b : List ℕ) (at : ℕ) (v r : List ℕ) → IsLengthOf Dynamic f.kind f.length → AreBytes b → at ≤ length b → field_of Dynamic f bit (drop at b) ≡ Some (v, r) → (length r ≤ length b) × (drop (length b - length r) b ≡ r)
unfolding field_of
ends_behind f bit b at v r long bytes inside is =
    let t = packed-takes f.kind f.length bit (drop at b) v r long (bytes-drop at b bytes) is in
    ends_with at b t.0 r inside t.1

pub cut_ends : (f : Field) (bit t : Bool) (b : List ℕ) (at : ℕ) (x v r : List ℕ) → IsLengthOf Dynamic f.kind f.length → AreBytes b → at ≤ length b → bit ≡ t → x ≡ drop at b → field_of Dynamic f bit x ≡ Some (v, r)
    → (length r ≤ length b) × (field_of Dynamic f t (drop at b) ≡ Some (v, drop (length b - length r) b))
cut_ends f bit t b at x v r long bytes inside e front cut =
    let is : field_of Dynamic f t (drop at b) ≡ Some (v, r) = ap (λ t. field_of Dynamic f t (drop at b)) (sym e) ∙ ap (field_of Dynamic f bit) (sym front) ∙ cut in
    let ends = ends_behind f t b at v r long bytes inside is in
    (ends.0, is ∙ ap (λ (y : List ℕ). Some (v, y)) (sym ends.1))

-- ---- one field on

-- what the first of the fields that are left shows
pub record IsFirst (f : Field) (fs : List Field) (k : ℕ) (flags b : List ℕ) : Type 0 where
  pub long : IsLengthOf Dynamic f.kind f.length
  pub few : k < 4096
  pub cut : List ℕ × List ℕ
  pub found : field_of Dynamic f (flag_at flags k) b ≡ Some cut
  pub left : IsLeft Dynamic fs (next_flag f.kind k) flags cut.1
  pub values : values_left Dynamic (f ∷ fs) k flags b ≡ cut.0 ∷ values_left Dynamic fs (next_flag f.kind k) flags cut.1

next_few : (t : Bool) (k : ℕ) → (if t then k + 1 else k) ≤ k + 1
next_few true k = omega arith
next_few false k = omega arith

pub first_left : (f : Field) (fs : List Field) (k : ℕ) (flags b : List ℕ) → IsLeft Dynamic (f ∷ fs) k flags b → IsFirst f fs k flags b
first_left f fs k flags b h =
    let t = then_some (fields_of Dynamic fs (next_flag f.kind k) flags) (field_of Dynamic f (flag_at flags k) b) h.some in
    record {
      long = h.lengths 0 f (omega arith);
      few = omega (arith, h.few);
      cut = t.0;
      found = t.1;
      left = record { some = t.2; lengths = λ i d lt. h.lengths (suc i) d (omega arith); few = omega (arith, h.few, next_few (has_flag f.kind) k) };
      values = t.3;
    }

-- ---- the places of all fields

begun_at : (fs : List Field) (flags b : List ℕ) (k : ℕ) (places : List FieldPlace) (i : ℕ) (d : FieldPlace) → AreBegun fs flags b k places → i < length places → IsBegun fs flags b (k + i) (get_or places i d)
begun_at fs flags b k [] i d h lt = absurd (omega arith)
begun_at fs flags b k (p ∷ places) zero d h lt = subst (λ n. IsBegun fs flags b n p) (omega arith) h.0
begun_at fs flags b k (p ∷ places) (suc i) d h lt = subst (λ n. IsBegun fs flags b n (get_or places i d)) (omega arith) (begun_at fs flags b (suc k) places i d h.1 (omega arith))

pub begun_push : (fs : List Field) (flags b : List ℕ) (k : ℕ) (places : List FieldPlace) (p : FieldPlace) → AreBegun fs flags b k places → IsBegun fs flags b (k + length places) p → AreBegun fs flags b k (places ++ p ∷ [])
begun_push fs flags b k [] p h next = (subst (λ n. IsBegun fs flags b n p) (omega arith) next, tt)
begun_push fs flags b k (q ∷ places) p h next = (h.0, begun_push fs flags b (suc k) places p h.1 (subst (λ n. IsBegun fs flags b n p) (omega arith) next))

pub place_begun : (fs : List Field) (flags b : List ℕ) (behind : List FieldPlace) (i : ℕ) → IsLeft Dynamic fs 0 flags b → AreBegun fs flags b 1 behind → i ≤ length behind → IsBegun fs flags b i (place_of behind i)
place_begun fs flags b behind zero left h le = record { inside = omega arith; left = left; values = refl }
place_begun fs flags b behind (suc i) left h le = subst (λ n. IsBegun fs flags b n (get_or behind i first_place)) (omega arith) (begun_at fs flags b 1 behind i first_place h (omega arith))

-- what indexing a list of fields answers behind its end
abbrev pub no_field : Field
no_field = record { kind = Normal; length = 0; start = 0 }

-- what a field shows at its place, and where the next one begins
pub record IsHere (fs : List Field) (flags b : List ℕ) (i : ℕ) (place : FieldPlace) : Type 0 where
  pub long : IsLengthOf Dynamic (get_or fs i no_field).kind (get_or fs i no_field).length
  pub inside : place.begin ≤ length b
  pub few : place.flag < 4294967296
  pub found : IsSome (field_of Dynamic (get_or fs i no_field) (flag_at flags place.flag) (drop place.begin b))
  pub value : (v r : List ℕ) → field_of Dynamic (get_or fs i no_field) (flag_at flags place.flag) (drop place.begin b) ≡ Some (v, r) → get_or (values_left Dynamic fs 0 flags b) i [] ≡ v
  pub next : (v : List ℕ) (p : FieldPlace) → field_of Dynamic (get_or fs i no_field) (flag_at flags place.flag) (drop place.begin b) ≡ Some (v, drop p.begin b) → p.begin ≤ length b → p.flag ≡ next_flag (get_or fs i no_field).kind place.flag → IsBegun fs flags b (suc i) p

is_some_of : (c : Cut) (r : List ℕ × List ℕ) → c ≡ Some r → IsSome c
is_some_of None r e = absurd cc
is_some_of (Some x) r e = refl

same_cut : (c : Cut) (x y : List ℕ × List ℕ) → c ≡ Some x → c ≡ Some y → x ≡ y
same_cut c x y e h = ap of (sym e ∙ h)
  where
    of : Cut → List ℕ × List ℕ
    of None = x
    of (Some z) = z

pub field_here : (fs : List Field) (flags b : List ℕ) (i : ℕ) (place : FieldPlace) → i < length fs → IsBegun fs flags b i place → IsHere fs flags b i place
field_here fs flags b i place inside begun =
    let f = get_or fs i no_field in
    let rest = drop (suc i) fs in
    let x = drop place.begin b in
    let row = values_left Dynamic fs 0 flags b in
    let parts : drop i fs ≡ f ∷ rest = drop-cons fs i no_field inside in
    let s = first_left f rest place.flag flags x (subst (λ (gs : List Field). IsLeft Dynamic gs place.flag flags x) parts begun.left) in
    let values : s.cut.0 ∷ values_left Dynamic rest (next_flag f.kind place.flag) flags s.cut.1 ≡ drop i row =
    sym s.values ∙ ap (λ (gs : List Field). values_left Dynamic gs place.flag flags x) (sym parts) ∙ begun.values in
    let here : i ≡ i + 0 = omega arith in
    let value : get_or row i [] ≡ s.cut.0 = ap (λ n. get_or row n []) here ∙ sym (get_or-drop i row 0 []) ∙ sym (ap (λ (vs : Values). get_or vs 0 []) values) in
    let after : i + 1 ≡ suc i = omega arith in
    let others : values_left Dynamic rest (next_flag f.kind place.flag) flags s.cut.1 ≡ drop (suc i) row = ap (λ (vs : Values). drop 1 vs) values ∙ drop-drop 1 i row ∙ ap (λ n. drop n row) after in
    record {
      long = s.long;
      inside = begun.inside;
      few = omega (arith, s.few);
      found = is_some_of _ s.cut s.found;
      value = λ v r is. value ∙ ap (λ (c : List ℕ × List ℕ). c.0) (same_cut _ s.cut (v, r) s.found is);
      next = λ v p is within flag.
          let behind : s.cut.1 ≡ drop p.begin b = ap (λ (c : List ℕ × List ℕ). c.1) (same_cut _ s.cut (v, drop p.begin b) s.found is) in
          record {
            inside = within;
            left = subst (λ (y : List ℕ). IsLeft Dynamic rest p.flag flags y) behind (subst (λ k. IsLeft Dynamic rest k flags s.cut.1) (sym flag) s.left);
            values = ap (λ k. values_left Dynamic rest k flags (drop p.begin b)) flag ∙ ap (values_left Dynamic rest (next_flag f.kind place.flag) flags) (sym behind) ∙ others;
          };
    }

pub next_here : (fs : List Field) (flags b : List ℕ) (behind shown : List FieldPlace) (i : ℕ) (place : FieldPlace) → IsLeft Dynamic fs 0 flags b → AreBegun fs flags b 1 behind → shown ≡ behind → i ≤ length behind → i < length fs → place ≡ place_of shown i
    → IsHere fs flags b i place
next_here fs flags b behind shown i place left h same le inside is =
    field_here fs flags b i place inside (subst (λ (p : FieldPlace). IsBegun fs flags b i p) (ap (λ (ps : List FieldPlace). place_of ps i) (sym same) ∙ sym is) (place_begun fs flags b behind i left h le))

pub pushed_begun : (fs : List Field) (flags b : List ℕ) (behind new : List FieldPlace) (i : ℕ) (place : FieldPlace) (v : List ℕ) (p : FieldPlace) → IsHere fs flags b i place → AreBegun fs flags b 1 behind → i ≡ length behind
    → field_of Dynamic (get_or fs i no_field) (flag_at flags place.flag) (drop place.begin b) ≡ Some (v, drop p.begin b) → p.begin ≤ length b → p.flag ≡ next_flag (get_or fs i no_field).kind place.flag → new ≡ behind ++ p ∷ [] → AreBegun fs flags b 1 new
pushed_begun fs flags b behind new i place v p here h last is within flag e =
    let at : suc i ≡ 1 + length behind = omega (arith, last) in
    let next = subst (λ n. IsBegun fs flags b n p) at (here.next v p is within flag) in
    subst (λ (ps : List FieldPlace). AreBegun fs flags b 1 ps) (sym e) (begun_push fs flags b 1 behind p h next)

-- the row is dynamic, and has a field i
pub record HasField (fs : List Field) (flags b : List ℕ) (row : Values) (i : ℕ) : Type 0 where
  pub inside : i < length fs
  pub left : IsLeft Dynamic fs 0 flags b
  pub is : values_left Dynamic fs 0 flags b ≡ row

pub has_field : (format : RowFormat) (fs : List Field) (flags b : List ℕ) (row : Values) (i : ℕ) → format ≡ Dynamic → IsPlaced format fs flags b → values_left format fs 0 flags b ≡ row → i < length row → HasField fs flags b row i
has_field format fs flags b row i dynamic placed is has =
    let P : RowFormat → Type 0 = λ f. IsLeft f fs 0 flags b in
    record {
      inside = omega (arith, has, ap (λ (r : Values). length r) is, length-values format fs 0 flags b placed.left.some);
      left = subst P dynamic placed.left;
      is = sym (ap (λ (f : RowFormat). values_left f fs 0 flags b) dynamic) ∙ is;
    }
