-- Fields one after the other, and at which of them a place can be.
use Rattle.std.proofs.Common.{◌≡◌, ℕ, zero, suc, ◌+◌, ◌<◌, ◌≤◌, ◌==◌, ◌⊎◌, inl, inr, Bool, true, false, not, ◌&&◌, ◌||◌, nat_le, if◌then◌else◌, List, [], ◌∷◌, length, slice_index_or, Option, Some, None, refl, arith}
use Rattle.std.specs.List.{list_any}
use Rattle.std.specs.List.Sorted.{IsNonDecreasingBy}
use Rattle.std.proofs.lemmas.Bool.Decides.{nat_tests}
use Rattle.std.proofs.lemmas.Bool.{false_from_ne_true, cases_lt}
use Rattle.std.proofs.lemmas.List.Folds.{list_any_none}
use Rattle.myi_defs.specs.declared.types.FieldKind.{FieldKind}
use Rattle.myi_defs.specs.declared.types.FieldKind.TheVariants.{Normal, SkipEndspace, SkipPrespace, SkipZero, Blob, Varchar}
use Rattle.myi_defs.specs.declared.types.SegType.{SegType}
use Rattle.myi_defs.specs.declared.header.SegItem.{SegItem}
use Rattle.myi_defs.specs.declared.header.FieldItem.{FieldItem}
use Rattle.myi_defs.specs.Kinds.{is_fixed, is_variable}
use Rattle.myi_defs.specs.Conditions.{ItemsStartFrom, is_empty, is_held_as, is_held, is_plain_as, is_wrong_kind, has_wrong_types, is_dynamic}
use Rattle.myi_defs.specs.declared.header.Outline.{Outline}

pub or_parts : (a b : Bool) → (a || b) ≡ false → (a ≡ false) × (b ≡ false)
or_parts false b same = (refl, same)
or_parts true b same = absurd (cc)

-- of a list of which none passes each fails
pub none_passes : {X : Type 0} (p : X → Bool) (xs : List X) → list_any p xs ≡ false → (k : ℕ) (d : X) → k < length xs → p (slice_index_or xs k d) ≡ false
none_passes p [] none k d inside = absurd (omega arith)
none_passes p (x ∷ xs) none zero d inside = (or_parts _ _ none).0
none_passes p (x ∷ xs) none (suc k) d inside = none_passes p xs (or_parts _ _ none).1 k d (omega arith)

abbrev pub no_item : FieldItem
no_item = record { kind = None; length = 0; start = 0 }

-- a field starts where the one before it ends
pub next_start : (at : ℕ) (fs : List FieldItem) → ItemsStartFrom at fs → (k : ℕ) (d : FieldItem) → suc k < length fs → (slice_index_or fs (suc k) d).start ≡ (slice_index_or fs k d).start + (slice_index_or fs k d).length
next_start at [] starts k d inside = absurd (omega arith)
next_start at (f ∷ []) starts k d inside = absurd (omega arith)
next_start at (f ∷ g ∷ fs) starts zero d inside = omega (arith, starts.0, starts.1.0)
next_start at (f ∷ g ∷ fs) starts (suc k) d inside = next_start (at + f.length) (g ∷ fs) starts.1 k d (omega arith)

least_start : (at : ℕ) (fs : List FieldItem) → ItemsStartFrom at fs → (k : ℕ) (d : FieldItem) → k < length fs → at ≤ (slice_index_or fs k d).start
least_start at [] starts k d inside = absurd (omega arith)
least_start at (f ∷ fs) starts zero d inside = omega (arith, starts.0)
least_start at (f ∷ fs) starts (suc k) d inside = omega (arith, least_start (at + f.length) fs starts.1 k d (omega arith))

pub starts_rise : (at : ℕ) (fs : List FieldItem) → ItemsStartFrom at fs → IsNonDecreasingBy (λ (f : FieldItem). f.start) fs
starts_rise at [] starts i j d before inside = absurd (omega arith)
starts_rise at (f ∷ fs) starts zero zero d before inside = omega arith
starts_rise at (f ∷ fs) starts zero (suc j) d before inside = omega (arith, starts.0, least_start (at + f.length) fs starts.1 j d (omega arith))
starts_rise at (f ∷ fs) starts (suc i) zero d before inside = absurd (omega arith)
starts_rise at (f ∷ fs) starts (suc i) (suc j) d before inside = starts_rise (at + f.length) fs starts.1 i j d (omega arith) (omega arith)

some_length : (f : FieldItem) → is_empty f ≡ false → 0 < f.length
some_length f some = grind (arith, nat_tests)

-- a field that another one, which does not start behind a place, follows but one ends before the place
pub ends_before : (fs : List FieldItem) (place k : ℕ) (d : FieldItem) → ItemsStartFrom 0 fs → list_any is_empty fs ≡ false → suc (suc k) < length fs → (slice_index_or fs (suc (suc k)) d).start ≤ place → (slice_index_or fs k d).start + (slice_index_or fs k d).length < place
ends_before fs place k d starts some inside here =
    let one = next_start 0 fs starts k d (omega arith) in
    let two = next_start 0 fs starts (suc k) d inside in
    let long = some_length (slice_index_or fs (suc k) d) (none_passes is_empty fs some (suc k) d (omega arith)) in
    omega (arith, one, two, long, here)

lies_near : (v x : Bool) (start length at size : ℕ) → (if v then not x && (at == start) else x && nat_le at start && nat_le (start + length) (at + size)) ≡ true → (at ≤ start) × (start ≤ at + size)
lies_near true x start length at size same = (grind (arith, nat_tests), grind (arith, nat_tests))
lies_near false x start length at size same = (grind (arith, nat_tests), grind (arith, nat_tests))

held_near_as : (s : SegItem) (f : FieldItem) (seg : Option SegType) (kind : Option FieldKind) → is_held_as s f seg kind ≡ true → (f.start ≤ s.start) × (s.start ≤ f.start + f.length)
held_near_as s f (Some seg) (Some kind) same = lies_near (is_variable seg) (is_fixed kind) s.start s.length f.start f.length same
held_near_as s f None kind same = absurd (cc)
held_near_as s f (Some seg) None same = absurd (cc)

-- a field that ends before a segment's place or starts behind it does not hold the segment
pub not_held : (s : SegItem) (f : FieldItem) → (f.start + f.length < s.start) ⊎ (s.start < f.start) → is_held s f ≡ false
not_held s f away = false_from_ne_true _ (λ same. let near = held_near_as s f s.seg f.kind same in grind (arith, near, away))

plain_near_as : (place : ℕ) (f : FieldItem) (kind : Option FieldKind) → is_plain_as place f kind ≡ true → (f.start ≤ place) × (place < f.start + f.length)
plain_near_as place f (Some Normal) same = (grind (arith, nat_tests), grind (arith, nat_tests))
plain_near_as place f kind same = absurd (cc)

pub not_plain : (place : ℕ) (f : FieldItem) → (f.start + f.length < place) ⊎ (place < f.start) → is_plain_as place f f.kind ≡ false
not_plain place f away = false_from_ne_true _ (λ same. let near = plain_near_as place f f.kind same in grind (arith, near, away))

-- each fails before a number, from it up to another, and from that on
pub outside_fail : (p : FieldItem → Bool) (fs : List FieldItem) (from to : ℕ) → ((k : ℕ) (d : FieldItem) → k < from → p (slice_index_or fs k d) ≡ false) → ((k : ℕ) (d : FieldItem) → from ≤ k → k < to → p (slice_index_or fs k d) ≡ false) → ((k : ℕ) (d : FieldItem) → to ≤ k → k < length fs → p (slice_index_or fs k d) ≡ false) → list_any p fs ≡ false
outside_fail p fs from to before within after =
    list_any_none p fs (λ k d inside. elim (cases_lt k from) [
      | inl less ↦ before k d less
      | inr more ↦ elim (cases_lt k to) [
        | inl less ↦ within k d more less
        | inr most ↦ after k d most inside
      ]
    ])

kind_not_empty : (dynamic : Bool) (f : FieldItem) (kind : Option FieldKind) → is_wrong_kind dynamic kind f.length ≡ false → is_empty f ≡ false
kind_not_empty dynamic f None right = absurd (cc)
kind_not_empty dynamic f (Some Normal) right = right
kind_not_empty dynamic f (Some SkipEndspace) right = right
kind_not_empty dynamic f (Some SkipPrespace) right = right
kind_not_empty dynamic f (Some SkipZero) right = right
kind_not_empty dynamic f (Some Blob) right = grind (arith, nat_tests)
kind_not_empty dynamic f (Some Varchar) right = grind (arith, nat_tests)

-- a field of a length that its kind can have has some bytes
pub right_not_empty : (dynamic : Bool) (fs : List FieldItem) → list_any (λ (f : FieldItem). is_wrong_kind dynamic f.kind f.length) fs ≡ false → list_any is_empty fs ≡ false
right_not_empty dynamic fs right =
    list_any_none is_empty fs (λ k d inside. kind_not_empty dynamic (slice_index_or fs k d) (slice_index_or fs k d).kind (none_passes (λ (f : FieldItem). is_wrong_kind dynamic f.kind f.length) fs right k d inside))

pub types_not_empty : (o : Outline) → has_wrong_types o ≡ false → list_any is_empty o.fields ≡ false
unfolding has_wrong_types
types_not_empty o right = right_not_empty (is_dynamic o) o.fields (or_parts _ _ (or_parts _ _ right).0).0
