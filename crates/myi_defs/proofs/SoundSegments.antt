-- What the segments of every table that is not refused keep.
use Rattle.std.proofs.Common.{◌≡◌, ◌≢◌, ℕ, ◌<◌, ◌==◌, Bool, true, false, not, ◌&&◌, ◌||◌, List, length, map, Option, Some, None, is_none, unwrap_or, HoldsAt, slice_index_or, inl, inr, refl, sym, ap, subst, ◌∙◌, arith}
use Rattle.std.specs.List.{list_any, position_or_len}
use Rattle.std.proofs.lemmas.Bool.{cases_lt}
use Rattle.std.proofs.lemmas.Bool.Decides.{nat_tests}
use Rattle.std.proofs.lemmas.List.{length-map, get_or-map}
use Rattle.std.proofs.lemmas.List.Folds.{Any-from_list_any}
use Rattle.std.proofs.lemmas.List.Sums.{passes_at_first, fails_before_first}
use Rattle.myi_defs.specs.declared.types.FieldKind.{FieldKind}
use Rattle.myi_defs.specs.declared.types.FieldKind.TheVariants.{Normal}
use Rattle.myi_defs.specs.declared.types.SegType.{SegType}
use Rattle.myi_defs.specs.declared.types.SegType.TheVariants.{Binary}
use Rattle.myi_defs.specs.declared.types.Field.{Field}
use Rattle.myi_defs.specs.declared.header.SegItem.{SegItem}
use Rattle.myi_defs.specs.declared.header.FieldItem.{FieldItem}
use Rattle.myi_defs.specs.Kinds.{int_size, is_text, is_collation, lies_in, is_plain_at}
use Rattle.myi_defs.specs.Conditions.{is_held_as, is_held, is_plain_as, has_other_size, has_wrong_size, is_misplaced, is_text_as}
use Rattle.myi_defs.specs.ReadDefs.{field_of, segment_of}
use Rattle.myi_defs.specs.Sound.{IsSoundSegment}
use Rattle.myi_defs.proofs.PlaceLemmas.{or_parts, no_item}

-- each field has a kind
abbrev pub HaveKinds : List FieldItem → Type 0
HaveKinds fs = (k : ℕ) (d : FieldItem) → k < length fs → is_none (slice_index_or fs k d).kind ≡ false

held_is : (s : SegItem) (f : FieldItem) (seg : Option SegType) (kind : Option FieldKind) → is_none seg ≡ false → is_none kind ≡ false → is_held_as s f seg kind ≡ lies_in (unwrap_or seg Binary) s.start s.length (unwrap_or kind Normal) f.start f.length
held_is s f None kind some typed = absurd (cc)
held_is s f (Some seg) None some typed = absurd (cc)
held_is s f (Some seg) (Some kind) some typed = refl

plain_is : (place : ℕ) (f : FieldItem) (kind : Option FieldKind) → is_plain_as place f kind ≡ true → is_plain_at place (unwrap_or kind Normal) f.start f.length ≡ true
plain_is place f None same = absurd (cc)
plain_is place f (Some kind) same = same

-- of a list of which one passes the first is there
pub first_inside : {X : Type 0} (p : X → Bool) (xs : List X) → list_any p xs ≡ true → position_or_len p xs < length xs
first_inside p xs some =
    let one = Any-from_list_any p xs some in
    elim (cases_lt (position_or_len p xs) (length xs)) [
      | inl less ↦ less
      | inr most ↦
          let fails = fails_before_first p xs one.0 one.1 (omega (arith, one.2, most)) in
          absurd (let no : true ≡ false = sym one.4 ∙ ap p (sym one.3) ∙ fails in cc)
    ]

other_size : (size : Option ℕ) (length n : ℕ) → size ≡ Some n → has_other_size size length ≡ false → length ≡ n
other_size None length n same right = absurd (cc)
other_size (Some m) length n same right =
    let known : m ≡ n = cc in
    let whole : length ≡ m = grind (arith, nat_tests) in
    whole ∙ known

right_size : (seg : Option SegType) (length n : ℕ) → is_none seg ≡ false → int_size (unwrap_or seg Binary) ≡ Some n → has_wrong_size seg length ≡ false → length ≡ n
right_size None length n some same right = absurd (cc)
right_size (Some seg) length n some same right = other_size (int_size seg) length n same right

and_not : (a b : Bool) → a ≡ true → (a && not b) ≡ false → b ≡ true
and_not true true holds right = refl
and_not true false holds right = absurd (cc)
and_not false b holds right = absurd (cc)

not_false : (b : Bool) → not b ≡ false → b ≡ true
not_false true same = refl
not_false false same = absurd (cc)

-- a segment that may have no value has its byte in a field of plain bytes
right_null : (fs : List FieldItem) (bit place : ℕ) → bit ≢ 0 → (not (bit == 0) && not (list_any (λ (f : FieldItem). is_plain_as place f f.kind) fs)) ≡ false → (k : ℕ) × (k < length (map field_of fs)) × HoldsAt (λ (f : Field). is_plain_at place f.kind f.start f.length ≡ true) (map field_of fs) k
right_null fs bit place nullable right =
    let flagged : not (bit == 0) ≡ true = grind (arith, nat_tests) in
    let somewhere = and_not (not (bit == 0)) (list_any (λ (f : FieldItem). is_plain_as place f f.kind) fs) flagged right in
    let one = Any-from_list_any (λ (f : FieldItem). is_plain_as place f f.kind) fs somewhere in (
      one.0,
      omega (arith, one.2, length-map fs field_of),
      λ d.
          let same = get_or-map field_of fs one.0 one.1 d one.2 ∙ ap field_of one.3 in
          subst (λ (g : Field). is_plain_at place g.kind g.start g.length ≡ true) (sym same) (plain_is place one.1 one.1.kind one.4),
    )

right_collation : (seg : Option SegType) (language : ℕ) → is_none seg ≡ false → is_text (unwrap_or seg Binary) ≡ true → (is_text_as seg && not (is_collation language)) ≡ false → is_collation language ≡ true
right_collation None language some text right = absurd (cc)
right_collation (Some seg) language some text right = and_not (is_text seg) (is_collation language) text right

pub sound_segment : (fs : List FieldItem) (s : SegItem) → HaveKinds fs → is_none s.seg ≡ false → is_misplaced fs s ≡ false → (is_text_as s.seg && not (is_collation s.language)) ≡ false → IsSoundSegment (map field_of fs) (segment_of fs s)
unfolding is_misplaced
sound_segment fs s typed some placed collated =
    let left = or_parts (has_wrong_size s.seg s.length || not (list_any (is_held s) fs)) _ placed in
    let sized = or_parts (has_wrong_size s.seg s.length) _ left.0 in
    let somewhere : list_any (is_held s) fs ≡ true = not_false _ sized.1 in
    let inside = first_inside (is_held s) fs somewhere in
    let count = length-map fs field_of in
    record {
      inside = omega (arith, inside, count);
      held = λ d.
          let at = position_or_len (is_held s) fs in
          let same = get_or-map field_of fs at no_item d inside in
          let holds = passes_at_first (is_held s) fs no_item inside in
          let f = slice_index_or fs at no_item in
          subst (λ (g : Field). lies_in (unwrap_or s.seg Binary) s.start s.length g.kind g.start g.length ≡ true) (sym same)
          (sym (held_is s f s.seg f.kind some (typed at no_item inside)) ∙ holds);
      first = λ k less d.
          let same = get_or-map field_of fs k no_item d (omega (arith, inside, less)) in
          let fails = fails_before_first (is_held s) fs k no_item less in
          let f = slice_index_or fs k no_item in
          subst (λ (g : Field). lies_in (unwrap_or s.seg Binary) s.start s.length g.kind g.start g.length ≡ false) (sym same)
          (sym (held_is s f s.seg f.kind some (typed k no_item (omega (arith, inside, less)))) ∙ fails);
      size = λ n same. right_size s.seg s.length n some same sized.0;
      collation = λ text. right_collation s.seg s.language some text collated;
      null = λ nullable. right_null fs s.null_bit s.null_pos nullable left.1;
    }
