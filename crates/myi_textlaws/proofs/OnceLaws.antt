-- A table says one definitions at most, but for the header that they were read from.
use Rattle.std.proofs.Common.{◌≡◌, ℕ, suc, ◌+◌, ◌<◌, true, false, List, [], ◌∷◌, map, All, HoldsAt, refl, sym, ap, subst, ◌∙◌, arith, inl, inr}
use Rattle.std.proofs.lemmas.Bool.{cases_lt}
use Rattle.std.proofs.lemmas.Option.{same_Some}
use Rattle.myi_defs.specs.declared.types.Field.{Field}
use Rattle.myi_defs.specs.declared.types.FieldKind.TheVariants.{Normal}
use Rattle.myi_defs.specs.declared.types.Segment.{Segment}
use Rattle.myi_defs.specs.declared.types.Key.{Key}
use Rattle.myi_defs.specs.declared.types.Defs.{Defs}
use Rattle.myi_defs.specs.declared.header.SegItem.{SegItem}
use Rattle.myi_defs.specs.Kinds.{lies_in}
use Rattle.myi_defs.specs.ReadDefs.{AreDefs}
use Rattle.myi_defs.specs.Sound.{StartFrom, IsSoundSegment, IsSoundKey}
use Rattle.myi_defs.proofs.CallerLemmas.{sound}
use Rattle.myi_deftext.specs.Grammar.{FieldSaid, KeySaid, TableSaid}
use Rattle.myi_textlaws.specs.Said.{said_field, said_segment, said_key, AreSaid}

-- two lists with one first item and one rest
head_of : {A : Type 0} (x y : A) (xs ys : List A) → x ∷ xs ≡ y ∷ ys → x ≡ y
head_of x y xs ys same = cc

tail_of : {A : Type 0} (x y : A) (xs ys : List A) → x ∷ xs ≡ y ∷ ys → xs ≡ ys
tail_of x y xs ys same = cc

both_of : {A : Type 0} (x y : A) (xs ys : List A) → x ≡ y → xs ≡ ys → x ∷ xs ≡ y ∷ ys
both_of x y xs ys first rest = cc

-- ---- the fields

same_fields : (at : ℕ) (fs gs : List Field) → map said_field fs ≡ map said_field gs → StartFrom at fs → StartFrom at gs → fs ≡ gs
same_fields at [] [] same first second = refl
same_fields at [] (g ∷ gs) same first second = absurd (cc)
same_fields at (f ∷ fs) [] same first second = absurd (cc)
same_fields at (f ∷ fs) (g ∷ gs) same first second =
    let said = head_of (said_field f) (said_field g) (map said_field fs) (map said_field gs) same in
    let kind : f.kind ≡ g.kind = ap (λ (x : FieldSaid). x.kind) said in
    let long : f.length ≡ g.length = ap (λ (x : FieldSaid). x.length) said in
    let start : f.start ≡ g.start = first.0 ∙ sym second.0 in
    let rest = same_fields (at + f.length) fs gs (tail_of (said_field f) (said_field g) (map said_field fs) (map said_field gs) same) first.1 (subst (λ n. StartFrom (at + n) gs) (sym long) second.1) in
    both_of f g fs gs (λ i. record { kind = kind i; length = long i; start = start i }) rest

-- ---- the segments

abbrev no_field : Field
no_field = record { kind = Normal; length = 0; start = 0 }

-- the field of a segment does not stand before that of another one which is said the same
not_before : (fields : List Field) (s r : Segment) → r.seg ≡ s.seg → r.start ≡ s.start → r.length ≡ s.length → IsSoundSegment fields s → IsSoundSegment fields r → s.field < r.field → ⊥
not_before fields s r kind start long left right less =
    let none : HoldsAt (λ f. lies_in s.seg s.start s.length f.kind f.start f.length ≡ false) fields s.field =
    subst (λ n. HoldsAt (λ f. lies_in s.seg s.start n f.kind f.start f.length ≡ false) fields s.field) long
    (subst (λ n. HoldsAt (λ f. lies_in s.seg n r.length f.kind f.start f.length ≡ false) fields s.field) start
    (subst (λ k. HoldsAt (λ f. lies_in k r.start r.length f.kind f.start f.length ≡ false) fields s.field) kind (right.first s.field less))) in
    let no : true ≡ false = sym (left.held no_field) ∙ none no_field in
    cc

same_field : (fields : List Field) (s r : Segment) → said_segment s ≡ said_segment r → IsSoundSegment fields s → IsSoundSegment fields r → s.field ≡ r.field
same_field fields s r same left right =
    let kind : s.seg ≡ r.seg = same_Some s.seg r.seg (ap (λ (x : SegItem). x.seg) same) in
    let start : s.start ≡ r.start = ap (λ (x : SegItem). x.start) same in
    let long : s.length ≡ r.length = ap (λ (x : SegItem). x.length) same in
    elim (cases_lt s.field r.field) [
      | inl less ↦ absurd (not_before fields s r (sym kind) (sym start) (sym long) left right less)
      | inr most ↦ elim (cases_lt r.field s.field) [
        | inl less ↦ absurd (not_before fields r s kind start long right left less)
        | inr least ↦ omega arith
      ]
    ]

same_segment : (fields : List Field) (s r : Segment) → said_segment s ≡ said_segment r → IsSoundSegment fields s → IsSoundSegment fields r → s ≡ r
same_segment fields s r same left right =
    let kind : s.seg ≡ r.seg = same_Some s.seg r.seg (ap (λ (x : SegItem). x.seg) same) in
    let language : s.language ≡ r.language = ap (λ (x : SegItem). x.language) same in
    let null_bit : s.null_bit ≡ r.null_bit = ap (λ (x : SegItem). x.null_bit) same in
    let null_pos : s.null_pos ≡ r.null_pos = ap (λ (x : SegItem). x.null_pos) same in
    let long : s.length ≡ r.length = ap (λ (x : SegItem). x.length) same in
    let start : s.start ≡ r.start = ap (λ (x : SegItem). x.start) same in
    let field = same_field fields s r same left right in
    λ i. record { seg = kind i; language = language i; null_bit = null_bit i; null_pos = null_pos i; length = long i; start = start i; field = field i }

same_segments : (fields : List Field) (ss rs : List Segment) → map said_segment ss ≡ map said_segment rs → All (IsSoundSegment fields) ss → All (IsSoundSegment fields) rs → ss ≡ rs
same_segments fields [] [] same left right = refl
same_segments fields [] (r ∷ rs) same left right = absurd (cc)
same_segments fields (s ∷ ss) [] same left right = absurd (cc)
same_segments fields (s ∷ ss) (r ∷ rs) same left right =
    let first = same_segment fields s r (head_of (said_segment s) (said_segment r) (map said_segment ss) (map said_segment rs) same) (left 0 s (omega arith)) (right 0 r (omega arith)) in
    let rest = same_segments fields ss rs (tail_of (said_segment s) (said_segment r) (map said_segment ss) (map said_segment rs) same) (λ i d inside. left (suc i) d (omega arith)) (λ i d inside. right (suc i) d (omega arith)) in
    both_of s r ss rs first rest

-- ---- the keys

abbrev block : Key → ℕ
block k = k.block_length

same_key : (fields : List Field) (p : ℕ) (k j : Key) → said_key k ≡ said_key j → block k ≡ block j → IsSoundKey fields p k → IsSoundKey fields p j → k ≡ j
same_key fields p k j same pages left right =
    let unique : k.unique ≡ j.unique = ap (λ (x : KeySaid). x.unique) same in
    let segments = same_segments fields k.segments j.segments (ap (λ (x : KeySaid). x.segments) same) left.segments right.segments in
    λ i. record { unique = unique i; block_length = pages i; segments = segments i }

same_keys : (fields : List Field) (p : ℕ) (ks js : List Key) → map said_key ks ≡ map said_key js → map block ks ≡ map block js → All (IsSoundKey fields p) ks → All (IsSoundKey fields p) js → ks ≡ js
same_keys fields p [] [] same pages left right = refl
same_keys fields p [] (j ∷ js) same pages left right = absurd (cc)
same_keys fields p (k ∷ ks) [] same pages left right = absurd (cc)
same_keys fields p (k ∷ ks) (j ∷ js) same pages left right =
    let first = same_key fields p k j (head_of (said_key k) (said_key j) (map said_key ks) (map said_key js) same) (head_of (block k) (block j) (map block ks) (map block js) pages) (left 0 k (omega arith)) (right 0 j (omega arith)) in
    let rest = same_keys fields p ks js (tail_of (said_key k) (said_key j) (map said_key ks) (map said_key js) same) (tail_of (block k) (block j) (map block ks) (map block js) pages) (λ i d inside. left (suc i) d (omega arith)) (λ i d inside. right (suc i) d (omega arith)) in
    both_of k j ks js first rest

-- ---- the whole

pub said_once : (t : TableSaid) (d e : Defs) → AreDefs d → AreDefs e → AreSaid t d → AreSaid t e → e ≡ record d { raw = e.raw }
said_once t d e left right one other =
    let sd = sound d left in
    let se = sound e right in
    let format : e.format ≡ d.format = other.format ∙ sym one.format in
    let pointer : e.rec_ref ≡ d.rec_ref = other.pointer ∙ sym one.pointer in
    let fields : e.fields ≡ d.fields = same_fields 0 e.fields d.fields (other.fields ∙ sym one.fields) se.starts sd.starts in
    let keys_sound : All (IsSoundKey d.fields d.rec_ref) e.keys =
    subst (λ p. All (IsSoundKey d.fields p) e.keys) pointer (subst (λ fs. All (IsSoundKey fs e.rec_ref) e.keys) fields se.keys_sound) in
    let keys : e.keys ≡ d.keys = same_keys d.fields d.rec_ref e.keys d.keys (other.keys ∙ sym one.keys) (other.pages ∙ sym one.pages) keys_sound sd.keys_sound in
    let page_pointer : e.key_ref ≡ d.key_ref = other.page_pointer ∙ sym one.page_pointer in
    let row : e.row_length ≡ d.row_length = other.row ∙ sym one.row in
    let slot : e.slot_length ≡ d.slot_length = other.slot ∙ sym one.slot in
    λ i. record { format = format i; fields = fields i; keys = keys i; rec_ref = pointer i; key_ref = page_pointer i; row_length = row i; slot_length = slot i; raw = e.raw }
