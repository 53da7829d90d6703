-- What every table that is not refused keeps.
use Rattle.std.proofs.Common.{◌≡◌, ◌≢◌, ℕ, ◌+◌, ◌*◌, ◌<◌, ◌≤◌, ◌%◌, ◌==◌, nat_lt, Bool, true, false, not, ◌&&◌, ◌||◌, if◌then◌else◌, List, [], ◌∷◌, length, map, Option, Some, None, is_none, unwrap_or, All, sum_by, slice_index_or, refl, sym, ap, subst, ◌∙◌, arith}
use Rattle.std.specs.List.{list_any}
use Rattle.std.proofs.lemmas.Bool.{ltb-false}
use Rattle.std.proofs.lemmas.Bool.Decides.{nat_tests}
use Rattle.std.proofs.lemmas.List.{length-take-le, length-map}
use Rattle.std.proofs.lemmas.List.Elements.{All-map}
use Rattle.std.proofs.lemmas.List.Sums.{sum_by-cons}
use Rattle.myi_base.specs.Numbers.{num_at}
use Rattle.myi_defs.specs.declared.types.RowFormat.TheVariants.{Static, Dynamic}
use Rattle.myi_defs.specs.declared.types.FieldKind.{FieldKind}
use Rattle.myi_defs.specs.declared.types.FieldKind.TheVariants.{Normal, SkipEndspace, SkipPrespace, SkipZero, Blob, Varchar}
use Rattle.myi_defs.specs.declared.types.Field.{Field}
use Rattle.myi_defs.specs.declared.types.Segment.{Segment}
use Rattle.myi_defs.specs.declared.types.Key.{Key}
use Rattle.myi_defs.specs.declared.types.Defs.{Defs}
use Rattle.myi_defs.specs.declared.header.Front.{Front}
use Rattle.myi_defs.specs.declared.header.Base.{Base}
use Rattle.myi_defs.specs.declared.header.SegItem.{SegItem}
use Rattle.myi_defs.specs.declared.header.KeyItem.{KeyItem}
use Rattle.myi_defs.specs.declared.header.FieldItem.{FieldItem}
use Rattle.myi_defs.specs.declared.header.Outline.{Outline}
use Rattle.myi_defs.specs.Header.{front, header, base, outline, key_items, keys_place, fields_place}
use Rattle.myi_defs.specs.Kinds.{seg_cost, is_collation}
use Rattle.myi_defs.specs.Conditions.{ItemsStartFrom, has_bit, is_dynamic, has_wrong_front, has_wrong_segments, has_wrong_keys, has_wrong_fields, has_wrong_row, is_wrong_length, is_wrong_kind, has_wrong_types, has_wrong_segment, is_misplaced, has_wrong_place, is_text_as, has_wrong_collation, most_key, has_wrong_pages, has_wrong_blocks, has_wrong_pointers, has_long_keys}
use Rattle.myi_defs.specs.ReadDefs.{is_short, has_wrong_lengths, field_of, segment_of, key_of, definitions, AreDefs}
use Rattle.myi_defs.specs.Layout.{base_place}
use Rattle.myi_defs.specs.Sound.{IsLengthOf, StartFrom, fields_length, IsSoundSegment, key_most, IsSoundKey, IsSound}
use Rattle.myi_defs.proofs.HeaderLemmas.{length-key_items, length-field_items, field_items-start}
use Rattle.myi_defs.proofs.PlaceLemmas.{or_parts, none_passes}
use Rattle.myi_defs.proofs.ReadLemmas.{Passes, refusal-passes, accepted, raw-is, is_short-false}
use Rattle.myi_defs.proofs.SoundSegments.{HaveKinds, sound_segment}

-- the fields

starts-map : (at : ℕ) (fs : List FieldItem) → ItemsStartFrom at fs → StartFrom at (map field_of fs)
starts-map at [] starts = tt
starts-map at (f ∷ fs) starts = (starts.0, starts-map (at + f.length) fs starts.1)

fields_length-map : (fs : List FieldItem) → fields_length (map field_of fs) ≡ sum_by (λ (f : FieldItem). f.length) fs
fields_length-map [] = refl
fields_length-map (f ∷ fs) =
    let here = sum_by-cons (λ (f : FieldItem). f.length) f fs in
    let there = sum_by-cons (λ (f : Field). f.length) (field_of f) (map field_of fs) in
    let rest = fields_length-map fs in
    omega (arith, here, there, rest)

right_length : (dynamic : Bool) (kind : FieldKind) (n : ℕ) → is_wrong_length dynamic kind n ≡ false → IsLengthOf (if dynamic then Dynamic else Static) kind n
right_length dynamic Normal n right = grind (arith, nat_tests)
right_length dynamic SkipEndspace n right = grind (arith, nat_tests)
right_length dynamic SkipPrespace n right = grind (arith, nat_tests)
right_length dynamic SkipZero n right = grind (arith, nat_tests)
right_length true Blob n right = (refl, grind (arith, nat_tests), grind (arith, nat_tests))
right_length false Blob n right = absurd (cc)
right_length dynamic Varchar n right = (grind (arith, nat_tests), grind (arith, nat_tests))

right_kind : (dynamic : Bool) (kind : Option FieldKind) (n : ℕ) → is_wrong_kind dynamic kind n ≡ false → IsLengthOf (if dynamic then Dynamic else Static) (unwrap_or kind Normal) n
right_kind dynamic None n right = absurd (cc)
right_kind dynamic (Some kind) n right = right_length dynamic kind n right

has_kind : (dynamic : Bool) (kind : Option FieldKind) (n : ℕ) → is_wrong_kind dynamic kind n ≡ false → is_none kind ≡ false
has_kind dynamic None n right = absurd (cc)
has_kind dynamic (Some kind) n right = refl

lengths-map : (dynamic : Bool) (fs : List FieldItem) → list_any (λ (f : FieldItem). is_wrong_kind dynamic f.kind f.length) fs ≡ false → All (λ (f : Field). IsLengthOf (if dynamic then Dynamic else Static) f.kind f.length) (map field_of fs)
lengths-map dynamic fs right =
    All-map (λ (f : Field). IsLengthOf (if dynamic then Dynamic else Static) f.kind f.length) field_of fs
    (λ k d inside. right_kind dynamic (slice_index_or fs k d).kind (slice_index_or fs k d).length (none_passes (λ (f : FieldItem). is_wrong_kind dynamic f.kind f.length) fs right k d inside))

have_kinds : (dynamic : Bool) (fs : List FieldItem) → list_any (λ (f : FieldItem). is_wrong_kind dynamic f.kind f.length) fs ≡ false → HaveKinds fs
have_kinds dynamic fs right = λ k d inside.
    has_kind dynamic (slice_index_or fs k d).kind (slice_index_or fs k d).length (none_passes (λ (f : FieldItem). is_wrong_kind dynamic f.kind f.length) fs right k d inside)

-- the keys

lengths_same : (fs : List FieldItem) (ss : List SegItem) → sum_by (λ (s : Segment). s.length) (map (segment_of fs) ss) ≡ sum_by (λ (s : SegItem). s.length) ss
lengths_same fs [] = refl
lengths_same fs (s ∷ ss) =
    let here = sum_by-cons (λ (s : SegItem). s.length) s ss in
    let there = sum_by-cons (λ (s : Segment). s.length) (segment_of fs s) (map (segment_of fs) ss) in
    let rest = lengths_same fs ss in
    omega (arith, here, there, rest)

costs_same : (fs : List FieldItem) (ss : List SegItem) → key_most (map (segment_of fs) ss) ≡ sum_by (λ (s : SegItem). seg_cost s.length) ss
costs_same fs [] = refl
costs_same fs (s ∷ ss) =
    let here = sum_by-cons (λ (s : SegItem). seg_cost s.length) s ss in
    let there = sum_by-cons (λ (s : Segment). seg_cost s.length) (segment_of fs s) (map (segment_of fs) ss) in
    let rest = costs_same fs ss in
    omega (arith, here, there, rest)

counts_same : (fs : List FieldItem) (ks : List KeyItem) → sum_by (λ (k : Key). length k.segments) (map (key_of fs) ks) ≡ sum_by (λ (k : KeyItem). length k.segments) ks
counts_same fs [] = refl
counts_same fs (k ∷ ks) =
    let here = sum_by-cons (λ (k : KeyItem). length k.segments) k ks in
    let there = sum_by-cons (λ (k : Key). length k.segments) (key_of fs k) (map (key_of fs) ks) in
    let rest = counts_same fs ks in
    let count = length-map k.segments (segment_of fs) in
    omega (arith, here, there, rest, count)

-- what the conditions say of one key
record KeyFacts (fs : List FieldItem) (rec_ref : ℕ) (k : KeyItem) : Type 0 where
  pub count : has_wrong_segments k ≡ false
  pub typed : list_any (λ (s : SegItem). is_none s.seg) k.segments ≡ false
  pub placed : list_any (is_misplaced fs) k.segments ≡ false
  pub collated : list_any (λ (s : SegItem). is_text_as s.seg && not (is_collation s.language)) k.segments ≡ false
  pub pages : has_wrong_pages rec_ref k ≡ false
  pub short : sum_by (λ (s : SegItem). s.length) k.segments ≤ 1000

page_facts : (rec_ref : ℕ) (k : KeyItem) → has_wrong_pages rec_ref k ≡ false → (k.block_length % 1024 ≡ 0) × (1024 ≤ k.block_length) × (k.block_length ≤ 16384) × (2 * (most_key k + 13 + rec_ref) + 9 ≤ k.block_length)
page_facts rec_ref k right =
    let a = or_parts _ (nat_lt k.block_length (2 * (most_key k + 13 + rec_ref) + 9)) right in
    let b = or_parts _ (nat_lt 16384 k.block_length) a.0 in
    let e = or_parts _ (nat_lt k.block_length 1024) b.0 in
    (grind (arith, nat_tests), ltb-false _ _ e.1, ltb-false _ _ b.1, ltb-false _ _ a.1)

sound_key : (fs : List FieldItem) (rec_ref : ℕ) (k : KeyItem) → HaveKinds fs → KeyFacts fs rec_ref k → IsSoundKey (map field_of fs) rec_ref (key_of fs k)
sound_key fs rec_ref k typed fact =
    let ss = k.segments in
    let count = length-map ss (segment_of fs) in
    let few = or_parts (length ss == 0) (nat_lt 16 (length ss)) fact.count in
    let page = page_facts rec_ref k fact.pages in
    record {
      some_segments = let some : length ss ≢ 0 = grind (arith, nat_tests) in omega (arith, count, some);
      few_segments = omega (arith, count, ltb-false _ _ few.1);
      segments = All-map (IsSoundSegment (map field_of fs)) (segment_of fs) ss (λ i d inside.
          sound_segment fs (slice_index_or ss i d) typed
          (none_passes (λ (s : SegItem). is_none s.seg) ss fact.typed i d inside)
          (none_passes (is_misplaced fs) ss fact.placed i d inside)
          (none_passes (λ (s : SegItem). is_text_as s.seg && not (is_collation s.language)) ss fact.collated i d inside));
      short = omega (arith, lengths_same fs ss, fact.short);
      whole_block = page.0;
      some_block = page.1;
      short_block = page.2;
      room = omega (arith, costs_same fs ss, page.3);
    }

-- what the conditions say of the whole

lengths_facts : (o : Outline) → has_wrong_lengths o ≡ false → (has_wrong_front o.front ≡ false) × (has_wrong_keys o.front o.keys ≡ false) × (has_wrong_fields o.front o.base (fields_place o.front o.keys) ≡ false) × (has_wrong_row o.front o.base ≡ false)
unfolding has_wrong_lengths
lengths_facts o right =
    let a = or_parts _ (has_wrong_row o.front o.base) right in
    let b = or_parts _ (has_wrong_fields o.front o.base (fields_place o.front o.keys)) a.0 in
    let e = or_parts (has_wrong_front o.front) (has_wrong_keys o.front o.keys) b.0 in
    (e.0, e.1, b.1, a.1)

front_facts : (f : Front) → has_wrong_front f ≡ false → (f.base_pos ≡ base_place f.keys f.page_sizes f.key_parts) × (f.base_pos + 100 ≤ f.header_length) × (f.keys ≤ 64)
unfolding has_wrong_front
front_facts f right = (grind (arith, nat_tests), grind (arith, nat_tests), grind (arith, nat_tests))

keys_facts : (f : Front) (ks : List KeyItem) → has_wrong_keys f ks ≡ false → (list_any has_wrong_segments ks ≡ false) × (sum_by (λ (k : KeyItem). length k.segments) ks ≤ f.key_parts)
unfolding has_wrong_keys
keys_facts f ks right =
    let a = or_parts _ (nat_lt f.header_length (fields_place f ks)) right in
    let b = or_parts (list_any has_wrong_segments ks) (nat_lt f.key_parts (sum_by (λ (k : KeyItem). length k.segments) ks)) a.0 in
    (b.0, ltb-false _ _ b.1)

count_facts : (f : Front) (b : Base) (place : ℕ) → has_wrong_fields f b place ≡ false → (0 < b.fields) × (b.fields ≤ 4096)
unfolding has_wrong_fields
count_facts f b place right = (grind (arith, nat_tests), grind (arith, nat_tests))

some_row : (n : ℕ) → (n == 0) ≡ false → 0 < n
some_row n some = grind (arith, nat_tests)

and_static : (dynamic b : Bool) → dynamic ≡ false → (not dynamic && b) ≡ false → b ≡ false
and_static false b static right = right
and_static true b static right = absurd (cc)

row_facts : (f : Front) (b : Base) → has_wrong_row f b ≡ false → (0 < b.row_length) × (b.row_length ≤ 1048576) × (has_bit 1 f.options ≡ false → b.row_length ≤ b.slot_length) × (has_bit 1 f.options ≡ false → b.slot_length ≤ 1048576)
unfolding has_wrong_row
row_facts f b right =
    let a = or_parts ((b.row_length == 0) || nat_lt 1048576 b.row_length) _ right in
    let e = or_parts (b.row_length == 0) (nat_lt 1048576 b.row_length) a.0 in (
      some_row b.row_length e.0,
      ltb-false _ _ e.1,
      λ static. ltb-false _ _ (or_parts _ _ (and_static (has_bit 1 f.options) _ static a.1)).0,
      λ static. ltb-false _ _ (or_parts _ _ (and_static (has_bit 1 f.options) _ static a.1)).1,
    )

types_facts : (o : Outline) → has_wrong_types o ≡ false → (list_any (λ (f : FieldItem). is_wrong_kind (is_dynamic o) f.kind f.length) o.fields ≡ false) × (sum_by (λ (f : FieldItem). f.length) o.fields ≤ o.base.row_length)
unfolding has_wrong_types
types_facts o right =
    let a = or_parts (list_any (λ (f : FieldItem). is_wrong_kind (is_dynamic o) f.kind f.length) o.fields || nat_lt o.base.row_length (sum_by (λ (f : FieldItem). f.length) o.fields)) _ right in
    let b = or_parts (list_any (λ (f : FieldItem). is_wrong_kind (is_dynamic o) f.kind f.length) o.fields) (nat_lt o.base.row_length (sum_by (λ (f : FieldItem). f.length) o.fields)) a.0 in
    (b.0, ltb-false _ _ b.1)

pointer_facts : (o : Outline) → has_wrong_pointers o ≡ false → (2 ≤ o.base.rec_ref) × (o.base.rec_ref ≤ 8) × (1 ≤ o.base.key_ref) × (o.base.key_ref ≤ 8) × (is_dynamic o ≡ false → o.base.rec_ref + 1 ≤ o.base.slot_length)
unfolding has_wrong_pointers
pointer_facts o right =
    let b = o.base in
    let p = or_parts (nat_lt b.rec_ref 2 || nat_lt 8 b.rec_ref || nat_lt b.key_ref 1 || nat_lt 8 b.key_ref) _ right in
    let q = or_parts (nat_lt b.rec_ref 2 || nat_lt 8 b.rec_ref || nat_lt b.key_ref 1) (nat_lt 8 b.key_ref) p.0 in
    let r = or_parts (nat_lt b.rec_ref 2 || nat_lt 8 b.rec_ref) (nat_lt b.key_ref 1) q.0 in
    let s = or_parts (nat_lt b.rec_ref 2) (nat_lt 8 b.rec_ref) r.0 in
    (ltb-false _ _ s.0, ltb-false _ _ s.1, ltb-false _ _ r.1, ltb-false _ _ q.1, λ static. ltb-false _ _ (and_static (is_dynamic o) _ static p.1))

block_facts : (o : Outline) → has_wrong_blocks o ≡ false → list_any (has_wrong_pages o.base.rec_ref) o.keys ≡ false
unfolding has_wrong_blocks
block_facts o right = right

long_facts : (o : Outline) → has_long_keys o ≡ false → list_any (λ (k : KeyItem). nat_lt 1000 (sum_by (λ (s : SegItem). s.length) k.segments)) o.keys ≡ false
unfolding has_long_keys
long_facts o right = right

segment_facts : (o : Outline) → has_wrong_segment o ≡ false → list_any (λ (k : KeyItem). list_any (λ (s : SegItem). is_none s.seg) k.segments) o.keys ≡ false
unfolding has_wrong_segment
segment_facts o right = right

place_facts : (o : Outline) → has_wrong_place o ≡ false → list_any (λ (k : KeyItem). list_any (is_misplaced o.fields) k.segments) o.keys ≡ false
unfolding has_wrong_place
place_facts o right = right

collation_facts : (o : Outline) → has_wrong_collation o ≡ false → list_any (λ (k : KeyItem). list_any (λ (s : SegItem). is_text_as s.seg && not (is_collation s.language)) k.segments) o.keys ≡ false
unfolding has_wrong_collation
collation_facts o right = right

key_facts : (o : Outline) → Passes o → (i : ℕ) (d : KeyItem) → i < length o.keys → KeyFacts o.fields o.base.rec_ref (slice_index_or o.keys i d)
key_facts o good i d inside =
    let ks = o.keys in
    record {
      count = none_passes has_wrong_segments ks (keys_facts o.front o.keys (lengths_facts o good.lengths).1).0 i d inside;
      typed = none_passes (λ (k : KeyItem). list_any (λ (s : SegItem). is_none s.seg) k.segments) ks (segment_facts o good.segments) i d inside;
      placed = none_passes (λ (k : KeyItem). list_any (is_misplaced o.fields) k.segments) ks (place_facts o good.places) i d inside;
      collated = none_passes (λ (k : KeyItem). list_any (λ (s : SegItem). is_text_as s.seg && not (is_collation s.language)) k.segments) ks (collation_facts o good.collations) i d inside;
      pages = none_passes (has_wrong_pages o.base.rec_ref) ks (block_facts o good.blocks) i d inside;
      short = ltb-false _ _ (none_passes (λ (k : KeyItem). nat_lt 1000 (sum_by (λ (s : SegItem). s.length) k.segments)) ks (long_facts o good.keys) i d inside);
    }

static_bit : (b : Bool) → (if b then Dynamic else Static) ≡ Static → b ≡ false
static_bit false same = refl
static_bit true same = absurd (cc)

-- what the first 24 bytes say of the whole header
record FrontFacts (h : List ℕ) (keys_count parts_count : ℕ) : Type 0 where
  pub header : length h ≡ num_at 6 2 h
  pub keys : num_at 18 1 h ≡ keys_count
  pub base : num_at 12 2 h ≡ base_place keys_count (num_at 21 1 h) (num_at 14 2 h)
  pub base_inside : num_at 12 2 h + 100 ≤ length h
  pub parts : parts_count ≤ num_at 14 2 h

front_facts_of : (x : List ℕ) → is_short x ≡ false → x ≡ header x → Passes (outline (front x) (header x)) → FrontFacts x (length (outline (front x) (header x)).keys) (sum_by (λ (k : KeyItem). length k.segments) (outline (front x) (header x)).keys)
unfolding outline front
front_facts_of x long whole good =
    let f = front x in
    let h = header x in
    let ks = key_items f.keys (keys_place f) h in
    let lengths = lengths_facts (outline f h) good.lengths in
    let fact = front_facts f lengths.0 in
    let parts = keys_facts f ks lengths.1 in
    let count = is_short-false x long in
    let size : length x ≡ num_at 6 2 x = ap length whole ∙ length-take-le (num_at 6 2 x) x count.1 in
    let keys : num_at 18 1 x ≡ length ks = sym (length-key_items f.keys (keys_place f) h) in
    record {
      header = size;
      keys = keys;
      base = fact.0 ∙ ap (λ n. base_place n (num_at 21 1 x) (num_at 14 2 x)) keys;
      base_inside = omega (arith, fact.1, size);
      parts = parts.1;
    }

outline-starts : (f : Front) (h : List ℕ) → ItemsStartFrom 0 (outline f h).fields
unfolding outline
outline-starts f h =
    field_items-start (base f.base_pos h).fields 0 (fields_place f (key_items f.keys (keys_place f) h)) h

outline-count : (f : Front) (h : List ℕ) → length (outline f h).fields ≡ (outline f h).base.fields
unfolding outline
outline-count f h =
    length-field_items (base f.base_pos h).fields 0 (fields_place f (key_items f.keys (keys_place f) h)) h

outline-keys : (f : Front) (h : List ℕ) → (outline f h).front.keys ≡ length (outline f h).keys
unfolding outline
outline-keys f h = sym (length-key_items f.keys (keys_place f) h)

sound_definitions : (o : Outline) (h : List ℕ) → Passes o → ItemsStartFrom 0 o.fields → length o.fields ≡ o.base.fields → o.front.keys ≡ length o.keys → FrontFacts h (length o.keys) (sum_by (λ (k : KeyItem). length k.segments) o.keys) → IsSound (definitions o h)
sound_definitions o h good starts count keys first =
    let lengths = lengths_facts o good.lengths in
    let front = front_facts o.front lengths.0 in
    let counts = count_facts o.front o.base (fields_place o.front o.keys) lengths.2 in
    let row = row_facts o.front o.base lengths.3 in
    let types = types_facts o good.types in
    let pointers = pointer_facts o good.pointers in
    let fields = length-map o.fields field_of in
    let key_count = length-map o.keys (key_of o.fields) in
    record {
      some_fields = omega (arith, fields, count, counts.0);
      few_fields = omega (arith, fields, count, counts.1);
      lengths = lengths-map (is_dynamic o) o.fields types.0;
      starts = starts-map 0 o.fields starts;
      total = omega (arith, fields_length-map o.fields, types.1);
      some_row = row.0;
      short_row = row.1;
      long_slot = λ static. row.2 (static_bit _ static);
      short_slot = λ static. row.3 (static_bit _ static);
      slot_pointer = λ static. pointers.4 (static_bit _ static);
      rec_ref_least = pointers.0;
      rec_ref_most = pointers.1;
      key_ref_least = pointers.2;
      key_ref_most = pointers.3;
      few_keys = omega (arith, key_count, keys, front.2);
      keys_sound = All-map (IsSoundKey (map field_of o.fields) o.base.rec_ref) (key_of o.fields) o.keys
          (λ i d inside. sound_key o.fields o.base.rec_ref (slice_index_or o.keys i d) (have_kinds (is_dynamic o) o.fields types.0) (key_facts o good i d inside));
      key_parts = omega (arith, counts_same o.fields o.keys, first.parts);
      header = first.header;
      keys = omega (arith, first.keys, key_count);
      base = first.base ∙ ap (λ n. base_place n (num_at 21 1 h) (num_at 14 2 h)) (sym key_count);
      base_inside = first.base_inside;
    }

pub sound : (d : Defs) → AreDefs d → IsSound d
sound d same =
    let x : List ℕ = d.raw in
    let all = accepted x d same in
    let h = header x in
    let o = outline (front x) h in
    let good = refusal-passes o all.none in
    let whole : x ≡ h = raw-is x d same in
    let n = length o.keys in
    let m = sum_by (λ (k : KeyItem). length k.segments) o.keys in
    let first : FrontFacts h n m = subst (λ y. FrontFacts y n m) whole (front_facts_of x all.short whole good) in
    subst IsSound all.value (sound_definitions o h good (outline-starts (front x) h) (outline-count (front x) h) (outline-keys (front x) h) first)
