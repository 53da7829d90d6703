-- What the lines of a table say of its header: each part by the table itself.
use Rattle.std.proofs.Common.{◌≡◌, ℕ, ◌+◌, List, [], ◌∷◌, ◌++◌, Option, Some, None, unwrap_or, sum_by, refl, sym, ap, ◌∙◌, append_assoc}
use Rattle.std.specs.List.{flat_map}
use Rattle.std.proofs.lemmas.List.Sums.{sum_by-cons}
use Rattle.myi_defs.specs.declared.types.RowFormat.{RowFormat}
use Rattle.myi_defs.specs.declared.header.SegItem.{SegItem}
use Rattle.myi_deftext.specs.declared.text.Line.{Line}
use Rattle.myi_deftext.specs.declared.text.Line.TheVariants as line
use Rattle.myi_deftext.specs.TextHeader.{format_said, pointer_said, field_length, field_bytes, seg_bytes, key_bytes, keys_bytes, row_said}
use Rattle.myi_deftext.specs.Grammar.{FieldSaid, KeySaid, TableSaid, pointer_lines, field_lines, segment_lines, key_lines, table_lines}
use Rattle.myi_deftext.specs.TableHeader.{field_header, key_header}
use Rattle.myi_deftext.proofs.GrammarLaws.{no_leading, all_leading}

pub format_is : (t : TableSaid) → format_said (table_lines t) ≡ t.format
format_is t = refl

-- ---- the pointer

segments_point : (ss : List SegItem) (gs : List Line) → pointer_said gs ≡ 6 → pointer_said (segment_lines ss ++ gs) ≡ 6
segments_point [] gs rest = rest
segments_point (s ∷ ss) gs rest = segments_point ss gs rest

keys_point : (ks : List KeySaid) → pointer_said (key_lines ks) ≡ 6
keys_point [] = refl
keys_point (k ∷ ks) = segments_point k.segments (key_lines ks) (keys_point ks)

fields_point : (fs : List FieldSaid) (ks : List KeySaid) → pointer_said (field_lines fs ++ key_lines ks) ≡ 6
fields_point [] ks = keys_point ks
fields_point (f ∷ fs) ks = fields_point fs ks

pointer_by : (r : RowFormat) (p : Option ℕ) (fs : List FieldSaid) (ks : List KeySaid) → pointer_said (line.Rows r ∷ (pointer_lines p ++ (field_lines fs ++ key_lines ks))) ≡ unwrap_or p 6
pointer_by r None fs ks = fields_point fs ks
pointer_by r (Some n) fs ks = refl

pub pointer_is : (t : TableSaid) → pointer_said (table_lines t) ≡ unwrap_or t.pointer 6
pointer_is t = pointer_by t.format t.pointer t.fields t.keys

-- ---- the length of a row

segments_long : (ss : List SegItem) (gs : List Line) → sum_by field_length gs ≡ 0 → sum_by field_length (segment_lines ss ++ gs) ≡ 0
segments_long [] gs rest = rest
segments_long (s ∷ ss) gs rest = segments_long ss gs rest

keys_long : (ks : List KeySaid) → sum_by field_length (key_lines ks) ≡ 0
keys_long [] = refl
keys_long (k ∷ ks) = segments_long k.segments (key_lines ks) (keys_long ks)

fields_long : (fs : List FieldSaid) (ks : List KeySaid) → sum_by field_length (field_lines fs ++ key_lines ks) ≡ sum_by (λ f. f.length) fs
fields_long [] ks = keys_long ks
fields_long (f ∷ fs) ks =
    sum_by-cons field_length (line.Field f.kind f.length) (field_lines fs ++ key_lines ks)
    ∙ ap (λ n. f.length + n) (fields_long fs ks)
    ∙ sym (sum_by-cons (λ (f : FieldSaid). f.length) f fs)

row_by : (r : RowFormat) (p : Option ℕ) (fs : List FieldSaid) (ks : List KeySaid) → sum_by field_length (line.Rows r ∷ (pointer_lines p ++ (field_lines fs ++ key_lines ks))) ≡ sum_by (λ f. f.length) fs
row_by r None fs ks = fields_long fs ks
row_by r (Some n) fs ks = fields_long fs ks

pub row_is : (t : TableSaid) → row_said (table_lines t) ≡ sum_by (λ f. f.length) t.fields
row_is t = row_by t.format t.pointer t.fields t.keys

-- ---- the fields

segments_plain : (ss : List SegItem) (gs : List Line) → flat_map field_bytes gs ≡ [] → flat_map field_bytes (segment_lines ss ++ gs) ≡ []
segments_plain [] gs rest = rest
segments_plain (s ∷ ss) gs rest = segments_plain ss gs rest

keys_plain : (ks : List KeySaid) → flat_map field_bytes (key_lines ks) ≡ []
keys_plain [] = refl
keys_plain (k ∷ ks) = segments_plain k.segments (key_lines ks) (keys_plain ks)

fields_by : (fs : List FieldSaid) (ks : List KeySaid) → flat_map field_bytes (field_lines fs ++ key_lines ks) ≡ flat_map field_header fs
fields_by [] ks = keys_plain ks
fields_by (f ∷ fs) ks = ap (λ xs. field_header f ++ xs) (fields_by fs ks)

all_fields : (r : RowFormat) (p : Option ℕ) (fs : List FieldSaid) (ks : List KeySaid) → flat_map field_bytes (line.Rows r ∷ (pointer_lines p ++ (field_lines fs ++ key_lines ks))) ≡ flat_map field_header fs
all_fields r None fs ks = fields_by fs ks
all_fields r (Some n) fs ks = fields_by fs ks

pub fields_are : (t : TableSaid) → flat_map field_bytes (table_lines t) ≡ flat_map field_header t.fields
fields_are t = all_fields t.format t.pointer t.fields t.keys

-- ---- the keys

segments_by : (pointer : ℕ) (ss : List SegItem) (gs : List Line) → keys_bytes pointer (segment_lines ss ++ gs) ≡ flat_map seg_bytes ss ++ keys_bytes pointer gs
segments_by pointer [] gs = refl
segments_by pointer (s ∷ ss) gs = ap (λ xs. seg_bytes s ++ xs) (segments_by pointer ss gs) ∙ sym (append_assoc (seg_bytes s) (flat_map seg_bytes ss) (keys_bytes pointer gs))

keys_by : (pointer : ℕ) (ks : List KeySaid) → keys_bytes pointer (key_lines ks) ≡ flat_map (key_header pointer) ks
keys_by pointer [] = refl
keys_by pointer (k ∷ ks) =
    ap (λ ss. key_bytes pointer k.unique ss ++ keys_bytes pointer (segment_lines k.segments ++ key_lines ks)) (all_leading k.segments (key_lines ks) (no_leading ks))
    ∙ ap (λ xs. key_bytes pointer k.unique k.segments ++ xs) (segments_by pointer k.segments (key_lines ks) ∙ ap (λ xs. flat_map seg_bytes k.segments ++ xs) (keys_by pointer ks))
    ∙ sym (append_assoc (key_bytes pointer k.unique k.segments) (flat_map seg_bytes k.segments) (flat_map (key_header pointer) ks))

behind_fields : (pointer : ℕ) (fs : List FieldSaid) (ks : List KeySaid) → keys_bytes pointer (field_lines fs ++ key_lines ks) ≡ flat_map (key_header pointer) ks
behind_fields pointer [] ks = keys_by pointer ks
behind_fields pointer (f ∷ fs) ks = behind_fields pointer fs ks

all_keys : (pointer : ℕ) (r : RowFormat) (p : Option ℕ) (fs : List FieldSaid) (ks : List KeySaid) → keys_bytes pointer (line.Rows r ∷ (pointer_lines p ++ (field_lines fs ++ key_lines ks))) ≡ flat_map (key_header pointer) ks
all_keys pointer r None fs ks = behind_fields pointer fs ks
all_keys pointer r (Some n) fs ks = behind_fields pointer fs ks

pub keys_are : (t : TableSaid) (pointer : ℕ) → keys_bytes pointer (table_lines t) ≡ flat_map (key_header pointer) t.keys
keys_are t pointer = all_keys pointer t.format t.pointer t.fields t.keys
