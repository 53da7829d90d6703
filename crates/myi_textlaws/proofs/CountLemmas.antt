-- How many keys, segments and fields the lines of a table say.
use Rattle.std.proofs.Common.{◌≡◌, ℕ, ◌+◌, ◌≤◌, Bool, cond, List, [], ◌∷◌, ◌++◌, length, Option, Some, None, sum_by, count_by, refl, ◌∙◌, arith}
use Rattle.std.proofs.lemmas.List.Sums.{sum_by-cons, sum_by-le-sum_by}
use Rattle.myi_defs.specs.declared.types.RowFormat.{RowFormat}
use Rattle.myi_defs.specs.declared.types.FieldKind.{FieldKind}
use Rattle.myi_defs.specs.declared.types.FieldKind.TheVariants.{Normal, SkipEndspace, SkipPrespace, SkipZero, Blob, Varchar}
use Rattle.myi_defs.specs.declared.header.SegItem.{SegItem}
use Rattle.myi_deftext.specs.declared.text.Line.{Line}
use Rattle.myi_deftext.specs.declared.text.Line.TheVariants as line
use Rattle.myi_deftext.specs.Grammar.{FieldSaid, KeySaid, TableSaid, pointer_lines, field_lines, segment_lines, key_lines, table_lines}
use Rattle.myi_deftext.specs.TextHeader.{is_key, is_segment, is_field, has_flag, keys_said, parts_said, fields_said}

-- what one line counts for
abbrev one_if : (Line → Bool) → Line → ℕ
one_if test g = cond (test g) 1 0

-- ---- the keys

segments_no_keys : (ss : List SegItem) (gs : List Line) → count_by is_key (segment_lines ss ++ gs) ≡ count_by is_key gs
segments_no_keys [] gs = refl
segments_no_keys (s ∷ ss) gs = segments_no_keys ss gs

keys_counted : (ks : List KeySaid) → count_by is_key (key_lines ks) ≡ length ks
keys_counted [] = refl
keys_counted (k ∷ ks) =
    let first = sum_by-cons (one_if is_key) (line.Key k.unique) (segment_lines k.segments ++ key_lines ks) in
    let rest = segments_no_keys k.segments (key_lines ks) ∙ keys_counted ks in
    omega (arith, first, rest)

fields_no_keys : (fs : List FieldSaid) (gs : List Line) → count_by is_key (field_lines fs ++ gs) ≡ count_by is_key gs
fields_no_keys [] gs = refl
fields_no_keys (f ∷ fs) gs = fields_no_keys fs gs

keys_by : (r : RowFormat) (p : Option ℕ) (fs : List FieldSaid) (ks : List KeySaid) → count_by is_key (line.Rows r ∷ (pointer_lines p ++ (field_lines fs ++ key_lines ks))) ≡ length ks
keys_by r None fs ks = fields_no_keys fs (key_lines ks) ∙ keys_counted ks
keys_by r (Some n) fs ks = fields_no_keys fs (key_lines ks) ∙ keys_counted ks

pub count_keys : (t : TableSaid) → keys_said (table_lines t) ≡ length t.keys
count_keys t = keys_by t.format t.pointer t.fields t.keys

-- ---- the segments

abbrev pub segments_of : KeySaid → ℕ
segments_of k = length k.segments

segments_counted : (ss : List SegItem) (gs : List Line) → count_by is_segment (segment_lines ss ++ gs) ≡ length ss + count_by is_segment gs
segments_counted [] gs = omega arith
segments_counted (s ∷ ss) gs =
    let first = sum_by-cons (one_if is_segment) (line.Seg s) (segment_lines ss ++ gs) in
    let rest = segments_counted ss gs in
    omega (arith, first, rest)

parts_counted : (ks : List KeySaid) → count_by is_segment (key_lines ks) ≡ sum_by segments_of ks
parts_counted [] = refl
parts_counted (k ∷ ks) =
    let here = segments_counted k.segments (key_lines ks) in
    let rest = parts_counted ks in
    let there = sum_by-cons segments_of k ks in
    let first : count_by is_segment (key_lines (k ∷ ks)) ≡ count_by is_segment (segment_lines k.segments ++ key_lines ks) = refl in
    omega (arith, first, here, rest, there)

fields_no_parts : (fs : List FieldSaid) (gs : List Line) → count_by is_segment (field_lines fs ++ gs) ≡ count_by is_segment gs
fields_no_parts [] gs = refl
fields_no_parts (f ∷ fs) gs = fields_no_parts fs gs

parts_by : (r : RowFormat) (p : Option ℕ) (fs : List FieldSaid) (ks : List KeySaid) → count_by is_segment (line.Rows r ∷ (pointer_lines p ++ (field_lines fs ++ key_lines ks))) ≡ sum_by segments_of ks
parts_by r None fs ks = fields_no_parts fs (key_lines ks) ∙ parts_counted ks
parts_by r (Some n) fs ks = fields_no_parts fs (key_lines ks) ∙ parts_counted ks

pub count_parts : (t : TableSaid) → parts_said (table_lines t) ≡ sum_by segments_of t.keys
count_parts t = parts_by t.format t.pointer t.fields t.keys

-- ---- the fields

segments_no_fields : (ss : List SegItem) (gs : List Line) → count_by is_field (segment_lines ss ++ gs) ≡ count_by is_field gs
segments_no_fields [] gs = refl
segments_no_fields (s ∷ ss) gs = segments_no_fields ss gs

keys_no_fields : (ks : List KeySaid) → count_by is_field (key_lines ks) ≡ 0
keys_no_fields [] = refl
keys_no_fields (k ∷ ks) = segments_no_fields k.segments (key_lines ks) ∙ keys_no_fields ks

fields_counted : (fs : List FieldSaid) (ks : List KeySaid) → count_by is_field (field_lines fs ++ key_lines ks) ≡ length fs
fields_counted [] ks = keys_no_fields ks
fields_counted (f ∷ fs) ks =
    let first = sum_by-cons (one_if is_field) (line.Field f.kind f.length) (field_lines fs ++ key_lines ks) in
    let rest = fields_counted fs ks in
    omega (arith, first, rest)

fields_by : (r : RowFormat) (p : Option ℕ) (fs : List FieldSaid) (ks : List KeySaid) → count_by is_field (line.Rows r ∷ (pointer_lines p ++ (field_lines fs ++ key_lines ks))) ≡ length fs
fields_by r None fs ks = fields_counted fs ks
fields_by r (Some n) fs ks = fields_counted fs ks

pub count_fields : (t : TableSaid) → fields_said (table_lines t) ≡ length t.fields
count_fields t = fields_by t.format t.pointer t.fields t.keys

-- only fields have bits of their own in packed rows
kind_flag : (k : FieldKind) (n : ℕ) → one_if has_flag (line.Field k n) ≤ 1
kind_flag Normal n = omega arith
kind_flag SkipEndspace n = omega arith
kind_flag SkipPrespace n = omega arith
kind_flag SkipZero n = omega arith
kind_flag Blob n = omega arith
kind_flag Varchar n = omega arith

flag_of_field : (g : Line) → one_if has_flag g ≤ one_if is_field g
flag_of_field (line.Rows r) = omega arith
flag_of_field (line.Pointer n) = omega arith
flag_of_field (line.Field k n) = kind_flag k n
flag_of_field (line.Key u) = omega arith
flag_of_field (line.Seg s) = omega arith

pub few_flags : (gs : List Line) → count_by has_flag gs ≤ fields_said gs
few_flags gs = sum_by-le-sum_by (one_if has_flag) (one_if is_field) gs flag_of_field
