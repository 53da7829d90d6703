-- The numbers of a table that lines describe fit their bytes.
use Rattle.std.proofs.Common.{ℕ, ◌*◌, ◌≤◌, List, [], ◌∷◌, ◌++◌, length, Option, Some, None, unwrap_or, sum_by, arith}
use Rattle.std.specs.List.{AllByRecursion}
use Rattle.std.proofs.lemmas.List.Sums.{sum_by-cons}
use Rattle.myi_defs.specs.declared.header.SegItem.{SegItem}
use Rattle.myi_deftext.specs.declared.text.Line.{Line}
use Rattle.myi_deftext.specs.declared.text.Line.TheVariants as line
use Rattle.myi_deftext.specs.Grammar.{FieldSaid, KeySaid, TableSaid, IsSegment, Says, EachSays, pointer_lines, field_lines, segment_lines, key_lines, table_lines, HasSegments, Describe}
use Rattle.myi_textlaws.proofs.ItemLemmas.{SegmentFits, KeyFits, FieldFits}
use Rattle.myi_textlaws.proofs.CountLemmas.{segments_of}

-- what a line says fits
abbrev LineFits : Line → Type 0
LineFits (line.Rows r) = Unit {0}
LineFits (line.Pointer n) = (2 ≤ n) × (n ≤ 8)
LineFits (line.Field k n) = n ≤ 65535
LineFits (line.Key u) = Unit {0}
LineFits (line.Seg s) = SegmentFits s

segment_fits : (l : List ℕ) (s : SegItem) → IsSegment l s → SegmentFits s
segment_fits l s is = record {
  seg = is.seg;
  seg_is = is.seg_is;
  language = is.collation_is.most_is;
  null_bit = is.null_bit_is.most_is;
  length = is.length_is.most_is;
  start = is.start_is.most_is;
  null_pos = is.null_pos_is.most_is;
}

line_fits : (l : List ℕ) (g : Line) → Says l g → LineFits g
line_fits l (line.Rows r) says = tt
line_fits l (line.Pointer n) says = (says.2.least_is, says.2.most_is)
line_fits l (line.Field k n) says = says.2.most_is
line_fits l (line.Key u) says = tt
line_fits l (line.Seg s) says = segment_fits l s says

lines_fit : (ls : List (List ℕ)) (gs : List Line) → EachSays ls gs → AllByRecursion LineFits gs
lines_fit [] [] says = tt
lines_fit [] (g ∷ gs) says = absurd says
lines_fit (l ∷ ls) [] says = absurd says
lines_fit (l ∷ ls) (g ∷ gs) says = (line_fits l g says.0, lines_fit ls gs says.1)

-- what holds of each line of two lists holds in both
in_both : (xs ys : List Line) → AllByRecursion LineFits (xs ++ ys) → AllByRecursion LineFits xs × AllByRecursion LineFits ys
in_both [] ys fits = (tt, fits)
in_both (x ∷ xs) ys fits =
    let rest = in_both xs ys fits.1 in
    ((fits.0, rest.0), rest.1)

segments_fit : (ss : List SegItem) → AllByRecursion LineFits (segment_lines ss) → AllByRecursion SegmentFits ss
segments_fit [] fits = tt
segments_fit (s ∷ ss) fits = (fits.0, segments_fit ss fits.1)

keys_fit : (ks : List KeySaid) → AllByRecursion LineFits (key_lines ks) → AllByRecursion HasSegments ks → AllByRecursion KeyFits ks
keys_fit [] fits few = tt
keys_fit (k ∷ ks) fits few =
    let parts = in_both (segment_lines k.segments) (key_lines ks) fits.1 in
    (record { segments = segments_fit k.segments parts.0; few = few.0.few_segments }, keys_fit ks parts.1 few.1)

fields_fit : (fs : List FieldSaid) → AllByRecursion LineFits (field_lines fs) → AllByRecursion FieldFits fs
fields_fit [] fits = tt
fields_fit (f ∷ fs) fits = (fits.0, fields_fit fs fits.1)

pointer_fits : (p : Option ℕ) → AllByRecursion LineFits (pointer_lines p) → unwrap_or p 6 ≤ 8
pointer_fits None fits = omega arith
pointer_fits (Some n) fits = fits.0.1

-- the sums of few numbers
few_parts : (ks : List KeySaid) → AllByRecursion KeyFits ks → sum_by segments_of ks ≤ 16 * length ks
few_parts [] fits = omega arith
few_parts (k ∷ ks) fits = omega (arith, sum_by-cons segments_of k ks, fits.0.few, few_parts ks fits.1)

short_row : (fs : List FieldSaid) → AllByRecursion FieldFits fs → sum_by (λ (f : FieldSaid). f.length) fs ≤ 65535 * length fs
short_row [] fits = omega arith
short_row (f ∷ fs) fits = omega (arith, sum_by-cons (λ (f : FieldSaid). f.length) f fs, fits.0, short_row fs fits.1)

-- the numbers of a table fit their bytes
pub record TableFits (t : TableSaid) : Type 0 where
  pub pointer : unwrap_or t.pointer 6 ≤ 8
  pub fields : AllByRecursion FieldFits t.fields
  pub keys : AllByRecursion KeyFits t.keys
  pub few_fields : length t.fields ≤ 4096
  pub few_keys : length t.keys ≤ 64
  pub few_parts : sum_by segments_of t.keys ≤ 1024
  pub short_row : sum_by (λ (f : FieldSaid). f.length) t.fields ≤ 268431360

pub table_fits : (ls : List (List ℕ)) (t : TableSaid) → Describe ls t → TableFits t
table_fits ls t d =
    let all = lines_fit ls (table_lines t) d.says in
    let first = in_both (pointer_lines t.pointer) (field_lines t.fields ++ key_lines t.keys) all.1 in
    let rest = in_both (field_lines t.fields) (key_lines t.keys) first.1 in
    let fields = fields_fit t.fields rest.0 in
    let keys = keys_fit t.keys rest.1 d.limits.segments in
    let some_parts = few_parts t.keys keys in
    let row = short_row t.fields fields in
    record {
      pointer = pointer_fits t.pointer first.0;
      fields = fields;
      keys = keys;
      few_fields = d.limits.few_fields;
      few_keys = d.limits.few_keys;
      few_parts = omega (arith, some_parts, d.limits.few_keys);
      short_row = omega (arith, row, d.limits.few_fields);
    }
