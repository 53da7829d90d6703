-- The definitions that are read are those that the lines say.
use Rattle.std.proofs.Common.{◌≡◌, ℕ, suc, ◌+◌, ◌≤◌, Bool, true, false, if◌then◌else◌, List, [], ◌∷◌, map, Option, Some, None, unwrap_or, Result, Ok, Err, All, refl, sym, ap, subst, ◌∙◌, arith}
use Rattle.std.specs.List.{AllByRecursion}
use Rattle.myi_defs.specs.declared.types.RowFormat.{RowFormat}
use Rattle.myi_defs.specs.declared.types.RowFormat.TheVariants.{Static, Dynamic}
use Rattle.myi_defs.specs.declared.types.SegType.TheVariants.{Binary}
use Rattle.myi_defs.specs.declared.types.Key.{Key}
use Rattle.myi_defs.specs.declared.types.Defs.{Defs}
use Rattle.myi_defs.specs.declared.types.DefFault.{DefFault}
use Rattle.myi_defs.specs.declared.types.DefFault.TheVariants.{Short, Magic}
use Rattle.myi_defs.specs.declared.header.SegItem.{SegItem}
use Rattle.myi_defs.specs.declared.header.FieldItem.{FieldItem}
use Rattle.myi_defs.specs.declared.header.Outline.{Outline}
use Rattle.myi_defs.specs.Header.{front, header, outline}
use Rattle.myi_defs.specs.Conditions.{has_bit, row_format}
use Rattle.myi_defs.specs.ReadDefs.{is_short, has_other_magic, refusal, unless, judged, field_of, segment_of, key_of, definitions, read_defs}
use Rattle.myi_defs.proofs.CallerLemmas.{are_defs, sound}
use Rattle.myi_deftext.specs.declared.text.Line.{Line}
use Rattle.myi_deftext.specs.Text.{lines}
use Rattle.myi_deftext.specs.Grammar.{FieldSaid, KeySaid, TableSaid, table_lines, Describe}
use Rattle.myi_deftext.specs.TextHeader.{stored, key_most, page_length, slot_as, options_as, format_said, pointer_said, row_said, front_said, text_header}
use Rattle.myi_deftext.specs.ParseText.{StandsFor, parse_text}
use Rattle.myi_deftext.proofs.CallerLemmas.{made, one_table}
use Rattle.myi_textlaws.specs.Said.{said_field, said_segment, said_key, row_of, pages_of, AreSaid}
use Rattle.myi_textlaws.proofs.ItemLemmas.{SegmentFits, KeyFits, key_stored, placed}
use Rattle.myi_textlaws.proofs.FitLemmas.{TableFits, table_fits}
use Rattle.myi_textlaws.proofs.HeaderLemmas.{Mean, lines_mean, outline_said, outline_of_header}

-- ---- definitions that are accepted

not_refused : (b : Bool) (f : DefFault) (r : Result Defs DefFault) (d : Defs) → (if b then Err f else r) ≡ Ok d → r ≡ Ok d
not_refused true f r d same = absurd (cc)
not_refused false f r d same = same

unless_none : (r : Option DefFault) (e d : Defs) → unless r e ≡ Ok d → e ≡ d
unless_none None e d same = cc
unless_none (Some f) e d same = absurd (cc)

definitions_read : (x : List ℕ) (d : Defs) → read_defs x ≡ Ok d → definitions (outline (front x) (header x)) (header x) ≡ d
unfolding read_defs
definitions_read x d same =
    let o : Outline = outline (front x) (header x) in
    let whole = not_refused (is_short x) Short _ d same in
    let begun = not_refused (has_other_magic (front x)) Magic (judged o (header x)) d whole in
    unless_none (refusal o) (definitions o (header x)) d begun

-- ---- the parts of the definitions

format_back : (r : RowFormat) → row_format (options_as r) ≡ r
format_back Static = refl
format_back Dynamic = refl

fields_back : (start : ℕ) (fs : List FieldSaid) → map said_field (map field_of (placed start fs)) ≡ fs
fields_back start [] = refl
fields_back start (f ∷ fs) = ap (λ xs. f ∷ xs) (fields_back (start + f.length) fs)

segments_back : (fields : List FieldItem) (ss : List SegItem) → AllByRecursion SegmentFits ss → map said_segment (map (segment_of fields) ss) ≡ ss
segments_back fields [] fits = refl
segments_back fields (s ∷ ss) fits =
    let kind : Some (unwrap_or s.seg Binary) ≡ s.seg = ap (λ o. Some (unwrap_or o Binary)) fits.0.seg_is ∙ sym fits.0.seg_is in
    let first : said_segment (segment_of fields s) ≡ s = λ i. record s { seg = kind i } in
    ap (λ x. x ∷ map said_segment (map (segment_of fields) ss)) first ∙ ap (λ xs. s ∷ xs) (segments_back fields ss fits.1)

unique_back : (unique : Bool) → has_bit 1 (if unique then 1 else 0) ≡ unique
unique_back true = refl
unique_back false = refl

keys_back : (fields : List FieldItem) (pointer : ℕ) (ks : List KeySaid) → AllByRecursion KeyFits ks → map said_key (map (key_of fields) (map (key_stored pointer) ks)) ≡ ks
keys_back fields pointer [] fits = refl
keys_back fields pointer (k ∷ ks) fits =
    let unique = unique_back k.unique in
    let segments = segments_back fields k.segments fits.0.segments in
    let first : said_key (key_of fields (key_stored pointer k)) ≡ k = λ i. record { unique = unique i; segments = segments i } in
    ap (λ x. x ∷ map said_key (map (key_of fields) (map (key_stored pointer) ks))) first ∙ ap (λ xs. k ∷ xs) (keys_back fields pointer ks fits.1)

-- pages that are not refused are not cut off
short_page : (n : ℕ) → stored 2 n ≤ 16384 → stored 2 n ≡ n
short_page n short = omega arith

pages_back : (fields : List FieldItem) (pointer : ℕ) (ks : List KeySaid) → All (λ (k : Key). k.block_length ≤ 16384) (map (key_of fields) (map (key_stored pointer) ks)) → map (λ (k : Key). k.block_length) (map (key_of fields) (map (key_stored pointer) ks)) ≡ map (pages_of pointer) ks
pages_back fields pointer [] short = refl
pages_back fields pointer (k ∷ ks) short =
    let rest : List Key = map (key_of fields) (map (key_stored pointer) ks) in
    let key : Key = key_of fields (key_stored pointer k) in
    let here : stored 2 (page_length pointer (key_most k.segments)) ≤ 16384 = short 0 key (omega arith) in
    let first = short_page (page_length pointer (key_most k.segments)) here in
    let others = pages_back fields pointer ks (λ i d inside. short (suc i) d (omega arith)) in
    ap (λ n. n ∷ map (λ (k : Key). k.block_length) rest) first ∙ ap (λ ns. pages_of pointer k ∷ ns) others

-- ---- the whole

short_pages : (d : Defs) → read_defs d.raw ≡ Ok d → All (λ (k : Key). k.block_length ≤ 16384) d.keys
short_pages d same = λ i k inside. ((sound d same).keys_sound i k inside).short_block

said_by : (ls : List Line) (t : TableSaid) (h : List ℕ) → Mean ls t → TableFits t → All (λ (k : Key). k.block_length ≤ 16384) (definitions (outline_said ls t) h).keys → AreSaid t (definitions (outline_said ls t) h)
unfolding front_said
said_by ls t h mean fits short =
    let pages = pages_back (placed 0 t.fields) (pointer_said ls) t.keys short in
    record {
      format = format_back (format_said ls) ∙ mean.format;
      pointer = mean.pointer;
      fields = fields_back 0 t.fields;
      keys = keys_back (placed 0 t.fields) (pointer_said ls) t.keys fits.keys;
      row = mean.row;
      slot = ap (λ r. slot_as r (row_said ls) (pointer_said ls)) mean.format
          ∙ ap (λ n. slot_as t.format n (pointer_said ls)) mean.row
          ∙ ap (slot_as t.format (row_of t)) mean.pointer;
      page_pointer = refl;
      pages = pages ∙ ap (λ p. map (pages_of p) t.keys) mean.pointer;
    }

read_by : (ls : List Line) (t : TableSaid) (d : Defs) → Mean ls t → TableFits t → read_defs (text_header ls) ≡ Ok d → AreSaid t d
read_by ls t d mean fits read =
    let x : List ℕ = text_header ls in
    let value : definitions (outline_said ls t) (header x) ≡ d =
    ap (λ (o : Outline). definitions o (header x)) (sym (outline_of_header ls t mean fits)) ∙ definitions_read x d read in
    let short = short_pages d (are_defs x d read) in
    subst (AreSaid t) value (said_by ls t (header x) mean fits (subst (λ (e : Defs). All (λ (k : Key). k.block_length ≤ 16384) e.keys) (sym value) short))

pub read_said : (ls : List (List ℕ)) (t : TableSaid) (d : Defs) → Describe ls t → read_defs (text_header (table_lines t)) ≡ Ok d → AreSaid t d
read_said ls t d described read = read_by (table_lines t) t d (lines_mean t) (table_fits ls t described) read

pub stands_said : (x : List ℕ) (t : TableSaid) (d : Defs) → Describe (lines x) t → StandsFor x (Ok d) → AreSaid t d
stands_said x t d described stands =
    let same : stands.table ≡ t = one_table (lines x) stands.table t stands.described described in
    subst (λ u. AreSaid u d) same (read_said (lines x) stands.table d stands.described stands.header)

pub parsed_said : (x : List ℕ) (t : TableSaid) (d : Defs) → Describe (lines x) t → parse_text x ≡ Ok d → AreSaid t d
parsed_said x t d described same = stands_said x t d described (made x d same)
