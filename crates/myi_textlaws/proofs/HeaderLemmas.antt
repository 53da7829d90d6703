-- Of the header of a table its parts are read: the first 24 bytes, the base section, the keys and the fields.
use Rattle.std.proofs.Common.{◌≡◌, ℕ, ◌+◌, ◌-◌, ◌*◌, ◌/◌, ◌^◌, ◌≤◌, ◌<◌, List, [], ◌∷◌, ◌++◌, length, take, map, sum_by, count_by, unwrap_or, refl, sym, ap, ◌∙◌, arith, lit<, append_assoc, length-append}
use Rattle.std.specs.List.{AllByRecursion, flat_map}
use Rattle.std.proofs.lemmas.List.{append-nil, length-replicate}
use Rattle.std.proofs.lemmas.List.Sums.{sum_by-cons}
use Rattle.std.proofs.Math.Seq.{take-append_seam}
use Rattle.myi_base.specs.Items.{spelling, Fit}
use Rattle.myi_base.proofs.CallerLemmas.{length-num_bytes, length-spelling}
use Rattle.myi_defs.specs.declared.types.RowFormat.{RowFormat}
use Rattle.myi_defs.specs.declared.types.RowFormat.TheVariants.{Static, Dynamic}
use Rattle.myi_defs.specs.declared.header.Front.{Front}
use Rattle.myi_defs.specs.declared.header.Base.{Base}
use Rattle.myi_defs.specs.declared.header.KeyItem.{KeyItem}
use Rattle.myi_defs.specs.declared.header.Outline.{Outline}
use Rattle.myi_defs.specs.Header.{front, base, header, key_items, key_length, keys_place, keys_length, field_items, fields_place, outline}
use Rattle.myi_defs.specs.Layout.{mark, first_page}
use Rattle.myi_defs.specs.EmptyTable.{zeros, nulls, empty_state}
use Rattle.myi_deftext.specs.declared.text.Line.{Line}
use Rattle.myi_deftext.specs.Grammar.{FieldSaid, KeySaid, TableSaid, table_lines}
use Rattle.myi_deftext.specs.TextHeader.{stored, format_said, pointer_said, row_said, has_flag, field_bytes, keys_bytes, keys_said, parts_said, fields_said, page_sizes, base_said, length_said, slot_as, options_as, front_said, front_spelling, base_spelling, text_header}
use Rattle.myi_deftext.specs.TableHeader.{field_header, key_header}
use Rattle.myi_deftext.proofs.CallerLemmas.{format_is, pointer_is, row_is, fields_are, keys_are}
use Rattle.myi_textlaws.proofs.PlaceLemmas.{read_at}
use Rattle.myi_textlaws.proofs.ItemLemmas.{KeyFits, FieldFits, key_stored, keys_read, length-key, placed, fields_read, length-field}
use Rattle.myi_textlaws.proofs.CountLemmas.{segments_of, count_keys, count_parts, count_fields, few_flags}
use Rattle.myi_textlaws.proofs.FitLemmas.{TableFits}

-- ---- the first 24 bytes

abbrev front_widths : List ℕ
front_widths = 4 ∷ 2 ∷ 2 ∷ 2 ∷ 2 ∷ 2 ∷ 2 ∷ 2 ∷ 1 ∷ 1 ∷ 1 ∷ 1 ∷ 1 ∷ 1 ∷ []

abbrev front_numbers : Front → List ℕ
front_numbers f = f.magic ∷ f.options ∷ f.header_length ∷ f.state_info_length ∷ f.base_info_length ∷ f.base_pos ∷ f.key_parts ∷ 0 ∷ f.keys ∷ f.uniques ∷ 8 ∷ f.page_sizes ∷ f.fulltext_keys ∷ 0 ∷ []

options_small : (r : RowFormat) → options_as r < 65536
options_small Static = lit< tt
options_small Dynamic = lit< tt

stored_one : (n : ℕ) → stored 1 n < 256
stored_one n = omega arith

stored_two : (n : ℕ) → stored 2 n < 65536
stored_two n = omega arith

front_fit : (ls : List Line) → Fit front_widths (front_numbers (front_said ls))
unfolding front_said
front_fit ls = (
  lit< tt,
  (options_small (format_said ls), (stored_two (length_said ls), (lit< tt, (lit< tt, (stored_two (base_said ls), (stored_two (parts_said ls), (lit< tt, (stored_one (keys_said ls), (lit< tt, (lit< tt, (stored_one _, (lit< tt, (lit< tt, tt))))))))))))),
)

front_spelled : (f : Front) → front_spelling f ≡ spelling front_widths (front_numbers f)
unfolding front_spelling
front_spelled f = refl

length-front : (f : Front) → Fit front_widths (front_numbers f) → length (front_spelling f) ≡ 24
length-front f fit = ap length (front_spelled f) ∙ length-spelling front_widths (front_numbers f) fit

front_read_as : (f : Front) (rest : List ℕ) → Fit front_widths (front_numbers f) → front (spelling front_widths (front_numbers f) ++ rest) ≡ f
unfolding front
front_read_as f rest fit =
    let read = λ (i : ℕ) (inside : i < 14). read_at 0 front_widths (front_numbers f) [] rest i refl fit inside in
    let magic = read 0 (lit< tt) in
    let options = read 1 (lit< tt) in
    let header_length = read 2 (lit< tt) in
    let state_info_length = read 3 (lit< tt) in
    let base_info_length = read 4 (lit< tt) in
    let base_pos = read 5 (lit< tt) in
    let key_parts = read 6 (lit< tt) in
    let keys = read 8 (lit< tt) in
    let uniques = read 9 (lit< tt) in
    let page_sizes = read 11 (lit< tt) in
    let fulltext_keys = read 12 (lit< tt) in
    λ i. record {
      magic = magic i;
      options = options i;
      header_length = header_length i;
      state_info_length = state_info_length i;
      base_info_length = base_info_length i;
      base_pos = base_pos i;
      key_parts = key_parts i;
      keys = keys i;
      uniques = uniques i;
      page_sizes = page_sizes i;
      fulltext_keys = fulltext_keys i;
    }

front_read : (f : Front) (rest : List ℕ) → Fit front_widths (front_numbers f) → front (front_spelling f ++ rest) ≡ f
front_read f rest fit = ap (λ bs. front (bs ++ rest)) (front_spelled f) ∙ front_read_as f rest fit

-- ---- the state

length-zeros : (n : ℕ) → length (zeros n) ≡ n
unfolding zeros
length-zeros n = length-replicate n 0

length-nulls : (n : ℕ) → length (nulls n) ≡ 8 * n
unfolding nulls
length-nulls n = length-replicate (8 * n) 255

length-state : (f : Front) (end : ℕ) → length (empty_state f end) ≡ 152 + 8 * (f.keys + f.page_sizes) + 4 * f.key_parts
unfolding empty_state
length-state f end = simp (length-append, length-zeros, length-nulls, length-num_bytes) (omega arith)

-- ---- the base section

abbrev base_widths : List ℕ
base_widths = 8 ∷ 8 ∷ 8 ∷ 8 ∷ 8 ∷ 4 ∷ 4 ∷ 4 ∷ 4 ∷ 4 ∷ 4 ∷ 4 ∷ 4 ∷ 1 ∷ 1 ∷ 1 ∷ 1 ∷ 2 ∷ 2 ∷ 2 ∷ 2 ∷ 2 ∷ 1 ∷ 1 ∷ 2 ∷ 4 ∷ []

abbrev base_numbers : ℕ → ℕ → Base → List ℕ
base_numbers end keys b =
    end ∷ 0 ∷ 0 ∷ 0 ∷ 0 ∷ 0 ∷ b.row_length ∷ b.slot_length ∷ 0 ∷ 0 ∷ 0 ∷ b.fields ∷ 0 ∷ b.rec_ref ∷ b.key_ref ∷ keys ∷ 0 ∷ b.pack_bits ∷ 0 ∷ 0 ∷ 0 ∷ 0 ∷ 0 ∷ 0 ∷ 0 ∷ 0 ∷ []

-- the items of the base section of a table that lines say
abbrev pub base_items : List Line → Base
base_items ls = record {
  row_length = row_said ls;
  slot_length = slot_as (format_said ls) (row_said ls) (pointer_said ls);
  fields = fields_said ls;
  rec_ref = pointer_said ls;
  key_ref = 6;
  pack_bits = (count_by has_flag ls + 7) / 8;
}

-- the numbers of a base section fit
record BaseFits (end : ℕ) (b : Base) : Type 0 where
  pub file : end < 256 ^ 8
  pub row : b.row_length < 256 ^ 4
  pub slot : b.slot_length < 256 ^ 4
  pub fields : b.fields < 256 ^ 4
  pub rec_ref : b.rec_ref < 256
  pub key_ref : b.key_ref < 256
  pub bits : b.pack_bits < 65536

base_fit : (end keys : ℕ) (b : Base) → BaseFits end b → keys < 256 → Fit base_widths (base_numbers end keys b)
base_fit end keys b fits few = (
  fits.file,
  (lit< tt, (lit< tt, (lit< tt, (lit< tt, (lit< tt, (fits.row, (fits.slot, (lit< tt, (lit< tt, (lit< tt, (fits.fields, (lit< tt, (fits.rec_ref, (fits.key_ref, (few, (lit< tt, (fits.bits, (lit< tt, (lit< tt, (lit< tt, (lit< tt, (lit< tt, (lit< tt, (lit< tt, (lit< tt, tt))))))))))))))))))))))))),
)

base_spelled : (ls : List Line) (end : ℕ) → base_spelling ls end ≡ spelling base_widths (base_numbers end (stored 1 (keys_said ls)) (base_items ls))
unfolding base_spelling
base_spelled ls end = refl

base_read_as : (at end keys : ℕ) (b : Base) (before back : List ℕ) → Fit base_widths (base_numbers end keys b) → length before ≡ at → base at (before ++ (spelling base_widths (base_numbers end keys b) ++ back)) ≡ b
unfolding base
base_read_as at end keys b before back fit start =
    let read = λ (i : ℕ) (inside : i < 26). read_at at base_widths (base_numbers end keys b) before back i start fit inside in
    let row_length = read 6 (lit< tt) in
    let slot_length = read 7 (lit< tt) in
    let fields = read 11 (lit< tt) in
    let rec_ref = read 13 (lit< tt) in
    let key_ref = read 14 (lit< tt) in
    let pack_bits = read 17 (lit< tt) in
    λ i. record { row_length = row_length i; slot_length = slot_length i; fields = fields i; rec_ref = rec_ref i; key_ref = key_ref i; pack_bits = pack_bits i }

-- ---- the keys and the fields

length-keys : (pointer : ℕ) (ks : List KeySaid) → AllByRecursion KeyFits ks → length (flat_map (key_header pointer) ks) ≡ 12 * length ks + 18 * sum_by segments_of ks
length-keys pointer [] fits = refl
length-keys pointer (k ∷ ks) fits =
    let one = length-key pointer k fits.0 in
    let rest = length-keys pointer ks fits.1 in
    omega (arith, length-append (key_header pointer k) (flat_map (key_header pointer) ks), sum_by-cons segments_of k ks, one, rest)

keys_length-stored : (pointer : ℕ) (ks : List KeySaid) → keys_length (map (key_stored pointer) ks) ≡ 12 * length ks + 18 * sum_by segments_of ks
keys_length-stored pointer [] = refl
keys_length-stored pointer (k ∷ ks) =
    let rest = keys_length-stored pointer ks in
    omega (arith, sum_by-cons key_length (key_stored pointer k) (map (key_stored pointer) ks), sum_by-cons segments_of k ks, rest)

length-fields : (fs : List FieldSaid) → AllByRecursion FieldFits fs → length (flat_map field_header fs) ≡ 7 * length fs
length-fields [] fits = refl
length-fields (f ∷ fs) fits =
    let one = length-field f fits.0 in
    let rest = length-fields fs fits.1 in
    omega (arith, length-append (field_header f) (flat_map field_header fs), one, rest)

-- ---- the whole

-- the lines say of a header what a table says
pub record Mean (ls : List Line) (t : TableSaid) : Type 0 where
  pub format : format_said ls ≡ t.format
  pub pointer : pointer_said ls ≡ unwrap_or t.pointer 6
  pub row : row_said ls ≡ sum_by (λ (f : FieldSaid). f.length) t.fields
  pub field_part : flat_map field_bytes ls ≡ flat_map field_header t.fields
  pub key_part : keys_bytes (pointer_said ls) ls ≡ flat_map (key_header (pointer_said ls)) t.keys
  pub keys : keys_said ls ≡ length t.keys
  pub parts : parts_said ls ≡ sum_by segments_of t.keys
  pub fields : fields_said ls ≡ length t.fields

pub lines_mean : (t : TableSaid) → Mean (table_lines t) t
lines_mean t = record {
  format = format_is t;
  pointer = pointer_is t;
  row = row_is t;
  field_part = fields_are t;
  key_part = keys_are t (pointer_said (table_lines t));
  keys = count_keys t;
  parts = count_parts t;
  fields = count_fields t;
}

slot_small : (r : RowFormat) (row pointer : ℕ) → row < 4294967296 → pointer ≤ 8 → slot_as r row pointer < 4294967296
slot_small Static row pointer short few = omega arith
slot_small Dynamic row pointer short few = short

bits_small : (n : ℕ) → n ≤ 4096 → (n + 7) / 8 < 65536
bits_small n few = omega arith

-- no number of the header is cut off
record Sizes (ls : List Line) (t : TableSaid) : Type 0 where
  pub keys : stored 1 (keys_said ls) ≡ length t.keys
  pub parts : stored 2 (parts_said ls) ≡ sum_by segments_of t.keys
  pub place : stored 2 (base_said ls) ≡ base_said ls
  pub long : stored 2 (length_said ls) ≡ length_said ls
  pub few : length_said ls < 65536
  pub base : base_said ls ≡ 176 + 8 * length t.keys + 8 * page_sizes ls + 4 * sum_by segments_of t.keys
  pub whole : length_said ls ≡ base_said ls + 100 + (12 * length t.keys + 18 * sum_by segments_of t.keys) + 7 * length t.fields

sizes_by : (keys parts fields sizes : ℕ) → keys ≤ 64 → parts ≤ 1024 → fields ≤ 4096 → 176 + 8 * keys + 8 * stored 1 sizes + 4 * parts + 100 + 12 * keys + 18 * parts + 7 * fields < 65536
sizes_by keys parts fields sizes a b e = omega arith

not_cut : (n : ℕ) → n < 65536 → stored 2 n ≡ n
not_cut n few = omega arith

keys_not_cut : (n : ℕ) → n ≤ 64 → stored 1 n ≡ n
keys_not_cut n few = omega arith

sizes : (ls : List Line) (t : TableSaid) → Mean ls t → TableFits t → Sizes ls t
sizes ls t mean fits =
    let keys : keys_said ls ≤ 64 = omega (arith, mean.keys, fits.few_keys) in
    let parts : parts_said ls ≤ 1024 = omega (arith, mean.parts, fits.few_parts) in
    let fields : fields_said ls ≤ 4096 = omega (arith, mean.fields, fits.few_fields) in
    let few : length_said ls < 65536 = sizes_by (keys_said ls) (parts_said ls) (fields_said ls) _ keys parts fields in
    record {
      keys = keys_not_cut (keys_said ls) keys ∙ mean.keys;
      parts = not_cut (parts_said ls) (omega (arith, parts)) ∙ mean.parts;
      place = not_cut (base_said ls) (omega (arith, few));
      long = not_cut (length_said ls) few;
      few = few;
      base = omega (arith, mean.keys, mean.parts);
      whole = omega (arith, mean.keys, mean.parts, mean.fields);
    }

base_fits : (ls : List Line) (t : TableSaid) → Mean ls t → TableFits t → BaseFits (first_page (length_said ls)) (base_items ls)
base_fits ls t mean fits =
    let size = sizes ls t mean fits in
    let row : row_said ls < 4294967296 = omega (arith, mean.row, fits.short_row) in
    let pointer : pointer_said ls ≤ 8 = omega (arith, mean.pointer, fits.pointer) in
    let fields : fields_said ls ≤ 4096 = omega (arith, mean.fields, fits.few_fields) in
    record {
      file = omega (arith, size.few);
      row = row;
      slot = slot_small (format_said ls) (row_said ls) (pointer_said ls) row pointer;
      fields = omega (arith, fields);
      rec_ref = omega (arith, pointer);
      key_ref = lit< tt;
      bits = bits_small (count_by has_flag ls) (omega (arith, few_flags ls, fields));
    }

-- the parts of a header before its last zeros
abbrev front_part : List Line → List ℕ
front_part ls = front_spelling (front_said ls)

abbrev state_part : List Line → List ℕ
state_part ls = empty_state (front_said ls) (first_page (length_said ls))

abbrev base_part : List Line → List ℕ
base_part ls = base_spelling ls (first_page (length_said ls))

abbrev key_part : List Line → TableSaid → List ℕ
key_part ls t = flat_map (key_header (pointer_said ls)) t.keys

abbrev field_part : TableSaid → List ℕ
field_part t = flat_map field_header t.fields

abbrev before_base : List Line → List ℕ
before_base ls = front_part ls ++ state_part ls

abbrev before_keys : List Line → List ℕ
before_keys ls = before_base ls ++ (base_part ls ++ mark)

abbrev before_fields : List Line → TableSaid → List ℕ
before_fields ls t = before_keys ls ++ key_part ls t

abbrev pub printed : List Line → TableSaid → List ℕ
printed ls t = before_fields ls t ++ field_part t

header_printed : (ls : List Line) (t : TableSaid) → Mean ls t → text_header ls ≡ printed ls t ++ zeros (first_page (length_said ls) - length_said ls)
unfolding text_header
header_printed ls t mean =
    ap (λ ks. front_part ls ++ (state_part ls ++ (base_part ls ++ (mark ++ (ks ++ (flat_map field_bytes ls ++ zeros (first_page (length_said ls) - length_said ls))))))) mean.key_part
    ∙ ap (λ fs. front_part ls ++ (state_part ls ++ (base_part ls ++ (mark ++ (key_part ls t ++ (fs ++ zeros (first_page (length_said ls) - length_said ls))))))) mean.field_part
    ∙ sym (simp append_assoc)

-- the items of the header of a table
abbrev pub outline_said : List Line → TableSaid → Outline
outline_said ls t = record {
  front = front_said ls;
  base = base_items ls;
  keys = map (key_stored (pointer_said ls)) t.keys;
  fields = placed 0 t.fields;
}

-- where the parts stand
record Places (ls : List Line) (t : TableSaid) : Type 0 where
  pub base : length (before_base ls) ≡ base_said ls
  pub keys : length (before_keys ls) ≡ base_said ls + 100
  pub fields : length (before_fields ls t) ≡ base_said ls + 100 + (12 * length t.keys + 18 * sum_by segments_of t.keys)
  pub whole : length (printed ls t) ≡ length_said ls

length-base : (ls : List Line) → BaseFits (first_page (length_said ls)) (base_items ls) → length (base_part ls) ≡ 94
length-base ls fits =
    let end = first_page (length_said ls) in
    let keys = stored 1 (keys_said ls) in
    ap length (base_spelled ls end) ∙ length-spelling base_widths (base_numbers end keys (base_items ls)) (base_fit end keys (base_items ls) fits (stored_one (keys_said ls)))

length-before_base : (ls : List Line) (t : TableSaid) → Sizes ls t → length (before_base ls) ≡ base_said ls
unfolding front_said
length-before_base ls t size =
    let one = length-front (front_said ls) (front_fit ls) in
    let two = length-state (front_said ls) (first_page (length_said ls)) in
    omega (arith, length-append (front_part ls) (state_part ls), one, two, size.keys, size.parts, size.base)

places : (ls : List Line) (t : TableSaid) → Mean ls t → TableFits t → Places ls t
places ls t mean fits =
    let size = sizes ls t mean fits in
    let start = length-before_base ls t size in
    let three = length-base ls (base_fits ls t mean fits) in
    let four = length-keys (pointer_said ls) t.keys fits.keys in
    let five = length-fields t.fields fits.fields in
    let keys : length (before_keys ls) ≡ base_said ls + 100 = omega (arith, length-append (before_base ls) (base_part ls ++ mark), length-append (base_part ls) mark, start, three) in
    let fields : length (before_fields ls t) ≡ base_said ls + 100 + (12 * length t.keys + 18 * sum_by segments_of t.keys) = omega (arith, length-append (before_keys ls) (key_part ls t), keys, four) in
    record {
      base = start;
      keys = keys;
      fields = fields;
      whole = omega (arith, length-append (before_fields ls t) (field_part t), fields, five, size.whole);
    }

front_is : (ls : List Line) → front (text_header ls) ≡ front_said ls
unfolding text_header
front_is ls = front_read (front_said ls) _ (front_fit ls)

said_length : (ls : List Line) → (front_said ls).header_length ≡ stored 2 (length_said ls)
unfolding front_said
said_length ls = refl

header_is : (ls : List Line) (t : TableSaid) → Mean ls t → TableFits t → header (text_header ls) ≡ printed ls t
header_is ls t mean fits =
    let x : List ℕ = text_header ls in
    let rest : List ℕ = zeros (first_page (length_said ls) - length_said ls) in
    let count : (front x).header_length ≡ length (printed ls t) =
    ap (λ (f : Front). f.header_length) (front_is ls) ∙ said_length ls ∙ (sizes ls t mean fits).long ∙ sym (places ls t mean fits).whole in
    ap (λ n. take n x) count ∙ ap (take (length (printed ls t))) (header_printed ls t mean) ∙ take-append_seam (printed ls t) rest

base_is : (ls : List Line) (t : TableSaid) (at : ℕ) → Mean ls t → TableFits t → at ≡ base_said ls → base at (printed ls t) ≡ base_items ls
base_is ls t at mean fits here =
    let end = first_page (length_said ls) in
    let keys = stored 1 (keys_said ls) in
    let back : List ℕ = mark ++ (key_part ls t ++ field_part t) in
    let split : printed ls t ≡ before_base ls ++ (base_part ls ++ back) = simp append_assoc in
    let fit = base_fit end keys (base_items ls) (base_fits ls t mean fits) (stored_one (keys_said ls)) in
    ap (base at) split
    ∙ ap (λ bs. base at (before_base ls ++ (bs ++ back))) (base_spelled ls end)
    ∙ base_read_as at end keys (base_items ls) (before_base ls) back fit ((places ls t mean fits).base ∙ sym here)

keys_are_read : (ls : List Line) (t : TableSaid) (n at : ℕ) → Mean ls t → TableFits t → n ≡ length t.keys → at ≡ base_said ls + 100 → key_items n at (printed ls t) ≡ map (key_stored (pointer_said ls)) t.keys
keys_are_read ls t n at mean fits count here =
    ap (λ m. key_items m at (printed ls t)) count
    ∙ ap (key_items (length t.keys) at) (append_assoc (before_keys ls) (key_part ls t) (field_part t))
    ∙ keys_read (pointer_said ls) t.keys at (before_keys ls) (field_part t) fits.keys ((places ls t mean fits).keys ∙ sym here)

fields_are_read : (ls : List Line) (t : TableSaid) (n at : ℕ) → Mean ls t → TableFits t → n ≡ length t.fields → at ≡ base_said ls + 100 + (12 * length t.keys + 18 * sum_by segments_of t.keys) → field_items n 0 at (printed ls t) ≡ placed 0 t.fields
fields_are_read ls t n at mean fits count here =
    ap (λ m. field_items m 0 at (printed ls t)) count
    ∙ ap (λ bs. field_items (length t.fields) 0 at (before_fields ls t ++ bs)) (sym (append-nil (field_part t)))
    ∙ fields_read t.fields 0 at (before_fields ls t) [] fits.fields ((places ls t mean fits).fields ∙ sym here)

outline_is : (ls : List Line) (t : TableSaid) → Mean ls t → TableFits t → outline (front_said ls) (printed ls t) ≡ outline_said ls t
unfolding outline front_said
outline_is ls t mean fits =
    let size = sizes ls t mean fits in
    let f = front_said ls in
    let h : List ℕ = printed ls t in
    let start : f.base_pos ≡ base_said ls = size.place in
    let based : base f.base_pos h ≡ base_items ls = base_is ls t f.base_pos mean fits start in
    let place : keys_place f ≡ base_said ls + 100 = omega (arith, start) in
    let keys : key_items f.keys (keys_place f) h ≡ map (key_stored (pointer_said ls)) t.keys = keys_are_read ls t f.keys (keys_place f) mean fits size.keys place in
    let long = keys_length-stored (pointer_said ls) t.keys in
    let behind : fields_place f (map (key_stored (pointer_said ls)) t.keys) ≡ base_said ls + 100 + (12 * length t.keys + 18 * sum_by segments_of t.keys) = omega (arith, place, long) in
    let fields : field_items (base f.base_pos h).fields 0 (fields_place f (key_items f.keys (keys_place f) h)) h ≡ placed 0 t.fields =
    ap (λ (b : Base). field_items b.fields 0 (fields_place f (key_items f.keys (keys_place f) h)) h) based
    ∙ ap (λ (ks : List KeyItem). field_items (fields_said ls) 0 (fields_place f ks) h) keys
    ∙ fields_are_read ls t (fields_said ls) (fields_place f (map (key_stored (pointer_said ls)) t.keys)) mean fits mean.fields behind in
    λ i. record { front = f; base = based i; keys = keys i; fields = fields i }

-- what is read of the header of a table
pub outline_of_header : (ls : List Line) (t : TableSaid) → Mean ls t → TableFits t → outline (front (text_header ls)) (header (text_header ls)) ≡ outline_said ls t
outline_of_header ls t mean fits =
    ap (λ (f : Front). outline f (header (text_header ls))) (front_is ls)
    ∙ ap (outline (front_said ls)) (header_is ls t mean fits)
    ∙ outline_is ls t mean fits
