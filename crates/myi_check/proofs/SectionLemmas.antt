-- The findings of all sections, by what was found of each.
use Rattle.std.proofs.Common.{◌≡◌, ℕ, ◌-◌, ◌^◌, ◌<◌, ◌≤◌, Bool, true, false, cond, min, List, [], ◌++◌, length, map, Option, Some, None, refl, sym, ap, ◌∙◌, arith}
use Rattle.std.specs.Option.{option_map, option_to_list}
use Rattle.std.specs.List.{flat_map}
use Rattle.std.proofs.lemmas.List.{length-map}
use Rattle.myi_base.specs.Ranges.{Range}
use Rattle.myi_defs.specs.declared.types.Defs.{Defs}
use Rattle.myi_header.specs.Layout.{first_page_of}
use Rattle.myi_header.specs.StateOf.{state_of, has_mark}
use Rattle.myi_data.specs.Readable.{readable, deleted}
use Rattle.myi_pair.specs.declared.finding.HeaderItem.{HeaderItem}
use Rattle.myi_pair.specs.declared.finding.Finding.{Finding}
use Rattle.myi_pair.specs.declared.finding.Finding.TheVariants as finding
use Rattle.myi_pair.specs.Clean.{placed_row, next_deleted}
use Rattle.myi_pair.specs.FirstBad.{list_bad}
use Rattle.myi_pair.specs.Findings.{all_walks, header_bad, names_before, deleted_places, deleted_bad, key_findings, keys_bad, rows_bad, told, findings}
use Rattle.myi_base.specs.Holding.{Measures}
use Rattle.myi_pair.specs.FirstBad.{first_failed}
use Rattle.myi_pair.specs.Findings.{all_walk, page_bytes}
use Rattle.myi_check.specs.declared.header.StoredHeader.{StoredHeader}
use Rattle.myi_check.specs.declared.header.Shown.{Shown}
use Rattle.myi_check.specs.declared.rows.RowsFound.{RowsFound}
use Rattle.myi_check.specs.declared.keys.KeysFound.{KeysFound}
use Rattle.myi_check.specs.Rows.{HasRows}
use Rattle.myi_check.specs.Keys.{HasKeys}
use Rattle.myi_check.specs.HeaderShown.{shown_tests, room_left, pages_shown, AreShown}
use Rattle.myi_check.proofs.ShownLemmas.{foreign_item, marked_item}

as_told : (o : Option ℕ) → map finding.Deleted (option_to_list (option_map told o)) ≡ map (λ at. finding.Deleted (told at)) (option_to_list o)
as_told None = refl
as_told (Some at) = refl

-- the sections one after the other
pub all_sections : (d : Defs) (rows x : List ℕ) (item : Option HeaderItem) (listed gap : Option ℕ) (keys all : List Finding)
    → item ≡ header_bad d rows x → listed ≡ option_map told (deleted_bad d rows x) → keys ≡ keys_bad d rows x → gap ≡ rows_bad d rows
    → all ≡ map finding.Header (option_to_list item) ++ (map finding.Deleted (option_to_list listed) ++ (keys ++ map finding.Rows (option_to_list gap)))
    → all ≡ findings d rows x
unfolding findings
all_sections d rows x item listed gap keys all header list key bytes is =
    is
    ∙ ap (λ (i : Option HeaderItem). map finding.Header (option_to_list i) ++ (map finding.Deleted (option_to_list listed) ++ (keys ++ map finding.Rows (option_to_list gap)))) header
    ∙ ap (λ (l : Option ℕ). map finding.Header (option_to_list (header_bad d rows x)) ++ (map finding.Deleted (option_to_list l) ++ (keys ++ map finding.Rows (option_to_list gap)))) list
    ∙ ap (λ (ks : List Finding). map finding.Header (option_to_list (header_bad d rows x)) ++ (ks ++ (keys ++ map finding.Rows (option_to_list gap)))) (as_told (deleted_bad d rows x))
    ∙ ap (λ (ks : List Finding). map finding.Header (option_to_list (header_bad d rows x)) ++ (map (λ at. finding.Deleted (told at)) (option_to_list (deleted_bad d rows x)) ++ (ks ++ map finding.Rows (option_to_list gap)))) key
    ∙ ap (λ (o : Option ℕ). map finding.Header (option_to_list (header_bad d rows x)) ++ (map (λ at. finding.Deleted (told at)) (option_to_list (deleted_bad d rows x)) ++ (keys_bad d rows x ++ map finding.Rows (option_to_list o)))) bytes

-- the deleted list, by the places of all deleted blocks
pub list_found : (d : Defs) (rows x places : List ℕ) (head listed : Option ℕ) → places ≡ deleted_places d rows → head ≡ (state_of d x).dellink
    → listed ≡ option_map told (list_bad (next_deleted d rows) (names_before d rows) (length places) places None head)
    → listed ≡ option_map told (deleted_bad d rows x)
unfolding deleted_bad
list_found d rows x places head listed all begins is =
    is
    ∙ ap (λ (ps : List ℕ). option_map told (list_bad (next_deleted d rows) (names_before d rows) (length ps) ps None head)) all
    ∙ ap (λ (n : ℕ). option_map told (list_bad (next_deleted d rows) (names_before d rows) n (deleted_places d rows) None head)) (length-map (deleted d rows) (λ (a : Range). a.0))
    ∙ ap (λ (o : Option ℕ). option_map told (list_bad (next_deleted d rows) (names_before d rows) (length (deleted d rows)) (deleted_places d rows) None o)) begins

pub keys_foreign : (d : Defs) (rows x : List ℕ) → has_mark d x ≡ false → [] ≡ keys_bad d rows x
unfolding keys_bad
keys_foreign d rows x absent = ap (λ (b : Bool). cond b (flat_map (key_findings d (map (placed_row d) (readable d false rows))) (all_walks d x)) []) (sym absent)

pub keys_marked : (d : Defs) (rows x : List ℕ) → has_mark d x ≡ true → flat_map (key_findings d (map (placed_row d) (readable d false rows))) (all_walks d x) ≡ keys_bad d rows x
unfolding keys_bad
keys_marked d rows x marked = ap (λ (b : Bool). cond b (flat_map (key_findings d (map (placed_row d) (readable d false rows))) (all_walks d x)) []) (sym marked)

-- a sum that stops at 2^64 - 1 leaves the same room in a file that is no longer
pub room_told : (d : Defs) (size : ℕ) (all : Bool) (n : ℕ) → size < 2 ^ 64 → room_left d size (cond all (Some (told n)) None) ≡ room_left d size (cond all (Some n) None)
room_told d size true n short = ap (λ (k : ℕ). Some k) (by size (first_page_of d) n (2 ^ 64 - 1) (omega (arith, short)))
  where
    by : (size first n top : ℕ) → size ≤ top → size - first - min n top ≡ size - first - n
    by size first n top le = omega arith
room_told d size false n short = refl

-- ---- the sections that hang on the mark

pub item_found : (d : Defs) (rows x : List ℕ) (h : StoredHeader) (shown : Shown) (item : Option HeaderItem) → h.state ≡ state_of d x → h.marked ≡ has_mark d x → (h.marked ≡ true → AreShown d rows x shown) → item ≡ first_failed (shown_tests h.marked h.state shown) → item ≡ header_bad d rows x
item_found d rows x h shown item state mark are is = by h.marked refl
  where
    by : (b : Bool) → h.marked ≡ b → item ≡ header_bad d rows x
    by true e = is ∙ ap (λ b. first_failed (shown_tests b h.state shown)) e ∙ marked_item d rows x h.state shown (sym mark ∙ e) state (are e)
    by false e = is ∙ ap (λ b. first_failed (shown_tests b h.state shown)) e ∙ foreign_item d rows x h.state shown (sym mark ∙ e)

pub keys_are : (d : Defs) (rows x : List ℕ) (marked : Bool) (r : KeysFound) → marked ≡ has_mark d x → (marked ≡ true → HasKeys d x (map (placed_row d) (readable d false rows)) r) → (marked ≡ false → r.findings.items ≡ []) → r.findings.items ≡ keys_bad d rows x
keys_are d rows x true r mark has none = (has refl).findings ∙ keys_marked d rows x (sym mark)
keys_are d rows x false r mark has none = none refl ∙ keys_foreign d rows x (sym mark)

pub shown_are : (d : Defs) (rows x : List ℕ) (size : ℕ) (with_keys : Bool) (r : RowsFound) (k : KeysFound) (shown : Shown) → size ≡ length x → size < 2 ^ 64 → HasRows d with_keys rows r → HasKeys d x (map (placed_row d) (readable d false rows)) k
    → shown.records ≡ r.records → shown.del ≡ length r.deleted → shown.split ≡ r.split → shown.key_file_length ≡ size → shown.data_file_length ≡ length rows → shown.empty ≡ r.empty → shown.key_empty ≡ room_left d size k.page_bytes
    → AreShown d rows x shown
shown_are d rows x size with_keys r k shown long short has keys records del split index whole empty room = record {
  records = records ∙ has.records;
  del = del ∙ ap (λ (ps : List ℕ). length ps) has.deleted ∙ length-map (deleted d rows) (λ (a : Range). a.0);
  split = split ∙ has.split;
  key_file_length = index ∙ long;
  data_file_length = whole;
  empty = empty ∙ has.empty;
  key_empty = room ∙ ap (room_left d size) keys.page_bytes ∙ room_told d size (all_walk (all_walks d x)) (page_bytes d (all_walks d x)) short ∙ ap (λ n. room_left d n (pages_shown d x)) long;
}

-- a file of a name has one length
pub same_size : (o : Option (List ℕ)) (x : List ℕ) (size : ℕ) → o ≡ Some x → Measures o (Some size) → size ≡ length x
same_size o x size is measured = measured.2 ∙ ap (λ (ys : List ℕ). length ys) (same measured.0 x (sym measured.1 ∙ is))
  where
    same : (y x : List ℕ) → ◌≡◌ {A = Option (List ℕ)} (Some y) (Some x) → y ≡ x
    same y x e = cc
