-- An index file that is cut where the room begins and gets a header stands, with the data file, for the table of the object.
use Rattle.std.proofs.Common.{◌≡◌, ℕ, zero, suc, ◌+◌, ◌-◌, ◌*◌, ◌/◌, ◌<◌, ◌≤◌, Bool, true, get_or, List, [], ◌∷◌, ◌++◌, length, map, take, drop, replicate, length-append, Option, Some, None, Ok, refl, sym, ap, subst, ◌∙◌, arith}
use Rattle.std.specs.List.{AllByRecursion}
use Rattle.std.specs.Str.{bytes_eq}
use Rattle.std.proofs.lemmas.List.{length-drop, length-take, length-replicate, take-append-le, drop-append-le}
use Rattle.myi_base.specs.Numbers.{num_at, pointer_of}
use Rattle.myi_base.specs.Ranges.{Range}
use Rattle.myi_base.specs.Holding.{Holding, bytes_of, resized, overwritten}
use Rattle.myi_base.proofs.CallerLemmas.{numbers-take}
use Rattle.myi_defs.specs.declared.types.Defs.{Defs}
use Rattle.myi_defs.specs.declared.layout.Layout.{Layout}
use Rattle.myi_defs.specs.Layout.{mark, layout_by, first_page}
use Rattle.myi_defs.specs.Sound.{IsSound}
use Rattle.myi_defs.specs.ReadDefs.{AreDefs}
use Rattle.myi_defs.specs.Elsewhere.{AgreeOutsideState}
use Rattle.myi_defs.specs.Addressable.{is_addressable}
use Rattle.myi_defs.proofs.CallerLemmas.{sound, elsewhere}
use Rattle.myi_header.specs.declared.state.State.{State}
use Rattle.myi_header.specs.Layout.{layout_of, first_page_of}
use Rattle.myi_header.specs.Parts.{part}
use Rattle.myi_header.specs.StateOf.{roots_in, rest_at, state_of, has_mark}
use Rattle.myi_header.proofs.CallerLemmas.{state-take}
use Rattle.myi_keycache.specs.Kept.{AllWritten}
use Rattle.myi_keycache.specs.Caching.{pages_of}
use Rattle.myi_keylist.specs.declared.pair.Pair.{Pair}
use Rattle.myi_btree.specs.declared.place.Place.{Place}
use Rattle.myi_btree.specs.Walk.{Walked, content}
use Rattle.myi_state.specs.declared.counts.Counts.{Counts}
use Rattle.myi_state.specs.State.{StoredRow, TableState}
use Rattle.myi_slots.specs.SlotFile.{counts_in}
use Rattle.myi_rowkeys.specs.TableKeys.{numbers_from}
use Rattle.myi_pair.specs.FirstRows.{key_numbers}
use Rattle.myi_pair.specs.Trees as pair
use Rattle.myi_keytrees.specs.Trees.{kinds}
use Rattle.myi_keytrees.specs.InFile.{HaveWalks, EndAt, contents_of, pages_of_walks, bytes_of_pages, bytes_of_free, KeepsBetween, StandIn}
use Rattle.myi_keytrees.proofs.CallerLemmas.{stand_in, walks_stay, cut_keeps}
use Rattle.myi_tablestate.specs.Listed.{listed}
use Rattle.myi_tablestate.specs.Standing.{HavePairs, HasTrees, StandForTable}
use Rattle.myi_rowtrees.specs.Places.{places_from, places_of}
use Rattle.myi_rowtrees.specs.RowLists.{lists_of}
use Rattle.myi_keyedrows.specs.declared.keyed_rows.KeyedRows.{KeyedRows}
use Rattle.myi_keyedrows.specs.KeyedRows.{defs_of}
use Rattle.myi_keyedrows.specs.Files.{AreOfKeys, HoldFiles, IsHeaderOf, closed_index, defs_with}
use Rattle.myi_keyedrows.proofs.HeaderLemmas.{with_raw, table_same, file_same, addressable_same, places_same, pairs_same}
use Rattle.myi_keyedrows.proofs.OpenLemmas.{bytes_total}

-- ---- a front of a list

front_part : (p n : ℕ) (h more : List ℕ) → p + n ≤ length h → take n (drop p (h ++ more)) ≡ take n (drop p h)
front_part p n h more le = rw (drop-append-le p h more (omega (arith, le)), take-append-le n (drop p h) more (omega (arith, le, length-drop p h))) refl

front_take : (n : ℕ) (h more : List ℕ) → n ≤ length h → take n (h ++ more) ≡ take n h
front_take n h more le = take-append-le n h more le

all_taken : (h more : List ℕ) → take (length h) (h ++ more) ≡ h
all_taken [] more = refl
all_taken (x ∷ h) more = ap (λ (xs : List ℕ). x ∷ xs) (all_taken h more)

less_taken : (k n : ℕ) (xs : List ℕ) → k ≤ n → take k (take n xs) ≡ take k xs
less_taken zero n xs le = refl
less_taken (suc k) zero xs le = absurd (omega (arith, le))
less_taken (suc k) (suc n) [] le = refl
less_taken (suc k) (suc n) (y ∷ xs) le = ap (λ ys. y ∷ ys) (less_taken k n xs (omega (arith, le)))

none_resized : (xs : List ℕ) → resized 0 xs ≡ []
none_resized xs = let e : 0 - length xs ≡ 0 = omega arith in ap (λ (n : ℕ). take 0 xs ++ replicate n 0) e

over_front : (h xs : List ℕ) → overwritten 0 h xs ≡ h ++ drop (0 + length h) xs
over_front h xs = ap (λ (f : List ℕ). f ++ h ++ drop (0 + length h) xs) (none_resized xs)

long_resized : (n : ℕ) (xs : List ℕ) → length (resized n xs) ≡ n
long_resized n xs = omega (arith, length-append (take n xs) (replicate (n - length xs) 0), length-take n xs, length-replicate {A = ℕ} (n - length xs) 0)

long_over : (h xs : List ℕ) → length h ≤ length xs → length (overwritten 0 h xs) ≡ length xs
long_over h xs le =
    let e = ap (λ (ys : List ℕ). length ys) (over_front h xs) in
    omega (arith, e, le, length-append h (drop (0 + length h) xs), length-drop (0 + length h) xs)

-- ---- the header that is read again

abbrev state_by : Layout → ℕ → List ℕ → State
state_by l keys x = record {
  open_count = num_at 24 2 x;
  changed = num_at 26 1 x;
  sortkey = num_at 27 1 x;
  records = num_at 28 8 x;
  del = num_at 36 8 x;
  split = num_at 44 8 x;
  dellink = pointer_of (num_at 52 8 x);
  key_file_length = num_at 60 8 x;
  data_file_length = num_at 68 8 x;
  empty = num_at 76 8 x;
  key_empty = num_at 84 8 x;
  auto_increment = num_at 92 8 x;
  roots = roots_in keys x;
  key_map = num_at l.key_map 8 x;
  recover_time = num_at l.recover_time 8 x;
  rest = rest_at l x;
}

state_is : (d : Defs) (x : List ℕ) → state_of d x ≡ state_by (layout_of d) (length d.keys) x
unfolding state_of
state_is d x = refl

module _ (d : Defs) (h more : List ℕ) (are : AreDefs d) (long : length h ≡ first_page_of d) (agree : AgreeOutsideState d.raw h) (marked : has_mark d h ≡ true) where
  good : IsSound d
  good = sound d are

  raw_short : length d.raw ≤ length h
  raw_short = omega (arith, long)

  base_short : num_at 12 2 d.raw + 100 ≤ length d.raw
  base_short = good.base_inside

  raw_least : 276 ≤ length d.raw
  raw_least = omega (arith, good.base, good.base_inside)

  agrees : AgreeOutsideState d.raw (h ++ more)
  agrees = record {
    long = omega (arith, agree.long, length-append h more);
    front = front_take 24 h more (omega (arith, raw_short, raw_least)) ∙ agree.front;
    base = front_part (num_at 12 2 d.raw) 94 h more (omega (arith, raw_short, base_short)) ∙ agree.base;
    back = ap (drop (num_at 12 2 d.raw + 100)) (front_take (num_at 6 2 d.raw) h more (omega (arith, agree.long))) ∙ agree.back;
  }

  raw_front : take 24 (take (num_at 6 2 d.raw) (h ++ more)) ≡ take 24 d.raw
  raw_front = less_taken 24 (num_at 6 2 d.raw) (h ++ more) (omega (arith, good.header, raw_least)) ∙ agrees.front

  sizes_same : num_at 21 1 (take (num_at 6 2 d.raw) (h ++ more)) ≡ num_at 21 1 d.raw
  sizes_same = ap (λ (ns : List ℕ). get_or ns 0 0) (numbers-take 21 24 (1 ∷ []) (take (num_at 6 2 d.raw) (h ++ more)) d.raw (omega arith) raw_front)

  parts_same : num_at 14 2 (take (num_at 6 2 d.raw) (h ++ more)) ≡ num_at 14 2 d.raw
  parts_same = ap (λ (ns : List ℕ). get_or ns 0 0) (numbers-take 14 24 (2 ∷ []) (take (num_at 6 2 d.raw) (h ++ more)) d.raw (omega arith) raw_front)

  layout_same : layout_of (defs_with d (h ++ more)) ≡ layout_of d
  layout_same = ap (λ (n : ℕ). layout_by (length d.keys) n (num_at 14 2 (take (num_at 6 2 d.raw) (h ++ more)))) sizes_same ∙ ap (layout_by (length d.keys) (num_at 21 1 d.raw)) parts_same

  state_again : state_of (defs_with d (h ++ more)) (h ++ more) ≡ state_of d h
  state_again =
      state_is (defs_with d (h ++ more)) (h ++ more)
      ∙ ap (λ (l : Layout). state_by l (length d.keys) (h ++ more)) layout_same
      ∙ sym (state_is d (h ++ more))
      ∙ sym (state-take d (length h) (h ++ more) good raw_short)
      ∙ ap (state_of d) (all_taken h more)

  mark_again : has_mark (defs_with d (h ++ more)) (h ++ more) ≡ true
  unfolding has_mark
  mark_again =
      ap (λ (l : Layout). bytes_eq (part (l.base + 94) 6 (h ++ more)) mark) layout_same
      ∙ ap (λ (b : List ℕ). bytes_eq b mark) (front_part ((layout_of d).base + 94) 6 h more (omega (arith, raw_short, base_short, good.base)))
      ∙ marked

  first_again : first_page_of (defs_with d (h ++ more)) ≡ first_page_of d
  first_again = ap first_page (let e : length (take (num_at 6 2 d.raw) (h ++ more)) ≡ length d.raw = omega (arith, length-take (num_at 6 2 d.raw) (h ++ more), length-append h more, agree.long, good.header) in e)

  read_again : Rattle.myi_defs.specs.ReadDefs.read_defs (h ++ more) ≡ Ok (defs_with d (h ++ more))
  read_again = elsewhere d (h ++ more) are agrees

-- ---- the trees

long_numbers : (k n : ℕ) → length (numbers_from k n) ≡ n
long_numbers k zero = refl
long_numbers k (suc n) = let rest = long_numbers (suc k) n in omega (arith, rest)

kinds_places : (d : Defs) (ks : List ℕ) (ps : List Place) → kinds ps ≡ map (pair.place_of d) ks → ps ≡ places_from d ks (map (λ (p : Place). p.root) ps)
kinds_places d [] [] same = refl
kinds_places d [] (p ∷ ps) same = absurd cc
kinds_places d (k ∷ ks) [] same = absurd cc
kinds_places d (k ∷ ks) (p ∷ ps) same =
    let head : record p { root = None } ≡ pair.place_of d k = ap (λ (qs : List Place). get_or qs 0 (pair.place_of d k)) same in
    let tail : kinds ps ≡ map (pair.place_of d) ks = ap (λ (qs : List Place). drop 1 qs) same in
    ap (λ (q : Place). record q { root = p.root } ∷ ps) head ∙ ap (λ (qs : List Place). record (pair.place_of d k) { root = p.root } ∷ qs) (kinds_places d ks ps tail)

kinds_long : (d : Defs) (ks : List ℕ) (ps : List Place) → kinds ps ≡ map (pair.place_of d) ks → length (map (λ (p : Place). p.root) ps) ≡ length ks
kinds_long d [] [] same = refl
kinds_long d [] (p ∷ ps) same = absurd cc
kinds_long d (k ∷ ks) [] same = absurd cc
kinds_long d (k ∷ ks) (p ∷ ps) same =
    let tail : kinds ps ≡ map (pair.place_of d) ks = ap (λ (qs : List Place). drop 1 qs) same in
    let rest = kinds_long d ks ps tail in
    omega (arith, rest)

pairs_back : (d : Defs) (rows : List StoredRow) (ks : List ℕ) (ws : List Walked) → contents_of ws ≡ map (λ k. listed d k rows) ks → HavePairs d rows ks ws
pairs_back d rows [] [] same = refl
pairs_back d rows [] (w ∷ ws) same = absurd cc
pairs_back d rows (k ∷ ks) [] same = absurd cc
pairs_back d rows (k ∷ ks) (w ∷ ws) same = (ap (λ (ls : List (List Pair)). get_or ls 0 []) same, pairs_back d rows ks ws (ap (λ (ls : List (List Pair)). drop 1 ls) same))

abbrev pub TreesBack : Type 0
TreesBack = (d : Defs) (x : List ℕ) (busy : List Range) (roots : List (Option ℕ)) (walks : List Walked) → length roots ≡ length d.keys → HaveWalks x busy (places_of d roots) walks → pair.HaveWalks d x busy (key_numbers d) roots walks

abbrev pub FrontKeeps : Type 0
FrontKeeps = (first end : ℕ) (file bytes : List ℕ) → length bytes ≤ first → KeepsBetween first end file (overwritten 0 bytes file)

-- ---- the two files

pub closed_files : TreesBack → FrontKeeps → (k : KeyedRows) (lost : ℕ) (own : ℕ → ℕ) (s : TableState) (m : Holding) (h : List ℕ) → AreDefs (defs_of k) → AreOfKeys k → HoldFiles k lost own s m → AllWritten (pages_of k.trees.cache) → IsHeaderOf k lost h
    → StandForTable (defs_with (defs_of k) (closed_index k h m)) s (bytes_of k.rows.file.name m) (closed_index k h m)
closed_files back keeps k lost own s m h are kinds_are hold written header =
    let d = defs_of k in
    let good : IsSound d = sound d are in
    let first = first_page_of d in
    let end = k.trees.room.end in
    let file = bytes_of k.trees.cache.name m in
    let cut = resized end file in
    let more = drop (0 + length h) cut in
    let y : List ℕ = h ++ more in
    let e : Defs = defs_with d y in
    let some : 0 < first = omega (arith, good.base_inside) in
    let stand = stand_in k.trees m own (lists_of d s.rows) first some written hold.behind hold.table.trees in
    let long_y : length y ≡ end = ap (λ (ys : List ℕ). length ys) (sym (over_front h cut)) ∙ long_over h cut (omega (arith, header.long, long_resized end file, hold.counted)) ∙ long_resized end file in
    let state : state_of e y ≡ state_of d h = state_again d h more are header.long header.elsewhere header.mark in
    let roots : (state_of e y).roots ≡ map (λ (p : Place). p.root) k.trees.places = ap (λ (t : State). t.roots) state ∙ header.roots in
    let longs : length (map (λ (p : Place). p.root) k.trees.places) ≡ length (key_numbers d) = kinds_long d (key_numbers d) k.trees.places kinds_are in
    let long : length (state_of e y).roots ≡ length (key_numbers d) = ap (λ (rs : List (Option ℕ)). length rs) roots ∙ longs in
    let places : places_of e (state_of e y).roots ≡ k.trees.places =
    places_same d (take (num_at 6 2 d.raw) y) (key_numbers d) (state_of e y).roots ∙ ap (places_from d (key_numbers d)) roots ∙ sym (kinds_places d (key_numbers d) k.trees.places kinds_are) in
    let in_cut : HaveWalks cut ((0, first) ∷ []) k.trees.places stand.walks = walks_stay first end file cut k.trees.places stand.walks hold.table.trees.placed (cut_keeps first end file) stand.have stand.before in
    let in_over : HaveWalks (overwritten 0 h cut) ((0, first) ∷ []) k.trees.places stand.walks = walks_stay first end cut (overwritten 0 h cut) k.trees.places stand.walks hold.table.trees.placed (keeps first end cut h (omega (arith, header.long))) in_cut stand.before in
    let in_y : HaveWalks y ((0, first_page_of e) ∷ []) (places_of e (state_of e y).roots) stand.walks =
    subst (λ (ps : List Place). HaveWalks y ((0, first_page_of e) ∷ []) ps stand.walks) (sym places)
    (subst (λ (n : ℕ). HaveWalks y ((0, n) ∷ []) k.trees.places stand.walks) (sym (first_again d h more are header.long header.elsewhere header.mark))
    (subst (λ (f : List ℕ). HaveWalks f ((0, first) ∷ []) k.trees.places stand.walks) (over_front h cut) in_over)) in
    let total = bytes_total e (key_numbers d) (state_of e y).roots stand.walks long in
    let pages = ap (λ (ps : List Place). bytes_of_pages ps (pages_of_walks stand.walks)) places in
    let on = ap (λ (g : List (List ℕ)). bytes_of_pages k.trees.places g) stand.pages_are in
    let empty = ap (λ (t : State). t.key_empty) state ∙ header.empty in
    let first_same = first_again d h more are header.long header.elsewhere header.mark in
    let b = bytes_of k.rows.file.name m in
    let whole : StandForTable e s b y = record {
      table = table_same d (take (num_at 6 2 d.raw) y) s hold.table.table;
      rows = file_same d (take (num_at 6 2 d.raw) y) s b hold.table.rows.0.stands;
      addressable = addressable_same d (take (num_at 6 2 d.raw) y) (length b) ∙ ap (λ (n : ℕ). is_addressable d n) hold.table.rows.0.stands.long ∙ hold.reached;
      read = read_again d h more are header.long header.elsewhere header.mark;
      mark = mark_again d h more are header.long header.elsewhere header.mark;
      numbers = ap counts_in state ∙ header.numbers ∙ hold.table.rows.0.counts;
      long = ap (λ (t : State). t.key_file_length) state ∙ header.end ∙ sym long_y;
      trees = record {
        walks = stand.walks;
        trees = back e y ((0, first_page_of e) ∷ []) (state_of e y).roots stand.walks (long ∙ long_numbers 1 (length d.keys)) in_y;
        pairs = pairs_same d (take (num_at 6 2 d.raw) y) s.rows (key_numbers d) stand.walks (pairs_back d s.rows (key_numbers d) stand.walks stand.contents);
        free = omega (arith, empty, total, pages, on, first_same, long_y, hold.counted);
      };
    } in
    subst (λ (z : List ℕ). StandForTable (defs_with d z) s b z) (sym (over_front h cut)) whole
