-- An object that was just opened on the two files of a table stands for it.
use Rattle.std.proofs.Common.{◌≡◌, ℕ, zero, suc, ◌+◌, ◌-◌, ◌*◌, ◌/◌, ◌<◌, ◌≤◌, Bool, true, false, ◌&&◌, cond, leb, ltb, List, [], ◌∷◌, ◌++◌, length, map, Option, Some, None, refl, sym, ap, subst, ◌∙◌, arith, inl, inr}
use Rattle.std.specs.Prelude.{max, unwrap_or, sum_by}
use Rattle.std.specs.List.{AllByRecursion}
use Rattle.std.specs.List.Sorted.{IsStrictlySortedBy}
use Rattle.std.proofs.Math.Nat.{mul-suc}
use Rattle.std.proofs.lemmas.Bool.{cases_Bool, cases_lt, le-leb, lt-ltb, leb-true, ltb-true, and_parts}
use Rattle.std.proofs.lemmas.List.Sums.{sum_by-cons, sum_by-append}
use Rattle.myi_base.specs.Ranges.{Range}
use Rattle.myi_base.specs.Holding.{Holding, bytes_of}
use Rattle.myi_defs.specs.declared.types.Defs.{Defs}
use Rattle.myi_defs.specs.Sound.{IsSound}
use Rattle.myi_defs.specs.Addressable.{is_addressable}
use Rattle.myi_defs.proofs.CallerLemmas.{sound, are_defs}
use Rattle.myi_header.specs.declared.state.State.{State}
use Rattle.myi_header.specs.Layout.{first_page_of}
use Rattle.myi_header.specs.StateOf.{state_of}
use Rattle.myi_keycache.specs.Kept.{Page, is_kept, kept, NoOtherMeets, AllWritten, is_unwritten}
use Rattle.myi_keycache.specs.Caching.{Caching, pages_of, IsCurrent}
use Rattle.myi_keylist.specs.declared.pair.Pair.{Pair}
use Rattle.myi_keylist.specs.PairOrder.{pair_cmp}
use Rattle.myi_btree.specs.declared.place.Place.{Place}
use Rattle.myi_btree.specs.declared.place.Room.{Room}
use Rattle.myi_btree.specs.Walk.{Walked, content}
use Rattle.myi_btree.specs.Nodes.{node_at}
use Rattle.myi_btree.specs.Visit.{page_range}
use Rattle.myi_btree.specs.Sizes.{IsPlaced}
use Rattle.myi_btree.proofs.CallerLemmas.{one_walk}
use Rattle.myi_insertion.specs.Covers.{within, from_end, covers, stock}
use Rattle.myi_insertion.specs.CachedChanges.{NoneInRoom}
use Rattle.myi_state.specs.State.{StoredRow, TableState}
use Rattle.myi_state.specs.Standing.{StandsFor}
use Rattle.myi_blocks.specs.Places.{AreNoted}
use Rattle.myi_pair.specs.FirstRows.{key_numbers}
use Rattle.myi_pair.specs.Trees as pair
use Rattle.myi_keytrees.specs.Trees.{Trees}
use Rattle.myi_keytrees.specs.Standing.{cover_each, HoldLists, Stand}
use Rattle.myi_keytrees.specs.InFile.{pages_on, HasWalkApart, HaveWalks, EndAt, AreAscending, contents_of, pages_of_walks, bytes_of_pages, bytes_of_free, bytes_owned, StandIn}
use Rattle.myi_keytrees.proofs.CallerLemmas.{stand_in, opened, none_in_front, few}
use Rattle.myi_tablestate.specs.Listed.{listed}
use Rattle.myi_tablestate.specs.Standing.{HavePairs, StandForTable}
use Rattle.myi_rowtrees.specs.Places.{places_from, places_of}
use Rattle.myi_rowtrees.specs.RowLists.{lists_of}
use Rattle.myi_keyedrows.specs.declared.keyed_rows.KeyedRows.{KeyedRows}
use Rattle.myi_keyedrows.specs.KeyedRows.{defs_of, HoldTable}
use Rattle.myi_keyedrows.specs.Files.{used_end, room_begin, lost_bytes, IsOpened, HoldFiles}

-- ---- the pairs of the walks

contents_are : (d : Defs) (rows : List StoredRow) (ks : List ℕ) (ws : List Walked) → HavePairs d rows ks ws → contents_of ws ≡ map (λ k. listed d k rows) ks
contents_are d rows [] ws have = ap contents_of have
contents_are d rows (k ∷ ks) [] have = absurd have
contents_are d rows (k ∷ ks) (w ∷ ws) have = ap (λ (xs : List Pair). xs ∷ contents_of ws) have.0 ∙ ap (λ (ls : List (List Pair)). listed d k rows ∷ ls) (contents_are d rows ks ws have.1)

all_ascend : (d : Defs) (rows : List StoredRow) → ((k : ℕ) → IsStrictlySortedBy pair_cmp (listed d k rows)) → (ks : List ℕ) → AreAscending (map (λ k. listed d k rows) ks)
all_ascend d rows strict [] = tt
all_ascend d rows strict (k ∷ ks) = (strict k, all_ascend d rows strict ks)

-- ---- there is one walk of each tree

same_walk_of : (p : Place) (file : List ℕ) (root : Option ℕ) (busy more : List Range) (w v : Walked) → HasWalkApart p file root busy w → HasWalkApart p file root more v → w ≡ v
same_walk_of p file None busy more w v a b = a ∙ sym b
same_walk_of p file (Some root) busy more w v a b = one_walk (node_at p.rec_ref p.block_length file) a.0.height b.0.height root w v a.0.walk b.0.walk

same_walks : (file : List ℕ) (busy more : List Range) (ps : List Place) (ws vs : List Walked) → HaveWalks file busy ps ws → HaveWalks file more ps vs → ws ≡ vs
same_walks file busy more [] ws vs a b = a ∙ sym b
same_walks file busy more (p ∷ ps) [] vs a b = absurd a
same_walks file busy more (p ∷ ps) (w ∷ ws) [] a b = absurd b
same_walks file busy more (p ∷ ps) (w ∷ ws) (v ∷ vs) a b =
    ap (λ (x : Walked). x ∷ ws) (same_walk_of p file p.root busy more w v a.0 b.0) ∙ ap (λ (xs : List Walked). v ∷ xs) (same_walks file (busy ++ pages_on p w) (more ++ pages_on p v) ps ws vs a.1 b.1)

-- ---- where pages end

abbrev ends_of : ℕ → List ℕ → ℕ
ends_of block [] = 0
ends_of block (p ∷ ps) = p + block + ends_of block ps

abbrev all_ends : List Place → List Walked → ℕ
all_ends [] ws = 0
all_ends (p ∷ ps) [] = 0
all_ends (p ∷ ps) (w ∷ ws) = ends_of p.block_length w.pages + all_ends ps ws

before_ends : (block end : ℕ) (ps : List ℕ) → ends_of block ps ≤ end → AllByRecursion (λ p. p + block ≤ end) ps
before_ends block end [] le = tt
before_ends block end (p ∷ ps) le = (omega (arith, le), before_ends block end ps (omega (arith, le)))

before_all : (end : ℕ) (ps : List Place) (ws : List Walked) → all_ends ps ws ≤ end → EndAt end ps ws
before_all end [] ws le = tt
before_all end (p ∷ ps) [] le = tt
before_all end (p ∷ ps) (w ∷ ws) le = (before_ends p.block_length end w.pages (omega (arith, le)), before_all end ps ws (omega (arith, le)))

one_later : (block end more : ℕ) (ps : List ℕ) → end ≤ more → AllByRecursion (λ p. p + block ≤ end) ps → AllByRecursion (λ p. p + block ≤ more) ps
one_later block end more [] le all = tt
one_later block end more (p ∷ ps) le all = (omega (arith, le, all.0), one_later block end more ps le all.1)

pub all_later : (end more : ℕ) (ps : List Place) (ws : List Walked) → end ≤ more → EndAt end ps ws → EndAt more ps ws
all_later end more [] ws le all = tt
all_later end more (p ∷ ps) [] le all = tt
all_later end more (p ∷ ps) (w ∷ ws) le all = (one_later p.block_length end more w.pages le all.0, all_later end more ps ws le all.1)

-- ---- how many bytes pages have

one_total : (block : ℕ) (ps : List ℕ) → pair.total (map (page_range block) ps) ≡ block * length ps
one_total block [] = omega arith
one_total block (p ∷ ps) =
    let rest = one_total block ps in
    let head = sum_by-cons (λ (r : Range). r.1 - r.0) (p, p + block) (map (page_range block) ps) in
    omega (arith, head, rest, mul-suc block (length ps))

pub bytes_total : (d : Defs) (ks : List ℕ) (roots : List (Option ℕ)) (ws : List Walked) → length roots ≡ length ks → bytes_of_pages (places_from d ks roots) (pages_of_walks ws) ≡ pair.total (pair.all_pages d ks ws)
bytes_total d [] roots ws same = refl
bytes_total d (k ∷ ks) [] ws same = absurd (omega (arith, same))
bytes_total d (k ∷ ks) (root ∷ roots) [] same = refl
bytes_total d (k ∷ ks) (root ∷ roots) (w ∷ ws) same =
    let one = one_total (pair.block_of_key d k) w.pages in
    let rest = bytes_total d ks roots ws (omega (arith, same)) in
    let both = sum_by-append (λ (r : Range). r.1 - r.0) (pair.pages_on d k w) (pair.all_pages d ks ws) in
    omega (arith, one, rest, both)

-- ---- a cache that keeps no page

no_kept : (at len : ℕ) → is_kept [] at len ≡ true → ⊥
unfolding kept
no_kept at len e = cc

none_unwritten : AllWritten []
unfolding is_unwritten
none_unwritten p n e = cc

-- ---- bytes

within_out : (at len x : ℕ) → at + len ≤ x → within at len x ≡ 0
within_out at len x past = elim (cases_Bool (leb at x && ltb x (at + len))) [
  | inl is ↦ absurd (let k = and_parts (leb at x) (ltb x (at + len)) is in let l = ltb-true x (at + len) k.1 in omega arith)
  | inr other ↦ ap (λ (b : Bool). cond b 1 0) other
]

within_most : (at len x : ℕ) → within at len x ≤ 1
within_most at len x = elim (cases_Bool (leb at x && ltb x (at + len))) [
  | inl is ↦ let k : within at len x ≡ 1 = ap (λ (b : Bool). cond b 1 0) is in omega arith
  | inr other ↦ let k : within at len x ≡ 0 = ap (λ (b : Bool). cond b 1 0) other in omega arith
]

stock_is : (room : Room) (x : ℕ) → stock room x ≡ from_end room.end x + covers room.free x
unfolding stock
stock_is room x = refl

-- ---- trees of a file that was just opened

abbrev with_end : Trees → ℕ → Trees
with_end t end = record t { room = record { end = end; free = [] } }

module _ (t : Trees) (m : Holding) (first : ℕ) (ws : List Walked) (some : 0 < first) (placed : AllByRecursion IsPlaced t.places) (none : pages_of t.cache ≡ []) (current : IsCurrent t.cache m) (ascend : AreAscending (contents_of ws))
    (have : HaveWalks (bytes_of t.cache.name m) ((0, first) ∷ []) t.places ws) where
  written : AllWritten (pages_of t.cache)
  written = subst AllWritten (sym none) none_unwritten

  stand_to : (end : ℕ) → EndAt end t.places ws → Stand (with_end t end) m (bytes_owned (with_end t end) ws) (contents_of ws)
  stand_to end ends = opened (with_end t end) m first ws placed none current refl ascend have ends

  in_file : (end : ℕ) → first ≤ end → (ends : EndAt end t.places ws) → StandIn (bytes_of t.cache.name m) first end t.places (contents_of ws) (stand_to end ends).pages
  in_file end le ends = stand_in (with_end t end) m (bytes_owned (with_end t end) ws) (contents_of ws) first some written (λ x low. none_in_front (with_end t end) m first x ws refl le have low) (stand_to end ends)

  -- each page ends in the file
  inside : EndAt (length (bytes_of t.cache.name m)) t.places ws
  inside =
      let far = in_file (first + all_ends t.places ws) (omega arith) (before_all (first + all_ends t.places ws) t.places ws (omega arith)) in
      subst (λ (vs : List Walked). EndAt (length (bytes_of t.cache.name m)) t.places vs) (same_walks (bytes_of t.cache.name m) ((0, first) ∷ []) ((0, first) ∷ []) t.places far.walks ws far.have have) far.inside

  -- the trees stand on the pages of these walks
  on_walks : (end : ℕ) → first ≤ end → (ends : EndAt end t.places ws) → pages_of_walks ws ≡ (stand_to end ends).pages
  on_walks end le ends =
      let there = in_file end le ends in
      ap pages_of_walks (sym (same_walks (bytes_of t.cache.name m) ((0, first) ∷ []) ((0, first) ∷ []) t.places there.walks ws there.have have)) ∙ there.pages_are

  -- the front of the file, beside them
  front_stands : (end : ℕ) → first ≤ end → (ends : EndAt end t.places ws) → Stand (record t { room = record { end = end; free = (0, first) ∷ [] } }) m (λ x. cover_each t.places (stand_to end ends).pages x + stock (record { end = end; free = (0, first) ∷ [] }) x) (contents_of ws)
  front_stands end le ends =
      let s = stand_to end ends in
      record {
        placed = s.placed;
        pages = s.pages;
        current = s.current;
        hold = s.hold;
        spare = record { free = ((λ some p n e. absurd (no_kept p n (ap (λ (ps : List Page). is_kept ps p n) (sym none) ∙ e))), tt); end = s.spare.end };
        owned = λ x. refl;
        once = λ x.
            let plain = stock_is (record { end = end; free = [] }) x in
            let more = stock_is (record { end = end; free = (0, first) ∷ [] }) x in
            elim (cases_lt x first) [
              | inl low ↦ omega (arith, plain, more, s.owned x, none_in_front (with_end t end) m first x ws refl le have low, within_most 0 first x)
              | inr past ↦ omega (arith, plain, more, s.owned x, s.once x, within_out 0 first x (omega (arith, past)))
            ];
      }

  front_first : (end : ℕ) → first ≤ end → (ends : EndAt end t.places ws) → first + bytes_of_pages t.places (stand_to end ends).pages ≤ end
  unfolding front_stands
  front_first end le ends =
      let less = few (record t { room = record { end = end; free = (0, first) ∷ [] } }) m (λ x. cover_each t.places (stand_to end ends).pages x + stock (record { end = end; free = (0, first) ∷ [] }) x) (contents_of ws) (front_stands end le ends) in
      omega (arith, less)

-- ---- the object

roots_long : (d : Defs) (x : List ℕ) (busy : List Range) (ks : List ℕ) (roots : List (Option ℕ)) (ws : List Walked) → pair.HaveWalks d x busy ks roots ws → length roots ≡ length ks
roots_long d x busy [] roots ws have = ap (λ (rs : List (Option ℕ)). length rs) have.0
roots_long d x busy (k ∷ ks) [] ws have = absurd have
roots_long d x busy (k ∷ ks) (root ∷ roots) [] have = absurd have
roots_long d x busy (k ∷ ks) (root ∷ roots) (w ∷ ws) have = let rest = roots_long d x (busy ++ pair.pages_on d k w) ks roots ws have.1 in omega (arith, rest)

-- what is lost, by the bytes of pages
lost_is : (first len pages : ℕ) → first + pages ≤ max first len → first + pages + 0 + ((len - first - pages) + ((max first len + 1023) / 1024 * 1024 - max first len)) ≡ (max first len + 1023) / 1024 * 1024
lost_is first len pages le = omega (arith, le)

pub opened_files : (k : KeyedRows) (m : Holding) (s : TableState) (b x : List ℕ) → IsOpened k x → IsCurrent k.trees.cache m → m k.rows.file.name ≡ Some b → m k.trees.cache.name ≡ Some x
    → (t : StandForTable (defs_of k) s b x) → ((i : ℕ) → IsStrictlySortedBy pair_cmp (listed (defs_of k) i s.rows))
    → HaveWalks x ((0, first_page_of (defs_of k)) ∷ []) (places_of (defs_of k) (state_of (defs_of k) x).roots) t.trees.walks
    → (own : ℕ → ℕ) × HoldFiles k (lost_bytes (defs_of k) (state_of (defs_of k) x)) own s m
opened_files k m s b x o current rows_there index t strict there =
    let d = defs_of k in
    let st = state_of d x in
    let good : IsSound d = sound d (are_defs x d t.read) in
    let first = first_page_of d in
    let ws = t.trees.walks in
    let some : 0 < first = omega (arith, good.base_inside) in
    let file : bytes_of k.trees.cache.name m ≡ x = ap (λ (f : Option (List ℕ)). unwrap_or f []) index in
    let have : HaveWalks (bytes_of k.trees.cache.name m) ((0, first) ∷ []) k.trees.places ws = subst (λ (f : List ℕ). HaveWalks f ((0, first) ∷ []) k.trees.places ws) (sym file) (subst (λ (ps : List Place). HaveWalks x ((0, first) ∷ []) ps ws) (sym o.roots) there) in
    let lists : contents_of ws ≡ lists_of d s.rows = contents_are d s.rows (key_numbers d) ws t.trees.pairs in
    let ascend : AreAscending (contents_of ws) = subst AreAscending (sym lists) (all_ascend d s.rows strict (key_numbers d)) in
    let in_file = inside k.trees m first ws some o.placed o.kept current ascend have in
    let long : length (bytes_of k.trees.cache.name m) ≡ st.key_file_length = ap (λ (f : List ℕ). length f) file ∙ sym t.long in
    let used = used_end d st in
    let begin = room_begin d st in
    let ends : EndAt used k.trees.places ws = all_later (length (bytes_of k.trees.cache.name m)) used k.trees.places ws (omega (arith, long)) in_file in
    let later : EndAt begin k.trees.places ws = all_later used begin k.trees.places ws (omega arith) ends in
    let stand = stand_to k.trees m first ws some o.placed o.kept current ascend have begin later in
    let less = front_first k.trees m first ws some o.placed o.kept current ascend have used (omega arith) ends in
    let on = on_walks k.trees m first ws some o.placed o.kept current ascend have begin (omega arith) later in
    let before = on_walks k.trees m first ws some o.placed o.kept current ascend have used (omega arith) ends in
    let bytes : bytes_of_pages k.trees.places (pages_of_walks ws) ≡ pair.total (pair.all_pages d (key_numbers d) ws) = ap (λ (ps : List Place). bytes_of_pages ps (pages_of_walks ws)) o.roots ∙ bytes_total d (key_numbers d) st.roots ws (roots_long d x ((0, first) ∷ []) (key_numbers d) st.roots ws t.trees.trees) in
    let one = ap (λ (g : List (List ℕ)). bytes_of_pages k.trees.places g) on in
    let two = ap (λ (g : List (List ℕ)). bytes_of_pages k.trees.places g) before in
    let opened_one : KeyedRows = record { rows = k.rows; trees = with_end k.trees begin } in
    let put : Room → KeyedRows = λ r. record { rows = k.rows; trees = record k.trees { room = r } } in
    let same : opened_one ≡ k = ap put (sym o.room) in
    let pages = bytes_of_pages k.trees.places (pages_of_walks ws) in
    let empty : st.key_empty ≡ st.key_file_length - first - pages = t.trees.free ∙ ap (λ (n : ℕ). n - first - pair.total (pair.all_pages d (key_numbers d) ws)) (sym t.long) ∙ ap (λ (n : ℕ). st.key_file_length - first - n) (sym bytes) in
    let fits : first + pages ≤ max first st.key_file_length = omega (arith, less, two) in
    let held : HoldFiles opened_one (lost_bytes d st) (bytes_owned (with_end k.trees begin) ws) s m = record {
      table = record {
        table = t.table;
        rows = (
          record { counts = o.numbers ∙ t.numbers; stands = subst (λ (f : List ℕ). StandsFor d s f) (ap (λ (f : Option (List ℕ)). unwrap_or f []) (sym rows_there)) t.rows },
          subst (λ (ps : Option (List ℕ)). AreNoted ps s.rows) (sym o.noted) tt,
        );
        trees = record {
          placed = stand.placed;
          pages = stand.pages;
          current = stand.current;
          hold = subst (λ (ls : List (List Pair)). HoldLists k.trees.cache m k.trees.places ls stand.pages) lists stand.hold;
          spare = stand.spare;
          owned = stand.owned;
          once = stand.once;
        };
      };
      reached = ap (λ (n : ℕ). is_addressable d n) (sym t.rows.long) ∙ t.addressable;
      behind = λ p low. none_in_front (with_end k.trees begin) m first p ws refl (omega arith) have low;
      counted = ap (λ (n : ℕ). first + n + 0 + lost_bytes d st) (sym one) ∙ ap (λ (n : ℕ). first + pages + 0 + (n + (begin - used))) empty ∙ lost_is first st.key_file_length pages fits;
    } in
    subst (λ (q : KeyedRows). (own : ℕ → ℕ) × HoldFiles q (lost_bytes d st) own s m) same (bytes_owned (with_end k.trees begin) ws, held)
