-- The new index file: its header before the trees that were laid. The table is clean with it, and its pages are sorted.
use Rattle.std.proofs.Common.{◌≡◌, ℕ, ◌+◌, ◌-◌, ◌<◌, ◌≤◌, ◌∷◌, ◌++◌, true, false, Option, Some, None, List, [], length, take, drop, map, Ok, refl, sym, ap, subst, ◌∙◌, arith, length-take, length-drop}
use Rattle.std.specs.Prelude.{Result, IsPermutation}
use Rattle.std.specs.List.{list_any}
use Rattle.std.specs.Str.{bytes_eq}
use Rattle.std.proofs.lemmas.List.{take-append-le, drop-append-le, take_all, length-map}
use Rattle.myi_base.specs.Numbers.{num_at}
use Rattle.myi_base.specs.Ranges.{Range}
use Rattle.myi_base.specs.Holding.{resized, overwritten}
use Rattle.myi_defs.specs.declared.types.RowFormat.{RowFormat}
use Rattle.myi_defs.specs.declared.types.RowFormat.TheVariants.{Static, Dynamic}
use Rattle.myi_defs.specs.declared.types.Defs.{Defs}
use Rattle.myi_defs.specs.declared.types.DefFault.{DefFault}
use Rattle.myi_defs.specs.declared.layout.Layout.{Layout}
use Rattle.myi_defs.specs.Sound.{IsSound}
use Rattle.myi_defs.specs.ReadDefs.{read_defs, AreDefs}
use Rattle.myi_defs.specs.Elsewhere.{AgreeOutsideState}
use Rattle.myi_defs.specs.Layout.{mark}
use Rattle.myi_defs.proofs.CallerLemmas.{elsewhere}
use Rattle.myi_header.specs.declared.state.State.{State}
use Rattle.myi_header.specs.Layout.{layout_of, first_page_of}
use Rattle.myi_header.specs.StateOf.{state_of, has_mark}
use Rattle.myi_header.specs.HeaderOf.{header_of}
use Rattle.myi_header.specs.Parts.{part}
use Rattle.myi_header.proofs.CallerLemmas.{state-take}
use Rattle.myi_chain.specs.Readable.{Row}
use Rattle.myi_chain.specs.Meeting.{ranges_of}
use Rattle.myi_data.specs.Readable.{readable, deleted}
use Rattle.myi_btree.specs.Walk.{Walked}
use Rattle.myi_rowkeys.specs.TableKeys.{key_numbers}
use Rattle.myi_treecopy.proofs.CallerLemmas.{Frame, written_long}
use Rattle.myi_pair.specs.FirstRows.{AreDistinct}
use Rattle.myi_pair.specs.Trees.{block_of_key, HaveWalks, AreKeyLists, all_pages, total}
use Rattle.myi_pair.specs.Clean.{values_of, placed_row, covers, next_by, next_deleted, Follows, Counts, IsClean}
use Rattle.myi_pair.proofs.CallerLemmas.{placed, IsLike, layout_same, first_same, state_same, header_like, with_raw, readable_same, deleted_same, values_same, placed_same, addressable_same, distinct_same, walks_same, lists_same, pages_same}
use Rattle.myi_sortindex.specs.declared.laying.LaidTrees.{LaidTrees}
use Rattle.myi_sortindex.specs.Sorting.{sorted_bits, sorted_state, IsSorted, AreLaid, TreesLaid, trees_laid, index_trees, sorted_index}
use Rattle.myi_sortindex.specs.Laying.{Tree, AreTrees, roots_from, LaysTrees, IsOf, HasBytes, state_laid}
use Rattle.myi_sortindex.proofs.TreeLaws.{end_above, trees_behind, OfWalks, of_walks, walks_count}
use Rattle.myi_sortindex.proofs.NewTreesLaws.{new_walks, have_walks, are_laid, key_lists, pages_fill, same_count}

-- ---- the list of deleted blocks does not depend on the header's bytes

next_same : (d : Defs) (r : List ℕ) (f : RowFormat) (x : List ℕ) (p : ℕ) → next_by f d x p ≡ next_by f (with_raw d r) x p
next_same d r Static x p = refl
next_same d r Dynamic x p = refl

follows_same : (d : Defs) (r x : List ℕ) (before at : Option ℕ) (ps : List ℕ) → Follows d x before at ps → Follows (with_raw d r) x before at ps
follows_same d r x before at [] t = t
follows_same d r x before at (p ∷ ps) t = (t.0, t.1, follows_same d r x (Some p) (next_deleted (with_raw d r) x p) ps (subst (λ o. Follows d x (Some p) o ps) (next_same d r d.format x p) t.2))

-- ---- what was written

-- the header that was written before the trees, and the trees, of a file with these definitions
pub record IsWritten (x z header : List ℕ) (laid : LaidTrees) (d : Defs) : Type 0 where
  pub sound : IsSound d
  pub defs : AreDefs d
  pub raw : d.raw ≡ take (num_at 6 2 x) x
  pub trees : (ts : List Tree) → AreTrees d x 1 ts → map (λ (t : Tree). t.0) ts ≡ (state_of d d.raw).roots → IsOf d x z laid (take (length (state_of d d.raw).roots) ts)
  pub exact : (ts : List Tree) → AreTrees d x 1 ts → map (λ (t : Tree). t.0) ts ≡ (state_of d d.raw).roots
      → HasBytes (first_page_of d) z laid (trees_laid d x (first_page_of d) 1 (take (length (state_of d d.raw).roots) (state_of d d.raw).roots))
  pub long : length z ≡ laid.end
  pub bytes : header ≡ header_of d (state_laid (state_of d d.raw) laid)
  pub front : length header ≡ first_page_of d
  pub state : state_of d header ≡ state_laid (state_of d d.raw) laid
  pub marked : has_mark d header ≡ true
  pub elsewhere : AgreeOutsideState d.raw header

-- the state of the header that definitions were read from is that of the file
pub raw_state : (d : Defs) (x : List ℕ) → IsSound d → d.raw ≡ take (num_at 6 2 x) x → state_of d d.raw ≡ state_of d x
raw_state d x sound raw = ap (state_of d) raw ∙ state-take d (num_at 6 2 x) x sound (omega (arith, ap (λ (b : List ℕ). length b) raw, length-take (num_at 6 2 x) x))

-- pages have bytes
pub some_block : (d : Defs) → IsSound d → (j : ℕ) → 1 ≤ j → j < 1 + length d.keys → 0 < block_of_key d j
some_block d sound j above below = omega (arith, (placed d sound j (omega (arith, above), omega (arith, below))).least)

-- the first page place is behind the header
page_behind : (d : Defs) → length d.raw ≤ first_page_of d
page_behind d = omega arith

none_before : (xs : List ℕ) → resized 0 xs ≡ []
none_before xs = let e : 0 - length xs ≡ 0 = omega arith in rw e refl

-- a file whose front is written
module _ (header z : List ℕ) where
  written : overwritten 0 header z ≡ header ++ drop (length header) z
  written =
      ap (λ h. (h ++ header) ++ drop (0 + length header) z) (none_before z)
      ∙ ap (λ n. header ++ drop n z) (let e : 0 + length header ≡ length header = omega arith in e)

  front_kept : (n : ℕ) → n ≤ length header → take n (overwritten 0 header z) ≡ take n header
  front_kept n low = ap (take n) written ∙ take-append-le n header (drop (length header) z) low

  inner_kept : (p w : ℕ) → p + w ≤ length header → take w (drop p (overwritten 0 header z)) ≡ take w (drop p header)
  inner_kept p w low =
      ap (λ b. take w (drop p b)) written
      ∙ ap (take w) (drop-append-le p header (drop (length header) z) (omega (arith, low)))
      ∙ take-append-le w (drop p header) (drop (length header) z) (omega (arith, low, length-drop p header))

-- ---- the new file

module _ (frame : Frame) (rows x z header : List ℕ) (laid : LaidTrees) (c : IsClean rows x) (f : IsWritten x z header laid c.defs) (ts : List Tree) (roots : map (λ (t : Tree). t.0) ts ≡ (state_of c.defs x).roots) (walks : map (λ (t : Tree). t.1) ts ≡ c.walks) (o : IsOf c.defs x z laid ts) where
  abbrev y : List ℕ
  y = overwritten 0 header z

  abbrev first : ℕ
  first = first_page_of c.defs

  low : first ≤ laid.end
  low = omega (arith, o.end, end_above c.defs first 1 ts)

  y_long : length y ≡ laid.end
  y_long = omega (arith, written_long 0 header z, f.long, f.front, low)

  raw_inside : num_at 6 2 c.defs.raw ≤ length header
  raw_inside = f.elsewhere.long

  base_inside : num_at 12 2 c.defs.raw + 100 ≤ num_at 6 2 c.defs.raw
  base_inside = omega (arith, f.sound.base_inside, f.sound.header)

  state_y : state_of c.defs y ≡ state_laid (state_of c.defs x) laid
  state_y =
      sym (state-take c.defs first y f.sound (page_behind c.defs))
      ∙ ap (state_of c.defs) (front_kept header z first (omega (arith, f.front)) ∙ take_all first header (omega (arith, f.front)))
      ∙ f.state
      ∙ ap (λ (s : State). state_laid s laid) (raw_state c.defs x f.sound f.raw)

  mark_y : has_mark c.defs y ≡ true
  unfolding has_mark
  mark_y = ap (λ b. bytes_eq b mark) (inner_kept header z ((layout_of c.defs).base + 94) 6 (omega (arith, f.sound.base, base_inside, raw_inside))) ∙ f.marked

  agree_y : AgreeOutsideState c.defs.raw y
  agree_y = record {
    long = omega (arith, raw_inside, f.front, low, y_long);
    front = front_kept header z 24 (omega (arith, raw_inside, base_inside, f.sound.base)) ∙ f.elsewhere.front;
    base = inner_kept header z (num_at 12 2 c.defs.raw) 94 (omega (arith, raw_inside, base_inside)) ∙ f.elsewhere.base;
    back = ap (drop (num_at 12 2 c.defs.raw + 100)) (front_kept header z (num_at 6 2 c.defs.raw) raw_inside) ∙ f.elsewhere.back;
  }

  abbrev r : List ℕ
  r = take (num_at 6 2 c.defs.raw) y

  abbrev e : Defs
  e = with_raw c.defs r

  like : IsLike c.defs r
  like = header_like c.defs y f.sound agree_y

  first_e : first_page_of e ≡ first
  first_e = first_same c.defs r like

  mark_e : has_mark e y ≡ true
  unfolding has_mark
  mark_e = ap (λ (l : Layout). bytes_eq (part (l.base + 94) 6 y) mark) (layout_same c.defs r like) ∙ mark_y

  state_e : state_of e y ≡ state_laid (state_of c.defs x) laid
  state_e = state_same c.defs r y like ∙ state_y

  trees : LaysTrees c.defs x y first 1 ts
  trees = trees_behind frame c.defs x z header first 1 ts (omega (arith, f.front)) o.trees

  count : length ts ≡ length c.defs.keys
  count =
      sym (length-map ts (λ (t : Tree). t.1)) ∙ ap (λ (ws : List Walked). length ws) walks ∙ walks_count c.defs x ((0, first) ∷ []) 1 (length c.defs.keys) (state_of c.defs x).roots c.walks c.trees

  abbrev vs : List Walked
  vs = new_walks c.defs x y first 1 ts trees

  trees_e : HaveWalks e y ((0, first_page_of e) ∷ []) (key_numbers c.defs) (state_of e y).roots vs
  trees_e =
      subst (λ n. HaveWalks e y ((0, n) ∷ []) (key_numbers c.defs) (state_of e y).roots vs) (sym first_e)
      (subst (λ rs. HaveWalks e y ((0, first) ∷ []) (key_numbers c.defs) rs vs) (sym (ap (λ (s : State). s.roots) state_e ∙ o.roots))
      (walks_same c.defs r y ((0, first) ∷ []) (key_numbers c.defs) (roots_from c.defs first 1 ts) vs
      (have_walks c.defs x y ((0, first) ∷ []) first 1 (length c.defs.keys) ts trees count (omega arith, tt))))

  lists_e : AreKeyLists e (map (placed_row e) (readable e false rows)) (key_numbers c.defs) vs
  lists_e =
      subst (λ ps. AreKeyLists e ps (key_numbers c.defs) vs) (sym (ap (map (placed_row e)) (readable_same c.defs r false rows) ∙ placed_same c.defs r (readable c.defs false rows)))
      (lists_same c.defs r (map (placed_row c.defs) (readable c.defs false rows)) (key_numbers c.defs) vs
      (key_lists c.defs (map (placed_row c.defs) (readable c.defs false rows)) x y first 1 (length c.defs.keys) ts trees (subst (λ ws. AreKeyLists c.defs (map (placed_row c.defs) (readable c.defs false rows)) (key_numbers c.defs) ws) (sym walks) c.lists)))

  counts_e : Counts e (state_of e y) rows y
  counts_e = record {
    records = ap (λ (s : State). s.records) state_e ∙ c.counts.records ∙ sym (ap (λ (rs : List Row). length rs) (readable_same c.defs r false rows));
    del = ap (λ (s : State). s.del) state_e ∙ c.counts.del ∙ sym (ap (λ (rs : List Range). length rs) (deleted_same c.defs r rows));
    split = ap (λ (s : State). s.split) state_e ∙ c.counts.split ∙ sym (ap (λ (rs : List Row). length (ranges_of rs)) (readable_same c.defs r false rows));
    key_file_length = ap (λ (s : State). s.key_file_length) state_e ∙ sym y_long;
    data_file_length = ap (λ (s : State). s.data_file_length) state_e ∙ c.counts.data_file_length;
    empty = ap (λ (s : State). s.empty) state_e ∙ c.counts.empty ∙ sym (ap total (deleted_same c.defs r rows));
  }

  none_left : (state_of e y).key_empty ≡ length y - first_page_of e - total (all_pages e (key_numbers c.defs) vs)
  none_left =
      ap (λ (s : State). s.key_empty) state_e
      ∙ omega (arith, first_e, y_long, o.end, ap total (pages_same c.defs r (key_numbers c.defs) vs), pages_fill c.defs x y first 1 (length c.defs.keys) ts trees count)

  clean_y : IsClean rows y
  clean_y = record {
    defs = e;
    read = elsewhere c.defs y f.defs agree_y;
    mark = mark_e;
    addressable = addressable_same c.defs r (length rows) ∙ c.addressable;
    covered = λ p few. ap (λ rs. list_any (covers p) (ranges_of rs ++ deleted e rows)) (readable_same c.defs r false rows) ∙ ap (λ rs. list_any (covers p) (ranges_of (readable c.defs false rows) ++ rs)) (deleted_same c.defs r rows) ∙ c.covered p few;
    list = (
      c.list.0,
      subst (λ (rs : List Range). IsPermutation (map (λ (a : Range). a.0) rs) c.list.0) (sym (deleted_same c.defs r rows)) c.list.1,
      subst (λ h. Follows e rows None h c.list.0) (sym (ap (λ (s : State). s.dellink) state_e)) (follows_same c.defs r rows None (state_of c.defs x).dellink c.list.0 c.list.2),
    );
    counts = counts_e;
    walks = vs;
    trees = trees_e;
    lists = lists_e;
    key_empty = none_left;
    distinct = subst (AreDistinct e []) (sym (ap (map (values_of e)) (readable_same c.defs r false rows) ∙ values_same c.defs r (readable c.defs false rows))) (distinct_same c.defs r [] (map (values_of c.defs) (readable c.defs false rows)) c.distinct);
  }

  abbrev state_with : ℕ → List (Option ℕ) → State
  state_with end rs = record (state_of c.defs x) { changed = sorted_bits (state_of c.defs x).changed; key_file_length = end; key_empty = 0; roots = rs }

  is_sorted : IsSorted rows x y laid.pages
  unfolding clean_y
  is_sorted = record {
    old = c;
    new = clean_y;
    laid = subst (λ ws. AreLaid c.defs x y first (length y) (key_numbers c.defs) ws vs) walks
        (subst (λ n. AreLaid c.defs x y first n (key_numbers c.defs) (map (λ (t : Tree). t.1) ts) vs) (sym (y_long ∙ o.end))
        (are_laid c.defs x y first 1 (length c.defs.keys) ts trees count (some_block c.defs f.sound)));
    count = o.count ∙ same_count c.defs x y first 1 ts trees;
    state = state_y ∙ ap (λ n. state_with n laid.roots.items) (sym y_long) ∙ ap (λ rs. state_with (length y) rs) (sym (ap (λ (s : State). s.roots) state_y));
    elsewhere = agree_y;
  }

-- ---- the table is clean again

ok_same : {A E : Type 0} (x y : A) → ◌≡◌ {A = Result A E} (Ok x) (Ok y) → x ≡ y
ok_same x y same = cc

pub same_defs : (rows x : List ℕ) (d : Defs) → read_defs x ≡ Ok d → (c : IsClean rows x) → d ≡ c.defs
same_defs rows x d read c = ok_same {E = DefFault} d c.defs (sym read ∙ c.read)

-- the trees of a clean index file, by the roots of its header
pub clean_trees : (rows x : List ℕ) (c : IsClean rows x) → OfWalks c.defs x 1 (state_of c.defs x).roots c.walks
clean_trees rows x c = of_walks c.defs x ((0, first_page_of c.defs) ∷ []) 1 (length c.defs.keys) (state_of c.defs x).roots c.walks c.trees

pub sorted_again : Frame → (rows x z header : List ℕ) (laid : LaidTrees) (d : Defs) → read_defs x ≡ Ok d → IsWritten x z header laid d → IsClean rows x → IsSorted rows x (overwritten 0 header z) laid.pages
sorted_again frame rows x z header laid d read written c =
    let f = subst (IsWritten x z header laid) (same_defs rows x d read c) written in
    let t = clean_trees rows x c in
    let by_raw : map (λ (t : Tree). t.0) t.trees ≡ (state_of c.defs c.defs.raw).roots = t.roots ∙ ap (λ (s : State). s.roots) (sym (raw_state c.defs x f.sound f.raw)) in
    let all : take (length (state_of c.defs c.defs.raw).roots) t.trees ≡ t.trees = take_all (length (state_of c.defs c.defs.raw).roots) t.trees (omega (arith, ap (λ (rs : List (Option ℕ)). length rs) by_raw, length-map t.trees (λ (t : Tree). t.0))) in
    is_sorted frame rows x z header laid c f t.trees t.roots t.walks (subst (IsOf c.defs x z laid) all (f.trees t.trees t.are by_raw))

-- ---- its bytes are those of the sorted one

sorted_bytes : (d : Defs) (x z header : List ℕ) (laid : LaidTrees) (trees : TreesLaid) → header ≡ header_of d (state_laid (state_of d x) laid) → length header ≡ first_page_of d → HasBytes (first_page_of d) z laid trees
    → overwritten 0 header z ≡ header_of d (sorted_state trees.roots (first_page_of d + length trees.bytes) (state_of d x)) ++ trees.bytes
sorted_bytes d x z header laid trees is front has =
    written header z
    ∙ ap (λ n. header ++ drop n z) front
    ∙ ap (λ ys. header ++ ys) has.bytes
    ∙ ap (λ h. h ++ trees.bytes) (is ∙ ap (λ rs. header_of d (sorted_state rs laid.end (state_of d x))) has.roots ∙ ap (λ n. header_of d (sorted_state trees.roots n (state_of d x))) has.end)

pub written_index : (rows x z header : List ℕ) (laid : LaidTrees) (d : Defs) → read_defs x ≡ Ok d → IsWritten x z header laid d → IsClean rows x → (overwritten 0 header z ≡ sorted_index d x) × (laid.pages ≡ (index_trees d x).pages)
unfolding index_trees sorted_index
written_index rows x z header laid d read f c =
    let same = same_defs rows x d read c in
    let t = clean_trees rows x c in
    let raw = raw_state d x f.sound f.raw in
    let roots_are : (state_of d d.raw).roots ≡ (state_of d x).roots = ap (λ (s : State). s.roots) raw in
    let are : AreTrees d x 1 t.trees = subst (λ (e : Defs). AreTrees e x 1 t.trees) (sym same) t.are in
    let by_roots : map (λ (u : Tree). u.0) t.trees ≡ (state_of d d.raw).roots = subst (λ (e : Defs). map (λ (u : Tree). u.0) t.trees ≡ (state_of e x).roots) (sym same) t.roots ∙ sym roots_are in
    let all : take (length (state_of d d.raw).roots) (state_of d d.raw).roots ≡ (state_of d x).roots = take_all (length (state_of d d.raw).roots) (state_of d d.raw).roots (omega arith) ∙ roots_are in
    let has = subst (λ rs. HasBytes (first_page_of d) z laid (trees_laid d x (first_page_of d) 1 rs)) all (f.exact t.trees are by_roots) in
    (sorted_bytes d x z header laid (index_trees d x) (f.bytes ∙ ap (λ (s : State). header_of d (state_laid s laid)) raw) f.front has, has.count)
