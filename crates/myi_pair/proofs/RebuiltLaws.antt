-- The two files of a table of given rows are such a table.
use Rattle.std.proofs.Common.{◌≡◌, ℕ, zero, suc, ◌+◌, ◌*◌, ◌/◌, ◌<◌, ◌≤◌, true, false, Option, None, List, [], ◌∷◌, ◌++◌, length, map, take, bytes_eq, Ok, refl, sym, ap, subst, ◌∙◌, arith, append-nil}
use Rattle.std.specs.List.{list_any, AllByRecursion}
use Rattle.std.proofs.lemmas.List.{length-take-le}
use Rattle.std.proofs.lemmas.List.Sorted.{IsPermutation-refl}
use Rattle.std.specs.Prelude.{IsPermutation}
use Rattle.myi_base.specs.Numbers.{num_at, pointer_of}
use Rattle.myi_base.specs.Ranges.{Range}
use Rattle.myi_base.proofs.CallerLemmas.{numbers-take}
use Rattle.myi_defs.specs.declared.types.Defs.{Defs}
use Rattle.myi_defs.specs.Sound.{IsSound}
use Rattle.myi_defs.specs.Addressable.{is_addressable}
use Rattle.myi_defs.specs.ReadDefs.{read_defs}
use Rattle.myi_defs.specs.Elsewhere.{AgreeOutsideState}
use Rattle.myi_defs.proofs.CallerLemmas.{sound, elsewhere}
use Rattle.myi_defs.specs.declared.layout.Layout.{Layout}
use Rattle.myi_header.specs.declared.state.State.{State}
use Rattle.myi_header.specs.Parts.{part}
use Rattle.myi_header.specs.Layout.{layout_of, first_page_of}
use Rattle.myi_defs.specs.Layout.{mark, layout_by}
use Rattle.myi_header.specs.StateOf.{roots_in, rest_at, state_of, has_mark}
use Rattle.myi_pack.specs.Packed.{Values}
use Rattle.myi_chain.specs.Readable.{Row}
use Rattle.myi_chain.specs.Meeting.{ranges_of}
use Rattle.myi_data.specs.Readable.{readable, deleted}
use Rattle.myi_data.specs.Stored.{SizedRow, values_in, stored_file, block_count, stored_rows, IsStorable}
use Rattle.myi_pair.specs.FirstRows.{key_numbers, AreDistinct}
use Rattle.myi_pair.specs.KeyList.{PlacedRow}
use Rattle.myi_btree.specs.Walk.{Walked}
use Rattle.myi_pair.specs.Trees.{HaveWalks, AreKeyLists, all_pages, total}
use Rattle.myi_pair.specs.Clean.{values_of, placed_row, covers, ListsDeleted, Counts, IsClean}
use Rattle.myi_pair.specs.RebuiltBytes.{placed_from, LaidTrees, new_trees, rebuilt_state, rebuilt_index}
use Rattle.myi_pair.specs.Rebuilt.{CanBeRebuilt, Rebuilt}
use Rattle.myi_pair.proofs.KeptLaws.{rows_read, values_read}
use Rattle.myi_pair.proofs.ShorterLaws.{stored_length, near_reached}
use Rattle.myi_pair.proofs.SameDefs.{with_raw, readable_same, deleted_same, values_same, placed_same, addressable_same, distinct_same, walks_same, lists_same, pages_same}
use Rattle.myi_pair.proofs.LaidLaws.{laid_covered, none_deleted, laid_count, laid_split, laid_placed}
use Rattle.myi_pair.proofs.HeaderLaws.{IsNewIndex}
use Rattle.myi_pair.proofs.NewIndexLaws.{trees_are, data_long, there, index_long, index_shows}

-- definitions with another header of the same length that begins with the same 24 bytes

pub front_number : (at n : ℕ) (r x : List ℕ) → at + n ≤ 24 → take 24 r ≡ take 24 x → num_at at n r ≡ num_at at n x
front_number at n r x inside same =
    let one = numbers-take at 24 (n ∷ []) r x (omega arith) same in
    cc

pub record IsLike (d : Defs) (r : List ℕ) : Type 0 where
  pub front : take 24 r ≡ take 24 d.raw
  pub long : length r ≡ length d.raw

pub layout_same : (d : Defs) (r : List ℕ) → IsLike d r → layout_of (with_raw d r) ≡ layout_of d
layout_same d r like =
    ap (λ sizes. layout_by (length d.keys) sizes (num_at 14 2 r)) (front_number 21 1 r d.raw (omega arith) like.front)
    ∙ ap (λ parts. layout_by (length d.keys) (num_at 21 1 d.raw) parts) (front_number 14 2 r d.raw (omega arith) like.front)

pub first_same : (d : Defs) (r : List ℕ) → IsLike d r → first_page_of (with_raw d r) ≡ first_page_of d
first_same d r like = ap (λ n. (n + 1023) / 1024 * 1024) like.long

mark_same : (d : Defs) (r y : List ℕ) → IsLike d r → has_mark (with_raw d r) y ≡ has_mark d y
unfolding has_mark
mark_same d r y like = ap (λ (l : Layout). bytes_eq (part (l.base + 94) 6 y) mark) (layout_same d r like)

abbrev state_by : ℕ → Layout → List ℕ → State
state_by keys l y = record {
  open_count = num_at 24 2 y;
  changed = num_at 26 1 y;
  sortkey = num_at 27 1 y;
  records = num_at 28 8 y;
  del = num_at 36 8 y;
  split = num_at 44 8 y;
  dellink = pointer_of (num_at 52 8 y);
  key_file_length = num_at 60 8 y;
  data_file_length = num_at 68 8 y;
  empty = num_at 76 8 y;
  key_empty = num_at 84 8 y;
  auto_increment = num_at 92 8 y;
  roots = roots_in keys y;
  key_map = num_at l.key_map 8 y;
  recover_time = num_at l.recover_time 8 y;
  rest = rest_at l y;
}

pub state_same : (d : Defs) (r y : List ℕ) → IsLike d r → state_of (with_raw d r) y ≡ state_of d y
unfolding state_of
state_same d r y like = ap (λ (l : Layout). state_by (length d.keys) l y) (layout_same d r like)

take-fewer : (k m : ℕ) (x : List ℕ) → k ≤ m → take k (take m x) ≡ take k x
take-fewer zero m x le = refl
take-fewer (suc k) zero x le = absurd (omega arith)
take-fewer (suc k) (suc m) [] le = refl
take-fewer (suc k) (suc m) (b ∷ x) le = ap (λ xs. b ∷ xs) (take-fewer k m x (omega arith))

pub header_like : (d : Defs) (y : List ℕ) → IsSound d → AgreeOutsideState d.raw y → IsLike d (take (num_at 6 2 d.raw) y)
header_like d y s same = record {
  front = take-fewer 24 (num_at 6 2 d.raw) y (omega (arith, s.header, s.base_inside)) ∙ same.front;
  long = length-take-le (num_at 6 2 d.raw) y same.long ∙ sym s.header;
}

-- a clean pair

-- what is to hold of the two files under the definitions that were asked for
record AreClean (d : Defs) (vs : List SizedRow) (e y : List ℕ) (roots : List (Option ℕ)) : Type 0 where
  pub rows : readable d false e ≡ stored_rows d 0 vs
  pub stored : AllByRecursion (IsStorable d) vs
  pub values : map (values_of d) (readable d false e) ≡ values_in vs
  pub placed : map (placed_row d) (readable d false e) ≡ placed_from d 0 vs
  pub long : length e ≡ stored_length d vs
  pub distinct : AreDistinct d [] (values_in vs)
  pub walks : List Walked
  pub trees : HaveWalks d y ((0, first_page_of d) ∷ []) (key_numbers d) roots walks
  pub lists : AreKeyLists d (placed_from d 0 vs) (key_numbers d) walks
  pub size : first_page_of d + total (all_pages d (key_numbers d) walks) ≡ length y

covered_rows : (d : Defs) (vs : List SizedRow) (e y : List ℕ) (roots : List (Option ℕ)) → IsSound d → AreClean d vs e y roots → (p : ℕ) → p < length e → list_any (covers p) (ranges_of (readable d false e)) ≡ true
covered_rows d vs e y roots s are p inside =
    ap (λ (rows : List Row). list_any (covers p) (ranges_of rows)) are.rows ∙ laid_covered d 0 p vs (omega arith) (omega (arith, are.long))

no_deleted : (d : Defs) (vs : List SizedRow) (e y : List ℕ) (roots : List (Option ℕ)) → IsSound d → AreClean d vs e y roots → deleted d e ≡ []
no_deleted d vs e y roots s are = none_deleted d e s (covered_rows d vs e y roots s are)

-- the numbers of the state are those of the files
record IsStateOf (d : Defs) (s : State) (vs : List SizedRow) (e y : List ℕ) (roots : List (Option ℕ)) : Type 0 where
  pub records : s.records ≡ length vs
  pub del : s.del ≡ 0
  pub split : s.split ≡ block_count d vs
  pub dellink : s.dellink ≡ None
  pub key_file_length : s.key_file_length ≡ length y
  pub data_file_length : s.data_file_length ≡ length e
  pub empty : s.empty ≡ 0
  pub key_empty : s.key_empty ≡ 0
  pub trees : s.roots ≡ roots

counted : (d : Defs) (s : State) (vs : List SizedRow) (e y : List ℕ) (roots : List (Option ℕ)) → IsSound d → AreClean d vs e y roots → IsStateOf d s vs e y roots → Counts d s e y
counted d s vs e y roots is_sound are is =
    let none = no_deleted d vs e y roots is_sound are in
    record {
      records = is.records ∙ sym (laid_count d 0 vs) ∙ ap (λ (rows : List Row). length rows) (sym are.rows);
      del = is.del ∙ ap (λ (rs : List Range). length rs) (sym none);
      split = is.split ∙ sym (laid_split d 0 vs) ∙ ap (λ (rows : List Row). length (ranges_of rows)) (sym are.rows);
      key_file_length = is.key_file_length;
      data_file_length = is.data_file_length;
      empty = is.empty ∙ ap total (sym none);
    }

counts_same : (d : Defs) (r : List ℕ) (s : State) (e y : List ℕ) → Counts d s e y → Counts (with_raw d r) s e y
counts_same d r s e y are = record {
  records = are.records ∙ ap (λ (rows : List Row). length rows) (sym (readable_same d r false e));
  del = are.del ∙ ap (λ (rs : List Range). length rs) (sym (deleted_same d r e));
  split = are.split ∙ ap (λ (rows : List Row). length (ranges_of rows)) (sym (readable_same d r false e));
  key_file_length = are.key_file_length;
  data_file_length = are.data_file_length;
  empty = are.empty ∙ ap total (sym (deleted_same d r e));
}

lists_none : (d : Defs) (e : List ℕ) (head : Option ℕ) → deleted d e ≡ [] → head ≡ None → ListsDeleted d e head
lists_none d e head none end = ([], subst (λ (rs : List Range). IsPermutation (map (λ (a : Range). a.0) rs) []) (sym none) (IsPermutation-refl []), end)

-- the header's own range
abbrev one_busy : ℕ → List Range
one_busy n = (0, n) ∷ []

clean_pair : (d : Defs) (vs : List SizedRow) (e y r : List ℕ) (roots : List (Option ℕ)) → IsSound d → read_defs y ≡ Ok (with_raw d r) → IsLike d r → has_mark d y ≡ true → is_addressable d (length e) ≡ true → AreClean d vs e y roots → IsStateOf d (state_of d y) vs e y roots → IsClean e y
clean_pair d vs e y r roots s read like marked reached c is =
    let d2 : Defs = with_raw d r in
    let state : state_of d2 y ≡ state_of d y = state_same d r y like in
    let rows : readable d2 false e ≡ readable d false e = readable_same d r false e in
    let none : deleted d2 e ≡ [] = deleted_same d r e ∙ no_deleted d vs e y roots s c in
    let placed : map (placed_row d2) (readable d2 false e) ≡ placed_from d 0 vs = ap (map (placed_row d2)) rows ∙ placed_same d r (readable d false e) ∙ c.placed in
    let values : map (values_of d2) (readable d2 false e) ≡ values_in vs = ap (map (values_of d2)) rows ∙ values_same d r (readable d false e) ∙ c.values in
    let first : first_page_of d2 ≡ first_page_of d = first_same d r like in
    let same_roots : (state_of d2 y).roots ≡ roots = ap (λ (t : State). t.roots) state ∙ is.trees in
    let busy : one_busy (first_page_of d2) ≡ one_busy (first_page_of d) = ap one_busy first in
    let trees = walks_same d r y ((0, first_page_of d) ∷ []) (key_numbers d) roots c.walks c.trees in
    let pages : total (all_pages d2 (key_numbers d2) c.walks) ≡ total (all_pages d (key_numbers d) c.walks) = ap total (pages_same d r (key_numbers d) c.walks) in
    record {
      defs = d2;
      read = read;
      mark = mark_same d r y like ∙ marked;
      addressable = addressable_same d r (length e) ∙ reached;
      covered = λ p inside. ap (λ (rs : List Range). list_any (covers p) (ranges_of (readable d2 false e) ++ rs)) none ∙ ap (λ (rs : List Range). list_any (covers p) rs) (append-nil (ranges_of (readable d2 false e))) ∙ ap (λ (rs : List Row). list_any (covers p) (ranges_of rs)) rows
          ∙ covered_rows d vs e y roots s c p inside;
      list = lists_none d2 e (state_of d2 y).dellink none (ap (λ (t : State). t.dellink) state ∙ is.dellink);
      counts = subst (λ (t : State). Counts d2 t e y) (sym state) (counts_same d r (state_of d y) e y (counted d (state_of d y) vs e y roots s c is));
      walks = c.walks;
      trees = subst (λ (b : List Range). HaveWalks d2 y b (key_numbers d2) (state_of d2 y).roots c.walks) (sym busy)
          (subst (λ (rs : List (Option ℕ)). HaveWalks d2 y ((0, first_page_of d) ∷ []) (key_numbers d2) rs c.walks) (sym same_roots) trees);
      lists = subst (λ (rs : List PlacedRow). AreKeyLists d2 rs (key_numbers d2) c.walks) (sym placed) (lists_same d r (placed_from d 0 vs) (key_numbers d) c.walks c.lists);
      key_empty = ap (λ (t : State). t.key_empty) state ∙ is.key_empty ∙ omega (arith, first, c.size, pages);
      distinct = subst (λ (ws : List Values). AreDistinct d2 [] ws) (sym values) (distinct_same d r [] (values_in vs) c.distinct);
    }

-- the two files of a table of given rows

module _ (d : Defs) (rows : List SizedRow) (now : ℕ) (can : CanBeRebuilt d rows now) where
  the_clean : AreClean d rows (stored_file d rows) (rebuilt_index d rows now) (new_trees d rows).roots
  the_clean =
      let s : IsSound d = sound d can.defined in
      let near = near_reached d (length (stored_file d rows)) can.reached in
      let read = rows_read d false rows s can.storable near in
      let t = there d rows now can in
      let same = trees_are d rows in
      record {
        rows = read;
        stored = can.storable;
        values = values_read d false rows s can.storable near;
        placed = ap (map (placed_row d)) read ∙ laid_placed d 0 rows s can.storable;
        long = data_long d rows now can;
        distinct = can.distinct;
        walks = t.walks;
        trees = subst (λ (u : LaidTrees). HaveWalks d (rebuilt_index d rows now) ((0, first_page_of d) ∷ []) (key_numbers d) u.roots t.walks) (sym same) t.trees;
        lists = t.lists;
        size = t.size ∙ ap (λ (u : LaidTrees). u.end) (sym same) ∙ sym (index_long d rows now can);
      }

  the_state : IsStateOf d (state_of d (rebuilt_index d rows now)) rows (stored_file d rows) (rebuilt_index d rows now) (new_trees d rows).roots
  the_state =
      let same = (index_shows d rows now can).state in
      record {
        records = ap (λ (t : State). t.records) same;
        del = ap (λ (t : State). t.del) same;
        split = ap (λ (t : State). t.split) same;
        dellink = ap (λ (t : State). t.dellink) same;
        key_file_length = ap (λ (t : State). t.key_file_length) same ∙ sym (index_long d rows now can);
        data_file_length = ap (λ (t : State). t.data_file_length) same;
        empty = ap (λ (t : State). t.empty) same;
        key_empty = ap (λ (t : State). t.key_empty) same;
        trees = ap (λ (t : State). t.roots) same;
      }

  pub is_rebuilt : Rebuilt d rows now (stored_file d rows) (rebuilt_index d rows now)
  is_rebuilt =
      let s : IsSound d = sound d can.defined in
      let y : List ℕ = rebuilt_index d rows now in
      let shown : IsNewIndex d (rebuilt_state d rows now) y = index_shows d rows now can in
      let read = elsewhere d y can.defined shown.elsewhere in
      record {
        read = the_clean.values;
        laid = refl;
        definitions = read;
        elsewhere = shown.elsewhere;
        clean = clean_pair d rows (stored_file d rows) y (take (num_at 6 2 d.raw) y) (new_trees d rows).roots s read (header_like d y s shown.elsewhere) shown.marked can.reached the_clean the_state;
        state = shown.state;
      }

pub trees_stand : (d : Defs) (rows : List SizedRow) (now : ℕ) → CanBeRebuilt d rows now
    → (walks : List Walked) × HaveWalks d (rebuilt_index d rows now) ((0, first_page_of d) ∷ []) (key_numbers d) (new_trees d rows).roots walks × AreKeyLists d (placed_from d 0 rows) (key_numbers d) walks
    × (first_page_of d + total (all_pages d (key_numbers d) walks) ≡ length (rebuilt_index d rows now))
trees_stand d rows now can = let c = the_clean d rows now can in (c.walks, c.trees, c.lists, c.size)

pub same_defs : (a b : Defs) (x : List ℕ) → read_defs x ≡ Ok a → read_defs x ≡ Ok b → b ≡ a
same_defs a b x one other = let e = sym other ∙ one in cc
