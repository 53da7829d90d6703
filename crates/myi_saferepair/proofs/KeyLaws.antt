-- The key lists of stored rows with one more row behind them.
use Rattle.std.proofs.Common.{◌≡◌, ◌≢◌, ℕ, ◌+◌, ◌≤◌, List, [], ◌∷◌, ◌++◌, length, map, refl, sym, ap, subst, ◌∙◌, arith}
use Rattle.std.specs.List.{AllByRecursion}
use Rattle.std.proofs.lemmas.List.Elements.{All-from_recursion, recursion_from_All}
use Rattle.std.proofs.lemmas.List.Sorted.{All-permutation, IsPermutation-trans, IsPermutation-append_comm}
use Rattle.myi_defs.specs.declared.types.Defs.{Defs}
use Rattle.myi_defs.specs.Sound.{IsSound}
use Rattle.myi_pack.specs.Packed.{Values}
use Rattle.myi_keylist.specs.declared.pair.Pair.{Pair}
use Rattle.myi_keylist.specs.PairOrder.{pair_with, put_pair, sorted}
use Rattle.myi_keylist.proofs.CallerLemmas.{sorted_permutes, sorted_sorted, sorted_is}
use Rattle.myi_data.specs.Keys.{key_of}
use Rattle.myi_data.specs.Stored.{SizedRow, stored_size, stored, stored_from, stored_file, IsStorable}
use Rattle.myi_data.proofs.CallerLemmas.{stored_long}
use Rattle.myi_pair.specs.FirstRows.{key_numbers}
use Rattle.myi_pair.specs.KeyList.{PlacedRow, pointer, pair_of, pairs_of, key_list}
use Rattle.myi_pair.specs.RebuiltBytes.{placed_from, key_lists}
use Rattle.myi_rowtrees.specs.RowLists.{row_pairs, put_each, LackPointer, LackPointers}
use Rattle.myi_repair.proofs.CallerLemmas.{pointer_up}
use Rattle.std.proofs.Common.{length-append}

-- ---- a row behind the others

module _ (d : Defs) (s : IsSound d) where
  placed_behind : (at : ℕ) (rows : List SizedRow) (row : SizedRow) → AllByRecursion (IsStorable d) rows → placed_from d at (rows ++ row ∷ []) ≡ placed_from d at rows ++ (at + length (stored_from d at rows), row.values) ∷ []
  placed_behind at [] row all = let e : at ≡ at + 0 = omega arith in ap (λ (p : ℕ). (p, row.values) ∷ []) e
  placed_behind at (r ∷ rows) row all =
      let next : ℕ = at + stored_size d r in
      let more : List ℕ = stored_from d next rows in
      let e : next + length more ≡ at + length (stored d at r ++ more) = omega (arith, stored_long d r s all.0 at, length-append (stored d at r) more) in
      ap (λ (ps : List PlacedRow). (at, r.values) ∷ ps) (placed_behind next rows row all.1) ∙ ap (λ (p : ℕ). (at, r.values) ∷ (placed_from d next rows ++ (p, row.values) ∷ [])) e

  pub placed_more : (rows : List SizedRow) (row : SizedRow) → AllByRecursion (IsStorable d) rows → placed_from d 0 (rows ++ row ∷ []) ≡ placed_from d 0 rows ++ (length (stored_file d rows), row.values) ∷ []
  unfolding stored_file
  placed_more rows row all = let e : 0 + length (stored_from d 0 rows) ≡ length (stored_from d 0 rows) = omega arith in placed_behind 0 rows row all ∙ ap (λ (p : ℕ). placed_from d 0 rows ++ (p, row.values) ∷ []) e

  -- ---- pointers

  -- the pointer of a place is at most that of a place behind stored rows
  behind_less : (at : ℕ) (rows : List SizedRow) → AllByRecursion (IsStorable d) rows → pointer d at ≤ pointer d (at + length (stored_from d at rows))
  behind_less at [] all = let e : at + 0 ≡ at = omega arith in omega (arith, ap (pointer d) e)
  behind_less at (r ∷ rows) all =
      let next : ℕ = at + stored_size d r in
      let more : List ℕ = stored_from d next rows in
      let e : next + length more ≡ at + length (stored d at r ++ more) = omega (arith, stored_long d r s all.0 at, length-append (stored d at r) more) in
      omega (arith, pointer_up d s at r all.0, behind_less next rows all.1, ap (pointer d) e)

  -- so no row has the pointer of the place behind all
  none_there : (k at : ℕ) (rows : List SizedRow) → AllByRecursion (IsStorable d) rows → AllByRecursion (λ (q : Pair). q.row ≢ pointer d (at + length (stored_from d at rows))) (pairs_of d k (placed_from d at rows))
  none_there k at [] all = tt
  none_there k at (r ∷ rows) all =
      let next : ℕ = at + stored_size d r in
      let more : List ℕ = stored_from d next rows in
      let e : next + length more ≡ at + length (stored d at r ++ more) = omega (arith, stored_long d r s all.0 at, length-append (stored d at r) more) in (
        λ same. omega (arith, pointer_up d s at r all.0, behind_less next rows all.1, ap (pointer d) e, same),
        subst (λ (p : ℕ). AllByRecursion (λ (q : Pair). q.row ≢ pointer d p) (pairs_of d k (placed_from d next rows))) e (none_there k next rows all.1),
      )

  list_lacks : (k : ℕ) (rows : List SizedRow) → AllByRecursion (IsStorable d) rows → AllByRecursion (λ (q : Pair). q.row ≢ pointer d (length (stored_file d rows))) (key_list d k (placed_from d 0 rows))
  unfolding key_list stored_file
  list_lacks k rows all =
      let e : 0 + length (stored_from d 0 rows) ≡ length (stored_from d 0 rows) = omega arith in
      let pairs = pairs_of d k (placed_from d 0 rows) in
      let each = subst (λ (p : ℕ). AllByRecursion (λ (q : Pair). q.row ≢ pointer d p) pairs) e (none_there k 0 rows all) in
      let p : ℕ = length (stored_from d 0 rows) in
      recursion_from_All (λ (q : Pair). q.row ≢ pointer d p) (sorted pairs)
      (All-permutation (λ (q : Pair). q.row ≢ pointer d p) pairs (sorted pairs) (sorted_permutes pairs) (All-from_recursion (λ (q : Pair). q.row ≢ pointer d p) pairs each))

  lists_lack : (rows : List SizedRow) (ks : List ℕ) → AllByRecursion (IsStorable d) rows → LackPointer (pointer d (length (stored_file d rows))) (map (λ k. key_list d k (placed_from d 0 rows)) ks)
  lists_lack rows [] all = tt
  lists_lack rows (k ∷ ks) all = (list_lacks k rows all, lists_lack rows ks all)

each_lacks : (d : Defs) (values : Values) (n : ℕ) (lists : List (List Pair)) (ks : List ℕ) → LackPointer n lists → LackPointers (map (λ k. pair_with (key_of d k values) n) ks) lists
each_lacks d values n lists [] all = tt
each_lacks d values n lists (k ∷ ks) all = (all, each_lacks d values n lists ks all)

-- no list has the pointer of the row that comes next
pub next_lacks : (d : Defs) (rows : List SizedRow) (values : Values) (at : ℕ) → IsSound d → AllByRecursion (IsStorable d) rows → at ≡ length (stored_file d rows) → LackPointers (row_pairs d values (pointer d at)) (key_lists d (placed_from d 0 rows))
next_lacks d rows values at s all is =
    each_lacks d values (pointer d at) (key_lists d (placed_from d 0 rows)) (key_numbers d)
    (subst (λ (p : ℕ). LackPointer (pointer d p) (key_lists d (placed_from d 0 rows))) (sym is) (lists_lack d s rows (key_numbers d) all))

-- ---- lists with a pair more

pairs_behind : (d : Defs) (k : ℕ) (rows : List PlacedRow) (row : PlacedRow) → pairs_of d k (rows ++ row ∷ []) ≡ pairs_of d k rows ++ pair_of d k row ∷ []
pairs_behind d k [] row = refl
pairs_behind d k (r ∷ rows) row = ap (λ (ps : List Pair). pair_of d k r ∷ ps) (pairs_behind d k rows row)

sorted_more : (ps : List Pair) (p : Pair) → put_pair p (sorted ps) ≡ sorted (ps ++ p ∷ [])
sorted_more ps p =
    sorted_is (ps ++ p ∷ []) (sorted (p ∷ ps))
    (IsPermutation-trans (ps ++ p ∷ []) (p ∷ ps) (sorted (p ∷ ps)) (IsPermutation-append_comm ps (p ∷ [])) (sorted_permutes (p ∷ ps)))
    (sorted_sorted (p ∷ ps))

list_more : (d : Defs) (k : ℕ) (rows : List PlacedRow) (row : PlacedRow) → put_pair (pair_of d k row) (key_list d k rows) ≡ key_list d k (rows ++ row ∷ [])
unfolding key_list
list_more d k rows row = sorted_more (pairs_of d k rows) (pair_of d k row) ∙ ap sorted (sym (pairs_behind d k rows row))

lists_more : (d : Defs) (rows : List PlacedRow) (at : ℕ) (values : Values) (ks : List ℕ)
    → put_each (map (λ k. pair_with (key_of d k values) (pointer d at)) ks) (map (λ k. key_list d k rows) ks) ≡ map (λ k. key_list d k (rows ++ (at, values) ∷ [])) ks
lists_more d rows at values [] = refl
lists_more d rows at values (k ∷ ks) =
    ap (λ (xs : List Pair). xs ∷ put_each (map (λ j. pair_with (key_of d j values) (pointer d at)) ks) (map (λ j. key_list d j rows) ks)) (list_more d k rows (at, values))
    ∙ ap (λ (ls : List (List Pair)). key_list d k (rows ++ (at, values) ∷ []) ∷ ls) (lists_more d rows at values ks)

-- the pairs of the row that comes next put into the lists
pub row_put : (d : Defs) (rows : List SizedRow) (row : SizedRow) (at : ℕ) → IsSound d → AllByRecursion (IsStorable d) rows → at ≡ length (stored_file d rows)
    → put_each (row_pairs d row.values (pointer d at)) (key_lists d (placed_from d 0 rows)) ≡ key_lists d (placed_from d 0 (rows ++ row ∷ []))
row_put d rows row at s all is =
    lists_more d (placed_from d 0 rows) at row.values (key_numbers d)
    ∙ ap (λ (p : ℕ). key_lists d (placed_from d 0 rows ++ (p, row.values) ∷ [])) is
    ∙ ap (key_lists d) (sym (placed_more d s rows row all))
