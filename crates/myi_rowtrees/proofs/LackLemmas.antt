-- A row that is to come is in no list.
use Rattle.std.proofs.Common.{◌≡◌, ◌≢◌, ℕ, Bool, true, false, cond, List, [], ◌∷◌, map, Some, None, refl, sym, ap, subst, ◌∙◌, arith, Option}
use Rattle.std.specs.Prelude.{◌==◌}
use Rattle.std.specs.List.{AllByRecursion}
use Rattle.std.proofs.lemmas.Bool.Decides.{nat_tests}
use Rattle.std.proofs.lemmas.List.Elements.{All-from_recursion, recursion_from_All}
use Rattle.std.proofs.lemmas.List.Sorted.{All-permutation}
use Rattle.myi_defs.specs.declared.types.Defs.{Defs}
use Rattle.myi_pack.specs.Packed.{Values}
use Rattle.myi_keylist.specs.declared.pair.Pair.{Pair}
use Rattle.myi_keylist.specs.PairOrder.{pair_with, sorted}
use Rattle.myi_keylist.proofs.CallerLemmas.{sorted_permutes}
use Rattle.myi_data.specs.Keys.{key_of}
use Rattle.myi_state.specs.State.{StoredRow, TableState, row_at}
use Rattle.myi_state.specs.Changes.{Change, accepted}
use Rattle.myi_state.specs.Sound.{HasValues}
use Rattle.myi_pair.specs.FirstRows.{key_numbers}
use Rattle.myi_pair.specs.KeyList.{pointer, pairs_of, key_list}
use Rattle.myi_tablestate.specs.Listed.{placed, listed, position}
use Rattle.myi_rowtrees.specs.RowLists.{lists_of, row_pairs, LackPointer, LackPointers}

-- a row's position is found again from its pointer
abbrev IsBack : Defs → StoredRow → Type 0
IsBack d r = position d (pointer d r.at) ≡ r.at

-- a row that stands at a place is found again there
found_back : (d : Defs) (p : ℕ) (rows : List StoredRow) (values : Values) → HasValues values (row_at p rows) → AllByRecursion (IsBack d) rows → position d (pointer d p) ≡ p
found_back d p [] values there all = absurd there
found_back d p (q ∷ rows) values there all = choose (q.at == p) refl there (λ more. found_back d p rows values more all.1)
  where
    choose : (b : Bool) → (q.at == p) ≡ b → HasValues values (cond b (Some q) (row_at p rows)) → (HasValues values (row_at p rows) → position d (pointer d p) ≡ p) → position d (pointer d p) ≡ p
    choose true here there more = let at : q.at ≡ p = grind (arith, nat_tests, here) in subst (λ (n : ℕ). position d (pointer d n) ≡ n) at all.0
    choose false here there more = more there

-- no row has the pointer of a position at which none stands
rows_lack : (d : Defs) (k p : ℕ) (rows : List StoredRow) → row_at p rows ≡ None → position d (pointer d p) ≡ p → AllByRecursion (IsBack d) rows → AllByRecursion (λ (q : Pair). q.row ≢ pointer d p) (pairs_of d k (map placed rows))
rows_lack d k p [] none back all = tt
rows_lack d k p (q ∷ rows) none back all = choose (q.at == p) refl none (λ more. rows_lack d k p rows more back all.1)
  where
    choose : (b : Bool) → (q.at == p) ≡ b → cond b (Some q) (row_at p rows) ≡ None → (row_at p rows ≡ None → AllByRecursion (λ (q : Pair). q.row ≢ pointer d p) (pairs_of d k (map placed rows)))
        → (pointer d q.at ≢ pointer d p) × AllByRecursion (λ (q : Pair). q.row ≢ pointer d p) (pairs_of d k (map placed rows))
    choose true here none more = absurd cc
    choose false here none more = (λ same. differ (sym all.0 ∙ ap (position d) same ∙ back) here, more none)
      where
        differ : q.at ≡ p → (q.at == p) ≡ false → ⊥
        differ same here = grind (arith, nat_tests, same, here)

listed_lacks : (d : Defs) (k p : ℕ) (rows : List StoredRow) → row_at p rows ≡ None → position d (pointer d p) ≡ p → AllByRecursion (IsBack d) rows → AllByRecursion (λ (q : Pair). q.row ≢ pointer d p) (listed d k rows)
unfolding key_list
listed_lacks d k p rows none back all =
    let pairs = pairs_of d k (map placed rows) in
    recursion_from_All (λ (q : Pair). q.row ≢ pointer d p) (sorted pairs)
    (All-permutation (λ (q : Pair). q.row ≢ pointer d p) pairs (sorted pairs) (sorted_permutes pairs) (All-from_recursion (λ (q : Pair). q.row ≢ pointer d p) pairs (rows_lack d k p rows none back all)))

all_lack : (d : Defs) (p : ℕ) (rows : List StoredRow) (ks : List ℕ) → row_at p rows ≡ None → position d (pointer d p) ≡ p → AllByRecursion (IsBack d) rows → LackPointer (pointer d p) (map (λ k. listed d k rows) ks)
all_lack d p rows [] none back all = tt
all_lack d p rows (k ∷ ks) none back all = (listed_lacks d k p rows none back all, all_lack d p rows ks none back all)

each_lacks : (d : Defs) (values : Values) (n : ℕ) (lists : List (List Pair)) (ks : List ℕ) → LackPointer n lists → LackPointers (map (λ k. pair_with (key_of d k values) n) ks) lists
each_lacks d values n lists [] all = tt
each_lacks d values n lists (k ∷ ks) all = (all, each_lacks d values n lists ks all)

pub new_lacks : (d : Defs) (s : TableState) (c : Change) (values : Values) → row_at (accepted d s c).at s.rows ≡ None → HasValues values (row_at (accepted d s c).at (accepted d s c).state.rows) → AllByRecursion (IsBack d) s.rows → AllByRecursion (IsBack d) (accepted d s c).state.rows
    → LackPointers (row_pairs d values (pointer d (accepted d s c).at)) (lists_of d s.rows)
new_lacks d s c values none there old new =
    let p = (accepted d s c).at in
    each_lacks d values (pointer d p) (lists_of d s.rows) (key_numbers d) (all_lack d p s.rows (key_numbers d) none (found_back d p (accepted d s c).state.rows values there new) old)

-- the row at a position has it
found_there : (p : ℕ) (rows : List StoredRow) (r : StoredRow) → row_at p rows ≡ Some r → HasValues r.values (row_at p rows)
found_there p rows r found = subst (λ (o : Option StoredRow). HasValues r.values o) (sym found) refl

pub gone_lacks : (d : Defs) (rows left : List StoredRow) (lists : List (List Pair)) (p : ℕ) (values : Values) (r : StoredRow) → row_at p rows ≡ Some r → AllByRecursion (IsBack d) rows → row_at p left ≡ None → AllByRecursion (IsBack d) left → lists_of d left ≡ lists → LackPointers (row_pairs d values (pointer d p)) lists
gone_lacks d rows left lists p values r found old none back same =
    subst (λ (ls : List (List Pair)). LackPointers (row_pairs d values (pointer d p)) ls) same
    (each_lacks d values (pointer d p) (lists_of d left) (key_numbers d) (all_lack d p left (key_numbers d) none (found_back d p rows r.values (found_there p rows r found) old) back))
