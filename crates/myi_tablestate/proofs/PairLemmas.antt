-- The pairs of rows, of which one comes or goes.
use Rattle.std.proofs.Common.{◌≡◌, ◌≢◌, ℕ, ◌<◌, ◌+◌, Bool, true, false, cond, List, [], ◌∷◌, map, Option, Some, refl, sym, ap, subst, ◌∙◌, arith}
use Rattle.std.specs.Prelude.{◌==◌, nat_lt, if◌then◌else◌}
use Rattle.std.specs.List.{AllByRecursion}
use Rattle.std.specs.List.Sorted.{IsStrictlySortedBy, IsPermutation}
use Rattle.std.specs.Ordering.{is_eq, nat_cmp, ordering_then}
use Rattle.std.specs.declared.cmp.Ordering.{Ordering}
use Rattle.std.specs.declared.cmp.Ordering.TheVariants.{Less, Equal, Greater}
use Rattle.std.proofs.lemmas.Bool.Decides.{nat_tests}
use Rattle.std.proofs.lemmas.List.Elements.{All-from_recursion, recursion_from_All}
use Rattle.std.proofs.lemmas.List.Sorted.{IsPermutation-refl, IsPermutation-trans, IsPermutation-cons, IsPermutation-middle, IsPermutation-map, All-permutation}
use Rattle.myi_defs.specs.declared.types.Defs.{Defs}
use Rattle.myi_defs.specs.Sound.{IsSound}
use Rattle.myi_pack.specs.Packed.{Values}
use Rattle.myi_keys.specs.Order.{key_cmp}
use Rattle.myi_keylist.specs.declared.pair.Pair.{Pair}
use Rattle.myi_keylist.specs.PairOrder.{pair_cmp, put_pair, sorted}
use Rattle.myi_keylist.proofs.CallerLemmas.{sorted_permutes}
use Rattle.myi_insertion.specs.Removal.{has_pair, without_pair}
use Rattle.myi_data.specs.Keys.{key_of}
use Rattle.myi_state.specs.State.{StoredRow, TableState, put_row, row_at, rows_without}
use Rattle.myi_state.specs.Changes.{insert, insert_at_end, delete, update, accepted, Changed, without_row, with_values}
use Rattle.myi_state.specs.Sound.{AreInOrder, IsState}
use Rattle.myi_pair.specs.KeyList.{pointer, pair_of, pairs_of, key_list}
use Rattle.myi_tablestate.specs.Listed.{placed, pair_at, pair_of_row, listed}
use Rattle.myi_tablestate.proofs.ListLemmas.{sorted_same, put_without, put_has, IsOther, put_strict}
use Rattle.myi_tablestate.proofs.PlaceLemmas.{IsBack, rows_back, pointers_differ}

-- ---- rows in another order

put_permutes : (r : StoredRow) (rows : List StoredRow) → IsPermutation (r ∷ rows) (put_row r rows)
put_permutes r [] = IsPermutation-refl (r ∷ [])
put_permutes r (q ∷ rows) = choose (nat_lt q.at r.at) (put_permutes r rows)
  where
    choose : (b : Bool) → IsPermutation (r ∷ rows) (put_row r rows) → IsPermutation (r ∷ q ∷ rows) (cond b (q ∷ put_row r rows) (r ∷ q ∷ rows))
    choose false others = IsPermutation-refl (r ∷ q ∷ rows)
    choose true others = IsPermutation-trans (r ∷ q ∷ rows) (q ∷ r ∷ rows) (q ∷ put_row r rows) (IsPermutation-middle (r ∷ []) q rows) (IsPermutation-cons q (r ∷ rows) (put_row r rows) others)

pub without_permutes : (p : ℕ) (rows : List StoredRow) (r : StoredRow) → row_at p rows ≡ Some r → IsPermutation (r ∷ rows_without p rows) rows
without_permutes p [] r found = absurd cc
without_permutes p (q ∷ rows) r found = choose (q.at == p) found (without_permutes p rows r)
  where
    choose : (b : Bool) → cond b (Some q) (row_at p rows) ≡ Some r → (row_at p rows ≡ Some r → IsPermutation (r ∷ rows_without p rows) rows) → IsPermutation (r ∷ cond b rows (q ∷ rows_without p rows)) (q ∷ rows)
    choose true found others = let same : q ≡ r = cc in subst (λ (t : StoredRow). IsPermutation (t ∷ rows) (q ∷ rows)) same (IsPermutation-refl (q ∷ rows))
    choose false found others = IsPermutation-trans (r ∷ q ∷ rows_without p rows) (q ∷ r ∷ rows_without p rows) (q ∷ rows) (IsPermutation-middle (r ∷ []) q (rows_without p rows)) (IsPermutation-cons q (r ∷ rows_without p rows) rows (others found))

-- ---- their pairs

pub listed_same : (d : Defs) (k : ℕ) (rows others : List StoredRow) → IsPermutation rows others → listed d k rows ≡ listed d k others
unfolding key_list
listed_same d k rows others same =
    sorted_same (pairs_of d k (map placed rows)) (pairs_of d k (map placed others)) (IsPermutation-map (pair_of d k) (map placed rows) (map placed others) (IsPermutation-map placed rows others same))

listed_first : (d : Defs) (k : ℕ) (r : StoredRow) (rows : List StoredRow) → listed d k (r ∷ rows) ≡ put_pair (pair_of_row d k r) (listed d k rows)
unfolding key_list
listed_first d k r rows = refl

pub listed_put : (d : Defs) (k : ℕ) (r : StoredRow) (rows : List StoredRow) → listed d k (put_row r rows) ≡ put_pair (pair_of_row d k r) (listed d k rows)
listed_put d k r rows = sym (listed_same d k (r ∷ rows) (put_row r rows) (put_permutes r rows)) ∙ listed_first d k r rows

pub listed_found : (d : Defs) (k p : ℕ) (rows : List StoredRow) (r : StoredRow) → row_at p rows ≡ Some r → listed d k rows ≡ put_pair (pair_of_row d k r) (listed d k (rows_without p rows))
listed_found d k p rows r found = sym (listed_same d k (r ∷ rows_without p rows) rows (without_permutes p rows r found)) ∙ listed_first d k r (rows_without p rows)

pub listed_without : (d : Defs) (k p : ℕ) (rows : List StoredRow) (r : StoredRow) → row_at p rows ≡ Some r → listed d k (rows_without p rows) ≡ without_pair (pair_of_row d k r) (listed d k rows)
listed_without d k p rows r found =
    sym (put_without (pair_of_row d k r) (listed d k (rows_without p rows))) ∙ ap (λ (ps : List Pair). without_pair (pair_of_row d k r) ps) (sym (listed_found d k p rows r found))

pub listed_has : (d : Defs) (k p : ℕ) (rows : List StoredRow) (r : StoredRow) → row_at p rows ≡ Some r → has_pair (pair_of_row d k r) (listed d k rows) ≡ true
listed_has d k p rows r found = ap (λ (ps : List Pair). has_pair (pair_of_row d k r) ps) (listed_found d k p rows r found) ∙ put_has (pair_of_row d k r) (listed d k (rows_without p rows))

-- ---- in order, no two alike

abbrev Stands : Defs → StoredRow → Type 0
Stands d r = IsBack d.format d.slot_length r.at

-- the row stands at none of these positions
abbrev IsElsewhere : StoredRow → List StoredRow → Type 0
IsElsewhere r rows = AllByRecursion (λ (q : StoredRow). r.at ≢ q.at) rows

rows_equal : (o : Ordering) (m n : ℕ) → is_eq (ordering_then o (nat_cmp m n)) ≡ true → m ≡ n
rows_equal Less m n is = absurd cc
rows_equal Greater m n is = absurd cc
rows_equal Equal m n is = grind (arith, nat_tests, is)

not_same : (b : Bool) → (b ≡ true → ⊥) → b ≡ false
not_same true never = absurd (never refl)
not_same false never = refl

other_pairs : (d : Defs) (k : ℕ) (r : StoredRow) (rows : List StoredRow) → Stands d r → AllByRecursion (Stands d) rows → IsElsewhere r rows → IsOther (pair_of_row d k r) (pairs_of d k (map placed rows))
other_pairs d k r [] own all apart = tt
other_pairs d k r (q ∷ rows) own all apart =
    let one = pair_of_row d k r in
    let other = pair_of_row d k q in (
      not_same (is_eq (pair_cmp one other)) (λ same. pointers_differ d.format d.slot_length r.at q.at own all.0 apart.0 (rows_equal (key_cmp one.key other.key) one.row other.row same)),
      other_pairs d k r rows own all.1 apart.1,
    )

other_listed : (d : Defs) (k : ℕ) (r : StoredRow) (rows : List StoredRow) → Stands d r → AllByRecursion (Stands d) rows → IsElsewhere r rows → IsOther (pair_of_row d k r) (listed d k rows)
unfolding key_list
other_listed d k r rows own all apart =
    let pairs = pairs_of d k (map placed rows) in
    recursion_from_All (λ (q : Pair). is_eq (pair_cmp (pair_of_row d k r) q) ≡ false) (sorted pairs)
    (All-permutation (λ (q : Pair). is_eq (pair_cmp (pair_of_row d k r) q) ≡ false) pairs (sorted pairs) (sorted_permutes pairs)
    (All-from_recursion (λ (q : Pair). is_eq (pair_cmp (pair_of_row d k r) q) ≡ false) pairs (other_pairs d k r rows own all apart)))

elsewhere : (low : ℕ) (r : StoredRow) (rows : List StoredRow) → r.at < low → AreInOrder low rows → IsElsewhere r rows
elsewhere low r [] before order = tt
elsewhere low r (q ∷ rows) before order = (λ same. omega (arith, before, order.0, same), elsewhere (q.at + 1) r rows (omega (arith, before, order.0)) order.1)

listed_strict : (d : Defs) (k low : ℕ) (rows : List StoredRow) → AllByRecursion (Stands d) rows → AreInOrder low rows → IsStrictlySortedBy pair_cmp (listed d k rows)
unfolding IsStrictlySortedBy key_list
listed_strict d k low [] all order = tt
listed_strict d k low (r ∷ rows) all order =
    put_strict (pair_of_row d k r) (listed d k rows) (other_listed d k r rows all.0 all.1 (elsewhere (r.at + 1) r rows (omega arith) order.1)) (listed_strict d k (r.at + 1) rows all.1 order.1)

pub table_strict : (d : Defs) (s : TableState) (k : ℕ) → IsSound d → IsState d s → IsStrictlySortedBy pair_cmp (listed d k s.rows)
table_strict d s k sound i = listed_strict d k 0 s.rows (rows_back d s sound i) i.order

-- ---- changes

pub inserted_listed : (d : Defs) (s : TableState) (k : ℕ) (values : Values) → listed d k (accepted d s (insert values)).state.rows ≡ put_pair (pair_at d k (accepted d s (insert values)).at values) (listed d k s.rows)
unfolding accepted
inserted_listed d s k values =
    let r = accepted d s (insert values) in
    listed_put d k (record { at = r.at; values = values; blocks = (Rattle.myi_state.specs.Changes.next_taken d s.space values).blocks }) s.rows

pub appended_listed : (d : Defs) (s : TableState) (k : ℕ) (values : Values) → listed d k (accepted d s (insert_at_end values)).state.rows ≡ put_pair (pair_at d k (accepted d s (insert_at_end values)).at values) (listed d k s.rows)
unfolding accepted
appended_listed d s k values =
    listed_put d k (record { at = s.space.end; values = values; blocks = (Rattle.myi_state.specs.Changes.behind_taken d s.space values).blocks }) s.rows

pub deleted_listed : (d : Defs) (s : TableState) (k at : ℕ) (r : StoredRow) → row_at at s.rows ≡ Some r → listed d k (accepted d s (delete at)).state.rows ≡ without_pair (pair_of_row d k r) (listed d k s.rows)
unfolding accepted
deleted_listed d s k at r found =
    ap (λ (o : Option StoredRow). listed d k (without_row d s at o).state.rows) found ∙ listed_without d k at s.rows r found

pub updated_listed : (d : Defs) (s : TableState) (k at : ℕ) (values : Values) (r : StoredRow) → row_at at s.rows ≡ Some r
    → listed d k (accepted d s (update at values)).state.rows ≡ put_pair (pair_at d k at values) (without_pair (pair_of_row d k r) (listed d k s.rows))
unfolding accepted
updated_listed d s k at values r found =
    ap (λ (o : Option StoredRow). listed d k (with_values d s at values o).state.rows) found
    ∙ listed_put d k (record { at = at; values = values; blocks = (Rattle.myi_state.specs.State.take_again d.format s.space r.blocks (Rattle.std.specs.Prelude.length (Rattle.myi_pack.specs.Spelling.spelling d values))).blocks }) (rows_without at s.rows)
    ∙ ap (λ (ps : List Pair). put_pair (pair_at d k at values) ps) (listed_without d k at s.rows r found)

pub updated_same : (d : Defs) (s : TableState) (k at : ℕ) (values : Values) (r : StoredRow) → row_at at s.rows ≡ Some r → r.at ≡ at → key_of d k values ≡ key_of d k r.values
    → listed d k (accepted d s (update at values)).state.rows ≡ listed d k s.rows
updated_same d s k at values r found there same =
    let pair : pair_at d k at values ≡ pair_of_row d k r = ap (λ (p : ℕ). pair_at d k p values) (sym there) ∙ ap (λ key. record { key = key; row = pointer d r.at }) same in
    updated_listed d s k at values r found
    ∙ ap (λ (p : Pair). put_pair p (without_pair (pair_of_row d k r) (listed d k s.rows))) pair
    ∙ ap (λ (ps : List Pair). put_pair (pair_of_row d k r) ps) (sym (listed_without d k at s.rows r found))
    ∙ sym (listed_found d k at s.rows r found)
