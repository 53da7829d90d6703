-- The row at a position, its pairs and its pointer.
use Rattle.std.proofs.Common.{◌≡◌, ℕ, zero, suc, ◌<◌, ◌≤◌, ◌^◌, Bool, true, false, cond, List, [], ◌∷◌, length, map, Option, Some, None, Ok, Err, refl, sym, ap, subst, ◌∙◌, arith}
use Rattle.std.specs.Prelude.{◌==◌}
use Rattle.std.specs.List.{AllByRecursion}
use Rattle.std.proofs.lemmas.Bool.Decides.{nat_tests}
use Rattle.myi_base.specs.Holding.{Holding, IfTold}
use Rattle.myi_defs.specs.declared.types.Defs.{Defs}
use Rattle.myi_defs.specs.Addressable.{is_addressable}
use Rattle.myi_defs.specs.Sound.{IsSound}
use Rattle.myi_pack.specs.Packed.{Values}
use Rattle.myi_keylist.specs.declared.pair.Pair.{Pair}
use Rattle.myi_keylist.specs.PairOrder.{pair_with}
use Rattle.myi_btree.specs.declared.place.Place.{Place}
use Rattle.myi_data.specs.Keys.{key_of}
use Rattle.myi_slots.specs.declared.fault.DataFault.{DataFault}
use Rattle.myi_slots.specs.declared.fault.DataFault.TheVariants as read
use Rattle.myi_slots.specs.SlotFile.{SlotFile, IsFileOf, IsReply}
use Rattle.myi_state.specs.State.{StoredRow, row_at}
use Rattle.myi_blocks.specs.Places.{NotedFile, StaysNoted, ReadsNoted}
use Rattle.myi_pair.specs.FirstRows.{numbers_from, key_numbers}
use Rattle.myi_pair.specs.KeyList.{pointer}
use Rattle.myi_pair.proofs.CallerLemmas.{pointer_near}
use Rattle.myi_keytrees.specs.Standing.{Stand}
use Rattle.myi_tablestate.specs.Keyed.{IsTable}
use Rattle.myi_rowtrees.specs.RowLists.{lists_of, row_pairs, ArePointers}
use Rattle.myi_keyedrows.specs.declared.keyed_rows.KeyedRows.{KeyedRows}
use Rattle.myi_keyedrows.specs.KeyedRows.{defs_of, IfHold, StillHold}
use Rattle.myi_keyedrows.specs.Faults.{data_fault}
use Rattle.myi_keyedrows.specs.Checking.{HasPairsAt, IsAbsent}

-- ---- pairs

numbers_long : (low n : ℕ) → length (numbers_from low n) ≡ n
numbers_long low zero = refl
numbers_long low (suc n) = let more = numbers_long (suc low) n in omega (arith, more)

map_long : (f : ℕ → Pair) (xs : List ℕ) → length (map f xs) ≡ length xs
map_long f [] = refl
map_long f (x ∷ xs) = let more = map_long f xs in omega (arith, more)

pub pairs_long : (d : Defs) (values : Values) (p : ℕ) (pairs : List Pair) → pairs ≡ row_pairs d values p → length pairs ≡ length d.keys
pairs_long d values p pairs is = ap (λ (ps : List Pair). length ps) is ∙ map_long (λ k. pair_with (key_of d k values) p) (key_numbers d) ∙ numbers_long 1 (length d.keys)

-- ---- a pointer that pages have room for

abbrev HaveWidth : ℕ → List Place → Type 0
HaveWidth n places = AllByRecursion (λ (p : Place). p.rec_ref ≡ n) places

one_fits : (row n : ℕ) (places : List Place) → row < 256 ^ n → HaveWidth n places → AllByRecursion (λ (p : Place). row < 256 ^ p.rec_ref) places
one_fits row n [] less all = tt
one_fits row n (p ∷ places) less all = (subst (λ (w : ℕ). row < 256 ^ w) (sym all.0) less, one_fits row n places less all.1)

all_fit : (d : Defs) (values : Values) (row n : ℕ) (places : List Place) (ks : List ℕ) → row < 256 ^ n → HaveWidth n places → ArePointers places (map (λ k. pair_with (key_of d k values) row) ks)
all_fit d values row n places [] less all = tt
all_fit d values row n places (k ∷ ks) less all = (one_fits row n places less all, all_fit d values row n places ks less all)

pub pairs_fit : (d : Defs) (values : Values) (at end : ℕ) (places : List Place) (pairs : List Pair) → IsSound d → at ≤ end → is_addressable d end ≡ true → HaveWidth d.rec_ref places → pairs ≡ row_pairs d values (pointer d at) → ArePointers places pairs
pairs_fit d values at end places pairs sound less is all same = subst (λ (ps : List Pair). ArePointers places ps) (sym same) (all_fit d values (pointer d at) d.rec_ref places (key_numbers d) (pointer_near d at end sound is less) all)

-- ---- the row at a position

-- what was read is the row of the table
pub read_pairs : (k : KeyedRows) (told : Option Holding) (at : ℕ) (values : Values) (pairs : List Pair) → IfTold told (ReadsNoted k.rows at (Ok values)) → pairs ≡ row_pairs (defs_of k) values (pointer (defs_of k) at) → IfHold told k (λ m own s. HasPairsAt (defs_of k) at s.rows pairs)
read_pairs k told at values pairs reads same = λ m held own s h. by (row_at at s.rows) (reads m held s h.rows)
  where
    by : (o : Option StoredRow) → IsReply at o (Ok values) → (r : StoredRow) × (o ≡ Some r) × (pairs ≡ row_pairs (defs_of k) r.values (pointer (defs_of k) at))
    by None is = absurd is
    by (Some r) is = (r, refl, same ∙ ap (λ (v : Values). row_pairs (defs_of k) v (pointer (defs_of k) at)) (sym is))

absent_by : (at : ℕ) (o : Option StoredRow) (f : DataFault) → IsReply at o (Err f) → IsAbsent at o (data_fault f)
absent_by at None (read.NoRow p) is = (is, refl)
absent_by at (Some r) (read.NoRow p) is = absurd is
absent_by at None read.Full is = is
absent_by at (Some r) read.Full is = is
absent_by at None (read.Damaged p) is = is
absent_by at (Some r) (read.Damaged p) is = is
absent_by at None read.File is = tt
absent_by at (Some r) read.File is = tt
absent_by at None read.Memory is = tt
absent_by at (Some r) read.Memory is = tt

pub read_absent : (k : KeyedRows) (told : Option Holding) (at : ℕ) (f : DataFault) → IfTold told (ReadsNoted k.rows at (Err f)) → IfHold told k (λ m own s. IsAbsent at (row_at at s.rows) (data_fault f))
read_absent k told at f reads = λ m held own s h. absent_by at (row_at at s.rows) f (reads m held s h.rows)

-- what is noted of the rows' positions changes nothing
pub noted_holds : (old : KeyedRows) (rows : NotedFile) (told next : Option Holding) → rows.file ≡ old.rows.file → IfTold told (StaysNoted old.rows rows) → next ≡ told → StillHold told next old (record { rows = rows; trees = old.trees })
noted_holds old rows told next same stays still = λ m held own s h. record {
  now = m;
  held = still ∙ held;
  table = record {
    table = subst (λ (f : SlotFile). IsTable f.defs s) (sym same) h.table;
    rows = (subst (λ (f : SlotFile). IsFileOf f s m) (sym same) h.rows.0, stays m held s h.rows);
    trees = subst (λ (f : SlotFile). Stand old.trees m own (lists_of f.defs s.rows)) (sym same) h.trees;
  };
  lent = λ at len x some far e. e;
}

-- a row that is found stands where it was looked for
pub found_at : (at : ℕ) (rows : List StoredRow) (r : StoredRow) → row_at at rows ≡ Some r → r.at ≡ at
found_at at [] r is = absurd cc
found_at at (q ∷ rows) r is = by (q.at == at) refl is (found_at at rows r)
  where
    by : (b : Bool) → (q.at == at) ≡ b → cond b (Some q) (row_at at rows) ≡ Some r → (row_at at rows ≡ Some r → r.at ≡ at) → r.at ≡ at
    by true here is more = let same : q ≡ r = cc in let e : q.at ≡ at = grind (arith, nat_tests, here) in ap (λ (x : StoredRow). x.at) (sym same) ∙ e
    by false here is more = more is
