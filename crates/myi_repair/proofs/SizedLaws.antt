-- The pairs of rows with their pointers can be laid, whichever of them are taken out.
use Rattle.std.proofs.Common.{◌≡◌, ℕ, zero, suc, ◌+◌, ◌^◌, ◌<◌, Bool, true, false, cond, List, [], ◌∷◌, length, get_or, map, sym, ap, subst, ◌∙◌, arith}
use Rattle.std.specs.List.{AllByRecursion, filter}
use Rattle.std.proofs.Math.ListN.{get_or-map}
use Rattle.std.proofs.lemmas.List.{length-map}
use Rattle.myi_defs.specs.declared.types.Defs.{Defs}
use Rattle.myi_defs.specs.Sound.{IsSound}
use Rattle.myi_pack.specs.Spelling.{fits}
use Rattle.myi_keys.specs.Limits.{IsKey}
use Rattle.myi_keylist.specs.declared.pair.Pair.{Pair}
use Rattle.myi_keylist.specs.PairOrder.{pair_with, sorted}
use Rattle.myi_keylist.specs.Columns.{has_flag, numbered, key_by_number, pointed}
use Rattle.myi_data.specs.Keys.{IsKeyNumber}
use Rattle.myi_data.specs.Stored.{SizedRow}
use Rattle.myi_rowkeys.specs.TableKeys.{key_in}
use Rattle.myi_rowkeys.specs.RowLists.{no_row, number_pairs, AreNumberLists}
use Rattle.myi_rowkeys.proofs.CallerLemmas.{mapped_at, length-number_pairs, all_in_range, lists_permuted}
use Rattle.myi_btree.specs.Nodes.{entry_of}
use Rattle.myi_btree.specs.Sizes.{IsSized}
use Rattle.myi_pair.specs.Trees.{place_of}
use Rattle.myi_pair.proofs.CallerLemmas.{is_key, laid_short}
use Rattle.myi_repair.specs.Sized.{AreSizedPairs}
use Rattle.myi_repair.specs.Keeping.{AreFit}

-- with each pointer of a table the pair can be laid
CanBePointed : Defs → ℕ → Pair → Type 0
CanBePointed d k p = IsKey p.key × ((row : ℕ) → row < 256 ^ d.rec_ref → IsSized (place_of d k) (entry_of (pair_with p.key row)))

row_at : (P : SizedRow → Type 0) (rows : List SizedRow) (i : ℕ) → AllByRecursion P rows → i < length rows → P (get_or rows i no_row)
row_at P [] i all inside = absurd (omega arith)
row_at P (row ∷ rows) zero all inside = all.0
row_at P (row ∷ rows) (suc i) all inside = row_at P rows i all.1 (omega (arith, inside))

numbers_laid : (d : Defs) (k : ℕ) (rows : List SizedRow) → IsSound d → IsKeyNumber d k → AreFit d rows → AllByRecursion (CanBePointed d k) (numbered (key_by_number rows no_row (key_in d k)) (length rows))
unfolding CanBePointed
numbers_laid d k rows s inside fit =
    all_in_range (CanBePointed d k) (λ r. pair_with (key_by_number rows no_row (key_in d k) r) r) 0 (length rows) (λ i low high.
    let can = row_at (λ (row : SizedRow). fits d row.values ≡ true) rows i fit (omega (arith, high)) in
    (is_key d s k inside (get_or rows i no_row).values can, λ row near. laid_short d s k inside row (get_or rows i no_row).values can near))

-- each list
list_laid : (d : Defs) (rows : List SizedRow) (lists : List (List Pair)) (k : ℕ) → IsSound d → AreFit d rows → AreNumberLists d rows lists → k < length d.keys → AllByRecursion (CanBePointed d (k + 1)) (get_or lists k [])
list_laid d rows lists k s fit are inside =
    let number : 1 + k ≡ k + 1 = omega arith in
    let listed : ℕ → List Pair = λ j. numbered (key_by_number rows no_row (key_in d j)) (length rows) in
    let same : sorted (get_or lists k []) ≡ sorted (listed (k + 1)) =
    sym (get_or-map sorted lists k []) ∙ ap (λ ls. get_or ls k []) are.same ∙ get_or-map sorted (number_pairs d rows) k [] ∙ ap sorted (mapped_at listed 1 (length d.keys) k [] inside ∙ ap listed number) in
    lists_permuted (CanBePointed d (k + 1)) (listed (k + 1)) (get_or lists k []) same (numbers_laid d (k + 1) rows s (omega arith, omega (arith, inside)) fit)

taken_out : (P : Pair → Type 0) (test : Pair → Bool) (ps : List Pair) → AllByRecursion P ps → AllByRecursion P (filter test ps)
taken_out P test [] all = tt
taken_out P test (p ∷ ps) all = by (test p) (taken_out P test ps all.1)
  where
    by : (b : Bool) → AllByRecursion P (filter test ps) → AllByRecursion P (cond b (p ∷ filter test ps) (filter test ps))
    by true rest = (all.0, rest)
    by false rest = rest

near_at : (m : ℕ) (ps : List ℕ) (i : ℕ) → 0 < m → AllByRecursion (λ (p : ℕ). p < m) ps → get_or ps i 0 < m
near_at m [] i some all = some
near_at m (p ∷ ps) zero some all = all.0
near_at m (p ∷ ps) (suc i) some all = near_at m ps i some all.1

pointed_laid : (d : Defs) (k : ℕ) (pointers : List ℕ) (ps : List Pair) → 0 < 256 ^ d.rec_ref → AllByRecursion (λ (p : ℕ). p < 256 ^ d.rec_ref) pointers → AllByRecursion (CanBePointed d k) ps
    → AllByRecursion (λ p. IsSized (place_of d k) (entry_of p)) (map (pointed pointers) ps) × AllByRecursion (λ (p : Pair). IsKey p.key) (map (pointed pointers) ps)
unfolding CanBePointed
pointed_laid d k pointers [] some near all = (tt, tt)
pointed_laid d k pointers (p ∷ ps) some near all =
    let rest = pointed_laid d k pointers ps some near all.1 in
    ((all.0.1 (get_or pointers p.row 0) (near_at (256 ^ d.rec_ref) pointers p.row some near), rest.0), (all.0.0, rest.1))

long_lists : (d : Defs) (rows : List SizedRow) (lists : List (List Pair)) → AreNumberLists d rows lists → length lists ≡ length d.keys
long_lists d rows lists are = sym (length-map lists sorted) ∙ ap (λ (ls : List (List Pair)). length ls) are.same ∙ length-map (number_pairs d rows) sorted ∙ length-number_pairs d rows

module _ (d : Defs) (rows : List SizedRow) (lists : List (List Pair)) (pointers : List ℕ) (s : IsSound d) (some : 0 < 256 ^ d.rec_ref) (fit : AreFit d rows) (are : AreNumberLists d rows lists) (near : AllByRecursion (λ (p : ℕ). p < 256 ^ d.rec_ref) pointers) where
  pub all_sized : AreSizedPairs d (map (map (pointed pointers)) lists)
  all_sized = record {
    all = length-map lists (map (pointed pointers)) ∙ long_lists d rows lists are;
    sized = λ k inside. subst (AllByRecursion (λ p. IsSized (place_of d (k + 1)) (entry_of p))) (sym (get_or-map (map (pointed pointers)) lists k [])) (one k inside).0;
    keys = λ k inside. subst (AllByRecursion (λ (p : Pair). IsKey p.key)) (sym (get_or-map (map (pointed pointers)) lists k [])) (one k inside).1;
  }
    where
      one : (k : ℕ) → k < length d.keys → AllByRecursion (λ p. IsSized (place_of d (k + 1)) (entry_of p)) (map (pointed pointers) (get_or lists k [])) × AllByRecursion (λ (p : Pair). IsKey p.key) (map (pointed pointers) (get_or lists k []))
      one k inside = pointed_laid d (k + 1) pointers (get_or lists k []) some near (list_laid d rows lists k s fit are inside)

  pub kept_sized : (flags : List Bool) → AreSizedPairs d (map (map (pointed pointers)) (map (filter (has_flag flags)) lists))
  kept_sized flags = record {
    all = length-map (map (filter (has_flag flags)) lists) (map (pointed pointers)) ∙ length-map lists (filter (has_flag flags)) ∙ long_lists d rows lists are;
    sized = λ k inside. subst (AllByRecursion (λ p. IsSized (place_of d (k + 1)) (entry_of p))) (sym (there k)) (one k inside).0;
    keys = λ k inside. subst (AllByRecursion (λ (p : Pair). IsKey p.key)) (sym (there k)) (one k inside).1;
  }
    where
      there : (k : ℕ) → get_or (map (map (pointed pointers)) (map (filter (has_flag flags)) lists)) k [] ≡ map (pointed pointers) (filter (has_flag flags) (get_or lists k []))
      there k = get_or-map (map (pointed pointers)) (map (filter (has_flag flags)) lists) k [] ∙ ap (map (pointed pointers)) (get_or-map (filter (has_flag flags)) lists k [])

      one : (k : ℕ) → k < length d.keys → AllByRecursion (λ p. IsSized (place_of d (k + 1)) (entry_of p)) (map (pointed pointers) (filter (has_flag flags) (get_or lists k []))) × AllByRecursion (λ (p : Pair). IsKey p.key) (map (pointed pointers) (filter (has_flag flags) (get_or lists k [])))
      one k inside = pointed_laid d (k + 1) pointers (filter (has_flag flags) (get_or lists k [])) some near (taken_out (CanBePointed d (k + 1)) (has_flag flags) (get_or lists k []) (list_laid d rows lists k s fit are inside))
