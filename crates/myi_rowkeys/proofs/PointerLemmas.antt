-- Lists whose row numbers become row pointers.
use Rattle.std.proofs.Common.{◌≡◌, ℕ, suc, ◌+◌, ◌<◌, Bool, List, [], ◌∷◌, length, get_or, drop, map, refl, sym, ap, ◌∙◌, arith}
use Rattle.std.specs.List.{AllByRecursion, filter, range_with_len}
use Rattle.std.proofs.lemmas.List.Elements.{All-from_recursion, recursion_from_All}
use Rattle.std.proofs.lemmas.List.Sorted.{All-permutation, IsPermutation-sym}
use Rattle.myi_defs.specs.declared.types.Defs.{Defs}
use Rattle.myi_data.specs.Stored.{SizedRow}
use Rattle.myi_keylist.specs.declared.pair.Pair.{Pair}
use Rattle.myi_keylist.specs.PairOrder.{pair_with, sorted}
use Rattle.myi_keylist.specs.FirstBy.{KeyOf}
use Rattle.myi_keylist.specs.Classes.{picked}
use Rattle.myi_keylist.specs.Columns.{AreRising, AreRisingAt, has_flag, numbered, key_by_number, pairs_with, pointed}
use Rattle.myi_keylist.proofs.CallerLemmas.{sorted_permutes, pointers_sorted, kept_sorted, kept_listed}
use Rattle.myi_rowkeys.specs.TableKeys.{key_numbers, key_in}
use Rattle.myi_rowkeys.specs.RowLists.{no_row, pointer_pairs, AreNumberLists}
use Rattle.myi_rowkeys.proofs.NumberLemmas.{all_in_range}

-- a fact of each pair of a list is one of each pair of the list in another order
pub lists_permuted : (P : Pair → Type 0) (ps qs : List Pair) → sorted qs ≡ sorted ps → AllByRecursion P ps → AllByRecursion P qs
lists_permuted P ps qs same all =
    let in_order = All-permutation P ps (sorted ps) (sorted_permutes ps) (All-from_recursion P ps all) in
    recursion_from_All P qs (All-permutation P (sorted qs) qs (IsPermutation-sym qs (sorted qs) (sorted_permutes qs)) (rw same in_order))

points_from : {Row : Type 0} (named : KeyOf ℕ) (places : List ℕ) (key : KeyOf Row) (some : Row) (rows : List Row) (pointers : List ℕ) (first : ℕ) → ((i j : ℕ) → j ≡ first + i → get_or places j 0 ≡ get_or pointers i 0)
    → ((i j : ℕ) → j ≡ first + i → i < length rows → named j ≡ key (get_or rows i some)) → length pointers ≡ length rows
    → map (pointed places) (map (λ r. pair_with (named r) r) (range_with_len first (length rows))) ≡ pairs_with key rows pointers
points_from named places key some [] pointers first placed keyed same = refl
points_from named places key some (row ∷ rows) [] first placed keyed same = absurd (omega (arith, same))
points_from named places key some (row ∷ rows) (p ∷ pointers) first placed keyed same =
    ap (λ k. pair_with k (get_or places first 0) ∷ map (pointed places) (map (λ r. pair_with (named r) r) (range_with_len (first + 1) (length rows)))) (keyed 0 first (omega arith) (omega arith))
    ∙ ap (λ n. pair_with (key row) n ∷ map (pointed places) (map (λ r. pair_with (named r) r) (range_with_len (first + 1) (length rows)))) (placed 0 first (omega arith))
    ∙ ap (λ ps. pair_with (key row) p ∷ ps) (points_from named places key some rows pointers (first + 1) (λ i j at. placed (suc i) j (omega (arith, at))) (λ i j at few. keyed (suc i) j (omega (arith, at)) (omega (arith, few))) (omega (arith, same)))

numbers_pointed : (key : KeyOf SizedRow) (rows : List SizedRow) (pointers : List ℕ) → length pointers ≡ length rows → map (pointed pointers) (numbered (key_by_number rows no_row key) (length rows)) ≡ pairs_with key rows pointers
numbers_pointed key rows pointers same =
    points_from (key_by_number rows no_row key) pointers key no_row rows pointers 0 (λ i j at. let e : j ≡ i = omega (arith, at) in ap (λ n. get_or pointers n 0) e) (λ i j at few. let e : j ≡ i = omega (arith, at) in ap (λ n. key (get_or rows n no_row)) e) same

one_pointed : (key : KeyOf SizedRow) (rows : List SizedRow) (list : List Pair) (pointers : List ℕ) → sorted list ≡ sorted (numbered (key_by_number rows no_row key) (length rows)) → length pointers ≡ length rows → AreRising pointers
    → sorted (map (pointed pointers) list) ≡ sorted (pairs_with key rows pointers)
one_pointed key rows list pointers is same rise =
    let pairs : List Pair = numbered (key_by_number rows no_row key) (length rows) in
    let few : AllByRecursion (λ (p : Pair). p.row < length pointers) pairs = all_in_range (λ (p : Pair). p.row < length pointers) (λ r. pair_with (key_by_number rows no_row key r) r) 0 (length rows) (λ i low high. omega (arith, high, same)) in
    pointers_sorted pointers list rise (lists_permuted (λ (p : Pair). p.row < length pointers) pairs list is few)
    ∙ ap (map (pointed pointers)) is
    ∙ sym (pointers_sorted pointers pairs rise few)
    ∙ ap sorted (numbers_pointed key rows pointers same)

one_kept : (key : KeyOf SizedRow) (rows : List SizedRow) (list : List Pair) (flags : List Bool) (pointers : List ℕ) → sorted list ≡ sorted (numbered (key_by_number rows no_row key) (length rows)) → length flags ≡ length rows → length pointers ≡ length rows → AreRisingAt flags pointers
    → sorted (map (pointed pointers) (filter (has_flag flags) list)) ≡ sorted (pairs_with key (picked flags rows) (picked flags pointers))
one_kept key rows list flags pointers is long same rise =
    kept_sorted flags pointers list rise ∙ ap (λ ps. map (pointed pointers) (filter (has_flag flags) ps)) is ∙ kept_listed key rows no_row flags pointers long same rise

-- ---- all lists

head_of : (x y : List Pair) (xs ys : List (List Pair)) → ◌≡◌ {A = List (List Pair)} (x ∷ xs) (y ∷ ys) → x ≡ y
head_of x y xs ys same = ap (λ ls. get_or ls 0 []) same

tail_of : (x y : List Pair) (xs ys : List (List Pair)) → ◌≡◌ {A = List (List Pair)} (x ∷ xs) (y ∷ ys) → xs ≡ ys
tail_of x y xs ys same = ap (λ ls. drop 1 ls) same

each_list : (change : List Pair → List Pair) (before after : ℕ → List Pair) → ((k : ℕ) (list : List Pair) → sorted list ≡ sorted (before k) → sorted (change list) ≡ sorted (after k))
    → (ks : List ℕ) (lists : List (List Pair)) → map sorted lists ≡ map sorted (map before ks) → map sorted (map change lists) ≡ map sorted (map after ks)
each_list change before after one [] [] same = refl
each_list change before after one [] (list ∷ lists) same = absurd cc
each_list change before after one (k ∷ ks) [] same = absurd cc
each_list change before after one (k ∷ ks) (list ∷ lists) same =
    ap (λ ps. ps ∷ map sorted (map change lists)) (one k list (head_of (sorted list) (sorted (before k)) (map sorted lists) (map sorted (map before ks)) same))
    ∙ ap (λ ls. sorted (after k) ∷ ls) (each_list change before after one ks lists (tail_of (sorted list) (sorted (before k)) (map sorted lists) (map sorted (map before ks)) same))

pub all_pointed : (d : Defs) (rows : List SizedRow) (lists : List (List Pair)) (pointers : List ℕ) → AreNumberLists d rows lists → length pointers ≡ length rows → AreRising pointers
    → map sorted (map (map (pointed pointers)) lists) ≡ map sorted (pointer_pairs d rows pointers)
all_pointed d rows lists pointers are same rise =
    each_list (map (pointed pointers)) (λ k. numbered (key_by_number rows no_row (key_in d k)) (length rows)) (λ k. pairs_with (key_in d k) rows pointers)
    (λ k list is. one_pointed (key_in d k) rows list pointers is same rise) (key_numbers d) lists are.same

pub kept_pointed : (d : Defs) (rows : List SizedRow) (lists : List (List Pair)) (flags : List Bool) (pointers : List ℕ) → AreNumberLists d rows lists → length flags ≡ length rows → length pointers ≡ length rows → AreRisingAt flags pointers
    → map sorted (map (map (pointed pointers)) (map (filter (has_flag flags)) lists)) ≡ map sorted (pointer_pairs d (picked flags rows) (picked flags pointers))
kept_pointed d rows lists flags pointers are long same rise =
    ap (map sorted) (twice lists)
    ∙ each_list (λ list. map (pointed pointers) (filter (has_flag flags) list)) (λ k. numbered (key_by_number rows no_row (key_in d k)) (length rows)) (λ k. pairs_with (key_in d k) (picked flags rows) (picked flags pointers))
    (λ k list is. one_kept (key_in d k) rows list flags pointers is long same rise) (key_numbers d) lists are.same
  where
    twice : (lists : List (List Pair)) → map (map (pointed pointers)) (map (filter (has_flag flags)) lists) ≡ map (λ list. map (pointed pointers) (filter (has_flag flags) list)) lists
    twice [] = refl
    twice (list ∷ lists) = ap (λ ls. map (pointed pointers) (filter (has_flag flags) list) ∷ ls) (twice lists)
