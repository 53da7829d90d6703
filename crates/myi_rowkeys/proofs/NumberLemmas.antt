-- Lists of the pairs of rows with their numbers, as rows come one after the other.
use Rattle.std.proofs.Common.{◌≡◌, ℕ, zero, suc, ◌+◌, ◌<◌, ◌≤◌, List, [], ◌∷◌, ◌++◌, length, get_or, set, take, map, refl, sym, ap, ◌∙◌, arith}
use Rattle.std.specs.Prelude.{replicate}
use Rattle.std.specs.List.{AllByRecursion, range_with_len}
use Rattle.std.proofs.Math.Seq.{take-suc}
use Rattle.std.proofs.lemmas.List.{length-map, length_push, get_or_append_left, get_or_push}
use Rattle.std.proofs.lemmas.List.FromFn.{map-range_with_len_more}
use Rattle.myi_defs.specs.declared.types.Defs.{Defs}
use Rattle.myi_keys.specs.declared.values.KeySeg.{KeySeg}
use Rattle.myi_pack.specs.Packed.{Values}
use Rattle.myi_data.specs.Keys.{key_of}
use Rattle.myi_data.specs.Stored.{SizedRow}
use Rattle.myi_keylist.specs.declared.pair.Pair.{Pair}
use Rattle.myi_keylist.specs.PairOrder.{pair_with}
use Rattle.myi_keylist.specs.FirstBy.{KeyOf}
use Rattle.myi_keylist.specs.Columns.{numbered, key_by_number}
use Rattle.myi_rowkeys.specs.TableKeys.{numbers_from, key_numbers, row_keys, key_in}
use Rattle.myi_rowkeys.specs.RowLists.{with_pairs, no_row, number_pairs}

-- ---- the numbers of keys

pub length-numbers : (at n : ℕ) → length (numbers_from at n) ≡ n
length-numbers at zero = refl
length-numbers at (suc n) = ap suc (length-numbers (suc at) n)

-- one more number at the end
numbers_more : (at n : ℕ) → numbers_from at (suc n) ≡ numbers_from at n ++ (at + n) ∷ []
numbers_more at zero = let e : at + 0 ≡ at = omega arith in rw e refl
numbers_more at (suc n) =
    let e : suc at + n ≡ at + suc n = omega arith in
    ap (λ ks. at ∷ ks) (numbers_more (suc at) n ∙ ap (λ k. numbers_from (suc at) n ++ k ∷ []) e)

pub more_numbers : (n : ℕ) → numbers_from 1 (n + 1) ≡ numbers_from 1 n ++ (n + 1) ∷ []
more_numbers n =
    let next : n + 1 ≡ suc n = omega arith in
    let last : 1 + n ≡ n + 1 = omega arith in
    ap (numbers_from 1) next ∙ numbers_more 1 n ∙ ap (λ k. numbers_from 1 n ++ k ∷ []) last

-- what stands for each number, at a place
pub mapped_at : {X : Type 0} (f : ℕ → X) (at m n : ℕ) (x : X) → n < m → get_or (map f (numbers_from at m)) n x ≡ f (at + n)
mapped_at f at zero n x inside = absurd (omega arith)
mapped_at f at (suc m) zero x inside = ap f (omega arith)
mapped_at f at (suc m) (suc n) x inside = mapped_at f (suc at) m n x (omega arith) ∙ ap f (omega arith)

pub length-number_pairs : (d : Defs) (rows : List SizedRow) → length (number_pairs d rows) ≡ length d.keys
length-number_pairs d rows = length-map (key_numbers d) _ ∙ length-numbers 1 (length d.keys)

-- ---- pairs by the numbers of rows

pub same_range : {X : Type 0} (f g : ℕ → X) (at n : ℕ) → ((i : ℕ) → at ≤ i → i < at + n → f i ≡ g i) → map f (range_with_len at n) ≡ map g (range_with_len at n)
same_range f g at zero same = refl
same_range f g at (suc n) same =
    ap (λ x. x ∷ map f (range_with_len (at + 1) n)) (same at (omega arith) (omega arith))
    ∙ ap (λ xs. g at ∷ xs) (same_range f g (at + 1) n (λ i low high. same i (omega (arith, low)) (omega (arith, high))))

pub all_in_range : {X : Type 0} (P : X → Type 0) (f : ℕ → X) (at n : ℕ) → ((i : ℕ) → at ≤ i → i < at + n → P (f i)) → AllByRecursion P (map f (range_with_len at n))
all_in_range P f at zero all = tt
all_in_range P f at (suc n) all = (all at (omega arith) (omega arith), all_in_range P f (at + 1) n (λ i low high. all i (omega (arith, low)) (omega (arith, high))))

numbered_next : (key : KeyOf SizedRow) (rows : List SizedRow) (row : SizedRow) → numbered (key_by_number (rows ++ row ∷ []) no_row key) (length (rows ++ row ∷ [])) ≡ numbered (key_by_number rows no_row key) (length rows) ++ pair_with (key row) (length rows) ∷ []
numbered_next key rows row =
    let n : ℕ = length rows in
    let named : ℕ → Pair = λ r. pair_with (key (get_or (rows ++ row ∷ []) r no_row)) r in
    ap (λ m. map named (range_with_len 0 m)) (length_push rows row)
    ∙ map-range_with_len_more named 0 n n (omega arith)
    ∙ ap (λ ps. ps ++ named n ∷ []) (same_range named (λ r. pair_with (key (get_or rows r no_row)) r) 0 n (λ i low high. ap (λ r. pair_with (key r) i) (get_or_append_left rows (row ∷ []) no_row i (omega (arith, high)))))
    ∙ ap (λ r. numbered (key_by_number rows no_row key) n ++ pair_with (key r) n ∷ []) (get_or_push rows row no_row n refl)

pub numbers_next : (d : Defs) (rows : List SizedRow) (row : SizedRow) → with_pairs (length rows) (row_keys d row.values) (number_pairs d rows) ≡ number_pairs d (rows ++ row ∷ [])
numbers_next d rows row = each (key_numbers d)
  where
    each : (ks : List ℕ) → with_pairs (length rows) (map (λ k. key_of d k row.values) ks) (map (λ k. numbered (key_by_number rows no_row (key_in d k)) (length rows)) ks) ≡ map (λ k. numbered (key_by_number (rows ++ row ∷ []) no_row (key_in d k)) (length (rows ++ row ∷ []))) ks
    each [] = refl
    each (k ∷ ks) =
        ap (λ ps. ps ∷ with_pairs (length rows) (map (λ j. key_of d j row.values) ks) (map (λ j. numbered (key_by_number rows no_row (key_in d j)) (length rows)) ks)) (sym (numbered_next (key_in d k) rows row))
        ∙ ap (λ ls. numbered (key_by_number (rows ++ row ∷ []) no_row (key_in d k)) (length (rows ++ row ∷ [])) ∷ ls) (each ks)

pub no_numbers : (d : Defs) → number_pairs d [] ≡ replicate (length d.keys) []
no_numbers d = each 1 (length d.keys)
  where
    each : (at n : ℕ) → map (λ (k : ℕ). numbered (key_by_number [] no_row (key_in d k)) 0) (numbers_from at n) ≡ replicate n []
    each at zero = refl
    each at (suc n) = ap (λ ls. [] ∷ ls) (each (suc at) n)

-- ---- a row's pairs, list after list

list_pushed : (row : ℕ) (done : List (List KeySeg)) (key : List KeySeg) (lists : List (List Pair)) (i : ℕ) (d : List Pair) → i ≡ length done → i < length lists
    → set (with_pairs row done lists) i (get_or (with_pairs row done lists) i d ++ pair_with key row ∷ []) ≡ with_pairs row (done ++ key ∷ []) lists
list_pushed row [] key [] i d at inside = absurd (omega arith)
list_pushed row [] key (ps ∷ lists) zero d at inside = refl
list_pushed row [] key (ps ∷ lists) (suc i) d at inside = absurd (omega (arith, at))
list_pushed row (k ∷ done) key [] i d at inside = absurd (omega arith)
list_pushed row (k ∷ done) key (ps ∷ lists) zero d at inside = absurd (omega (arith, at))
list_pushed row (k ∷ done) key (ps ∷ lists) (suc i) d at inside = ap (λ ls. (ps ++ pair_with k row ∷ []) ∷ ls) (list_pushed row done key lists i d (omega (arith, at)) (omega (arith, inside)))

pub length-with_pairs : (row : ℕ) (keys : List (List KeySeg)) (lists : List (List Pair)) → length keys ≤ length lists → length (with_pairs row keys lists) ≡ length lists
length-with_pairs row [] lists same = refl
length-with_pairs row (key ∷ keys) [] same = absurd (omega (arith, same))
length-with_pairs row (key ∷ keys) (ps ∷ lists) same = ap suc (length-with_pairs row keys lists (omega (arith, same)))

-- one more list has its pair
pub pushed_next : (d : Defs) (row : Values) (ptr i : ℕ) (before now after : List (List Pair)) (ps old : List Pair) → i < length d.keys → length before ≡ length d.keys → now ≡ with_pairs ptr (take i (row_keys d row)) before
    → ps ≡ get_or now i old ++ pair_with (key_of d (i + 1) row) ptr ∷ [] → after ≡ set now i ps → after ≡ with_pairs ptr (take (i + 1) (row_keys d row)) before
pushed_next d row ptr i before now after ps old inside long so_far pushed step =
    let keys : List (List KeySeg) = row_keys d row in
    let many : length keys ≡ length d.keys = length-map (key_numbers d) (λ k. key_of d k row) ∙ length-numbers 1 (length d.keys) in
    let number : 1 + i ≡ i + 1 = omega arith in
    let next : suc i ≡ i + 1 = omega arith in
    let key : get_or keys i [] ≡ key_of d (i + 1) row = mapped_at (λ k. key_of d k row) 1 (length d.keys) i [] inside ∙ ap (λ k. key_of d k row) number in
    let front : take (i + 1) keys ≡ take i keys ++ key_of d (i + 1) row ∷ [] = ap (λ n. take n keys) (sym next) ∙ take-suc keys i [] (omega (arith, inside, many)) ∙ ap (λ k. take i keys ++ k ∷ []) key in
    let short : i ≡ length (take i keys) = sym (taken keys i (omega (arith, inside, many))) in
    step ∙ ap (λ ls. set ls i ps) so_far
    ∙ ap (set (with_pairs ptr (take i keys) before) i) (pushed ∙ ap (λ qs. qs ++ pair_with (key_of d (i + 1) row) ptr ∷ []) (ap (λ ls. get_or ls i old) so_far))
    ∙ list_pushed ptr (take i keys) (key_of d (i + 1) row) before i old short (omega (arith, inside, long))
    ∙ ap (λ ks. with_pairs ptr ks before) (sym front)
  where
    taken : (keys : List (List KeySeg)) (n : ℕ) → n ≤ length keys → length (take n keys) ≡ n
    taken [] zero few = refl
    taken [] (suc n) few = absurd (omega (arith, few))
    taken (k ∷ keys) zero few = refl
    taken (k ∷ keys) (suc n) few = ap suc (taken keys n (omega (arith, few)))
