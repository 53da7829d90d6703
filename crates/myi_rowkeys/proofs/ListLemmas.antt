-- Lists of unique keys that are sorted: what they tell of rows that repeat each other.
use Rattle.std.proofs.Common.{◌≡◌, ℕ, zero, suc, ◌+◌, ◌<◌, ◌≤◌, Bool, true, false, cond, ◌&&◌, ◌||◌, List, [], ◌∷◌, ◌++◌, length, get_or, set, take, drop, map, refl, sym, ap, subst, ◌∙◌, arith}
use Rattle.std.specs.Prelude.{slice_get, filter}
use Rattle.std.specs.Option.{option_map_or}
use Rattle.std.specs.List.{AllByRecursion, range_with_len}
use Rattle.std.proofs.Math.ListN.{get_or-map}
use Rattle.std.proofs.lemmas.List.Sorted.{IsPermutation-refl}
use Rattle.myi_defs.specs.declared.types.Key.{Key}
use Rattle.myi_defs.specs.declared.types.Defs.{Defs}
use Rattle.myi_data.specs.Stored.{SizedRow}
use Rattle.myi_keylist.specs.declared.pair.Pair.{Pair}
use Rattle.myi_keylist.specs.PairOrder.{pair_with, sorted}
use Rattle.myi_keylist.specs.Repeats.{has_repeat, AreApart, keys_of}
use Rattle.myi_keylist.specs.FirstBy.{KeyOf, first_by, repeats_in}
use Rattle.myi_keylist.specs.Columns.{numbered, key_by_number}
use Rattle.myi_keylist.proofs.CallerLemmas.{sorted_sorted, sorted_is, apart, all_kept}
use Rattle.myi_rowkeys.specs.TableKeys.{numbers_from, is_unique, key_in, unique_keys}
use Rattle.myi_rowkeys.specs.RowLists.{sorted_unique, any_repeat, no_row, number_pairs, AreNumberLists}
use Rattle.myi_rowkeys.proofs.NumberLemmas.{mapped_at}

-- a sorted list stays when it is sorted
pub sorted_again : (ps : List Pair) → sorted (sorted ps) ≡ sorted ps
sorted_again ps = sym (sorted_is (sorted ps) (sorted ps) (IsPermutation-refl (sorted ps)) (sorted_sorted ps))

pub sorted_same : (keys : List Key) (lists : List (List Pair)) → map sorted (sorted_unique keys lists) ≡ map sorted lists
sorted_same [] lists = refl
sorted_same (key ∷ keys) [] = refl
sorted_same (key ∷ keys) (ps ∷ lists) = ap (λ qs. qs ∷ map sorted (sorted_unique keys lists)) (by key.unique) ∙ ap (λ ls. sorted ps ∷ ls) (sorted_same keys lists)
  where
    by : (b : Bool) → sorted (cond b (sorted ps) ps) ≡ sorted ps
    by true = sorted_again ps
    by false = refl

sorted_there : (keys : List Key) (lists : List (List Pair)) (i : ℕ) → option_map_or (λ (key : Key). key.unique) (slice_get keys i) false ≡ true → get_or (sorted_unique keys lists) i [] ≡ sorted (get_or (sorted_unique keys lists) i [])
sorted_there [] lists i unique = absurd cc
sorted_there (key ∷ keys) [] i unique = refl
sorted_there (key ∷ keys) (ps ∷ lists) zero unique = ap (λ b. cond b (sorted ps) ps) unique ∙ sym (sorted_again ps) ∙ ap (λ b. sorted (cond b (sorted ps) ps)) (sym unique)
sorted_there (key ∷ keys) (ps ∷ lists) (suc i) unique = sorted_there keys lists i unique

-- whether the key at a place is unique
pub unique_at : (d : Defs) (i : ℕ) → is_unique d (i + 1) ≡ option_map_or (λ (key : Key). key.unique) (slice_get d.keys i) false
unique_at d i = let next : i + 1 ≡ suc i = omega arith in ap (is_unique d) next

pub sorted_numbers : (d : Defs) (rows : List SizedRow) → AreNumberLists d rows (sorted_unique d.keys (number_pairs d rows))
sorted_numbers d rows = record {
  same = sorted_same d.keys (number_pairs d rows);
  unique = λ i unique. sorted_there d.keys (number_pairs d rows) i (sym (unique_at d i) ∙ unique);
}

-- a list of a unique key
pub unique_list : (d : Defs) (rows : List SizedRow) (lists : List (List Pair)) (i : ℕ) → i < length d.keys → AreNumberLists d rows lists → is_unique d (i + 1) ≡ true
    → get_or lists i [] ≡ sorted (numbered (key_by_number rows no_row (key_in d (i + 1))) (length rows))
unique_list d rows lists i inside are unique =
    let number : 1 + i ≡ i + 1 = omega arith in
    let listed : ℕ → List Pair = λ k. numbered (key_by_number rows no_row (key_in d k)) (length rows) in
    are.unique i unique ∙ sym (get_or-map sorted lists i []) ∙ ap (λ ls. get_or ls i []) are.same ∙ get_or-map sorted (number_pairs d rows) i []
    ∙ ap sorted (mapped_at listed 1 (length d.keys) i [] inside ∙ ap listed number)

-- ---- repeats

some_repeat : (keys : List Key) (lists : List (List Pair)) (i : ℕ) → any_repeat keys lists ≡ false → option_map_or (λ (key : Key). key.unique) (slice_get keys i) false ≡ true → has_repeat (get_or lists i []) ≡ false
some_repeat [] lists i none unique = absurd cc
some_repeat (key ∷ keys) [] i none unique = refl
some_repeat (key ∷ keys) (ps ∷ lists) zero none unique = by key.unique (has_repeat ps) (any_repeat keys lists) unique none
  where
    by : (u r o : Bool) → u ≡ true → ((u && r) || o) ≡ false → r ≡ false
    by true false o is none = refl
    by true true o is none = absurd cc
    by false r o is none = absurd cc
some_repeat (key ∷ keys) (ps ∷ lists) (suc i) none unique = some_repeat keys lists i (by (key.unique && has_repeat ps) (any_repeat keys lists) none) unique
  where
    by : (a b : Bool) → (a || b) ≡ false → b ≡ false
    by a false none = refl
    by false true none = absurd cc
    by true true none = absurd cc

keys_from : {Row : Type 0} (named : KeyOf ℕ) (key : KeyOf Row) (some : Row) (rows : List Row) (first : ℕ) → ((i j : ℕ) → j ≡ first + i → i < length rows → named j ≡ key (get_or rows i some))
    → keys_of (map (λ r. pair_with (named r) r) (range_with_len first (length rows))) ≡ map key rows
keys_from named key some [] first keyed = refl
keys_from named key some (row ∷ rows) first keyed =
    ap (λ k. k ∷ keys_of (map (λ r. pair_with (named r) r) (range_with_len (first + 1) (length rows)))) (keyed 0 first (omega arith) (omega arith))
    ∙ ap (λ ks. key row ∷ ks) (keys_from named key some rows (first + 1) (λ i j at few. keyed (suc i) j (omega (arith, at)) (omega (arith, few))))

pub keys_numbered : (key : KeyOf SizedRow) (rows : List SizedRow) → keys_of (numbered (key_by_number rows no_row key) (length rows)) ≡ map key rows
keys_numbered key rows = keys_from (key_by_number rows no_row key) key no_row rows 0 (λ i j at few. let e : j ≡ i = omega (arith, at) in ap (λ n. key (get_or rows n no_row)) e)

-- a fact of each unique key
each_unique : (P : KeyOf SizedRow → Type 0) (d : Defs) (at n : ℕ) → ((k : ℕ) → at ≤ k → k < at + n → is_unique d k ≡ true → P (key_in d k)) → AllByRecursion P (map (key_in d) (filter (is_unique d) (numbers_from at n)))
each_unique P d at zero all = tt
each_unique P d at (suc n) all = by (is_unique d at) refl (each_unique P d (suc at) n (λ k low high. all k (omega (arith, low)) (omega (arith, high))))
  where
    by : (b : Bool) → is_unique d at ≡ b → AllByRecursion P (map (key_in d) (filter (is_unique d) (numbers_from (suc at) n)))
        → AllByRecursion P (map (key_in d) (cond b (at ∷ filter (is_unique d) (numbers_from (suc at) n)) (filter (is_unique d) (numbers_from (suc at) n))))
    by true is rest = (all at (omega arith) (omega arith) is, rest)
    by false is rest = rest

pub none_repeats : (d : Defs) (rows : List SizedRow) (lists : List (List Pair)) → AreNumberLists d rows lists → any_repeat d.keys lists ≡ false → first_by (repeats_in (unique_keys d)) rows ≡ rows
none_repeats d rows lists are none = all_kept (unique_keys d) rows (each_unique (λ key. AreApart [] (map key rows)) d 1 (length d.keys) one)
  where
    one : (k : ℕ) → 1 ≤ k → k < 1 + length d.keys → is_unique d k ≡ true → AreApart [] (map (key_in d k) rows)
    one zero low high unique = absurd (omega (arith, low))
    one (suc i) low high unique =
        let next : suc i ≡ i + 1 = omega arith in
        let is : is_unique d (i + 1) ≡ true = ap (is_unique d) (sym next) ∙ unique in
        let key : KeyOf SizedRow = key_in d (i + 1) in
        let alone : has_repeat (get_or lists i []) ≡ false = some_repeat d.keys lists i none unique in
        let clear : has_repeat (sorted (numbered (key_by_number rows no_row key) (length rows))) ≡ false = ap has_repeat (sym (unique_list d rows lists i (omega (arith, high)) are is)) ∙ alone in
        subst (λ n. AreApart [] (map (key_in d n) rows)) (sym next) (subst (AreApart []) (keys_numbered key rows) (apart (numbered (key_by_number rows no_row key) (length rows)) clear))

-- ---- loops over the lists

-- one more list is sorted, if its key is unique
pub sorted_next : (keys : List Key) (lists now after : List (List Pair)) (i : ℕ) (ps old : List Pair) (key : Key) → i < length keys → length lists ≡ length keys → now ≡ sorted_unique (take i keys) lists
    → key ≡ get_or keys i key → ps ≡ cond key.unique (sorted (get_or now i old)) (get_or now i old) → after ≡ set now i ps → after ≡ sorted_unique (take (i + 1) keys) lists
sorted_next keys lists now after i ps old key inside long so_far here sorts step =
    step ∙ ap (λ ls. set ls i ps) so_far ∙ ap (set (sorted_unique (take i keys) lists) i) (sorts ∙ ap (λ (k : Key). cond k.unique (sorted (get_or now i old)) (get_or now i old)) here ∙ ap (λ ls. cond (get_or keys i key).unique (sorted (get_or ls i old)) (get_or ls i old)) so_far) ∙ go keys lists i inside long
  where
    go : (keys : List Key) (lists : List (List Pair)) (i : ℕ) → i < length keys → length lists ≡ length keys
        → set (sorted_unique (take i keys) lists) i (cond (get_or keys i key).unique (sorted (get_or (sorted_unique (take i keys) lists) i old)) (get_or (sorted_unique (take i keys) lists) i old)) ≡ sorted_unique (take (i + 1) keys) lists
    go [] lists i inside long = absurd (omega (arith, inside))
    go (q ∷ keys) [] i inside long = absurd (omega (arith, long))
    go (q ∷ keys) (qs ∷ lists) zero inside long = refl
    go (q ∷ keys) (qs ∷ lists) (suc i) inside long =
        let e : suc i + 1 ≡ suc (i + 1) = omega arith in
        rw e (ap (λ ls. cond q.unique (sorted qs) qs ∷ ls) (go keys lists i (omega (arith, inside)) (omega (arith, long))))

-- one more list of a loop that changes each
pub changed_next : (f : List Pair → List Pair) (xs ys : List (List Pair)) (i : ℕ) (d y : List Pair) → i < length xs → ys ≡ map f (take i xs) ++ drop i xs → y ≡ f (get_or ys i d) → set ys i y ≡ map f (take (i + 1) xs) ++ drop (i + 1) xs
changed_next f xs ys i d y few is made = rw made (rw is (go f xs i d few))
  where
    go : (f : List Pair → List Pair) (xs : List (List Pair)) (i : ℕ) (d : List Pair) → i < length xs → set (map f (take i xs) ++ drop i xs) i (f (get_or (map f (take i xs) ++ drop i xs) i d)) ≡ map f (take (i + 1) xs) ++ drop (i + 1) xs
    go f [] i d few = absurd (omega arith)
    go f (z ∷ xs) zero d few = refl
    go f (z ∷ xs) (suc i) d few = let e : suc i + 1 ≡ suc (i + 1) = omega arith in rw e (ap (λ zs. f z ∷ zs) (go f xs i d (omega arith)))

pub length-sorted_unique : (keys : List Key) (lists : List (List Pair)) → length (sorted_unique keys lists) ≡ length lists
length-sorted_unique [] lists = refl
length-sorted_unique (key ∷ keys) [] = refl
length-sorted_unique (key ∷ keys) (ps ∷ lists) = ap suc (length-sorted_unique keys lists)

-- the list at a place, and those behind it, tell whether any behind the place before it has a repeat
pub repeat_next : (keys : List Key) (lists : List (List Pair)) (i : ℕ) (key : Key) (ps : List Pair) → i < length keys → length lists ≡ length keys → key ≡ get_or keys i key → ps ≡ get_or lists i ps
    → any_repeat (drop i keys) (drop i lists) ≡ ((key.unique && has_repeat ps) || any_repeat (drop (i + 1) keys) (drop (i + 1) lists))
repeat_next [] lists i key ps inside long here is = absurd (omega (arith, inside))
repeat_next (q ∷ keys) [] i key ps inside long here is = absurd (omega (arith, long))
repeat_next (q ∷ keys) (qs ∷ lists) zero key ps inside long here is = ap (λ (k : Key). (k.unique && has_repeat qs) || any_repeat keys lists) (sym here) ∙ ap (λ rs. (key.unique && has_repeat rs) || any_repeat keys lists) (sym is)
repeat_next (q ∷ keys) (qs ∷ lists) (suc i) key ps inside long here is =
    let e : suc i + 1 ≡ suc (i + 1) = omega arith in
    rw e (repeat_next keys lists i key ps (omega (arith, inside)) (omega (arith, long)) here is)
