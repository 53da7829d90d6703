-- The class numbers of a table's unique keys, key by key.
use Rattle.std.proofs.Common.{◌≡◌, ℕ, zero, suc, ◌+◌, ◌<◌, Bool, true, false, cond, List, [], ◌∷◌, ◌++◌, length, get_or, map, refl, sym, ap, subst, ◌∙◌, arith}
use Rattle.std.specs.Prelude.{filter, slice_get}
use Rattle.std.specs.Ordering.{is_gt}
use Rattle.std.specs.Option.{option_map_or}
use Rattle.std.proofs.lemmas.List.{map-append, append-nil}
use Rattle.std.proofs.lemmas.List.FromFn.{length-map-range_with_len}
use Rattle.std.proofs.lemmas.List.Elements.{filter-append}
use Rattle.std.proofs.lemmas.Option.{slice_get-get_or}
use Rattle.std.proofs.Math.ListN.{get_or-map}
use Rattle.myi_defs.specs.declared.types.Key.{Key}
use Rattle.myi_defs.specs.declared.types.Defs.{Defs}
use Rattle.myi_data.specs.Stored.{SizedRow}
use Rattle.myi_keylist.specs.declared.pair.Pair.{Pair}
use Rattle.myi_keylist.specs.PairOrder.{pair_with, pair_cmp, put_pair, sorted}
use Rattle.myi_keylist.specs.FirstBy.{KeyOf}
use Rattle.myi_keylist.specs.Columns.{IsColumn, AreColumns, key_by_number, numbered}
use Rattle.std.specs.List.{list_any}
use Rattle.myi_keylist.specs.Classes.{Columns, keeps_from}
use Rattle.myi_keylist.proofs.CallerLemmas.{columns_more}
use Rattle.myi_rowkeys.specs.TableKeys.{numbers_from, is_unique, key_in}
use Rattle.myi_rowkeys.specs.RowLists.{no_row, number_pairs, AreNumberLists, AddsColumn}
use Rattle.myi_rowkeys.proofs.NumberLemmas.{more_numbers, mapped_at}
use Rattle.myi_rowkeys.proofs.ListLemmas.{unique_at, unique_list}

-- what a row's keys are for the unique ones of the first keys
abbrev pub unique_before : Defs → List SizedRow → ℕ → List (KeyOf ℕ)
unique_before d rows n = map (key_by_number rows no_row) (map (key_in d) (filter (is_unique d) (numbers_from 1 n)))

before_more : (d : Defs) (rows : List SizedRow) (n : ℕ) (b : Bool) → is_unique d (n + 1) ≡ b → unique_before d rows (n + 1) ≡ unique_before d rows n ++ map (key_by_number rows no_row) (map (key_in d) (cond b ((n + 1) ∷ []) []))
before_more d rows n b is =
    let f : KeyOf SizedRow → KeyOf ℕ = key_by_number rows no_row in
    ap (λ ks. map f (map (key_in d) (filter (is_unique d) ks))) (more_numbers n)
    ∙ ap (λ ks. map f (map (key_in d) ks)) (filter-append (is_unique d) (numbers_from 1 n) ((n + 1) ∷ []))
    ∙ ap (λ c. map f (map (key_in d) (filter (is_unique d) (numbers_from 1 n) ++ cond c ((n + 1) ∷ []) []))) is
    ∙ ap (map f) (map-append (key_in d) (filter (is_unique d) (numbers_from 1 n)) (cond b ((n + 1) ∷ []) []))
    ∙ map-append f (map (key_in d) (filter (is_unique d) (numbers_from 1 n))) (map (key_in d) (cond b ((n + 1) ∷ []) []))

-- whether the key at a place is unique, of a key that was looked at
unique_here : (d : Defs) (i : ℕ) (key : Key) (keys : List Key) → keys ≡ d.keys → i < length keys → key ≡ get_or keys i key → is_unique d (i + 1) ≡ key.unique
unique_here d i key keys given inside is =
    unique_at d i ∙ ap (λ ks. option_map_or (λ (k : Key). k.unique) (slice_get ks i) false) (sym given)
    ∙ ap (λ o. option_map_or (λ (k : Key). k.unique) o false) (slice_get-get_or keys i key inside) ∙ ap (λ (k : Key). k.unique) (sym is)

any_default : (xs : List (List Pair)) (i : ℕ) (one other : List Pair) → i < length xs → get_or xs i one ≡ get_or xs i other
any_default [] i one other few = absurd (omega (arith, few))
any_default (x ∷ xs) zero one other few = refl
any_default (x ∷ xs) (suc i) one other few = any_default xs i one other (omega (arith, few))

-- a key that is not unique was passed
pub column_passed : (d : Defs) (i : ℕ) (key : Key) (keys : List Key) (rows : List SizedRow) (n last : ℕ) (columns : Columns) → keys ≡ d.keys → i < length keys → key ≡ get_or keys i key → key.unique ≡ false
    → AreColumns (unique_before d rows i) n 0 last columns → AreColumns (unique_before d rows (i + 1)) n 0 last columns
column_passed d i key keys rows n last columns given inside is plain so_far =
    subst (λ ks. AreColumns ks n 0 last columns) (sym (before_more d rows i false (unique_here d i key keys given inside is ∙ plain) ∙ append-nil (unique_before d rows i))) so_far

-- a unique key has its column
pub column_next : (d : Defs) (i : ℕ) (key : Key) (keys : List Key) (rows : List SizedRow) (n last next : ℕ) (columns after : Columns) (numbers : List ℕ) (lists : List (List Pair)) (list : List Pair) → keys ≡ d.keys → i < length keys → key ≡ get_or keys i key → key.unique ≡ true
    → length rows ≡ n → AreNumberLists d rows lists → list ≡ get_or lists i list → i < length lists → after ≡ columns ++ numbers ∷ [] → ((k : KeyOf ℕ) → list ≡ sorted (numbered k n) → IsColumn k n last next numbers)
    → AreColumns (unique_before d rows i) n 0 last columns → AreColumns (unique_before d rows (i + 1)) n 0 next after
column_next d i key keys rows n last next columns after numbers lists list given inside is unique long are here listed step column so_far =
    let u : is_unique d (i + 1) ≡ true = unique_here d i key keys given inside is ∙ unique in
    let few : i < length d.keys = omega (arith, inside, ap (λ (ks : List Key). length ks) given) in
    let k : KeyOf ℕ = key_by_number rows no_row (key_in d (i + 1)) in
    let sort : list ≡ sorted (numbered k n) = here ∙ any_default lists i list [] listed ∙ unique_list d rows lists i few are u ∙ ap (λ m. sorted (numbered k m)) long in
    subst (λ ks. AreColumns ks n 0 next after) (sym (before_more d rows i true u))
    (subst (AreColumns (unique_before d rows i ++ k ∷ []) n 0 next) (sym step) (columns_more (unique_before d rows i) k n 0 last next columns numbers so_far (column k sort)))

-- the columns once one more key was looked at
pub column_step : (d : Defs) (i : ℕ) (key : Key) (keys : List Key) (rows : List SizedRow) (n last next : ℕ) (columns after : Columns) (lists : List (List Pair)) (list : List Pair) → keys ≡ d.keys → i < length keys → key ≡ get_or keys i key
    → length rows ≡ n → AreNumberLists d rows lists → list ≡ get_or lists i list → i < length lists → (b : Bool) → key.unique ≡ b → AddsColumn b list n last next columns after
    → AreColumns (unique_before d rows i) n 0 last columns → AreColumns (unique_before d rows (i + 1)) n 0 next after
column_step d i key keys rows n last next columns after lists list given inside is long are here listed true unique adds so_far =
    column_next d i key keys rows n last next columns after adds.0 lists list given inside is unique long are here listed adds.1 adds.2 so_far
column_step d i key keys rows n last next columns after lists list given inside is long are here listed false plain adds so_far =
    subst (λ m. AreColumns (unique_before d rows (i + 1)) n 0 m after) (sym adds.0) (subst (AreColumns (unique_before d rows (i + 1)) n 0 last) (sym adds.1) (column_passed d i key keys rows n last columns given inside is plain so_far))

-- ---- how many pairs a list has

length-put : (p : Pair) (ps : List Pair) → length (put_pair p ps) ≡ suc (length ps)
length-put p [] = refl
length-put p (q ∷ qs) = by (is_gt (pair_cmp p q)) (length-put p qs)
  where
    by : (b : Bool) → length (put_pair p qs) ≡ suc (length qs) → length (cond b (q ∷ put_pair p qs) (p ∷ q ∷ qs)) ≡ suc (suc (length qs))
    by true more = ap suc more
    by false more = refl

length-sorted : (ps : List Pair) → length (sorted ps) ≡ length ps
length-sorted [] = refl
length-sorted (p ∷ ps) = length-put p (sorted ps) ∙ ap suc (length-sorted ps)

sorted_long : (ps qs : List Pair) → sorted qs ≡ sorted ps → length qs ≡ length ps
sorted_long ps qs same = sym (length-sorted qs) ∙ ap (λ (rs : List Pair). length rs) same ∙ length-sorted ps

pub list_long : (d : Defs) (rows : List SizedRow) (lists : List (List Pair)) (i : ℕ) (list : List Pair) → AreNumberLists d rows lists → i < length d.keys → i < length lists → list ≡ get_or lists i list → length list ≡ length rows
list_long d rows lists i list are inside listed here =
    let number : 1 + i ≡ i + 1 = omega arith in
    let pairs : ℕ → List Pair = λ k. numbered (key_by_number rows no_row (key_in d k)) (length rows) in
    let same : sorted list ≡ sorted (pairs (i + 1)) =
    ap sorted (here ∙ any_default lists i list [] listed) ∙ sym (get_or-map sorted lists i []) ∙ ap (λ ls. get_or ls i []) are.same ∙ get_or-map sorted (number_pairs d rows) i []
    ∙ ap sorted (mapped_at pairs 1 (length d.keys) i [] inside ∙ ap pairs number) in
    sorted_long (pairs (i + 1)) list same ∙ length-map-range_with_len (λ r. pair_with (key_by_number rows no_row (key_in d (i + 1)) r) r) 0 (length rows)

-- as many flags as rows
pub flags_long : (repeats : ℕ → ℕ → Bool) (kept : List ℕ) (row n : ℕ) → length (keeps_from repeats kept row n) ≡ n
flags_long repeats kept row zero = refl
flags_long repeats kept row (suc n) = by (list_any (repeats row) kept) (flags_long repeats kept (suc row) n) (flags_long repeats (kept ++ row ∷ []) (suc row) n)
  where
    by : (b : Bool) → length (keeps_from repeats kept (suc row) n) ≡ n → length (keeps_from repeats (kept ++ row ∷ []) (suc row) n) ≡ n → length (cond b (false ∷ keeps_from repeats kept (suc row) n) (true ∷ keeps_from repeats (kept ++ row ∷ []) (suc row) n)) ≡ suc n
    by true dropped added = ap suc dropped
    by false dropped added = ap suc added
