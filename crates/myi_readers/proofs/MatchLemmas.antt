-- The rows that are seen and match: those of the base and those that are known, put in order.
use Rattle.std.proofs.Common.{◌≡◌, ℕ, zero, suc, ◌+◌, ◌<◌, Bool, true, false, nat_lt, List, [], ◌∷◌, ◌++◌, length, map, All, Option, Some, unwrap_or, cond, refl, sym, ap, subst, ◌∙◌, arith}
use Rattle.std.specs.Prelude.{slice_index_or, slice_set, filter, IsPermutation, IsSorted, ◌==◌, if◌then◌else◌}
use Rattle.std.specs.List.{swap}
use Rattle.std.specs.Ordering.{is_lt}
use Rattle.std.proofs.lemmas.Bool.{eq-eqb, ne_eqb}
use Rattle.std.proofs.lemmas.List.{get_or-map, map-append, length-map}
use Rattle.std.proofs.lemmas.List.Elements.{filter-append, All-cons, All-nil, All-head, All-tail}
use Rattle.std.proofs.lemmas.List.Sorted.{IsPermutation-refl, IsPermutation-trans, IsPermutation-cons, IsPermutation-map, IsPermutation-middle, IsPermutation-keeps, IsPermutation-append_left, All-permutation}
use Rattle.myi_defs.specs.declared.types.Defs.{Defs}
use Rattle.myi_defs.specs.Sound.{IsSound}
use Rattle.myi_pack.specs.Packed.{Values}
use Rattle.myi_keylist.specs.declared.pair.Pair.{Pair}
use Rattle.myi_keylist.specs.PairOrder.{pair_with, pair_cmp}
use Rattle.myi_data.specs.Keys.{key_of}
use Rattle.myi_state.specs.State.{StoredRow, TableState, row_at}
use Rattle.myi_state.specs.Sound.{IsState, AreInOrder}
use Rattle.myi_tablestate.specs.Listed.{placed}
use Rattle.myi_tablestate.specs.Matching.{Bounds, lies_between, placed_key, AreMatching}
use Rattle.myi_table.specs.declared.ranges.Range.{Range}
use Rattle.myi_table.specs.Reading.{bounds_of}
use Rattle.myi_snapshots.specs.declared.snapshot.Snapshot.{Snapshot}
use Rattle.myi_snapshots.specs.Appended.{with_rows, AllFit}
use Rattle.myi_snapshots.specs.Known.{packed_rows}
use Rattle.myi_snapshots.specs.Seen.{seen_rows}
use Rattle.myi_snapshots.proofs.CallerLemmas.{kept}
use Rattle.myi_readers.specs.declared.keyed_row.KeyedRow.{KeyedRow}
use Rattle.myi_readers.specs.KeyedRows.{keyed_cmp, keyed_of, all_keyed, is_between, all_between, placed_of}
use Rattle.myi_readers.specs.Placed.{stands_before, placed_before, placed_packed}
use Rattle.myi_readers.specs.Ranges.{AnswersSeen}
use Rattle.myi_readers.proofs.SeenLemmas.{all_seen}

-- ---- those of a list that pass a test, in another order

under : {X : Type 0} (p : X → Bool) (x : X) (xs ys : List X) → IsPermutation (filter p xs) (filter p ys) → IsPermutation (filter p (x ∷ xs)) (filter p (x ∷ ys))
under {X} p x xs ys same = by (p x)
  where
    by : (b : Bool) → IsPermutation (cond b (x ∷ filter p xs) (filter p xs)) (cond b (x ∷ filter p ys) (filter p ys))
    by true = IsPermutation-cons x (filter p xs) (filter p ys) same
    by false = same

crossed : {X : Type 0} (p : X → Bool) (x y : X) (xs : List X) → IsPermutation (filter p (x ∷ y ∷ xs)) (filter p (y ∷ x ∷ xs))
crossed {X} p x y xs = by (p x) (p y)
  where
    by : (a b : Bool) → IsPermutation (cond a (x ∷ cond b (y ∷ filter p xs) (filter p xs)) (cond b (y ∷ filter p xs) (filter p xs))) (cond b (y ∷ cond a (x ∷ filter p xs) (filter p xs)) (cond a (x ∷ filter p xs) (filter p xs)))
    by true true = IsPermutation-middle (x ∷ []) y (filter p xs)
    by true false = IsPermutation-refl (x ∷ filter p xs)
    by false true = IsPermutation-refl (y ∷ filter p xs)
    by false false = IsPermutation-refl (filter p xs)

-- an element in the place of another, and that one in front
exchanged : {X : Type 0} (p : X → Bool) (xs : List X) (j : ℕ) (x d : X) → j < length xs → IsPermutation (filter p (x ∷ xs)) (filter p (slice_index_or xs j d ∷ slice_set xs j x))
exchanged p [] j x d lt = absurd (omega (arith, lt))
exchanged p (y ∷ ys) zero x d lt = crossed p x y ys
exchanged p (y ∷ ys) (suc j) x d lt =
    let g = slice_index_or ys j d in
    let left = slice_set ys j x in
    IsPermutation-trans (filter p (x ∷ y ∷ ys)) (filter p (y ∷ x ∷ ys)) (filter p (g ∷ y ∷ left)) (crossed p x y ys)
    (IsPermutation-trans (filter p (y ∷ x ∷ ys)) (filter p (y ∷ g ∷ left)) (filter p (g ∷ y ∷ left)) (under p y (x ∷ ys) (g ∷ left) (exchanged p ys j x d (omega (arith, lt)))) (crossed p y g left))

swapped : {X : Type 0} (p : X → Bool) (xs : List X) (i j : ℕ) (d : X) → i < length xs → j < length xs → IsPermutation (filter p xs) (filter p (slice_set (slice_set xs i (slice_index_or xs j d)) j (slice_index_or xs i d)))
swapped p [] i j d one two = absurd (omega (arith, one))
swapped p (x ∷ xs) zero zero d one two = IsPermutation-refl (filter p (x ∷ xs))
swapped p (x ∷ xs) zero (suc j) d one two = exchanged p xs j x d (omega (arith, two))
swapped p (x ∷ xs) (suc i) zero d one two = exchanged p xs i x d (omega (arith, one))
swapped p (x ∷ xs) (suc i) (suc j) d one two = under p x xs (slice_set (slice_set xs i (slice_index_or xs j d)) j (slice_index_or xs i d)) (swapped p xs i j d (omega (arith, one)) (omega (arith, two)))

pub passing : {X : Type 0} (p : X → Bool) (xs ys : List X) → IsPermutation xs ys → IsPermutation (filter p xs) (filter p ys)
passing {X} p xs ys same = IsPermutation-keeps xs (λ (l : List X). IsPermutation (filter p xs) (filter p l)) (IsPermutation-refl (filter p xs)) step ys same
  where
    step : (l : List X) (i j : ℕ) → i < length l → j < length l → IsPermutation (filter p xs) (filter p l) → IsPermutation (filter p xs) (filter p (swap l i j))
    step [] i j one two so_far = so_far
    step (d ∷ l) i j one two so_far = IsPermutation-trans (filter p xs) (filter p (d ∷ l)) (filter p (swap (d ∷ l) i j)) so_far (swapped p (d ∷ l) i j d one two)

-- ---- tests and maps

filter_map_is : {A B : Type 0} (p : B → Bool) (f : A → B) (xs : List A) → filter p (map f xs) ≡ map f (filter (λ (x : A). p (f x)) xs)
filter_map_is {A} {B} p f [] = refl
filter_map_is {A} {B} p f (x ∷ xs) = by (p (f x)) (filter_map_is p f xs)
  where
    by : (b : Bool) → filter p (map f xs) ≡ map f (filter (λ (x : A). p (f x)) xs) → cond b (f x ∷ filter p (map f xs)) (filter p (map f xs)) ≡ map f (cond b (x ∷ filter (λ (x : A). p (f x)) xs) (filter (λ (x : A). p (f x)) xs))
    by true same = ap (λ (l : List B). f x ∷ l) same
    by false same = same

filters_commute : {A : Type 0} (p q : A → Bool) (xs : List A) → filter p (filter q xs) ≡ filter q (filter p xs)
filters_commute {A} p q [] = refl
filters_commute {A} p q (x ∷ xs) = by (p x) refl (q x) refl (filters_commute p q xs)
  where
    by : (a : Bool) → p x ≡ a → (b : Bool) → q x ≡ b → filter p (filter q xs) ≡ filter q (filter p xs) → filter p (cond b (x ∷ filter q xs) (filter q xs)) ≡ filter q (cond a (x ∷ filter p xs) (filter p xs))
    by true pa true qb same = ap (λ (c : Bool). cond c (x ∷ filter p (filter q xs)) (filter p (filter q xs))) pa ∙ ap (λ (l : List A). x ∷ l) same ∙ sym (ap (λ (c : Bool). cond c (x ∷ filter q (filter p xs)) (filter q (filter p xs))) qb)
    by true pa false qb same = same ∙ sym (ap (λ (c : Bool). cond c (x ∷ filter q (filter p xs)) (filter q (filter p xs))) qb)
    by false pa true qb same = ap (λ (c : Bool). cond c (x ∷ filter p (filter q xs)) (filter p (filter q xs))) pa ∙ same
    by false pa false qb same = same

unkeyed : (d : Defs) (k : ℕ) (xs : List (ℕ × Values)) → map placed_of (all_keyed d k xs) ≡ xs
unkeyed d k [] = refl
unkeyed d k (x ∷ xs) = ap (λ (l : List (ℕ × Values)). x ∷ l) (unkeyed d k xs)

-- ---- a stored row by its position

abbrev no_row_there : StoredRow
no_row_there = record { at = 0; values = []; blocks = [] }

abbrev row_behind : List StoredRow → ℕ × Values → StoredRow
row_behind all p = unwrap_or (row_at p.0 all) no_row_there

abbrev IsThere : List StoredRow → StoredRow → Type 0
IsThere all r = row_at r.at all ≡ Some r

-- each row is the one at its position
later_there : (q : StoredRow) (low : ℕ) (qs rows : List StoredRow) → q.at < low → AreInOrder low rows → All (IsThere qs) rows → All (IsThere (q ∷ qs)) rows
later_there q low qs [] lt order all = All-nil (IsThere (q ∷ qs))
later_there q low qs (r ∷ rows) lt order all =
    let from = order.0 in
    let other : (q.at == r.at) ≡ false = ne_eqb q.at r.at (λ e. absurd (omega (arith, lt, from, e))) in
    All-cons (IsThere (q ∷ qs)) r rows (ap (λ (b : Bool). if b then Some q else row_at r.at qs) other ∙ All-head (IsThere qs) r rows all)
    (later_there q (r.at + 1) qs rows (omega (arith, lt, from)) order.1 (All-tail (IsThere qs) r rows all))

pub all_there : (low : ℕ) (rows : List StoredRow) → AreInOrder low rows → All (IsThere rows) rows
all_there low [] order = All-nil (IsThere [])
all_there low (r ∷ rows) order =
    All-cons (IsThere (r ∷ rows)) r rows (ap (λ (b : Bool). if b then Some r else row_at r.at rows) (eq-eqb r.at r.at refl))
    (later_there r (r.at + 1) rows rows (omega arith) order.1 (all_there (r.at + 1) rows order.1))

passing_all : {X : Type 0} (P : X → Type 0) (p : X → Bool) (xs : List X) → All P xs → All P (filter p xs)
passing_all {X} P p [] all = All-nil P
passing_all {X} P p (x ∷ xs) all = by (p x) (passing_all P p xs (All-tail P x xs all))
  where
    by : (b : Bool) → All P (filter p xs) → All P (cond b (x ∷ filter p xs) (filter p xs))
    by true rest = All-cons P x (filter p xs) (All-head P x xs all) rest
    by false rest = rest

mapped_all : {X Y : Type 0} (f : X → Y) (P : Y → Type 0) (xs : List X) → All (λ (x : X). P (f x)) xs → All P (map f xs)
mapped_all f P [] all = All-nil P
mapped_all {X} f P (x ∷ xs) all = All-cons P (f x) (map f xs) (All-head (λ (x : X). P (f x)) x xs all) (mapped_all f P xs (All-tail (λ (x : X). P (f x)) x xs all))

map_all_is : {X Y : Type 0} (f g : X → Y) (xs : List X) → All (λ (x : X). f x ≡ g x) xs → map f xs ≡ map g xs
map_all_is f g [] all = refl
map_all_is {X} {Y} f g (x ∷ xs) all =
    ap (λ (y : Y). y ∷ map f xs) (All-head (λ (x : X). f x ≡ g x) x xs all) ∙ ap (λ (l : List Y). g x ∷ l) (map_all_is f g xs (All-tail (λ (x : X). f x ≡ g x) x xs all))

map_twice : {X Y Z : Type 0} (f : X → Y) (g : Y → Z) (xs : List X) → map g (map f xs) ≡ map (λ (x : X). g (f x)) xs
map_twice f g [] = refl
map_twice {X} {Y} {Z} f g (x ∷ xs) = ap (λ (l : List Z). g (f x) ∷ l) (map_twice f g xs)

map_itself : {X : Type 0} (xs : List X) → map (λ (x : X). x) xs ≡ xs
map_itself [] = refl
map_itself {X} (x ∷ xs) = ap (λ (l : List X). x ∷ l) (map_itself xs)

-- ---- the order

sorted_pairs : (xs : List KeyedRow) → IsSorted keyed_cmp xs → IsSorted pair_cmp (map (λ (x : KeyedRow). x.pair) xs)
sorted_pairs [] up = λ k d low lt. absurd (omega (arith, lt))
sorted_pairs (x ∷ xs) up = λ k d low lt.
    let f : KeyedRow → Pair = λ (y : KeyedRow). y.pair in
    let long : length (map f (x ∷ xs)) ≡ length (x ∷ xs) = length-map (x ∷ xs) f in
    let two : k + 1 < length (x ∷ xs) = omega (arith, long, lt) in
    let one : k < length (x ∷ xs) = omega (arith, two) in
    ap (λ (p : Pair). is_lt (pair_cmp p (slice_index_or (map f (x ∷ xs)) k d))) (get_or-map f (x ∷ xs) (k + 1) x d two)
    ∙ ap (λ (p : Pair). is_lt (pair_cmp (slice_index_or (x ∷ xs) (k + 1) x).pair p)) (get_or-map f (x ∷ xs) k x d one)
    ∙ up k x low two

-- ---- the answer

pub seen_matching : (d : Defs) (base : TableState) (known : List Values) (packed : List (List ℕ)) (end : ℕ) (snap : Snapshot) (range : Range) (of_base : List StoredRow) (kept_rows both inorder : List KeyedRow) (rows : List (ℕ × Values)) → IsSound d → IsState d base → packed ≡ packed_rows d known → AllFit d known → end ≡ base.space.end
    → AreMatching d (suc range.key) (bounds_of range) base.rows of_base
    → kept_rows ≡ filter (λ (x : KeyedRow). nat_lt x.pair.row snap.length) (all_keyed d (suc range.key) (map placed of_base))
    → both ≡ kept_rows ++ all_keyed d (suc range.key) (all_between d (suc range.key) (bounds_of range) (placed_before snap.length (placed_packed d end packed)))
    → IsPermutation both inorder → IsSorted keyed_cmp inorder → rows ≡ map placed_of inorder → AnswersSeen d base known snap range rows
seen_matching d base known packed end snap range of_base kept_rows both inorder rows sound state are fit ends_at matching kept_is both_are moved up rows_are =
    let k : ℕ = suc range.key in
    let b : Bounds = bounds_of range in
    let below : ℕ = snap.length in
    let lies : StoredRow → Bool = λ (r : StoredRow). lies_between b (key_of d k r.values) in
    let all : List StoredRow = (with_rows d base known).rows in
    let seen : List StoredRow = seen_rows d base known snap in
    let back : ℕ × Values → StoredRow = row_behind all in
    let wanted : List StoredRow = filter lies seen in
    let later : List (ℕ × Values) = all_between d k b (placed_before below (placed_packed d end packed)) in
    let old : List (ℕ × Values) = placed_before below (map placed of_base) in
    -- what was put together
    let kept_old : kept_rows ≡ all_keyed d k old = kept_is ∙ filter_map_is (λ (x : KeyedRow). nat_lt x.pair.row below) (keyed_of d k) (map placed of_base) in
    let together : both ≡ all_keyed d k (old ++ later) = both_are ∙ ap (λ (l : List KeyedRow). l ++ all_keyed d k later) kept_old ∙ sym (map-append (keyed_of d k) old later) in
    let plain : map placed_of both ≡ old ++ later = ap (map placed_of) together ∙ unkeyed d k (old ++ later) in
    -- what is wanted
    let base_is : all_between d k b (placed_before below (map placed base.rows)) ≡ placed_before below (map placed (filter lies base.rows)) =
    filters_commute (is_between d k b) (stands_before below) (map placed base.rows) ∙ ap (placed_before below) (filter_map_is (is_between d k b) placed base.rows) in
    let seen_is : map placed seen ≡ placed_before below (map placed base.rows) ++ placed_before below (placed_packed d end packed) =
    sym (all_seen d base known packed end snap (placed_before below (map placed base.rows)) (placed_before below (map placed base.rows) ++ placed_before below (placed_packed d end packed)) sound state are fit ends_at refl refl) in
    let wanted_is : map placed wanted ≡ placed_before below (map placed (filter lies base.rows)) ++ later =
    sym (filter_map_is (is_between d k b) placed seen) ∙ ap (all_between d k b) seen_is
    ∙ filter-append (is_between d k b) (placed_before below (map placed base.rows)) (placed_before below (placed_packed d end packed)) ∙ ap (λ (l : List (ℕ × Values)). l ++ later) base_is in
    let base_moved : IsPermutation (placed_before below (map placed (filter lies base.rows))) old = passing (stands_before below) (map placed (filter lies base.rows)) (map placed of_base) (IsPermutation-map placed (filter lies base.rows) of_base matching.same) in
    let one : IsPermutation (map placed wanted) (old ++ later) = subst (λ (l : List (ℕ × Values)). IsPermutation l (old ++ later)) (sym wanted_is) (IsPermutation-append_left later (placed_before below (map placed (filter lies base.rows))) old base_moved) in
    let two : IsPermutation (old ++ later) rows = subst (λ (l : List (ℕ × Values)). IsPermutation l rows) plain (subst (λ (l : List (ℕ × Values)). IsPermutation (map placed_of both) l) (sym rows_are) (IsPermutation-map placed_of both inorder moved)) in
    let whole : IsPermutation (map placed wanted) rows = IsPermutation-trans (map placed wanted) (old ++ later) rows one two in
    -- back to stored rows
    let there : All (IsThere all) all = all_there 0 all (kept d base known sound state fit).order in
    let wanted_there : All (IsThere all) wanted = passing_all (IsThere all) lies seen (passing_all (IsThere all) (λ (r : StoredRow). nat_lt r.at below) all there) in
    let goes_back : All (λ (r : StoredRow). back (placed r) ≡ r) wanted = λ i q lt. ap (λ (o : Option StoredRow). unwrap_or o no_row_there) (wanted_there i q lt) in
    let wanted_again : map back (map placed wanted) ≡ wanted = map_twice placed back wanted ∙ map_all_is (λ (r : StoredRow). back (placed r)) (λ (r : StoredRow). r) wanted goes_back ∙ map_itself wanted in
    let found : List StoredRow = map back rows in
    let placed_again : All (λ (p : ℕ × Values). placed (back p) ≡ p) rows =
    All-permutation (λ (p : ℕ × Values). placed (back p) ≡ p) (map placed wanted) rows whole (mapped_all placed (λ (p : ℕ × Values). placed (back p) ≡ p) wanted (λ i q lt. ap placed (goes_back i q lt))) in
    let found_is : map placed found ≡ rows = map_twice back placed rows ∙ map_all_is (λ (p : ℕ × Values). placed (back p)) (λ (p : ℕ × Values). p) rows placed_again ∙ map_itself rows in
    -- their keys
    let keyed : All (λ (x : KeyedRow). x ≡ keyed_of d k (placed_of x)) inorder =
    All-permutation (λ (x : KeyedRow). x ≡ keyed_of d k (placed_of x)) both inorder moved (subst (All (λ (x : KeyedRow). x ≡ keyed_of d k (placed_of x))) (sym together) (mapped_all (keyed_of d k) (λ (x : KeyedRow). x ≡ keyed_of d k (placed_of x)) (old ++ later) (λ i q lt. refl))) in
    let keys : map (placed_key d k) found ≡ map (λ (x : KeyedRow). x.pair) inorder =
    map_twice back (placed_key d k) rows
    ∙ map_all_is (λ (p : ℕ × Values). placed_key d k (back p)) (λ (p : ℕ × Values). pair_with (key_of d k p.1) p.0) rows (λ i q lt. ap (λ (p : ℕ × Values). pair_with (key_of d k p.1) p.0) (placed_again i q lt))
    ∙ ap (map (λ (p : ℕ × Values). pair_with (key_of d k p.1) p.0)) rows_are
    ∙ map_twice placed_of (λ (p : ℕ × Values). pair_with (key_of d k p.1) p.0) inorder
    ∙ sym (map_all_is (λ (x : KeyedRow). x.pair) (λ (x : KeyedRow). (keyed_of d k (placed_of x)).pair) inorder (λ i q lt. ap (λ (x : KeyedRow). x.pair) (keyed i q lt))) in
    record {
      found = found;
      rows = sym found_is;
      matching = record {
        same = subst (λ (l : List StoredRow). IsPermutation l found) wanted_again (IsPermutation-map back (map placed wanted) rows whole);
        order = subst (λ (l : List Pair). IsSorted pair_cmp l) (sym keys) (sorted_pairs inorder up);
      };
    }
