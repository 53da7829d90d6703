-- The rows of the pairs that are to come where a reading begins are those that match its bounds.
use Rattle.std.proofs.Common.{◌≡◌, ℕ, zero, suc, ◌+◌, ◌*◌, ◌<◌, ◌≤◌, Bool, true, false, cond, ◌&&◌, Option, Some, None, List, [], ◌∷◌, length, map, slice_index_or, refl, sym, ap, subst, ◌∙◌, arith}
use Rattle.std.specs.Prelude.{filter, unwrap_or, IsPermutation, IsSorted}
use Rattle.std.specs.List.{AllByRecursion}
use Rattle.std.specs.List.Sorted.{IsStrictlySortedBy}
use Rattle.std.specs.Ordering.{nat_cmp, ordering_then, ordering_reverse, is_lt, is_gt}
use Rattle.std.specs.declared.cmp.Ordering.{Ordering}
use Rattle.std.specs.declared.cmp.Ordering.TheVariants.{Less, Equal, Greater}
use Rattle.std.proofs.lemmas.Bool.Decides.{nat_tests}
use Rattle.std.proofs.lemmas.List.Sorted.{IsPermutation-refl, IsPermutation-trans, IsPermutation-cons, IsPermutation-middle, IsPermutation-map}
use Rattle.myi_defs.specs.declared.types.RowFormat.{RowFormat}
use Rattle.myi_defs.specs.declared.types.RowFormat.TheVariants.{Static, Dynamic}
use Rattle.myi_defs.specs.declared.types.Defs.{Defs}
use Rattle.myi_defs.specs.Sound.{IsSound}
use Rattle.myi_keys.specs.declared.values.KeySeg.{KeySeg}
use Rattle.myi_keys.specs.Order.{key_cmp}
use Rattle.myi_keylist.specs.declared.pair.Pair.{Pair}
use Rattle.myi_keylist.specs.PairOrder.{pair_cmp, put_pair}
use Rattle.myi_keylist.proofs.CallerLemmas.{pair_total}
use Rattle.myi_data.specs.Keys.{key_of}
use Rattle.myi_state.specs.State.{StoredRow, TableState, row_at}
use Rattle.myi_state.specs.Sound.{AreInOrder}
use Rattle.myi_state.proofs.CallerLemmas.{slot-some}
use Rattle.myi_pair.specs.KeyList.{pointer, key_list}
use Rattle.myi_tablestate.specs.Keyed.{IsTable}
use Rattle.myi_tablestate.specs.Listed.{pair_of_row, listed, position, position_by}
use Rattle.myi_tablestate.specs.Matching.{Bounds, reaches, stays_below, lies_between, placed_key, AreMatching}
use Rattle.myi_ranges.specs.declared.ranges.RangeRows.{RangeRows}
use Rattle.myi_ranges.specs.Ranges.{is_left, begin_at, comes, coming}
use Rattle.myi_ranges.proofs.LeftLemmas.{all_of}
use Rattle.myi_ranges.proofs.RowLemmas.{all_found, itself, later}

-- ---- the row of a pair

-- each row is the one at its position
abbrev IsThere : List StoredRow → StoredRow → Type 0
IsThere rows r = row_at r.at rows ≡ Some r

abbrev IsFrom : ℕ → List StoredRow → StoredRow → Type 0
IsFrom low rows r = IsThere rows r × (low ≤ r.at)

all_from : (low : ℕ) (rows : List StoredRow) → AreInOrder low rows → AllByRecursion (IsFrom low rows) rows
all_from low [] order = tt
all_from low (q ∷ rows) order = (
  (ap (λ (b : Bool). cond b (Some q) (row_at q.at rows)) (itself q.at), order.0),
  all_of (IsFrom (q.at + 1) rows) (IsFrom low (q ∷ rows)) rows (λ r h. (ap (λ (b : Bool). cond b (Some q) (row_at r.at rows)) (later q.at r.at h.1) ∙ h.0, omega (arith, order.0, h.1))) (all_from (q.at + 1) rows order.1),
)

-- its position is found again from its pointer
abbrev IsBack : Defs → StoredRow → Type 0
IsBack d r = position d (pointer d r.at) ≡ r.at

-- the row at the position of a pair
row_for : Defs → List StoredRow → Pair → StoredRow
row_for d rows p = unwrap_or (row_at (position d p.row) rows) (record { at = 0; values = []; blocks = [] })

again : (d : Defs) (k : ℕ) (rows : List StoredRow) (r : StoredRow) → IsThere rows r → IsBack d r → row_for d rows (pair_of_row d k r) ≡ r
unfolding row_for
again d k rows r there back = ap (λ (o : Option StoredRow). unwrap_or o (record { at = 0; values = []; blocks = [] })) (ap (λ (p : ℕ). row_at p rows) back ∙ there)

-- ---- the same rows

put_kept : (test : Pair → Bool) (p : Pair) (qs : List Pair) → IsPermutation (cond (test p) (p ∷ filter test qs) (filter test qs)) (filter test (put_pair p qs))
put_kept test p [] = IsPermutation-refl (filter test (p ∷ []))
put_kept test p (q ∷ qs) = by (is_gt (pair_cmp p q)) (put_kept test p qs)
  where
    swap : (b c : Bool) → IsPermutation (cond b (p ∷ filter test qs) (filter test qs)) (filter test (put_pair p qs))
        → IsPermutation (cond b (p ∷ cond c (q ∷ filter test qs) (filter test qs)) (cond c (q ∷ filter test qs) (filter test qs))) (cond c (q ∷ filter test (put_pair p qs)) (filter test (put_pair p qs)))
    swap true true more = IsPermutation-trans (p ∷ q ∷ filter test qs) (q ∷ p ∷ filter test qs) (q ∷ filter test (put_pair p qs)) (IsPermutation-middle (p ∷ []) q (filter test qs)) (IsPermutation-cons q (p ∷ filter test qs) (filter test (put_pair p qs)) more)
    swap false true more = IsPermutation-cons q (filter test qs) (filter test (put_pair p qs)) more
    swap true false more = more
    swap false false more = more

    by : (b : Bool) → IsPermutation (cond (test p) (p ∷ filter test qs) (filter test qs)) (filter test (put_pair p qs))
        → IsPermutation (cond (test p) (p ∷ filter test (q ∷ qs)) (filter test (q ∷ qs))) (filter test (cond b (q ∷ put_pair p qs) (p ∷ q ∷ qs)))
    by true more = swap (test p) (test q) more
    by false more = IsPermutation-refl (filter test (p ∷ q ∷ qs))

-- rows that a test of their pairs keeps are those of the pairs that it keeps
kept_rows : (d : Defs) (k : ℕ) (all : List StoredRow) (test : Pair → Bool) (rows : List StoredRow) → AllByRecursion (IsThere all) rows → AllByRecursion (IsBack d) rows
    → IsPermutation (filter (λ r. test (pair_of_row d k r)) rows) (map (row_for d all) (filter test (listed d k rows)))
unfolding key_list
kept_rows d k all test [] there back = IsPermutation-refl []
kept_rows d k all test (r ∷ rows) there back =
    let p : Pair = pair_of_row d k r in
    let g : Pair → StoredRow = row_for d all in
    let kept : List StoredRow = filter (λ q. test (pair_of_row d k q)) rows in
    let pairs : List Pair = filter test (listed d k rows) in
    IsPermutation-trans (cond (test p) (r ∷ kept) kept) (map g (cond (test p) (p ∷ pairs) pairs)) (map g (filter test (put_pair p (listed d k rows))))
    (by (test p) kept pairs (kept_rows d k all test rows there.1 back.1)) (IsPermutation-map g (cond (test p) (p ∷ pairs) pairs) (filter test (put_pair p (listed d k rows))) (put_kept test p (listed d k rows)))
  where
    by : (b : Bool) (kept : List StoredRow) (pairs : List Pair) → IsPermutation kept (map (row_for d all) pairs) → IsPermutation (cond b (r ∷ kept) kept) (map (row_for d all) (cond b (pair_of_row d k r ∷ pairs) pairs))
    by true kept pairs same = subst (λ (q : StoredRow). IsPermutation (r ∷ kept) (q ∷ map (row_for d all) pairs)) (sym (again d k all r there.0 back.0)) (IsPermutation-cons r kept (map (row_for d all) pairs) same)
    by false kept pairs same = same

back_again : (d : Defs) (k : ℕ) (all found : List StoredRow) → AllByRecursion (IsThere all) found → AllByRecursion (IsBack d) found → map (row_for d all) (map (pair_of_row d k) found) ≡ found
back_again d k all [] there back = refl
back_again d k all (r ∷ found) there back = ap (λ (q : StoredRow). q ∷ map (row_for d all) (map (pair_of_row d k) found)) (again d k all r there.0 back.0) ∙ ap (λ (qs : List StoredRow). r ∷ qs) (back_again d k all found there.1 back.1)

-- ---- their order

times_less : (a b n : ℕ) → a < b → 0 < n → a * n < b * n
times_less zero (suc b) n lt some = omega (arith, some)
times_less zero zero n lt some = absurd (omega (arith, lt))
times_less (suc a) zero n lt some = absurd (omega (arith, lt))
times_less (suc a) (suc b) n lt some = let more = times_less a b n (omega (arith, lt)) some in omega (arith, more)

less_by : (f : RowFormat) (size p q a b : ℕ) → (f ≡ Static → 0 < size) → position_by f size p ≡ a → position_by f size q ≡ b → p < q → a < b
less_by Static size p q a b some e g lt = let more = times_less p q size lt (some refl) in omega (arith, more, e, g)
less_by Dynamic size p q a b some e g lt = omega (arith, lt, e, g)

less_places : (d : Defs) (k : ℕ) (r q : StoredRow) → IsSound d → IsBack d r → IsBack d q → pair_cmp (pair_of_row d k r) (pair_of_row d k q) ≡ Less → pair_cmp (placed_key d k r) (placed_key d k q) ≡ Less
less_places d k r q sound one two less = by (key_cmp (key_of d k r.values) (key_of d k q.values)) less
  where
    by : (c : Ordering) → ordering_then c (nat_cmp (pointer d r.at) (pointer d q.at)) ≡ Less → ordering_then c (nat_cmp r.at q.at) ≡ Less
    by Less e = refl
    by Equal e =
        let lt : pointer d r.at < pointer d q.at = grind (arith, nat_tests, e) in
        let more : r.at < q.at = less_by d.format d.slot_length (pointer d r.at) (pointer d q.at) r.at q.at (slot-some d sound) one two lt in
        grind (arith, nat_tests, more)
    by Greater e = absurd cc

strict_places : (d : Defs) (k : ℕ) (found : List StoredRow) → IsSound d → AllByRecursion (IsBack d) found → IsStrictlySortedBy pair_cmp (map (pair_of_row d k) found) → IsStrictlySortedBy pair_cmp (map (placed_key d k) found)
unfolding IsStrictlySortedBy
strict_places d k [] sound back up = tt
strict_places d k (r ∷ found) sound back up = (each found back.1 up.0, strict_places d k found sound back.1 up.1)
  where
    each : (qs : List StoredRow) → AllByRecursion (IsBack d) qs → AllByRecursion (λ y. pair_cmp (pair_of_row d k r) y ≡ Less) (map (pair_of_row d k) qs) → AllByRecursion (λ y. pair_cmp (placed_key d k r) y ≡ Less) (map (placed_key d k) qs)
    each [] all less = tt
    each (q ∷ qs) all less = (less_places d k r q sound back.0 all.0 less.0, each qs all.1 less.1)

all_kept : (test : Pair → Bool) (P : Pair → Type 0) (xs : List Pair) → AllByRecursion P xs → AllByRecursion P (filter test xs)
all_kept test P [] all = tt
all_kept test P (x ∷ xs) all = one (test x) (all_kept test P xs all.1)
  where
    one : (b : Bool) → AllByRecursion P (filter test xs) → AllByRecursion P (cond b (x ∷ filter test xs) (filter test xs))
    one true more = (all.0, more)
    one false more = more

strict_kept : (test : Pair → Bool) (pairs : List Pair) → IsStrictlySortedBy pair_cmp pairs → IsStrictlySortedBy pair_cmp (filter test pairs)
unfolding IsStrictlySortedBy
strict_kept test [] up = tt
strict_kept test (p ∷ pairs) up = by (test p) (strict_kept test pairs up.1)
  where
    by : (b : Bool) → IsStrictlySortedBy pair_cmp (filter test pairs) → IsStrictlySortedBy pair_cmp (cond b (p ∷ filter test pairs) (filter test pairs))
    by true more = (all_kept test (λ y. pair_cmp p y ≡ Less) pairs up.0, more)
    by false more = more

not_less : (p q : Pair) → pair_cmp p q ≡ Less → is_lt (pair_cmp q p) ≡ false
not_less p q less = ap is_lt (pair_total.antisymm q p ∙ ap ordering_reverse less)

in_order : (xs : List Pair) → IsStrictlySortedBy pair_cmp xs → IsSorted pair_cmp xs
unfolding IsStrictlySortedBy
in_order [] s = λ k d low lt. absurd (omega arith)
in_order (p ∷ []) s = λ k d low lt. absurd (omega arith)
in_order (p ∷ q ∷ xs) s = λ k d low lt. by (in_order (q ∷ xs) s.1) k d lt
  where
    by : IsSorted pair_cmp (q ∷ xs) → (k : ℕ) (d : Pair) → k + 1 < length (p ∷ q ∷ xs) → is_lt (pair_cmp (slice_index_or (p ∷ q ∷ xs) (k + 1) d) (slice_index_or (p ∷ q ∷ xs) k d)) ≡ false
    by rest zero d lt = not_less p q s.0.0
    by rest (suc k) d lt =
        let next : suc k + 1 ≡ suc (k + 1) = omega arith in
        subst (λ (n : ℕ). is_lt (pair_cmp (slice_index_or (p ∷ q ∷ xs) n d) (slice_index_or (p ∷ q ∷ xs) (suc k) d)) ≡ false) (sym next) (rest k d (omega arith) (omega arith))

-- ---- both

begins : (from : Option (List KeySeg)) (p : Pair) → is_left (begin_at from) p ≡ reaches from p.key
begins None p = refl
begins (Some low) p = refl

all_alike : (d : Defs) (k : ℕ) (b : Bounds) (r : RangeRows) (rows : List StoredRow) → ((p : Pair) → comes r p ≡ lies_between b p.key) → filter (λ (q : StoredRow). comes r (pair_of_row d k q)) rows ≡ filter (λ (q : StoredRow). lies_between b (key_of d k q.values)) rows
all_alike d k b r [] same = refl
all_alike d k b r (q ∷ rows) same =
    ap (λ (t : Bool). cond t (q ∷ filter (λ (q : StoredRow). comes r (pair_of_row d k q)) rows) (filter (λ (q : StoredRow). comes r (pair_of_row d k q)) rows)) (same (pair_of_row d k q))
    ∙ ap (λ (qs : List StoredRow). cond (lies_between b (key_of d k q.values)) (q ∷ qs) qs) (all_alike d k b r rows same)

back_found : (d : Defs) (rows found : List StoredRow) → AllByRecursion (IsBack d) rows → AllByRecursion (IsThere rows) found → AllByRecursion (IsBack d) found
back_found d rows [] back there = tt
back_found d rows (r ∷ found) back there = (all_found (IsBack d) r.at rows r back there.0, back_found d rows found back there.1)

pub matching : (d : Defs) (s : TableState) (key : ℕ) (b : Bounds) (found : List StoredRow) → IsSound d → IsTable d s → AllByRecursion (IsBack d) s.rows → IsStrictlySortedBy pair_cmp (listed d (suc key) s.rows) → AllByRecursion (IsThere s.rows) found
    → map (pair_of_row d (suc key)) found ≡ coming d (record { key = key; to = b.to; reached = begin_at b.from }) s.rows → AreMatching d (suc key) b s.rows found
matching d s key b found sound table back strict there is =
    let k : ℕ = suc key in
    let r : RangeRows = record { key = key; to = b.to; reached = begin_at b.from } in
    let own = back_found d s.rows found back there in
    let each : AllByRecursion (IsThere s.rows) s.rows = all_of (IsFrom 0 s.rows) (IsThere s.rows) s.rows (λ q h. h.0) (all_from 0 s.rows table.state.order) in
    let rows : map (row_for d s.rows) (coming d r s.rows) ≡ found = ap (λ (ps : List Pair). map (row_for d s.rows) ps) (sym is) ∙ back_again d k s.rows found there own in
    let test : (p : Pair) → comes r p ≡ lies_between b p.key = λ p. ap (λ (t : Bool). t && stays_below b.to p.key) (begins b.from p) in
    record {
      same = subst (λ (qs : List StoredRow). IsPermutation qs found) (all_alike d k b r s.rows test) (subst (λ (qs : List StoredRow). IsPermutation (filter (λ (q : StoredRow). comes r (pair_of_row d k q)) s.rows) qs) rows (kept_rows d k s.rows (comes r) s.rows each back));
      order = in_order (map (placed_key d k) found) (strict_places d k found sound own (subst (λ (ps : List Pair). IsStrictlySortedBy pair_cmp ps) (sym is) (strict_kept (comes r) (listed d k s.rows) strict)));
    }
