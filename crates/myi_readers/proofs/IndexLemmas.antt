-- The rows that are known, by their keys in an index.
use Rattle.std.proofs.Common.{◌≡◌, ℕ, zero, suc, ◌+◌, ◌-◌, ◌^◌, ◌<◌, ◌≤◌, Bool, true, false, not, nat_lt, List, [], ◌∷◌, ◌++◌, length, take, drop, map, min, All, Option, None, Some, unwrap_or, cond, refl, sym, ap, subst, ◌∙◌, arith, append_assoc}
use Rattle.std.specs.Prelude.{slice_index_or, slice_set, filter, sum_by, ◌&&◌, IsPermutation}
use Rattle.std.specs.Ordering.{is_le, is_lt, is_gt, nat_cmp, ordering_then, ordering_reverse, match_ordering}
use Rattle.std.specs.declared.cmp.Ordering.{Ordering}
use Rattle.std.specs.declared.cmp.Ordering.TheVariants.{Less, Equal, Greater}
use Rattle.std.specs.Range.Bound.{IsForward}
use Rattle.std.specs.BTreeMap.{insert_entry}
use Rattle.std.specs.BTreeMap.Range.{IsLeBy, IsLtBy, range_contains, entries_between}
use Rattle.std.proofs.lemmas.Cmp.{ranked, upto}
use Rattle.std.proofs.lemmas.Bool.{lt-ltb, le-ltb}
use Rattle.std.proofs.lemmas.List.{append-nil, map-append, length-take, take_all}
use Rattle.std.proofs.lemmas.List.Elements.{All-nil, All-cons, All-head, All-tail, All-weaker, filter-append}
use Rattle.std.proofs.lemmas.List.Sorted.{IsPermutation-refl, IsPermutation-trans, IsPermutation-cons, IsPermutation-middle, IsPermutation-to_front, IsPermutation-map, IsPermutation-append_right, All-permutation}
use Rattle.std.proofs.lemmas.List.Sums.{sum_by-cons, sum_by_push}
use Rattle.myi_defs.specs.declared.types.Defs.{Defs}
use Rattle.myi_pack.specs.Packed.{Values}
use Rattle.myi_pack.specs.Unpacking.{row_of}
use Rattle.myi_keys.specs.declared.values.KeySeg.{KeySeg}
use Rattle.myi_keys.specs.Order.{key_cmp}
use Rattle.myi_keys.specs.OrderLaws.{key_total}
use Rattle.myi_keylist.specs.declared.pair.Pair.{Pair}
use Rattle.myi_keylist.specs.PairOrder.{pair_with, pair_cmp}
use Rattle.myi_data.specs.Keys.{key_of}
use Rattle.myi_tablestate.specs.Matching.{Bounds, lies_between}
use Rattle.myi_snapshots.specs.Known.{size_of, end_with}
use Rattle.myi_snapshots.specs.Knowing.{told_place}
use Rattle.myi_readers.specs.declared.keyed_row.KeyedRow.{KeyedRow}
use Rattle.myi_readers.specs.declared.known_keys.KnownKeys.{KnownKeys}
use Rattle.myi_readers.specs.KeyedRows.{keyed_of, all_keyed, all_between}
use Rattle.myi_readers.specs.Placed.{stands_before, placed_before, placed_packed}
use Rattle.myi_readers.specs.Indexes.{numbered_keys, IsIndexOf, AreIndexes, are_crossed, from_key, to_key, entry_row, entry_before, entry_rows}
use Rattle.myi_readers.proofs.SeenLemmas.{take_more, told_before, told_sum, keyed_between}
use Rattle.myi_readers.proofs.MatchLemmas.{passing}

abbrev Entry : Type 0
Entry = Pair × ℕ

-- ---- an entry more

-- pairs that are equal have one number
same_number : (p q : Pair) → pair_cmp p q ≡ Equal → p.row ≡ q.row
same_number p q = by (key_cmp p.key q.key)
  where
    by : (o : Ordering) → ordering_then o (nat_cmp p.row q.row) ≡ Equal → p.row ≡ q.row
    by Less is = absurd (cc is)
    by Equal is = ranked p.row q.row Equal (sym is)
    by Greater is = absurd (cc is)

-- an entry whose number is above all others goes to its place
put_in : (es : List Entry) (p : Pair) (v : ℕ) → All (λ (e : Entry). e.0.row < p.row) es → IsPermutation ((p, v) ∷ es) (insert_entry pair_cmp es p v)
put_in [] p v low = IsPermutation-refl ((p, v) ∷ [])
put_in (e ∷ es) p v low = by (pair_cmp p e.0) refl (put_in es p v (All-tail (λ (e : Entry). e.0.row < p.row) e es low))
  where
    by : (o : Ordering) → pair_cmp p e.0 ≡ o → IsPermutation ((p, v) ∷ es) (insert_entry pair_cmp es p v) → IsPermutation ((p, v) ∷ e ∷ es) (match_ordering o ((p, v) ∷ e ∷ es) ((e.0, v) ∷ es) (e ∷ insert_entry pair_cmp es p v))
    by Less is rest = IsPermutation-refl ((p, v) ∷ e ∷ es)
    by Equal is rest = let lt = All-head (λ (e : Entry). e.0.row < p.row) e es low in let same = same_number p e.0 is in absurd (omega (arith, lt, same))
    by Greater is rest = IsPermutation-trans ((p, v) ∷ e ∷ es) (e ∷ (p, v) ∷ es) (e ∷ insert_entry pair_cmp es p v) (IsPermutation-middle ((p, v) ∷ []) e es) (IsPermutation-cons e ((p, v) ∷ es) (insert_entry pair_cmp es p v) rest)

numbers_below : (d : Defs) (k n at : ℕ) (packed : List (List ℕ)) → All (λ (e : Entry). e.0.row < n + length packed) (numbered_keys d k n at packed)
numbers_below d k n at [] = All-nil (λ (e : Entry). e.0.row < n + 0)
numbers_below d k n at (b ∷ packed) =
    All-cons (λ (e : Entry). e.0.row < n + length (b ∷ packed)) (pair_with (key_of d k (unwrap_or (row_of d b) [])) n, told_place at) (numbered_keys d k (suc n) (at + size_of d b) packed) (omega arith)
    (All-weaker (λ (e : Entry). e.0.row < suc n + length packed) (λ (e : Entry). e.0.row < n + length (b ∷ packed)) (λ e lt. omega (arith, lt)) (numbered_keys d k (suc n) (at + size_of d b) packed) (numbers_below d k (suc n) (at + size_of d b) packed))

-- the numbers of an index are below the number of its rows
pub entries_below : (d : Defs) (k begin : ℕ) (packed : List (List ℕ)) (x : KnownKeys) → IsIndexOf d k begin packed x → All (λ (e : Entry). e.0.row < x.count) x.places
entries_below d k begin packed x i =
    let few = i.few in
    let long = length-take x.count packed in
    All-permutation (λ (e : Entry). e.0.row < x.count) (numbered_keys d k 0 begin (take x.count packed)) x.places i.rows
    (All-weaker (λ (e : Entry). e.0.row < 0 + length (take x.count packed)) (λ (e : Entry). e.0.row < x.count) (λ e lt. omega (arith, lt, long, few)) (numbered_keys d k 0 begin (take x.count packed)) (numbers_below d k 0 begin (take x.count packed)))

keys_more : (d : Defs) (k n at : ℕ) (xs : List (List ℕ)) (b : List ℕ) → numbered_keys d k n at (xs ++ b ∷ []) ≡ numbered_keys d k n at xs ++ (pair_with (key_of d k (unwrap_or (row_of d b) [])) (n + length xs), told_place (end_with d at xs)) ∷ []
keys_more d k n at [] b =
    let key = key_of d k (unwrap_or (row_of d b) []) in
    let e : n ≡ n + 0 = omega arith in
    let f : at ≡ at + 0 = omega arith in
    ap (λ (m : ℕ). (pair_with key m, told_place at) ∷ []) e ∙ ap (λ (m : ℕ). (pair_with key (n + 0), told_place m) ∷ []) f
keys_more d k n at (x ∷ xs) b =
    let key = key_of d k (unwrap_or (row_of d b) []) in
    let next = at + size_of d x in
    let sum : sum_by (size_of d) (x ∷ xs) ≡ size_of d x + sum_by (size_of d) xs = sum_by-cons (size_of d) x xs in
    let e : suc n + length xs ≡ n + length (x ∷ xs) = omega arith in
    let f : next + sum_by (size_of d) xs ≡ at + sum_by (size_of d) (x ∷ xs) = omega (arith, sum) in
    ap (λ (l : List Entry). (pair_with (key_of d k (unwrap_or (row_of d x) [])) n, told_place at) ∷ l)
    (keys_more d k (suc n) next xs b ∙ ap (λ (m : ℕ). numbered_keys d k (suc n) next xs ++ (pair_with key m, told_place (end_with d next xs)) ∷ []) e
    ∙ ap (λ (m : ℕ). numbered_keys d k (suc n) next xs ++ (pair_with key (n + length (x ∷ xs)), told_place m) ∷ []) f)

-- an index that took in the next row
pub next_index : (d : Defs) (k begin : ℕ) (packed : List (List ℕ)) (x next : KnownKeys) (key : List KeySeg) (size : ℕ) → IsIndexOf d k begin packed x → x.count < length packed → key ≡ key_of d k (unwrap_or (row_of d (slice_index_or packed x.count [])) []) → size ≡ size_of d (slice_index_or packed x.count [])
    → next.places ≡ insert_entry pair_cmp x.places (pair_with key x.count) x.end → next.end ≡ told_place (x.end + size) → next.count ≡ x.count + 1 → IsIndexOf d k begin packed next
next_index d k begin packed x next key size i lt key_is sized put told counted =
    let b : List ℕ = slice_index_or packed x.count [] in
    let front : List (List ℕ) = take x.count packed in
    let n : ℕ = end_with d begin front in
    let few = i.few in
    let e : suc x.count ≡ x.count + 1 = omega arith in
    let longer : front ++ b ∷ [] ≡ take next.count packed = sym (take_more packed x.count lt) ∙ ap (λ (m : ℕ). take m packed) (e ∙ sym counted) in
    let sum : sum_by (size_of d) (front ++ b ∷ []) ≡ sum_by (size_of d) front + size_of d b = sum_by_push (size_of d) front b in
    let ends_at : n + size_of d b ≡ end_with d begin (front ++ b ∷ []) = omega (arith, sum) in
    let long = length-take x.count packed in
    let number : 0 + length front ≡ x.count = omega (arith, long, few) in
    let old : List Entry = numbered_keys d k 0 begin front in
    let new : Entry = (pair_with key x.count, x.end) in
    let more : numbered_keys d k 0 begin (take next.count packed) ≡ old ++ new ∷ [] =
    ap (numbered_keys d k 0 begin) (sym longer) ∙ keys_more d k 0 begin front b
    ∙ ap (λ (m : ℕ). old ++ (pair_with (key_of d k (unwrap_or (row_of d b) [])) m, told_place n) ∷ []) number
    ∙ ap (λ (s : List KeySeg). old ++ (pair_with s x.count, told_place n) ∷ []) (sym key_is)
    ∙ ap (λ (m : ℕ). old ++ (pair_with key x.count, m) ∷ []) (sym i.end) in
    record {
      few = omega (arith, lt, counted);
      end = told ∙ ap (λ (m : ℕ). told_place (m + size)) i.end ∙ told_sum n size ∙ ap (λ (m : ℕ). told_place (n + m)) sized ∙ ap told_place ends_at ∙ ap (λ (l : List (List ℕ)). told_place (end_with d begin l)) longer;
      rows = subst (λ (l : List Entry). IsPermutation l next.places) (sym more) (subst (λ (l : List Entry). IsPermutation (old ++ new ∷ []) l) (sym put)
          (IsPermutation-trans (old ++ new ∷ []) (new ∷ old) (insert_entry pair_cmp x.places (pair_with key x.count) x.end) (IsPermutation-to_front old new)
          (IsPermutation-trans (new ∷ old) (new ∷ x.places) (insert_entry pair_cmp x.places (pair_with key x.count) x.end) (IsPermutation-cons new old x.places i.rows) (put_in x.places (pair_with key x.count) x.end (entries_below d k begin packed x i)))));
    }

-- the same index
pub same_index : (d : Defs) (k begin : ℕ) (packed : List (List ℕ)) (x next : KnownKeys) → IsIndexOf d k begin packed x → next.count ≡ x.count → next.end ≡ x.end → next.places ≡ x.places → IsIndexOf d k begin packed next
same_index d k begin packed x next i counted ends entries = record {
  few = let few = i.few in omega (arith, few, counted);
  end = ends ∙ i.end ∙ ap (λ (m : ℕ). told_place (end_with d begin (take m packed))) (sym counted);
  rows = subst (λ (l : List Entry). IsPermutation (numbered_keys d k 0 begin (take next.count packed)) l) (sym entries) (subst (λ (m : ℕ). IsPermutation (numbered_keys d k 0 begin (take m packed)) x.places) (sym counted) i.rows);
}

-- an index of no rows
pub no_index : (d : Defs) (k begin : ℕ) (packed : List (List ℕ)) (x : KnownKeys) → x.count ≡ 0 → x.end ≡ begin → begin < 2 ^ 64 → x.places ≡ [] → IsIndexOf d k begin packed x
no_index d k begin packed x none ends small empty =
    let nothing : take x.count packed ≡ [] = ap (λ (m : ℕ). take m packed) none in
    let e : x.end ≡ told_place (begin + 0) = omega (arith, ends, small) in
    record {
      few = omega (arith, none);
      end = e ∙ ap (λ (l : List (List ℕ)). told_place (end_with d begin l)) (sym nothing);
      rows = subst (λ (l : List (List ℕ)). IsPermutation (numbered_keys d k 0 begin l) x.places) (sym nothing) (subst (λ (l : List Entry). IsPermutation [] l) (sym empty) (IsPermutation-refl {X = Entry} []));
    }

-- ---- of a reader

-- where more rows are known the index has the first of these
pub index_on : (d : Defs) (k begin : ℕ) (old new : List (List ℕ)) (x : KnownKeys) → old ≡ take (length old) new → IsIndexOf d k begin old x → IsIndexOf d k begin new x
index_on d k begin old new x first i =
    let few = i.few in
    let long : length old ≡ min (length old) (length new) = ap (λ (l : List (List ℕ)). length l) first ∙ length-take (length old) new in
    let same : take x.count old ≡ take x.count new = ap (take x.count) first ∙ take_less x.count (length old) new few in
    record {
      few = omega (arith, few, long);
      end = i.end ∙ ap (λ (l : List (List ℕ)). told_place (end_with d begin l)) same;
      rows = subst (λ (l : List (List ℕ)). IsPermutation (numbered_keys d k 0 begin l) x.places) same i.rows;
    }
  where
    take_less : (n m : ℕ) (xs : List (List ℕ)) → n ≤ m → take n (take m xs) ≡ take n xs
    take_less zero m xs le = refl
    take_less (suc n) zero xs le = absurd (omega (arith, le))
    take_less (suc n) (suc m) [] le = refl
    take_less (suc n) (suc m) (x ∷ xs) le = ap (λ (l : List (List ℕ)). x ∷ l) (take_less n m xs (omega (arith, le)))

pub indexes_on : (d : Defs) (begin : ℕ) (old new : List (List ℕ)) (all : List KnownKeys) → old ≡ take (length old) new → AreIndexes d begin old all → AreIndexes d begin new all
indexes_on d begin old new all first are = record {
  keys = are.keys;
  each = λ i other lt. index_on d (suc i) begin old new (slice_index_or all i other) first (are.each i other lt);
}

-- one of the indexes took in more rows
pub indexes_set : (d : Defs) (begin : ℕ) (packed : List (List ℕ)) (all : List KnownKeys) (k : ℕ) (x : KnownKeys) → k < length all → IsIndexOf d (suc k) begin packed x → AreIndexes d begin packed all → AreIndexes d begin packed (slice_set all k x)
indexes_set d begin packed all k x lt is are = record {
  keys = set_long all k x ∙ are.keys;
  each = λ i other low. subst (λ (n : ℕ). IsIndexOf d (suc n) begin packed (slice_index_or (slice_set all k x) i other)) (from_none i)
      (by all k 0 i other lt (subst (λ (n : ℕ). i < n) (set_long all k x) low) (subst (λ (n : ℕ). IsIndexOf d (suc n) begin packed x) (sym (from_none k)) is) (λ j q there. subst (λ (n : ℕ). IsIndexOf d (suc n) begin packed (slice_index_or all j q)) (sym (from_none j)) (are.each j q there)));
}
  where
    from_none : (n : ℕ) → 0 + n ≡ n
    from_none n = omega arith

    set_long : (xs : List KnownKeys) (j : ℕ) (y : KnownKeys) → length (slice_set xs j y) ≡ length xs
    set_long [] j y = refl
    set_long (z ∷ xs) zero y = refl
    set_long (z ∷ xs) (suc j) y = ap suc (set_long xs j y)

    by : (xs : List KnownKeys) (j from i : ℕ) (other : KnownKeys) → j < length xs → i < length xs → IsIndexOf d (suc (from + j)) begin packed x → ((m : ℕ) (q : KnownKeys) → m < length xs → IsIndexOf d (suc (from + m)) begin packed (slice_index_or xs m q)) → IsIndexOf d (suc (from + i)) begin packed (slice_index_or (slice_set xs j x) i other)
    by [] j from i other lt low one each = absurd (omega (arith, lt))
    by (z ∷ xs) zero from zero other lt low one each = one
    by (z ∷ xs) zero from (suc i) other lt low one each = each (suc i) other low
    by (z ∷ xs) (suc j) from zero other lt low one each = each zero other low
    by (z ∷ xs) (suc j) from (suc i) other lt low one each =
        let to : (m : ℕ) → suc (from + suc m) ≡ suc (suc from + m) = λ m. omega arith in
        subst (λ (n : ℕ). IsIndexOf d n begin packed (slice_index_or (slice_set xs j x) i other)) (sym (to i))
        (by xs j (suc from) i other (omega (arith, lt)) (omega (arith, low)) (subst (λ (n : ℕ). IsIndexOf d n begin packed x) (to j) one) (λ m q there. subst (λ (n : ℕ). IsIndexOf d n begin packed (slice_index_or xs m q)) (to m) (each (suc m) q (omega (arith, there)))))

-- the one that was put there
pub set_there : (all : List KnownKeys) (k : ℕ) (x other : KnownKeys) → k < length all → slice_index_or (slice_set all k x) k other ≡ x
set_there [] k x other lt = absurd (omega (arith, lt))
set_there (y ∷ all) zero x other lt = refl
set_there (y ∷ all) (suc k) x other lt = set_there all k x other (omega (arith, lt))

-- ---- bounds

-- the pairs of keys that lie between bounds
pub between_is : (from to : Option (List KeySeg)) (key : List KeySeg) (n : ℕ) → n < 2 ^ 64 → range_contains pair_cmp (from_key from) (to_key to) (pair_with key n) ≡ lies_between (record { from = from; to = to }) key
between_is from to key n small = by from to
  where
    low_is : (o : Ordering) → is_le (ordering_then o (nat_cmp 0 n)) ≡ is_le o
    low_is Less = refl
    low_is Equal = least (nat_cmp 0 n) refl
      where
        least : (o : Ordering) → o ≡ nat_cmp 0 n → is_le o ≡ true
        least Less is = refl
        least Equal is = refl
        least Greater is = let lt = ranked 0 n Greater is in absurd (omega (arith, lt))
    low_is Greater = refl

    most : (o : Ordering) → o ≡ nat_cmp (2 ^ 64 - 1) n → not (is_lt o) ≡ true
    most Less is = let lt = ranked (2 ^ 64 - 1) n Less is in absurd (omega (arith, lt, small))
    most Equal is = refl
    most Greater is = refl

    high_is : (o p : Ordering) → o ≡ ordering_reverse p → not (is_lt (ordering_then o (nat_cmp (2 ^ 64 - 1) n))) ≡ is_le p
    high_is o Less is = ap (λ (q : Ordering). not (is_lt (ordering_then q (nat_cmp (2 ^ 64 - 1) n)))) is
    high_is o Equal is = ap (λ (q : Ordering). not (is_lt (ordering_then q (nat_cmp (2 ^ 64 - 1) n)))) is ∙ most (nat_cmp (2 ^ 64 - 1) n) refl
    high_is o Greater is = ap (λ (q : Ordering). not (is_lt (ordering_then q (nat_cmp (2 ^ 64 - 1) n)))) is

    by : (from to : Option (List KeySeg)) → range_contains pair_cmp (from_key from) (to_key to) (pair_with key n) ≡ lies_between (record { from = from; to = to }) key
    by None None = refl
    by None (Some high) = high_is (key_cmp high key) (key_cmp key high) (key_total.antisymm high key)
    by (Some low) None = ap (λ (b : Bool). b && true) (low_is (key_cmp low key))
    by (Some low) (Some high) = ap (λ (b : Bool). b && not (is_lt (pair_cmp (pair_with high (2 ^ 64 - 1)) (pair_with key n)))) (low_is (key_cmp low key))
        ∙ ap (λ (b : Bool). is_le (key_cmp low key) && b) (high_is (key_cmp high key) (key_cmp key high) (key_total.antisymm high key))

pub forward : (from to : Option (List KeySeg)) → are_crossed from to ≡ false → IsForward (IsLeBy pair_cmp) (IsLtBy pair_cmp) (from_key from) (to_key to)
forward None to not_crossed = tt
forward (Some low) None not_crossed = tt
forward (Some low) (Some high) not_crossed = by (key_cmp low high) not_crossed
  where
    by : (o : Ordering) → is_gt o ≡ false → is_gt (ordering_then o (nat_cmp 0 (2 ^ 64 - 1))) ≡ false
    by Less e = refl
    by Equal e = refl
    by Greater e = e

pub crossed_none : (from to : Option (List KeySeg)) (key : List KeySeg) → are_crossed from to ≡ true → lies_between (record { from = from; to = to }) key ≡ false
crossed_none None to key crossed = absurd (cc crossed)
crossed_none (Some low) None key crossed = absurd (cc crossed)
crossed_none (Some low) (Some high) key crossed = by (key_cmp low key) refl (key_cmp key high) refl
  where
    not_above : (x y z : List KeySeg) → is_gt (key_cmp x y) ≡ false → is_gt (key_cmp y z) ≡ false → is_gt (key_cmp x z) ≡ false
    not_above = upto key_total

    apart : is_gt (key_cmp low key) ≡ false → is_gt (key_cmp key high) ≡ false → ◌≡◌ {A = Bool} true false
    apart one two = sym crossed ∙ not_above low key high one two

    by : (o : Ordering) → key_cmp low key ≡ o → (p : Ordering) → key_cmp key high ≡ p → (is_le o && is_le p) ≡ false
    by Greater is p there = refl
    by Less is Greater there = refl
    by Equal is Greater there = refl
    by Less is Less there = absurd (cc (apart (ap is_gt is) (ap is_gt there)))
    by Less is Equal there = absurd (cc (apart (ap is_gt is) (ap is_gt there)))
    by Equal is Less there = absurd (cc (apart (ap is_gt is) (ap is_gt there)))
    by Equal is Equal there = absurd (cc (apart (ap is_gt is) (ap is_gt there)))

-- ---- what a range reads

rows_append : (d : Defs) (all : List (List ℕ)) (below : ℕ) (xs ys : List Entry) → entry_rows d all below (xs ++ ys) ≡ entry_rows d all below xs ++ entry_rows d all below ys
rows_append d all below xs ys = ap (map (entry_row d all)) (filter-append (entry_before below) xs ys) ∙ map-append (entry_row d all) (filter (entry_before below) xs) (filter (entry_before below) ys)

-- the row of an entry that stands before a place
pub one_row : (d : Defs) (packed : List (List ℕ)) (below : ℕ) (e : Entry) (old new : List KeyedRow) (row : Values) → e.1 < below → row ≡ unwrap_or (row_of d (slice_index_or packed e.0.row [])) [] → new ≡ old ++ (record { pair = pair_with e.0.key e.1; row = row }) ∷ [] → new ≡ old ++ entry_rows d packed below (e ∷ [])
one_row d packed below e old new row lt read is =
    is ∙ ap (λ (v : Values). old ++ (record { pair = pair_with e.0.key e.1; row = v }) ∷ []) read ∙ ap (λ (x : Bool). old ++ map (entry_row d packed) (cond x (e ∷ []) [])) (sym (lt-ltb e.1 below lt))

pub no_row : (d : Defs) (packed : List (List ℕ)) (below : ℕ) (e : Entry) (old : List KeyedRow) → below ≤ e.1 → old ≡ old ++ entry_rows d packed below (e ∷ [])
no_row d packed below e old le = sym (append-nil old) ∙ ap (λ (x : Bool). old ++ map (entry_row d packed) (cond x (e ∷ []) [])) (sym (le-ltb e.1 below le))

-- one entry more
pub entry_more : (d : Defs) (packed : List (List ℕ)) (below : ℕ) (e : Entry) (left rest : List Entry) (rows more whole : List KeyedRow) → left ≡ e ∷ rest → more ≡ rows ++ entry_rows d packed below (e ∷ []) → rows ++ entry_rows d packed below left ≡ whole → more ++ entry_rows d packed below rest ≡ whole
entry_more d packed below e left rest rows more whole is appended so_far =
    ap (λ (l : List KeyedRow). l ++ entry_rows d packed below rest) appended ∙ append_assoc rows (entry_rows d packed below (e ∷ [])) (entry_rows d packed below rest)
    ∙ ap (λ (l : List KeyedRow). rows ++ l) (sym (rows_append d packed below (e ∷ []) rest)) ∙ ap (λ (l : List Entry). rows ++ entry_rows d packed below l) (sym is) ∙ so_far

-- none is left
pub entry_last : (d : Defs) (packed : List (List ℕ)) (below : ℕ) (left : List Entry) (rows whole : List KeyedRow) → left ≡ [] → rows ++ entry_rows d packed below left ≡ whole → rows ≡ whole
entry_last d packed below left rows whole is so_far = sym (append-nil rows) ∙ ap (λ (l : List Entry). rows ++ entry_rows d packed below l) (sym is) ∙ so_far

-- a test of pairs says of keys what bounds say
abbrev TestsKeys : (Pair → Bool) → Bounds → Type 0
TestsKeys test b = (key : List KeySeg) (n : ℕ) → n < 2 ^ 64 → test (pair_with key n) ≡ lies_between b key

one_entry : (d : Defs) (k : ℕ) (b : Bounds) (below : ℕ) (test : Pair → Bool) (all : List (List ℕ)) (i at : ℕ) (v : Values) → TestsKeys test b → below < 2 ^ 64 → i < 2 ^ 64 → unwrap_or (row_of d (slice_index_or all i [])) [] ≡ v
    → entry_rows d all below (filter (λ (e : Entry). test e.0) ((pair_with (key_of d k v) i, told_place at) ∷ [])) ≡ all_keyed d k (all_between d k b (placed_before below ((at, v) ∷ [])))
one_entry d k b below test all i at v tests small few row =
    by (lies_between b key) refl (nat_lt t below) refl ∙ ap (λ (l : List (ℕ × Values)). all_keyed d k (all_between d k b l)) (told_before at below v small)
  where
    key : List KeySeg
    key = key_of d k v

    t : ℕ
    t = told_place at

    e : Entry
    e = (pair_with key i, t)

    wanted : List KeyedRow
    wanted = all_keyed d k (all_between d k b (placed_before below ((t, v) ∷ [])))

    by : (c : Bool) → lies_between b key ≡ c → (q : Bool) → nat_lt t below ≡ q → entry_rows d all below (filter (λ (e : Entry). test e.0) (e ∷ [])) ≡ wanted
    by c lies q lt =
        ap (λ (x : Bool). entry_rows d all below (cond x (e ∷ []) [])) (tests key i few ∙ lies) ∙ then c q ∙ sym (ap (λ (x : Bool). all_keyed d k (all_between d k b (cond x ((t, v) ∷ []) []))) lt ∙ there q)
      where
        passed : Bool → Bool → List KeyedRow
        passed x y = cond x (cond y (keyed_of d k (t, v) ∷ []) []) []

        then : (x : Bool) (y : Bool) → entry_rows d all below (cond x (e ∷ []) []) ≡ passed x q
        then false y = refl
        then true y = ap (λ (z : Bool). map (entry_row d all) (cond z (e ∷ []) [])) lt ∙ last q
          where
            last : (z : Bool) → map (entry_row d all) (cond z (e ∷ []) []) ≡ cond z (keyed_of d k (t, v) ∷ []) []
            last true = ap (λ (w : Values). (record { pair = pair_with key t; row = w }) ∷ []) row
            last false = refl

        there : (y : Bool) → all_keyed d k (all_between d k b (cond y ((t, v) ∷ []) [])) ≡ passed c y
        there false = by_none c
          where
            by_none : (x : Bool) → [] ≡ passed x false
            by_none true = refl
            by_none false = refl
        there true = ap (λ (x : Bool). all_keyed d k (cond x ((t, v) ∷ []) [])) lies ∙ shown c
          where
            shown : (x : Bool) → all_keyed d k (cond x ((t, v) ∷ []) []) ≡ passed x true
            shown true = refl
            shown false = refl

head_at : (all : List (List ℕ)) (i : ℕ) (b : List ℕ) (bs : List (List ℕ)) → drop i all ≡ b ∷ bs → (slice_index_or all i [] ≡ b) × (drop (suc i) all ≡ bs)
head_at [] zero b bs is = absurd (cc is)
head_at [] (suc i) b bs is = absurd (cc is)
head_at (x ∷ xs) zero b bs is = (ap (λ (l : List (List ℕ)). slice_index_or l 0 []) is, ap (drop 1) is)
head_at (x ∷ xs) (suc i) b bs is = head_at xs i b bs is

all_entries : (d : Defs) (k : ℕ) (b : Bounds) (below : ℕ) (test : Pair → Bool) (all : List (List ℕ)) (i at : ℕ) (packed : List (List ℕ)) → TestsKeys test b → below < 2 ^ 64 → i + length packed ≤ 2 ^ 64 → drop i all ≡ packed
    → entry_rows d all below (filter (λ (e : Entry). test e.0) (numbered_keys d k i at packed)) ≡ all_keyed d k (all_between d k b (placed_before below (placed_packed d at packed)))
all_entries d k b below test all i at [] tests small few left = refl
all_entries d k b below test all i at (x ∷ packed) tests small few left =
    let v : Values = unwrap_or (row_of d x) [] in
    let e : Entry = (pair_with (key_of d k v) i, told_place at) in
    let next : ℕ = at + size_of d x in
    let rest : List Entry = numbered_keys d k (suc i) next packed in
    let p : Entry → Bool = λ (e : Entry). test e.0 in
    let head = head_at all i x packed left in
    let low : i < 2 ^ 64 = omega (arith, few) in
    let others : suc i + length packed ≤ 2 ^ 64 = omega (arith, few) in
    let here = one_entry d k b below test all i at v tests small low (ap (λ (bytes : List ℕ). unwrap_or (row_of d bytes) []) head.0) in
    let then = all_entries d k b below test all (suc i) next packed tests small others head.1 in
    ap (entry_rows d all below) (filter-append p (e ∷ []) rest) ∙ rows_append d all below (filter p (e ∷ [])) (filter p rest)
    ∙ ap (λ (l : List KeyedRow). l ++ entry_rows d all below (filter p rest)) here
    ∙ ap (λ (l : List KeyedRow). all_keyed d k (all_between d k b (placed_before below ((at, v) ∷ []))) ++ l) then
    ∙ sym ((keyed_between d k b).1 (placed_before below ((at, v) ∷ [])) (placed_before below (placed_packed d next packed)))
    ∙ ap (λ (l : List (ℕ × Values)). all_keyed d k (all_between d k b l)) (sym (filter-append (stands_before below) ((at, v) ∷ []) (placed_packed d next packed)))

-- what is read of an index of all rows are those that match, in another order
pub range_read : (d : Defs) (k begin below : ℕ) (packed : List (List ℕ)) (x : KnownKeys) (from to : Option (List KeySeg)) (old new : List KeyedRow) → IsIndexOf d k begin packed x → x.count ≡ length packed → length packed < 2 ^ 64 → below < 2 ^ 64
    → new ≡ old ++ entry_rows d packed below (entries_between pair_cmp (from_key from) (to_key to) x.places) → IsPermutation (old ++ all_keyed d k (all_between d k (record { from = from; to = to }) (placed_before below (placed_packed d begin packed)))) new
range_read d k begin below packed x from to old new i whole few small is =
    let b : Bounds = record { from = from; to = to } in
    let p : Entry → Bool = λ (e : Entry). range_contains pair_cmp (from_key from) (to_key to) e.0 in
    let taken : take x.count packed ≡ packed = take_all x.count packed (omega (arith, whole)) in
    let listed : IsPermutation (numbered_keys d k 0 begin packed) x.places = subst (λ (l : List (List ℕ)). IsPermutation (numbered_keys d k 0 begin l) x.places) taken i.rows in
    let inside : IsPermutation (filter p (numbered_keys d k 0 begin packed)) (filter p x.places) = passing p (numbered_keys d k 0 begin packed) x.places listed in
    let before : IsPermutation (entry_rows d packed below (filter p (numbered_keys d k 0 begin packed))) (entry_rows d packed below (filter p x.places)) =
    IsPermutation-map (entry_row d packed) (filter (entry_before below) (filter p (numbered_keys d k 0 begin packed))) (filter (entry_before below) (filter p x.places)) (passing (entry_before below) (filter p (numbered_keys d k 0 begin packed)) (filter p x.places) inside) in
    let same = all_entries d k b below (range_contains pair_cmp (from_key from) (to_key to)) packed 0 begin packed (between_is from to) small (omega (arith, few)) refl in
    subst (λ (l : List KeyedRow). IsPermutation (old ++ all_keyed d k (all_between d k b (placed_before below (placed_packed d begin packed)))) l) (sym is)
    (IsPermutation-append_right old (all_keyed d k (all_between d k b (placed_before below (placed_packed d begin packed)))) (entry_rows d packed below (filter p x.places))
    (subst (λ (l : List KeyedRow). IsPermutation l (entry_rows d packed below (filter p x.places))) same before))

-- where no key lies between bounds no row matches
pub none_read : (d : Defs) (k begin below : ℕ) (packed : List (List ℕ)) (from to : Option (List KeySeg)) (old : List KeyedRow) → are_crossed from to ≡ true → IsPermutation (old ++ all_keyed d k (all_between d k (record { from = from; to = to }) (placed_before below (placed_packed d begin packed)))) old
none_read d k begin below packed from to old crossed =
    let b : Bounds = record { from = from; to = to } in
    let none = nothing (placed_before below (placed_packed d begin packed)) in
    subst (λ (l : List KeyedRow). IsPermutation l old) (sym (ap (λ (l : List (ℕ × Values)). old ++ all_keyed d k l) none ∙ append-nil old)) (IsPermutation-refl old)
  where
    nothing : (rows : List (ℕ × Values)) → all_between d k (record { from = from; to = to }) rows ≡ []
    nothing [] = refl
    nothing (r ∷ rows) = ap (λ (x : Bool). cond x (r ∷ all_between d k (record { from = from; to = to }) rows) (all_between d k (record { from = from; to = to }) rows)) (crossed_none from to (key_of d k r.1) crossed) ∙ nothing rows
