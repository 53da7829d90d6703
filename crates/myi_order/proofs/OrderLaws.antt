-- Rows in the order of a key: the same rows, by the sorted pairs of their keys and positions; of distinct rows, distinct ones.
use Rattle.std.proofs.Common.{◌≡◌, ◌∙◌, ℕ, Bool, true, false, cond, ◌&&◌, ◌||◌, List, [], ◌∷◌, ◌++◌, map, refl, sym, ap, subst, IsPermutation, IsSorted}
use Rattle.std.specs.Ordering.{is_gt, is_eq}
use Rattle.std.specs.declared.cmp.Ordering.{Ordering}
use Rattle.std.specs.declared.cmp.Ordering.TheVariants.{Less, Equal, Greater}
use Rattle.std.specs.List.{list_any, AllByRecursion}
use Rattle.std.proofs.lemmas.Bool.{and_parts}
use Rattle.std.proofs.lemmas.List.Sorted.{IsPermutation-refl, IsPermutation-trans, IsPermutation-cons, IsPermutation-middle}
use Rattle.myi_defs.specs.declared.types.Defs.{Defs}
use Rattle.myi_keys.specs.declared.values.KeySeg.{KeySeg}
use Rattle.myi_keys.specs.Order.{key_cmp}
use Rattle.myi_keys.specs.OrderLaws.{key_exact}
use Rattle.myi_pack.specs.Packed.{Values}
use Rattle.myi_chain.specs.Readable.{Row}
use Rattle.myi_keylist.specs.PairOrder.{pair_cmp, put_pair, sorted}
use Rattle.myi_keylist.specs.Repeats.{is_same_key}
use Rattle.myi_keylist.proofs.CallerLemmas.{sorted_sorted}
use Rattle.myi_data.specs.Keys.{key_of}
use Rattle.myi_pair.specs.Clean.{values_of}
use Rattle.myi_pair.specs.FirstRows.{key_numbers, is_unique, repeats_key, repeats, AreDistinct}
use Rattle.myi_order.specs.InOrder.{placed_key, put_in_order, in_order, IsInOrder}

-- ---- the same rows

put_same : (d : Defs) (k : ℕ) (row : Row) (rows : List Row) → IsPermutation (row ∷ rows) (put_in_order d k row rows)
put_same d k row [] = IsPermutation-refl (row ∷ [])
put_same d k row (other ∷ others) = choose (is_gt (pair_cmp (placed_key d k row) (placed_key d k other))) (put_same d k row others)
  where
    choose : (b : Bool) → IsPermutation (row ∷ others) (put_in_order d k row others) → IsPermutation (row ∷ other ∷ others) (cond b (other ∷ put_in_order d k row others) (row ∷ other ∷ others))
    choose false more = IsPermutation-refl (row ∷ other ∷ others)
    choose true more = IsPermutation-trans (row ∷ other ∷ others) (other ∷ row ∷ others) (other ∷ put_in_order d k row others) (IsPermutation-middle (row ∷ []) other others) (IsPermutation-cons other (row ∷ others) (put_in_order d k row others) more)

pub order_same : (d : Defs) (k : ℕ) (rows : List Row) → IsPermutation rows (in_order d k rows)
order_same d k [] = IsPermutation-refl []
order_same d k (row ∷ rows) = IsPermutation-trans (row ∷ rows) (row ∷ in_order d k rows) (put_in_order d k row (in_order d k rows)) (IsPermutation-cons row rows (in_order d k rows) (order_same d k rows)) (put_same d k row (in_order d k rows))

put_all : (P : Row → Type 0) (d : Defs) (k : ℕ) (row : Row) (rows : List Row) → P row → AllByRecursion P rows → AllByRecursion P (put_in_order d k row rows)
put_all P d k row [] one all = (one, tt)
put_all P d k row (other ∷ others) one all = choose (is_gt (pair_cmp (placed_key d k row) (placed_key d k other))) (put_all P d k row others one all.1)
  where
    choose : (b : Bool) → AllByRecursion P (put_in_order d k row others) → AllByRecursion P (cond b (other ∷ put_in_order d k row others) (row ∷ other ∷ others))
    choose false more = (one, all)
    choose true more = (all.0, more)

-- what holds of all rows holds of all in order
pub order_all : (P : Row → Type 0) (d : Defs) (k : ℕ) (rows : List Row) → AllByRecursion P rows → AllByRecursion P (in_order d k rows)
order_all P d k [] all = tt
order_all P d k (row ∷ rows) all = put_all P d k row (in_order d k rows) all.0 (order_all P d k rows all.1)

-- ---- by their pairs

put_pairs : (d : Defs) (k : ℕ) (row : Row) (rows : List Row) → map (placed_key d k) (put_in_order d k row rows) ≡ put_pair (placed_key d k row) (map (placed_key d k) rows)
put_pairs d k row [] = refl
put_pairs d k row (other ∷ others) = choose (is_gt (pair_cmp (placed_key d k row) (placed_key d k other))) (put_pairs d k row others)
  where
    choose : (b : Bool) → map (placed_key d k) (put_in_order d k row others) ≡ put_pair (placed_key d k row) (map (placed_key d k) others)
        → map (placed_key d k) (cond b (other ∷ put_in_order d k row others) (row ∷ other ∷ others)) ≡ cond b (placed_key d k other ∷ put_pair (placed_key d k row) (map (placed_key d k) others)) (placed_key d k row ∷ placed_key d k other ∷ map (placed_key d k) others)
    choose false more = refl
    choose true more = ap (λ ps. placed_key d k other ∷ ps) more

-- the pairs of the rows in order are the sorted pairs
pub order_pairs : (d : Defs) (k : ℕ) (rows : List Row) → map (placed_key d k) (in_order d k rows) ≡ sorted (map (placed_key d k) rows)
order_pairs d k [] = refl
order_pairs d k (row ∷ rows) = put_pairs d k row (in_order d k rows) ∙ ap (put_pair (placed_key d k row)) (order_pairs d k rows)

pub is_in_order : (d : Defs) (k : ℕ) (rows : List Row) → IsInOrder d k rows (in_order d k rows)
is_in_order d k rows = record {
  same = order_same d k rows;
  order = subst (IsSorted pair_cmp) (sym (order_pairs d k rows)) (sorted_sorted (map (placed_key d k) rows));
}

-- ---- distinct rows

same_bool : (x y : Bool) → (x ≡ true → y ≡ true) → (y ≡ true → x ≡ true) → x ≡ y
same_bool true y f g = sym (f refl)
same_bool false true f g = g refl
same_bool false false f g = refl

equal_by : (o : Ordering) → is_eq o ≡ true → o ≡ Equal
equal_by Less is = absurd cc
equal_by Equal is = refl
equal_by Greater is = absurd cc

turned_key : (a b : List KeySeg) → is_same_key a b ≡ true → is_same_key b a ≡ true
turned_key a b is =
    let e : a ≡ b = key_exact a b (equal_by (key_cmp a b) (and_parts _ _ is).1) in
    subst (λ x. is_same_key x a ≡ true) e (subst (λ x. is_same_key a x ≡ true) (sym e) is)

same_key : (a b : List KeySeg) → is_same_key a b ≡ is_same_key b a
same_key a b = same_bool (is_same_key a b) (is_same_key b a) (turned_key a b) (turned_key b a)

any_turned : (d : Defs) (a b : Values) (ks : List ℕ) → list_any (repeats_key d a b) ks ≡ list_any (repeats_key d b a) ks
any_turned d a b [] = refl
any_turned d a b (k ∷ ks) =
    ap (λ t. (is_unique d k && t) || list_any (repeats_key d a b) ks) (same_key (key_of d k a) (key_of d k b))
    ∙ ap (λ t. repeats_key d b a k || t) (any_turned d a b ks)

turned : (d : Defs) (a b : Values) → repeats d a b ≡ repeats d b a
unfolding repeats
turned d a b = any_turned d a b (key_numbers d)

-- none of the rows repeats one before it
abbrev Differ : Defs → List Row → Type 0
Differ d [] = Unit {0}
Differ d (row ∷ rows) = AllByRecursion (λ (r : Row). repeats d (values_of d r) (values_of d row) ≡ false) rows × Differ d rows

-- none of them repeats one of these
abbrev AreNew : Defs → List Values → List Row → Type 0
AreNew d before rows = AllByRecursion (λ (r : Row). list_any (repeats d (values_of d r)) before ≡ false) rows

any_more : (f : Values → Bool) (before : List Values) (x : Values) → list_any f (before ++ x ∷ []) ≡ (list_any f before || f x)
any_more f [] x = by (f x)
  where
    by : (b : Bool) → (b || false) ≡ b
    by true = refl
    by false = refl
any_more f (y ∷ before) x = by (f y) (any_more f before x)
  where
    by : (b : Bool) → list_any f (before ++ x ∷ []) ≡ (list_any f before || f x) → (b || list_any f (before ++ x ∷ [])) ≡ ((b || list_any f before) || f x)
    by true more = refl
    by false more = more

neither : (a b : Bool) → (a || b) ≡ false → (a ≡ false) × (b ≡ false)
neither true b none = absurd cc
neither false b none = (refl, none)

both_not : (a b : Bool) → a ≡ false → b ≡ false → (a || b) ≡ false
both_not a b one two = ap (λ x. x || b) one ∙ two

news_parts : (d : Defs) (before : List Values) (x : Values) (rows : List Row) → AreNew d (before ++ x ∷ []) rows → AreNew d before rows × AllByRecursion (λ (r : Row). repeats d (values_of d r) x ≡ false) rows
news_parts d before x [] new = (tt, tt)
news_parts d before x (row ∷ rows) new =
    let both = neither _ _ (sym (any_more (repeats d (values_of d row)) before x) ∙ new.0) in
    let more = news_parts d before x rows new.1 in
    ((both.0, more.0), (both.1, more.1))

news_more : (d : Defs) (before : List Values) (x : Values) (rows : List Row) → AreNew d before rows → AllByRecursion (λ (r : Row). repeats d (values_of d r) x ≡ false) rows → AreNew d (before ++ x ∷ []) rows
news_more d before x [] new one = tt
news_more d before x (row ∷ rows) new one = (any_more (repeats d (values_of d row)) before x ∙ both_not _ _ new.0 one.0, news_more d before x rows new.1 one.1)

differ_of : (d : Defs) (before : List Values) (rows : List Row) → AreDistinct d before (map (values_of d) rows) → AreNew d before rows × Differ d rows
differ_of d before [] are = (tt, tt)
differ_of d before (row ∷ rows) are =
    let more = differ_of d (before ++ values_of d row ∷ []) rows are.1 in
    let parts = news_parts d before (values_of d row) rows more.0 in
    ((are.0, parts.0), (parts.1, more.1))

of_differ : (d : Defs) (before : List Values) (rows : List Row) → AreNew d before rows → Differ d rows → AreDistinct d before (map (values_of d) rows)
of_differ d before [] new are = tt
of_differ d before (row ∷ rows) new are = (new.0, of_differ d (before ++ values_of d row ∷ []) rows (news_more d before (values_of d row) rows new.1 are.0) are.1)

none_before : (d : Defs) (rows : List Row) → AreNew d [] rows
none_before d [] = tt
none_before d (row ∷ rows) = (refl, none_before d rows)

put_differ : (d : Defs) (k : ℕ) (row : Row) (rows : List Row) → AllByRecursion (λ (r : Row). repeats d (values_of d r) (values_of d row) ≡ false) rows → Differ d rows → Differ d (put_in_order d k row rows)
put_differ d k row [] new are = (tt, tt)
put_differ d k row (other ∷ others) new are =
    choose (is_gt (pair_cmp (placed_key d k row) (placed_key d k other)))
    (put_all (λ (r : Row). repeats d (values_of d r) (values_of d other) ≡ false) d k row others (turned d (values_of d row) (values_of d other) ∙ new.0) are.0)
    (put_differ d k row others new.1 are.1)
  where
    choose : (b : Bool) → AllByRecursion (λ (r : Row). repeats d (values_of d r) (values_of d other) ≡ false) (put_in_order d k row others) → Differ d (put_in_order d k row others) → Differ d (cond b (other ∷ put_in_order d k row others) (row ∷ other ∷ others))
    choose false first more = (new, are)
    choose true first more = (first, more)

order_differ : (d : Defs) (k : ℕ) (rows : List Row) → Differ d rows → Differ d (in_order d k rows)
order_differ d k [] are = tt
order_differ d k (row ∷ rows) are =
    put_differ d k row (in_order d k rows) (order_all (λ (r : Row). repeats d (values_of d r) (values_of d row) ≡ false) d k rows are.0) (order_differ d k rows are.1)

-- of distinct rows those in order are distinct
pub order_distinct : (d : Defs) (k : ℕ) (rows : List Row) → AreDistinct d [] (map (values_of d) rows) → AreDistinct d [] (map (values_of d) (in_order d k rows))
order_distinct d k rows are = of_differ d [] (in_order d k rows) (none_before d (in_order d k rows)) (order_differ d k rows (differ_of d [] rows are).1)
