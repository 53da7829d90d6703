-- Class numbers that are given in the order of a sorted list.
use Rattle.std.proofs.Common.{◌≡◌, ℕ, zero, suc, ◌+◌, ◌-◌, ◌<◌, ◌≤◌, ◌⊎◌, inl, inr, Bool, true, false, cond, not, ◌&&◌, eqb, List, [], ◌∷◌, length, get_or, map, refl, sym, ap, subst, ◌∙◌, arith}
use Rattle.std.specs.List.{AllByRecursion, range_with_len}
use Rattle.std.proofs.lemmas.Bool.Decides.{nat_tests}
use Rattle.std.specs.Ordering.{is_gt, is_eq}
use Rattle.myi_keys.specs.declared.values.KeySeg.{KeySeg}
use Rattle.myi_keys.specs.Limits.{IsKey, is_complete}
use Rattle.myi_keys.specs.Order.{key_cmp}
use Rattle.myi_keys.specs.Codes.{key_code}
use Rattle.myi_keys.specs.Comparing.{key_front}
use Rattle.myi_keys.proofs.CallerLemmas.{front_again}
use Rattle.myi_keylist.specs.declared.pair.Pair.{Pair}
use Rattle.myi_keylist.specs.PairOrder.{pair_with, pair_cmp, put_pair, sorted}
use Rattle.myi_keylist.specs.Repeats.{is_same_key}
use Rattle.myi_keylist.specs.FirstBy.{KeyOf}
use Rattle.myi_keylist.specs.Columns.{IsColumn, numbered}
use Rattle.myi_keylist.specs.PairLists.{key_at, row_at, repeats_last, next_number}
use Rattle.myi_keylist.proofs.SortedLaws.{InOrder, sorted_in_order}
use Rattle.myi_keylist.proofs.RepeatLaws.{same_is, itself}
use Rattle.myi_keylist.proofs.TogetherLaws.{together}
use Rattle.myi_keylist.proofs.PointerLaws.{three}
use Rattle.myi_keylist.proofs.ColumnLaws.{differ}

-- ---- what codes tell

pub key_told : (pairs : List Pair) (i : ℕ) (code : List ℕ) → ((d : Pair) → code ≡ key_code (get_or pairs i d).key) → ((d : Pair) → IsKey (get_or pairs i d).key) → key_front code ≡ key_at pairs i
key_told pairs i code coded is = ap key_front (coded (pair_with [] 0)) ∙ front_again (key_at pairs i) (is (pair_with [] 0))

pub repeat_told : (pairs : List Pair) (i : ℕ) (one other : List ℕ) (b : Bool) → eqb i 0 ≡ false → key_front one ≡ key_at pairs (i - 1) → key_front other ≡ key_at pairs i
    → b ≡ is_same_key (key_front one) (key_front other) → b ≡ repeats_last pairs i
repeat_told pairs i one other b some left right answer =
    answer ∙ ap (λ k. is_same_key k (key_front other)) left ∙ ap (λ k. is_same_key (key_at pairs (i - 1)) k) right
    ∙ sym (ap (λ z. not z && is_same_key (key_at pairs (i - 1)) (key_at pairs i)) some)

pub number_told : (pairs : List Pair) (i last : ℕ) (code : List ℕ) (repeats whole : Bool) → repeats ≡ repeats_last pairs i → repeats ≡ false → whole ≡ is_complete (key_front code) → key_front code ≡ key_at pairs i
    → cond whole (last + 1) 0 ≡ next_number pairs i last
number_told pairs i last code repeats whole told none is front =
    ap (λ b. cond b (last + 1) 0) (is ∙ ap is_complete front)
    ∙ sym (ap (λ b. cond b last (cond (is_complete (key_at pairs i)) (last + 1) 0)) (sym told ∙ none))

-- ---- numbers so far

-- of the first keys of a list: they share a number other than 0 exactly where they are complete and equal
pub record Numbers (key : ℕ → List KeySeg) (number : ℕ → ℕ) (taken last i : ℕ) : Type 0 where
  pub decides : (j k : ℕ) → j < i → k < i → is_same_key (key j) (key k) ≡ (not (eqb (number j) 0) && eqb (number k) (number j))
  pub within : (k : ℕ) → k < i → (number k ≡ 0) ⊎ ((taken < number k) × (number k ≤ last))
  pub top : (k : ℕ) → k + 1 ≡ i → is_complete (key k) ≡ true → number k ≡ last

no_numbers : (key : ℕ → List KeySeg) (number : ℕ → ℕ) (taken : ℕ) → Numbers key number taken taken 0
no_numbers key number taken = record {
  decides = λ j k few fewer. absurd (omega (arith, few));
  within = λ k few. absurd (omega (arith, few));
  top = λ k is whole. absurd (omega (arith, is));
}

same_numbers : (key : ℕ → List KeySeg) (number after : ℕ → ℕ) (taken last i : ℕ) → ((k : ℕ) → k < i → after k ≡ number k) → Numbers key number taken last i → Numbers key after taken last i
same_numbers key number after taken last i same are = record {
  decides = λ j k few fewer. are.decides j k few fewer ∙ ap (λ n. not (eqb n 0) && eqb (number k) n) (sym (same j few)) ∙ ap (λ n. not (eqb (after j) 0) && eqb n (after j)) (sym (same k fewer));
  within = λ k few. subst (λ n. (n ≡ 0) ⊎ ((taken < n) × (n ≤ last))) (sym (same k few)) (are.within k few);
  top = λ k is whole. same k (omega (arith, is)) ∙ are.top k is whole;
}

one_of : (j i : ℕ) → j < i + 1 → (j < i) ⊎ (j ≡ i)
one_of j i few = by (three j i)
  where
    by : (j < i) ⊎ ((j ≡ i) ⊎ (i < j)) → (j < i) ⊎ (j ≡ i)
    by (inl low) = inl low
    by (inr (inl same)) = inr same
    by (inr (inr up)) = absurd (omega (arith, up, few))

-- a key that is the one before it, and complete
repeated : (key : ℕ → List KeySeg) (number : ℕ → ℕ) (taken last m : ℕ) → is_same_key (key m) (key (m + 1)) ≡ true → number (m + 1) ≡ last → Numbers key number taken last (m + 1) → Numbers key number taken last (m + 1 + 1)
repeated key number taken last m same is are = record {
  decides = λ j k few fewer. by j k (stands j few) (stands k fewer);
  within = λ k few. subst (λ n. (n ≡ 0) ⊎ ((taken < n) × (n ≤ last))) (sym (stands k few).1.1.0) (are.within (stands k few).0 (stands k few).1.0);
  top = λ k at whole. let e : k ≡ m + 1 = omega (arith, at) in ap number e ∙ is;
}
  where
    both : (is_complete (key m) ≡ true) × (key m ≡ key (m + 1))
    both = same_is (key m) (key (m + 1)) same

    -- it stands for one before
    stands : (j : ℕ) → j < m + 1 + 1 → (o : ℕ) × ((o < m + 1) × ((number j ≡ number o) × (key j ≡ key o)))
    stands j few = from (one_of j (m + 1) few)
      where
        from : (j < m + 1) ⊎ (j ≡ m + 1) → (o : ℕ) × ((o < m + 1) × ((number j ≡ number o) × (key j ≡ key o)))
        from (inl low) = (j, (low, (refl, refl)))
        from (inr here) = (m, (omega arith, (ap number here ∙ is ∙ sym (are.top m refl both.0), ap key here ∙ sym both.1)))

    by : (j k : ℕ) → (o : ℕ) × ((o < m + 1) × ((number j ≡ number o) × (key j ≡ key o))) → (o : ℕ) × ((o < m + 1) × ((number k ≡ number o) × (key k ≡ key o))) → is_same_key (key j) (key k) ≡ (not (eqb (number j) 0) && eqb (number k) (number j))
    by j k (o, (few, (is-n, is-k))) (u, (fewer, (isnt-n, isnt-k))) =
        ap (λ x. is_same_key x (key k)) is-k ∙ ap (λ x. is_same_key (key o) x) isnt-k ∙ are.decides o u few fewer
        ∙ ap (λ n. not (eqb n 0) && eqb (number u) n) (sym is-n) ∙ ap (λ n. not (eqb (number j) 0) && eqb n (number j)) (sym isnt-n)

and_false : (b : Bool) → (b && false) ≡ false
and_false true = refl
and_false false = refl

eqb_itself : (n : ℕ) → eqb n n ≡ true
eqb_itself n = grind (arith, nat_tests)

pub not_zero : (n : ℕ) → (n ≡ 0 → ⊥) → eqb n 0 ≡ false
not_zero zero some = absurd (some refl)
not_zero (suc n) some = differ (suc n) 0 (inr (omega arith))

zero_apart : (n : ℕ) → (not (eqb n 0) && eqb 0 n) ≡ false
zero_apart zero = refl
zero_apart (suc n) = ap (λ b. not (eqb (suc n) 0) && b) (differ 0 (suc n) (inl (omega arith))) ∙ and_false (not (eqb (suc n) 0))

-- a key that is not complete
skipped : (key : ℕ → List KeySeg) (number : ℕ → ℕ) (taken last i : ℕ) → is_complete (key i) ≡ false → number i ≡ 0 → Numbers key number taken last i → Numbers key number taken last (i + 1)
skipped key number taken last i lacks is are = record {
  decides = λ j k few fewer. by j k (one_of j i few) (one_of k i fewer);
  within = λ k few. within_by k (one_of k i few);
  top = λ k at whole. let e : k ≡ i = omega (arith, at) in absurd (let f = sym lacks ∙ sym (ap (λ x. is_complete (key x)) e) ∙ whole in cc);
}
  where
    not_same : (j : ℕ) → (b : Bool) → is_same_key (key j) (key i) ≡ b → b ≡ false
    not_same j false e = refl
    not_same j true e = let both = same_is (key j) (key i) e in absurd (let f = sym lacks ∙ sym (ap is_complete both.1) ∙ both.0 in cc)

    by : (j k : ℕ) → (j < i) ⊎ (j ≡ i) → (k < i) ⊎ (k ≡ i) → is_same_key (key j) (key k) ≡ (not (eqb (number j) 0) && eqb (number k) (number j))
    by j k (inl low) (inl few) = are.decides j k low few
    by j k (inl low) (inr here) =
        ap (λ x. is_same_key (key j) (key x)) here ∙ not_same j (is_same_key (key j) (key i)) refl ∙ sym (zero_apart (number j))
        ∙ ap (λ n. not (eqb (number j) 0) && eqb n (number j)) (sym (ap number here ∙ is))
    by j k (inr here) other =
        ap (λ x. is_same_key (key x) (key k)) here ∙ ap (λ b. b && is_eq (key_cmp (key i) (key k))) lacks
        ∙ sym (ap (λ n. not (eqb n 0) && eqb (number k) n) (ap number here ∙ is))

    within_by : (k : ℕ) → (k < i) ⊎ (k ≡ i) → (number k ≡ 0) ⊎ ((taken < number k) × (number k ≤ last))
    within_by k (inl low) = are.within k low
    within_by k (inr here) = inl (ap number here ∙ is)

-- a complete key that none before it is
given : (key : ℕ → List KeySeg) (number : ℕ → ℕ) (taken last i : ℕ) → taken ≤ last → is_complete (key i) ≡ true → ((k : ℕ) → k < i → key k ≡ key i → ⊥) → number i ≡ last + 1 → Numbers key number taken last i → Numbers key number taken (last + 1) (i + 1)
given key number taken last i above whole new is are = record {
  decides = λ j k few fewer. by j k (one_of j i few) (one_of k i fewer);
  within = λ k few. within_by k (one_of k i few);
  top = λ k at full. let e : k ≡ i = omega (arith, at) in ap number e ∙ is;
}
  where
    low_number : (k : ℕ) → (number k ≡ 0) ⊎ ((taken < number k) × (number k ≤ last)) → number k < last + 1
    low_number k (inl none) = omega (arith, none)
    low_number k (inr here) = omega (arith, here.1)

    before : (j : ℕ) → j < i → (b : Bool) → is_same_key (key j) (key i) ≡ b → b ≡ false
    before j low false e = refl
    before j low true e = absurd (new j low (same_is (key j) (key i) e).1)

    behind : (k : ℕ) → k < i → (b : Bool) → is_same_key (key i) (key k) ≡ b → b ≡ false
    behind k low false e = refl
    behind k low true e = absurd (new k low (sym (same_is (key i) (key k) e).1))

    equal : (n : ℕ) → (not (eqb (n + 1) 0) && eqb (n + 1) (n + 1)) ≡ true
    equal n = ap (λ b. not b && eqb (n + 1) (n + 1)) (differ (n + 1) 0 (inr (omega arith))) ∙ eqb_itself (n + 1)

    by : (j k : ℕ) → (j < i) ⊎ (j ≡ i) → (k < i) ⊎ (k ≡ i) → is_same_key (key j) (key k) ≡ (not (eqb (number j) 0) && eqb (number k) (number j))
    by j k (inl low) (inl few) = are.decides j k low few
    by j k (inl low) (inr here) =
        ap (λ x. is_same_key (key j) (key x)) here ∙ before j low (is_same_key (key j) (key i)) refl
        ∙ sym (ap (λ b. not (eqb (number j) 0) && b) (ap (λ n. eqb n (number j)) (ap number here ∙ is) ∙ differ (last + 1) (number j) (inr (low_number j (are.within j low)))) ∙ and_false (not (eqb (number j) 0)))
    by j k (inr here) (inl few) =
        ap (λ x. is_same_key (key x) (key k)) here ∙ behind k few (is_same_key (key i) (key k)) refl
        ∙ sym (ap (λ b. not (eqb (number j) 0) && b) (ap (λ n. eqb (number k) n) (ap number here ∙ is) ∙ differ (number k) (last + 1) (inl (low_number k (are.within k few)))) ∙ and_false (not (eqb (number j) 0)))
    by j k (inr here) (inr there) =
        ap (λ x. is_same_key (key x) (key k)) here ∙ ap (λ x. is_same_key (key i) (key x)) there ∙ itself (key i) whole
        ∙ sym (ap (λ n. not (eqb n 0) && eqb (number k) n) (ap number here ∙ is) ∙ ap (λ n. not (eqb (last + 1) 0) && eqb n (last + 1)) (ap number there ∙ is) ∙ equal last)

    within_by : (k : ℕ) → (k < i) ⊎ (k ≡ i) → (number k ≡ 0) ⊎ ((taken < number k) × (number k ≤ last + 1))
    within_by k (inl low) = more (are.within k low)
      where
        more : (number k ≡ 0) ⊎ ((taken < number k) × (number k ≤ last)) → (number k ≡ 0) ⊎ ((taken < number k) × (number k ≤ last + 1))
        more (inl none) = inl none
        more (inr here) = inr (here.0, omega (arith, here.1))
    within_by k (inr here) = inr (omega (arith, ap number here, is, above), omega (arith, ap number here, is))

-- ---- the rows of the pairs: each is there once

Other : ℕ → Pair → Type 0
Other row q = row ≡ q.row → ⊥

Spread : List Pair → Type 0
Spread [] = Unit {0}
Spread (p ∷ ps) = AllByRecursion (Other p.row) ps × Spread ps

put_all : (P : Pair → Type 0) (p : Pair) (qs : List Pair) → P p → AllByRecursion P qs → AllByRecursion P (put_pair p qs)
put_all P p [] has all = (has, tt)
put_all P p (q ∷ qs) has all = by (is_gt (pair_cmp p q)) (put_all P p qs has all.1)
  where
    by : (b : Bool) → AllByRecursion P (put_pair p qs) → AllByRecursion P (cond b (q ∷ put_pair p qs) (p ∷ q ∷ qs))
    by true others = (all.0, others)
    by false others = (has, all)

sorted_all : (P : Pair → Type 0) (ps : List Pair) → AllByRecursion P ps → AllByRecursion P (sorted ps)
sorted_all P [] all = tt
sorted_all P (p ∷ ps) all = put_all P p (sorted ps) all.0 (sorted_all P ps all.1)

put_spread : (p : Pair) (qs : List Pair) → AllByRecursion (Other p.row) qs → Spread qs → Spread (put_pair p qs)
unfolding Spread Other
put_spread p [] apart spread = (tt, tt)
put_spread p (q ∷ qs) apart spread = by (is_gt (pair_cmp p q)) (put_spread p qs apart.1 spread.1)
  where
    by : (b : Bool) → Spread (put_pair p qs) → Spread (cond b (q ∷ put_pair p qs) (p ∷ q ∷ qs))
    by true others = (put_all (Other q.row) p qs (λ same. apart.0 (sym same)) spread.0, others)
    by false others = (apart, spread)

sorted_spread : (ps : List Pair) → Spread ps → Spread (sorted ps)
unfolding Spread
sorted_spread [] spread = tt
sorted_spread (p ∷ ps) spread = put_spread p (sorted ps) (sorted_all (Other p.row) ps spread.0) (sorted_spread ps spread.1)

pairs_from : KeyOf ℕ → ℕ → ℕ → List Pair
pairs_from key row n = map (λ r. pair_with (key r) r) (range_with_len row n)

others_behind : (key : KeyOf ℕ) (row first n : ℕ) → row < first → AllByRecursion (Other row) (pairs_from key first n)
unfolding pairs_from Other
others_behind key row first zero low = tt
others_behind key row first (suc n) low = (λ same. omega (arith, same, low), others_behind key row (first + 1) n (omega (arith, low)))

from_spread : (key : KeyOf ℕ) (row n : ℕ) → Spread (pairs_from key row n)
unfolding pairs_from Spread
from_spread key row zero = tt
from_spread key row (suc n) = (others_behind key row (row + 1) n (omega arith), from_spread key (row + 1) n)

Below : ℕ → Pair → Type 0
Below end p = p.row < end

from_below : (key : KeyOf ℕ) (row n end : ℕ) → row + n ≤ end → AllByRecursion (Below end) (pairs_from key row n)
unfolding pairs_from Below
from_below key row zero end few = tt
from_below key row (suc n) end few = (omega (arith, few), from_below key (row + 1) n end (omega (arith, few)))

all_at : (P : Pair → Type 0) (ps : List Pair) → AllByRecursion P ps → (k : ℕ) (d : Pair) → k < length ps → P (get_or ps k d)
all_at P [] all k d few = absurd (omega arith)
all_at P (p ∷ ps) all zero d few = all.0
all_at P (p ∷ ps) all (suc k) d few = all_at P ps all.1 k d (omega arith)

spread_at : (ps : List Pair) → Spread ps → (j k : ℕ) (d : Pair) → j < k → k < length ps → (get_or ps j d).row ≡ (get_or ps k d).row → ⊥
unfolding Spread Other
spread_at [] spread j k d low few = absurd (omega arith)
spread_at (p ∷ ps) spread j zero d low few = absurd (omega arith)
spread_at (p ∷ ps) spread zero (suc k) d low few = all_at (Other p.row) ps spread.0 k d (omega arith)
spread_at (p ∷ ps) spread (suc j) (suc k) d low few = spread_at ps spread.1 j k d (omega arith) (omega arith)

-- the pair stands in the list
Stands : Pair → List Pair → Type 0
Stands p ps = (k : ℕ) × ((k < length ps) × ((d : Pair) → get_or ps k d ≡ p))

stands_more : (p q : Pair) (ps : List Pair) → Stands p ps → Stands p (q ∷ ps)
unfolding Stands
stands_more p q ps (k, (few, is)) = (suc k, (omega (arith, few), is))

put_self : (p : Pair) (qs : List Pair) → Stands p (put_pair p qs)
unfolding Stands
put_self p [] = (0, (omega arith, λ d. refl))
put_self p (q ∷ qs) = by (is_gt (pair_cmp p q)) (put_self p qs)
  where
    by : (b : Bool) → Stands p (put_pair p qs) → Stands p (cond b (q ∷ put_pair p qs) (p ∷ q ∷ qs))
    by true others = stands_more p q (put_pair p qs) others
    by false others = (0, (omega arith, λ d. refl))

put_stands : (r p : Pair) (qs : List Pair) → Stands r qs → Stands r (put_pair p qs)
unfolding Stands
put_stands r p [] (k, (few, is)) = absurd (omega (arith, few))
put_stands r p (q ∷ qs) (zero, (few, is)) = by (is_gt (pair_cmp p q))
  where
    by : (b : Bool) → Stands r (cond b (q ∷ put_pair p qs) (p ∷ q ∷ qs))
    by true = (0, (omega arith, is))
    by false = (1, (omega arith, is))
put_stands r p (q ∷ qs) (suc k, (few, is)) = by (is_gt (pair_cmp p q)) (put_stands r p qs (k, (omega (arith, few), is)))
  where
    by : (b : Bool) → Stands r (put_pair p qs) → Stands r (cond b (q ∷ put_pair p qs) (p ∷ q ∷ qs))
    by true others = stands_more r q (put_pair p qs) others
    by false others = (suc (suc k), (omega (arith, few), is))

from_stands : (key : KeyOf ℕ) (row n r : ℕ) → row ≤ r → r < row + n → Stands (pair_with (key r) r) (sorted (pairs_from key row n))
unfolding pairs_from
from_stands key row zero r low few = absurd (omega (arith, low, few))
from_stands key row (suc n) r low few = by (three row r) (λ up. from_stands key (row + 1) n r (omega (arith, up)) (omega (arith, few)))
  where
    by : (row < r) ⊎ ((row ≡ r) ⊎ (r < row)) → (row < r → Stands (pair_with (key r) r) (sorted (pairs_from key (row + 1) n))) → Stands (pair_with (key r) r) (sorted (pairs_from key row (suc n)))
    by (inl up) others = put_stands (pair_with (key r) r) (pair_with (key row) row) (sorted (pairs_from key (row + 1) n)) (others up)
    by (inr (inl same)) others = subst (λ q. Stands (pair_with (key q) q) (sorted (pairs_from key row (suc n)))) same (put_self (pair_with (key row) row) (sorted (pairs_from key (row + 1) n)))
    by (inr (inr down)) others = absurd (omega (arith, low, down))

-- ---- one more pair

abbrev pub ColumnNumbers : List Pair → List ℕ → ℕ → ℕ → ℕ → Type 0
ColumnNumbers pairs column taken last i = Numbers (key_at pairs) (λ k. get_or column (row_at pairs k) 0) taken last i

unequal : (m n : ℕ) → (m ≡ n → ⊥) → eqb m n ≡ false
unequal m n apart = by (three m n)
  where
    by : (m < n) ⊎ ((m ≡ n) ⊎ (n < m)) → eqb m n ≡ false
    by (inl low) = differ m n (inl low)
    by (inr (inl same)) = absurd (apart same)
    by (inr (inr up)) = differ m n (inr up)

and_split : (a b : Bool) → (a && b) ≡ true → (a ≡ true) × (b ≡ true)
and_split true b is = (refl, is)
and_split false b is = absurd cc

some_index : (i : ℕ) → not (eqb i 0) ≡ true → i - 1 + 1 ≡ i
some_index zero some = absurd cc
some_index (suc i) some = omega arith

repeated_at : (key : ℕ → List KeySeg) (number : ℕ → ℕ) (taken last i m : ℕ) → m + 1 ≡ i → is_same_key (key m) (key i) ≡ true → number i ≡ last → Numbers key number taken last i → Numbers key number taken last (i + 1)
repeated_at key number taken last i m next = subst (λ x. is_same_key (key m) (key x) ≡ true → number x ≡ last → Numbers key number taken last x → Numbers key number taken last (x + 1)) next (repeated key number taken last m)

new_key : (pairs : List Pair) (i : ℕ) → InOrder pairs → i < length pairs → is_complete (key_at pairs i) ≡ true → repeats_last pairs i ≡ false → (k : ℕ) → k < i → key_at pairs k ≡ key_at pairs i → ⊥
new_key pairs i order few whole none k low same =
    let near : key_at pairs (i - 1) ≡ key_at pairs i = by (one_of k (i - 1) (omega (arith, low))) in
    let some : eqb i 0 ≡ false = differ i 0 (inr (omega (arith, low))) in
    let again : repeats_last pairs i ≡ true = ap (λ b. not b && is_same_key (key_at pairs (i - 1)) (key_at pairs i)) some ∙ ap (λ key. is_same_key key (key_at pairs i)) near ∙ itself (key_at pairs i) whole in
    absurd (let e = sym none ∙ again in cc)
  where
    by : (k < i - 1) ⊎ (k ≡ i - 1) → key_at pairs (i - 1) ≡ key_at pairs i
    by (inl below) = together pairs order k (i - 1) i (pair_with [] 0) below (omega (arith, low)) few same ∙ same
    by (inr here) = sym (ap (key_at pairs) here) ∙ same

taken_next : (pairs : List Pair) (number : ℕ → ℕ) (taken last i given_number next : ℕ) → InOrder pairs → i < length pairs → taken ≤ last → given_number ≡ next_number pairs i last → number i ≡ given_number
    → ((last < given_number) × (next ≡ given_number)) ⊎ ((given_number ≤ last) × (next ≡ last)) → Numbers (key_at pairs) number taken last i → Numbers (key_at pairs) number taken next (i + 1)
taken_next pairs number taken last i new next order few above told is greatest are = by (repeats_last pairs i) (is_complete (key_at pairs i)) refl refl told
  where
    same_last : new ≤ last → next ≡ last
    same_last low = from greatest
      where
        from : ((last < new) × (next ≡ new)) ⊎ ((new ≤ last) × (next ≡ last)) → next ≡ last
        from (inl up) = omega (arith, up.0, low)
        from (inr down) = down.1

    next_last : new ≡ last + 1 → next ≡ last + 1
    next_last high = from greatest
      where
        from : ((last < new) × (next ≡ new)) ⊎ ((new ≤ last) × (next ≡ last)) → next ≡ last + 1
        from (inl up) = up.1 ∙ high
        from (inr down) = omega (arith, down.0, high)

    by : (r w : Bool) → repeats_last pairs i ≡ r → is_complete (key_at pairs i) ≡ w → new ≡ cond r last (cond w (last + 1) 0) → Numbers (key_at pairs) number taken next (i + 1)
    by true w repeats whole stands =
        let both = and_split (not (eqb i 0)) (is_same_key (key_at pairs (i - 1)) (key_at pairs i)) repeats in
        subst (λ n. Numbers (key_at pairs) number taken n (i + 1)) (sym (same_last (omega (arith, stands)))) (repeated_at (key_at pairs) number taken last i (i - 1) (some_index i both.0) both.1 (is ∙ stands) are)
    by false true repeats whole stands =
        subst (λ n. Numbers (key_at pairs) number taken n (i + 1)) (sym (next_last stands)) (given (key_at pairs) number taken last i above whole (new_key pairs i order few whole repeats) (is ∙ stands) are)
    by false false repeats whole stands =
        subst (λ n. Numbers (key_at pairs) number taken n (i + 1)) (sym (same_last (omega (arith, stands)))) (skipped (key_at pairs) number taken last i whole (is ∙ stands) are)

numbered_below : (key : KeyOf ℕ) (n : ℕ) (pairs : List Pair) → pairs ≡ sorted (numbered key n) → (k : ℕ) → k < length pairs → row_at pairs k < n
unfolding Below pairs_from
numbered_below key n pairs is k few =
    all_at (Below n) pairs (subst (λ ps. AllByRecursion (Below n) ps) (sym is) (sorted_all (Below n) (pairs_from key 0 n) (from_below key 0 n n (omega arith)))) k (pair_with [] 0) few

numbered_apart : (key : KeyOf ℕ) (n : ℕ) (pairs : List Pair) → pairs ≡ sorted (numbered key n) → (j k : ℕ) → j < k → k < length pairs → row_at pairs j ≡ row_at pairs k → ⊥
unfolding pairs_from
numbered_apart key n pairs is j k low few =
    spread_at pairs (subst Spread (sym is) (sorted_spread (pairs_from key 0 n) (from_spread key 0 n))) j k (pair_with [] 0) low few

pub one_numbered : (key : KeyOf ℕ) (pairs : List Pair) (before after : List ℕ) (n taken last i row number next : ℕ) → pairs ≡ sorted (numbered key n) → n ≡ length before → i < length pairs → taken ≤ last
    → number ≡ next_number pairs i last → ((d : Pair) → row ≡ (get_or pairs i d).row) → ((r : ℕ) → r < length before → get_or after r 0 ≡ cond (eqb r row) number (get_or before r 0))
    → ((last < number) × (next ≡ number)) ⊎ ((number ≤ last) × (next ≡ last)) → ColumnNumbers pairs before taken last i → ColumnNumbers pairs after taken next (i + 1)
one_numbered key pairs before after n taken last i row number next is long few above told at writes greatest are =
    let here : row ≡ row_at pairs i = at (pair_with [] 0) in
    let others : (k : ℕ) → k < i → get_or after (row_at pairs k) 0 ≡ get_or before (row_at pairs k) 0 = λ k low.
    writes (row_at pairs k) (omega (arith, long, numbered_below key n pairs is k (omega (arith, low, few))))
    ∙ ap (λ b. cond b number (get_or before (row_at pairs k) 0)) (unequal (row_at pairs k) row (λ same. numbered_apart key n pairs is k i low few (same ∙ here))) in
    let written : get_or after (row_at pairs i) 0 ≡ number =
    writes (row_at pairs i) (omega (arith, long, numbered_below key n pairs is i few))
    ∙ ap (λ b. cond b number (get_or before (row_at pairs i) 0)) (ap (eqb (row_at pairs i)) here ∙ eqb_itself (row_at pairs i)) in
    taken_next pairs (λ k. get_or after (row_at pairs k) 0) taken last i number next (subst InOrder (sym is) (sorted_in_order (numbered key n))) few above told written greatest
    (same_numbers (key_at pairs) (λ k. get_or before (row_at pairs k) 0) (λ k. get_or after (row_at pairs k) 0) taken last i others are)

pub none_numbered : (pairs : List Pair) (column : List ℕ) (taken : ℕ) → ColumnNumbers pairs column taken taken 0
none_numbered pairs column taken = no_numbers (key_at pairs) (λ k. get_or column (row_at pairs k) 0) taken

-- ---- all pairs

outside : (xs : List ℕ) (i : ℕ) → length xs ≤ i → get_or xs i 0 ≡ 0
outside [] i low = refl
outside (x ∷ xs) zero low = absurd (omega arith)
outside (x ∷ xs) (suc i) low = outside xs i (omega (arith, low))

pub all_numbered : (key : KeyOf ℕ) (pairs : List Pair) (column : List ℕ) (n taken last i : ℕ) → pairs ≡ sorted (numbered key n) → n ≡ length column → length pairs ≤ i → taken ≤ last → ColumnNumbers pairs column taken last i → IsColumn key n taken last column
unfolding Stands pairs_from
all_numbered key pairs column n taken last i is long all above are = record {
  decides = λ r s few fewer. decided r s (stands r few) (stands s fewer);
  within = λ r. in_by r (three r n);
  above = above;
}
  where
    stands : (r : ℕ) → r < n → Stands (pair_with (key r) r) pairs
    stands r few = subst (Stands (pair_with (key r) r)) (sym is) (from_stands key 0 n r (omega arith) (omega (arith, few)))

    decided : (r s : ℕ) → Stands (pair_with (key r) r) pairs → Stands (pair_with (key s) s) pairs → is_same_key (key r) (key s) ≡ (not (eqb (get_or column r 0) 0) && eqb (get_or column s 0) (get_or column r 0))
    decided r s (j, (few, left)) (k, (fewer, right)) =
        let d : Pair = pair_with [] 0 in
        let a : row_at pairs j ≡ r = ap (λ (p : Pair). p.row) (left d) in
        let b : row_at pairs k ≡ s = ap (λ (p : Pair). p.row) (right d) in
        sym (ap (λ x. is_same_key x (key s)) (ap (λ (p : Pair). p.key) (left d))) ∙ sym (ap (is_same_key (key_at pairs j)) (ap (λ (p : Pair). p.key) (right d)))
        ∙ are.decides j k (omega (arith, few, all)) (omega (arith, fewer, all))
        ∙ ap (λ x. not (eqb (get_or column x 0) 0) && eqb (get_or column (row_at pairs k) 0) (get_or column x 0)) a
        ∙ ap (λ x. not (eqb (get_or column r 0) 0) && eqb (get_or column x 0) (get_or column r 0)) b

    in_by : (r : ℕ) → (r < n) ⊎ ((r ≡ n) ⊎ (n < r)) → (get_or column r 0 ≡ 0) ⊎ ((taken < get_or column r 0) × (get_or column r 0 ≤ last))
    in_by r (inl low) = from (stands r low)
      where
        from : Stands (pair_with (key r) r) pairs → (get_or column r 0 ≡ 0) ⊎ ((taken < get_or column r 0) × (get_or column r 0 ≤ last))
        from (k, (few, at)) = subst (λ x. (get_or column x 0 ≡ 0) ⊎ ((taken < get_or column x 0) × (get_or column x 0 ≤ last))) (ap (λ (p : Pair). p.row) (at (pair_with [] 0))) (are.within k (omega (arith, few, all)))
    in_by r (inr (inl same)) = inl (outside column r (omega (arith, same, long)))
    in_by r (inr (inr up)) = inl (outside column r (omega (arith, up, long)))

-- ---- how far numbers go

number_few : (pairs : List Pair) (i last : ℕ) → next_number pairs i last ≤ last + 1
number_few pairs i last = by (repeats_last pairs i) (is_complete (key_at pairs i))
  where
    by : (r w : Bool) → cond r last (cond w (last + 1) 0) ≤ last + 1
    by true w = omega arith
    by false true = omega arith
    by false false = omega arith

pub next_few : (pairs : List Pair) (taken last i number next : ℕ) → number ≡ next_number pairs i last → ((last < number) × (next ≡ number)) ⊎ ((number ≤ last) × (next ≡ last)) → taken ≤ last → last ≤ taken + i → (taken ≤ next) × (next ≤ taken + (i + 1))
next_few pairs taken last i number next told greatest above few = by greatest
  where
    by : ((last < number) × (next ≡ number)) ⊎ ((number ≤ last) × (next ≡ last)) → (taken ≤ next) × (next ≤ taken + (i + 1))
    by (inl up) = (omega (arith, up.0, up.1, above), omega (arith, up.1, told, number_few pairs i last, few))
    by (inr down) = (omega (arith, down.1, above), omega (arith, down.1, few))
