-- In a list in order keys that share a prefix stand together, and sorting keeps how many prefixes there are.
use Rattle.std.proofs.Common.{◌≡◌, ℕ, zero, suc, ◌+◌, ◌/◌, ◌<◌, Bool, true, false, cond, ◌&&◌, ◌||◌, eqb, min, List, [], ◌∷◌, length, get_or, take, map, refl, sym, ap, subst, ◌∙◌, arith, IsSorted}
use Rattle.std.proofs.lemmas.Bool.{eqb-true}
use Rattle.std.proofs.lemmas.Cmp.{tied_itself, alike_right}
use Rattle.std.specs.List.{list_any, range_with_len}
use Rattle.std.specs.Ordering.{nat_cmp, ordering_then, ordering_reverse, is_gt, is_lt, is_eq}
use Rattle.std.specs.declared.cmp.Ordering.{Ordering}
use Rattle.std.specs.declared.cmp.Ordering.TheVariants.{Less, Equal, Greater}
use Rattle.myi_keys.specs.declared.values.KeySeg.{KeySeg}
use Rattle.myi_keys.specs.Limits.{is_complete}
use Rattle.myi_keys.specs.Order.{seg_cmp, key_cmp}
use Rattle.myi_keys.specs.OrderLaws.{key_total, key_exact}
use Rattle.myi_keylist.specs.declared.pair.Pair.{Pair}
use Rattle.myi_keylist.specs.PairOrder.{pair_cmp, put_pair, sorted}
use Rattle.myi_keylist.specs.Repeats.{is_same_key, keys_of}
use Rattle.myi_keylist.proofs.CallerLemmas.{pair_total}
use Rattle.myi_order.specs.Prefixes.{shares_prefix, distinct_prefixes, most_per, per, per_each, goes_on, prefix_ends}
use Rattle.myi_order.specs.Shared.{average}

-- ---- keys that are one

same_is : (key other : List KeySeg) → is_same_key key other ≡ true → (is_complete key ≡ true) × (key ≡ other)
same_is key other is = by (is_complete key) (key_cmp key other) refl refl is
  where
    by : (whole : Bool) (o : Ordering) → is_complete key ≡ whole → key_cmp key other ≡ o → (whole && is_eq o) ≡ true → (is_complete key ≡ true) × (key ≡ other)
    by false o w k is = absurd cc
    by true Less w k is = absurd cc
    by true Equal w k is = (w, key_exact key other k)
    by true Greater w k is = absurd cc

itself : (key : List KeySeg) → is_complete key ≡ true → is_same_key key key ≡ true
itself key whole = rw (whole, tied_itself key_total key) refl

same_by : (key other : List KeySeg) → is_complete key ≡ true → key ≡ other → is_same_key key other ≡ true
same_by key other whole is = subst (λ k. is_same_key key k ≡ true) is (itself key whole)

either_way : (a b : Bool) → (a ≡ true → b ≡ true) → (b ≡ true → a ≡ true) → a ≡ b
either_way false false to back = refl
either_way false true to back = back refl
either_way true false to back = sym (to refl)
either_way true true to back = refl

turn : (j : ℕ) (key other : List KeySeg) → shares_prefix j key other ≡ true → shares_prefix j other key ≡ true
turn j key other is =
    let both = same_is (take j key) (take j other) is in
    same_by (take j other) (take j key) (sym (ap is_complete both.1) ∙ both.0) (sym both.1)

turned : (j : ℕ) (key other : List KeySeg) → shares_prefix j key other ≡ shares_prefix j other key
turned j key other = either_way (shares_prefix j key other) (shares_prefix j other key) (turn j key other) (turn j other key)

-- keys that share a prefix share it with the same keys
alike : (j : ℕ) (key other : List KeySeg) (keys : List (List KeySeg)) → shares_prefix j key other ≡ true → list_any (shares_prefix j key) keys ≡ list_any (shares_prefix j other) keys
alike j key other keys is = ap (λ (front : List KeySeg). list_any (λ third. is_same_key front (take j third)) keys) (same_is (take j key) (take j other) is).1

-- ---- prefixes are in the order of keys

up_prefix : (j : ℕ) (a b : List KeySeg) → is_gt (key_cmp a b) ≡ false → is_gt (key_cmp (take j a) (take j b)) ≡ false
up_prefix zero a b up = refl
up_prefix (suc j) [] [] up = refl
up_prefix (suc j) [] (t ∷ b) up = refl
up_prefix (suc j) (s ∷ a) [] up = absurd cc
up_prefix (suc j) (s ∷ a) (t ∷ b) up = by (seg_cmp s t) up (up_prefix j a b)
  where
    by : (o : Ordering) → is_gt (ordering_then o (key_cmp a b)) ≡ false → (is_gt (key_cmp a b) ≡ false → is_gt (key_cmp (take j a) (take j b)) ≡ false) → is_gt (ordering_then o (key_cmp (take j a) (take j b))) ≡ false
    by Less up rest = refl
    by Equal up rest = rest up
    by Greater up rest = absurd cc

up_through : (a b c : List KeySeg) → is_gt (key_cmp a b) ≡ false → is_gt (key_cmp b c) ≡ false → is_gt (key_cmp a c) ≡ false
up_through a b c first second = by (key_cmp a b) (key_cmp b c) refl refl first second
  where
    by : (o u : Ordering) → key_cmp a b ≡ o → key_cmp b c ≡ u → is_gt o ≡ false → is_gt u ≡ false → is_gt (key_cmp a c) ≡ false
    by Less Less is isnt low high = ap is_gt (key_total.trans a b c is isnt)
    by Less Equal is isnt low high = ap is_gt (sym (alike_right key_total b c a isnt) ∙ is)
    by Less Greater is isnt low high = absurd cc
    by Equal u is isnt low high = ap is_gt (key_total.congr a b c is ∙ isnt) ∙ high
    by Greater u is isnt low high = absurd cc

up_and_down : (a b : List KeySeg) → is_gt (key_cmp a b) ≡ false → is_gt (key_cmp b a) ≡ false → a ≡ b
up_and_down a b up down = by (key_cmp a b) refl up (sym (ap is_gt (key_total.antisymm b a)) ∙ down)
  where
    by : (o : Ordering) → key_cmp a b ≡ o → is_gt o ≡ false → is_gt (ordering_reverse (key_cmp a b)) ≡ false → a ≡ b
    by Less is up down = absurd (let e = sym (ap (λ u. is_gt (ordering_reverse u)) is) ∙ down in cc)
    by Equal is up down = key_exact a b is
    by Greater is up down = absurd cc

-- a key between two that share a prefix has it
between : (j : ℕ) (a b c : List KeySeg) → is_gt (key_cmp a b) ≡ false → is_gt (key_cmp b c) ≡ false → shares_prefix j a c ≡ true → shares_prefix j a b ≡ true
between j a b c low high is =
    let both = same_is (take j a) (take j c) is in
    let down : is_gt (key_cmp (take j b) (take j a)) ≡ false = subst (λ k. is_gt (key_cmp (take j b) k) ≡ false) (sym both.1) (up_prefix j b c high) in
    same_by (take j a) (take j b) both.0 (up_and_down (take j a) (take j b) (up_prefix j a b low) down)

-- ---- keys in order

-- no key is above the next
unfoldable AreUp : List KeySeg → List (List KeySeg) → Type 0
AreUp key [] = Unit {0}
AreUp key (next ∷ keys) = (is_gt (key_cmp key next) ≡ false) × AreUp next keys

key_up : (p q : Pair) → is_lt (pair_cmp q p) ≡ false → is_gt (key_cmp p.key q.key) ≡ false
key_up p q low = by (key_cmp p.key q.key) (sym (ap is_lt (pair_total.antisymm q p)) ∙ low)
  where
    by : (o : Ordering) → is_lt (ordering_reverse (ordering_then o (nat_cmp p.row q.row))) ≡ false → is_gt o ≡ false
    by Less low = refl
    by Equal low = refl
    by Greater low = absurd cc

are_up : (p : Pair) (ps : List Pair) → ((k : ℕ) (d : Pair) → k + 1 < length (p ∷ ps) → is_lt (pair_cmp (get_or (p ∷ ps) (k + 1) d) (get_or (p ∷ ps) k d)) ≡ false) → AreUp p.key (keys_of ps)
unfolding AreUp
are_up p [] low = tt
are_up p (q ∷ ps) low = (
  key_up p q (low 0 p (omega arith)),
  are_up q ps (λ k d inside. let e : suc k + 1 ≡ suc (k + 1) = omega arith in rw e at (low (suc k) d (omega arith))),
)

none_behind : (j : ℕ) (key next : List KeySeg) (keys : List (List KeySeg)) → is_gt (key_cmp key next) ≡ false → shares_prefix j key next ≡ false → AreUp next keys → list_any (shares_prefix j key) keys ≡ false
unfolding AreUp
none_behind j key next [] up none order = refl
none_behind j key next (third ∷ keys) up none order = by (shares_prefix j key third) refl (λ is. none_behind j key third keys (up_through key next third up order.0) is order.1)
  where
    by : (b : Bool) → shares_prefix j key third ≡ b → (shares_prefix j key third ≡ false → list_any (shares_prefix j key) keys ≡ false) → (shares_prefix j key third || list_any (shares_prefix j key) keys) ≡ false
    by true is rest = absurd (let e = sym (between j key next third up order.0 is) ∙ none in cc)
    by false is rest = ap (λ b. b || list_any (shares_prefix j key) keys) is ∙ rest is

first_decides : (j : ℕ) (key : List KeySeg) (keys : List (List KeySeg)) → AreUp key keys → list_any (shares_prefix j key) keys ≡ goes_on j key keys
unfolding AreUp
first_decides j key [] order = refl
first_decides j key (next ∷ keys) order = by (shares_prefix j key next) refl
  where
    by : (b : Bool) → shares_prefix j key next ≡ b → (shares_prefix j key next || list_any (shares_prefix j key) keys) ≡ shares_prefix j key next
    by true is = ap (λ b. b || list_any (shares_prefix j key) keys) is ∙ sym is
    by false is = ap (λ b. b || list_any (shares_prefix j key) keys) is ∙ none_behind j key next keys order.0 is order.1 ∙ sym is

rest_up : (key : List KeySeg) (next : List KeySeg) (keys : List (List KeySeg)) → AreUp key (next ∷ keys) → AreUp next keys
unfolding AreUp
rest_up key next keys order = order.1

ends_up : (j : ℕ) (key : List KeySeg) (keys : List (List KeySeg)) → AreUp key keys → distinct_prefixes j (key ∷ keys) ≡ prefix_ends j (key ∷ keys)
unfolding distinct_prefixes prefix_ends
ends_up j key [] order = refl
ends_up j key (next ∷ keys) order =
    ap (λ b. cond b 0 1 + distinct_prefixes j (next ∷ keys)) (first_decides j key (next ∷ keys) order)
    ∙ ap (λ n. cond (goes_on j key (next ∷ keys)) 0 1 + n) (ends_up j next keys (rest_up key next keys order))

none_either : (j : ℕ) → distinct_prefixes j [] ≡ prefix_ends j []
unfolding distinct_prefixes prefix_ends
none_either j = refl

pub ends_in_order : (j : ℕ) (pairs : List Pair) → IsSorted pair_cmp pairs → distinct_prefixes j (keys_of pairs) ≡ prefix_ends j (keys_of pairs)
ends_in_order j [] order = none_either j
ends_in_order j (p ∷ ps) order = ends_up j p.key (keys_of ps) (are_up p ps (λ k d inside. order k d (omega arith) inside))

-- ---- the order of pairs does not count

or_swap : (a b c : Bool) → (a || (b || c)) ≡ (b || (a || c))
or_swap false b c = refl
or_swap true false c = refl
or_swap true true c = refl

any_put : (test : List KeySeg → Bool) (p : Pair) (qs : List Pair) → list_any test (keys_of (put_pair p qs)) ≡ (test p.key || list_any test (keys_of qs))
any_put test p [] = refl
any_put test p (q ∷ qs) = choose (is_gt (pair_cmp p q)) (any_put test p qs)
  where
    choose : (b : Bool) → list_any test (keys_of (put_pair p qs)) ≡ (test p.key || list_any test (keys_of qs)) → list_any test (keys_of (cond b (q ∷ put_pair p qs) (p ∷ q ∷ qs))) ≡ (test p.key || (test q.key || list_any test (keys_of qs)))
    choose false rest = refl
    choose true rest = ap (λ b. test q.key || b) rest ∙ or_swap (test q.key) (test p.key) (list_any test (keys_of qs))

any_sorted : (test : List KeySeg → Bool) (ps : List Pair) → list_any test (keys_of (sorted ps)) ≡ list_any test (keys_of ps)
any_sorted test [] = refl
any_sorted test (p ∷ ps) = any_put test p (sorted ps) ∙ ap (λ b. test p.key || b) (any_sorted test ps)

length_put : (p : Pair) (qs : List Pair) → length (keys_of (put_pair p qs)) ≡ suc (length (keys_of qs))
length_put p [] = refl
length_put p (q ∷ qs) = choose (is_gt (pair_cmp p q)) (length_put p qs)
  where
    choose : (b : Bool) → length (keys_of (put_pair p qs)) ≡ suc (length (keys_of qs)) → length (keys_of (cond b (q ∷ put_pair p qs) (p ∷ q ∷ qs))) ≡ suc (suc (length (keys_of qs)))
    choose false rest = refl
    choose true rest = ap suc rest

length_sorted : (ps : List Pair) → length (keys_of (sorted ps)) ≡ length (keys_of ps)
length_sorted [] = refl
length_sorted (p ∷ ps) = length_put p (sorted ps) ∙ ap suc (length_sorted ps)

-- of two keys, one behind the other, and those behind them the same are counted in either order
two_places : (j : ℕ) (a b : List KeySeg) (keys : List (List KeySeg)) → cond (shares_prefix j b a || list_any (shares_prefix j b) keys) 0 1 + cond (list_any (shares_prefix j a) keys) 0 1
    ≡ cond (shares_prefix j a b || list_any (shares_prefix j a) keys) 0 1 + cond (list_any (shares_prefix j b) keys) 0 1
two_places j a b keys = by (shares_prefix j a b) refl
  where
    by : (c : Bool) → shares_prefix j a b ≡ c → cond (shares_prefix j b a || list_any (shares_prefix j b) keys) 0 1 + cond (list_any (shares_prefix j a) keys) 0 1
        ≡ cond (shares_prefix j a b || list_any (shares_prefix j a) keys) 0 1 + cond (list_any (shares_prefix j b) keys) 0 1
    by true is =
        let back : shares_prefix j b a ≡ true = turn j a b is in
        rw (is, back) (ap (λ c. 0 + cond {A = ℕ} c 0 1) (alike j a b keys is))
    by false is =
        let back : shares_prefix j b a ≡ false = sym (turned j a b) ∙ is in
        rw (is, back) (omega arith)

distinct_more : (j : ℕ) (key : List KeySeg) (keys : List (List KeySeg)) → distinct_prefixes j (key ∷ keys) ≡ cond (list_any (shares_prefix j key) keys) 0 1 + distinct_prefixes j keys
unfolding distinct_prefixes
distinct_more j key keys = refl

distinct_put : (j : ℕ) (p : Pair) (qs : List Pair) → distinct_prefixes j (keys_of (put_pair p qs)) ≡ distinct_prefixes j (p.key ∷ keys_of qs)
distinct_put j p [] = refl
distinct_put j p (q ∷ qs) = choose (is_gt (pair_cmp p q)) (distinct_put j p qs)
  where
    choose : (b : Bool) → distinct_prefixes j (keys_of (put_pair p qs)) ≡ distinct_prefixes j (p.key ∷ keys_of qs) → distinct_prefixes j (keys_of (cond b (q ∷ put_pair p qs) (p ∷ q ∷ qs))) ≡ distinct_prefixes j (p.key ∷ q.key ∷ keys_of qs)
    choose false rest = refl
    choose true rest = omega (
      arith,
      distinct_more j q.key (keys_of (put_pair p qs)),
      ap (λ b. cond {A = ℕ} b 0 1) (any_put (shares_prefix j q.key) p qs),
      rest,
      distinct_more j p.key (keys_of qs),
      two_places j p.key q.key (keys_of qs),
      distinct_more j p.key (q.key ∷ keys_of qs),
      distinct_more j q.key (keys_of qs),
    )

pub distinct_sorted : (j : ℕ) (ps : List Pair) → distinct_prefixes j (keys_of (sorted ps)) ≡ distinct_prefixes j (keys_of ps)
distinct_sorted j [] = refl
distinct_sorted j (p ∷ ps) = omega (
  arith,
  distinct_put j p (sorted ps),
  distinct_more j p.key (keys_of (sorted ps)),
  ap (λ b. cond {A = ℕ} b 0 1) (any_sorted (shares_prefix j p.key) ps),
  distinct_sorted j ps,
  distinct_more j p.key (keys_of ps),
)

-- ---- rows per prefix

no_prefix : (j : ℕ) → distinct_prefixes j [] ≡ 0
unfolding distinct_prefixes
no_prefix j = refl

some_prefix : (j : ℕ) (key : List KeySeg) (keys : List (List KeySeg)) → 0 < distinct_prefixes j (key ∷ keys)
some_prefix j key [] = omega (arith, distinct_more j key [])
some_prefix j key (next ∷ keys) = omega (arith, distinct_more j key (next ∷ keys), some_prefix j next keys)

not_none : (rows prefixes : ℕ) → 0 < prefixes → average rows prefixes ≡ min most_per (rows / prefixes)
not_none rows prefixes some = by (eqb prefixes 0) refl
  where
    by : (b : Bool) → eqb prefixes 0 ≡ b → cond (eqb prefixes 0) 0 (min most_per (rows / prefixes)) ≡ min most_per (rows / prefixes)
    by false is = ap (λ b. cond b 0 (min most_per (rows / prefixes))) is
    by true is = absurd (omega (arith, some, eqb-true prefixes 0 is))

pub per_is : (j : ℕ) (keys : List (List KeySeg)) → per j keys ≡ average (length keys) (distinct_prefixes j keys)
unfolding per
per_is j [] = sym (ap (average 0) (no_prefix j))
per_is j (key ∷ keys) = sym (not_none (length (key ∷ keys)) (distinct_prefixes j (key ∷ keys)) (some_prefix j key keys))

pub per_sorted : (j : ℕ) (ps : List Pair) → per j (keys_of (sorted ps)) ≡ per j (keys_of ps)
per_sorted j ps =
    per_is j (keys_of (sorted ps))
    ∙ ap (λ n. average n (distinct_prefixes j (keys_of (sorted ps)))) (length_sorted ps)
    ∙ ap (average (length (keys_of ps))) (distinct_sorted j ps)
    ∙ sym (per_is j (keys_of ps))

same_each : (f g : ℕ → ℕ) → ((j : ℕ) → f j ≡ g j) → (js : List ℕ) → map f js ≡ map g js
same_each f g same [] = refl
same_each f g same (j ∷ js) = ap (λ n. n ∷ map f js) (same j) ∙ ap (λ ns. g j ∷ ns) (same_each f g same js)

pub each_sorted : (segments : ℕ) (ps : List Pair) → per_each segments (keys_of (sorted ps)) ≡ per_each segments (keys_of ps)
each_sorted segments ps = same_each (λ j. per j (keys_of (sorted ps))) (λ j. per j (keys_of ps)) (λ j. per_sorted j ps) (range_with_len 1 segments)
