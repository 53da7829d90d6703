-- In a list in order repeats are neighbours.
use Rattle.std.proofs.Common.{◌≡◌, ℕ, zero, suc, ◌+◌, ◌<◌, ◌≤◌, Bool, true, false, cond, ◌&&◌, ◌||◌, List, [], ◌∷◌, ◌++◌, length, get_or, drop, refl, sym, ap, subst, ◌∙◌, arith, append_assoc, sum_by}
use Rattle.std.proofs.lemmas.Cmp.{tied_itself, alike_right}
use Rattle.std.proofs.lemmas.List.Sorted.{sum_by-IsPermutation}
use Rattle.std.proofs.lemmas.List.Sums.{sum_by-cons}
use Rattle.std.specs.List.{list_any}
use Rattle.std.specs.Ordering.{nat_cmp, ordering_then, is_gt, is_eq}
use Rattle.std.specs.declared.cmp.Ordering.{Ordering}
use Rattle.std.specs.declared.cmp.Ordering.TheVariants.{Less, Equal, Greater}
use Rattle.myi_keys.specs.declared.values.KeySeg.{KeySeg}
use Rattle.myi_keys.specs.Limits.{is_complete, IsKey}
use Rattle.myi_keys.specs.Codes.{key_code}
use Rattle.myi_keys.specs.Comparing.{key_front}
use Rattle.myi_keys.proofs.CallerLemmas.{front_again}
use Rattle.myi_keys.specs.Order.{key_cmp}
use Rattle.myi_keys.specs.OrderLaws.{key_total, key_exact}
use Rattle.myi_keylist.specs.declared.pair.Pair.{Pair}
use Rattle.myi_keylist.specs.PairOrder.{pair_with, pair_cmp, sorted}
use Rattle.myi_keylist.specs.Repeats.{is_same_key, has_repeat, AreApart, keys_of}
use Rattle.myi_keylist.proofs.SortedLaws.{Behind, InOrder, sorted_permutes, sorted_in_order}

-- ---- how often a complete key is there

same : List KeySeg → List KeySeg → ℕ
same key other = cond (is_same_key key other) 1 0

times : List KeySeg → List (List KeySeg) → ℕ
times key keys = sum_by (same key) keys

times_more : (key other : List KeySeg) (keys : List (List KeySeg)) → times key (other ∷ keys) ≡ same key other + times key keys
unfolding times
times_more key other keys = sum_by-cons (same key) other keys

times_both : (key : List KeySeg) (keys others : List (List KeySeg)) → times key (keys ++ others) ≡ times key keys + times key others
unfolding times
times_both key [] others = omega arith
times_both key (other ∷ keys) others = omega (arith, sum_by-cons (same key) other (keys ++ others), sum_by-cons (same key) other keys, times_both key keys others)

by_pairs : (key : List KeySeg) (pairs : List Pair) → sum_by (λ (p : Pair). same key p.key) pairs ≡ times key (keys_of pairs)
unfolding times
by_pairs key [] = refl
by_pairs key (p ∷ ps) = omega (arith, sum_by-cons (λ (q : Pair). same key q.key) p ps, sum_by-cons (same key) p.key (keys_of ps), by_pairs key ps)

-- ---- behind a complete key that does not repeat, all keys are greater

AllAbove : List KeySeg → List Pair → Type 0
AllAbove low [] = Unit {0}
AllAbove low (q ∷ qs) = (key_cmp low q.key ≡ Less) × AllAbove low qs

still_less : (low : List KeySeg) (q r : Pair) → key_cmp low q.key ≡ Less → is_gt (pair_cmp q r) ≡ false → key_cmp low r.key ≡ Less
still_less low q r less order = by (key_cmp q.key r.key) refl order
  where
    by : (o : Ordering) → key_cmp q.key r.key ≡ o → is_gt (ordering_then o (nat_cmp q.row r.row)) ≡ false → key_cmp low r.key ≡ Less
    by Less is order = key_total.trans low q.key r.key less is
    by Equal is order = sym (alike_right key_total q.key r.key low is) ∙ less
    by Greater is order = absurd cc

all_above : (low : List KeySeg) (q : Pair) (qs : List Pair) → key_cmp low q.key ≡ Less → Behind q qs → AllAbove low (q ∷ qs)
unfolding Behind AllAbove
all_above low q [] less behind = (less, tt)
all_above low q (r ∷ qs) less behind = (less, all_above low r qs (still_less low q r less behind.0) behind.1)

never : (key : List KeySeg) (qs : List Pair) → AllAbove key qs → times key (keys_of qs) ≡ 0
unfolding AllAbove times same
never key [] above = refl
never key (q ∷ qs) above = omega (arith, times_more key q.key (keys_of qs), one (is_complete key), never key qs above.1)
  where
    one : (whole : Bool) → cond {A = ℕ} (whole && is_eq (key_cmp key q.key)) 1 0 ≡ 0
    one false = refl
    one true = ap (λ o. cond {A = ℕ} (is_eq o) 1 0) above.0

-- the next key is greater than a complete one that it does not repeat
next_above : (p q : Pair) → is_complete p.key ≡ true → is_gt (pair_cmp p q) ≡ false → is_same_key p.key q.key ≡ false → key_cmp p.key q.key ≡ Less
next_above p q whole order differ = by (key_cmp p.key q.key) refl order (rw whole at differ)
  where
    by : (o : Ordering) → key_cmp p.key q.key ≡ o → is_gt (ordering_then o (nat_cmp p.row q.row)) ≡ false → is_eq (key_cmp p.key q.key) ≡ false → key_cmp p.key q.key ≡ Less
    by Less is order differ = is
    by Equal is order differ = absurd (let e = sym (ap is_eq is) ∙ differ in cc)
    by Greater is order differ = absurd cc

or_false : (a b : Bool) → (a || b) ≡ false → (a ≡ false) × (b ≡ false)
or_false true b is = absurd cc
or_false false b is = (refl, is)

rest_apart : (p : Pair) (qs : List Pair) → has_repeat (p ∷ qs) ≡ false → has_repeat qs ≡ false
rest_apart p [] none = refl
rest_apart p (q ∷ qs) none = (or_false (is_same_key p.key q.key) (has_repeat (q ∷ qs)) none).1

rest_order : (p : Pair) (qs : List Pair) → Behind p qs → InOrder qs
unfolding Behind InOrder
rest_order p [] behind = tt
rest_order p (q ∷ qs) behind = behind.1

gone_by : (p : Pair) (qs : List Pair) → is_complete p.key ≡ true → Behind p qs → has_repeat (p ∷ qs) ≡ false → times p.key (keys_of qs) ≡ 0
unfolding Behind times
gone_by p [] whole behind none = refl
gone_by p (q ∷ qs) whole behind none = never p.key (q ∷ qs) (all_above p.key q qs (next_above p q whole behind.0 (or_false (is_same_key p.key q.key) (has_repeat (q ∷ qs)) none).0) behind.1)

pub same_is : (key other : List KeySeg) → is_same_key key other ≡ true → (is_complete key ≡ true) × (key ≡ other)
same_is key other is = by (is_complete key) (key_cmp key other) refl refl is
  where
    by : (whole : Bool) (o : Ordering) → is_complete key ≡ whole → key_cmp key other ≡ o → (whole && is_eq o) ≡ true → (is_complete key ≡ true) × (key ≡ other)
    by false o w k is = absurd cc
    by true Less w k is = absurd cc
    by true Equal w k is = (w, key_exact key other k)
    by true Greater w k is = absurd cc

at_most_once : (pairs : List Pair) → InOrder pairs → has_repeat pairs ≡ false → (key : List KeySeg) → times key (keys_of pairs) ≤ 1
unfolding InOrder times same
at_most_once [] order none key = omega arith
at_most_once (p ∷ ps) order none key = by (is_same_key key p.key) refl (at_most_once ps (rest_order p ps order) (rest_apart p ps none) key)
  where
    by : (b : Bool) → is_same_key key p.key ≡ b → times key (keys_of ps) ≤ 1 → times key (p.key ∷ keys_of ps) ≤ 1
    by false is few = omega (arith, times_more key p.key (keys_of ps), ap (λ c. cond {A = ℕ} c 1 0) is)
    by true is few =
        let both = same_is key p.key is in
        let gone : times key (keys_of ps) ≡ 0 = subst (λ k. times k (keys_of ps) ≡ 0) (sym both.1) (gone_by p ps (subst (λ k. is_complete k ≡ true) both.1 both.0) order none) in
        omega (arith, times_more key p.key (keys_of ps), ap (λ c. cond {A = ℕ} c 1 0) is, gone)

-- ---- keys that are there once at most are apart

pub itself : (key : List KeySeg) → is_complete key ≡ true → is_same_key key key ≡ true
itself key whole = rw (whole, tied_itself key_total key) refl

there : (key : List KeySeg) (before : List (List KeySeg)) → list_any (is_same_key key) before ≡ true → (is_complete key ≡ true) × (1 ≤ times key before)
unfolding times same
there key [] any = absurd cc
there key (other ∷ before) any = by (is_same_key key other) refl any (there key before)
  where
    by : (b : Bool) → is_same_key key other ≡ b → (b || list_any (is_same_key key) before) ≡ true → (list_any (is_same_key key) before ≡ true → (is_complete key ≡ true) × (1 ≤ times key before))
        → (is_complete key ≡ true) × (1 ≤ times key (other ∷ before))
    by true is any others = ((same_is key other is).0, omega (arith, times_more key other before, ap (λ c. cond {A = ℕ} c 1 0) is))
    by false is any others = let rest = others any in (rest.0, omega (arith, times_more key other before, rest.1))

not_there : (key : List KeySeg) (before keys : List (List KeySeg)) → times key (before ++ key ∷ keys) ≤ 1 → list_any (is_same_key key) before ≡ false
unfolding times same
not_there key before keys few = by (list_any (is_same_key key) before) refl
  where
    by : (b : Bool) → list_any (is_same_key key) before ≡ b → b ≡ false
    by false is = refl
    by true is =
        let found = there key before is in
        absurd (omega (arith, times_both key before (key ∷ keys), times_more key key keys, ap (λ c. cond {A = ℕ} c 1 0) (itself key found.0), found.1, few))

apart_by : (before keys : List (List KeySeg)) → ((key : List KeySeg) → times key (before ++ keys) ≤ 1) → AreApart before keys
apart_by before [] few = tt
apart_by before (key ∷ keys) few = (
  not_there key before keys (few key),
  apart_by (before ++ key ∷ []) keys (λ k. rw append_assoc (few k)),
)

pub apart : (pairs : List Pair) → has_repeat (sorted pairs) ≡ false → AreApart [] (keys_of pairs)
apart pairs none = apart_by [] (keys_of pairs) (λ key.
    let once = at_most_once (sorted pairs) (sorted_in_order pairs) none key in
    omega (arith, once, by_pairs key pairs, by_pairs key (sorted pairs), sum_by-IsPermutation (λ (p : Pair). same key p.key) pairs (sorted pairs) (sorted_permutes pairs)))

-- ---- the loop over neighbours

pub step_on : (pairs : List Pair) (i : ℕ) (d : Pair) → i + 1 < length pairs → has_repeat (drop i pairs) ≡ (is_same_key (get_or pairs i d).key (get_or pairs (i + 1) d).key || has_repeat (drop (i + 1) pairs))
step_on [] i d few = absurd (omega arith)
step_on (p ∷ []) i d few = absurd (omega arith)
step_on (p ∷ q ∷ ps) zero d few = refl
step_on (p ∷ q ∷ ps) (suc i) d few = let e : suc i + 1 ≡ suc (i + 1) = omega arith in rw e (step_on (q ∷ ps) i d (omega arith))

pub last_left : (pairs : List Pair) (i : ℕ) → length pairs ≤ i + 1 → has_repeat (drop i pairs) ≡ false
last_left [] zero few = refl
last_left [] (suc i) few = refl
last_left (p ∷ []) zero few = refl
last_left (p ∷ []) (suc i) few = last_left [] i (omega arith)
last_left (p ∷ q ∷ ps) zero few = absurd (omega arith)
last_left (p ∷ q ∷ ps) (suc i) few = last_left (q ∷ ps) i (omega arith)

-- two codes at neighbouring places, and what is left behind the first
pub neighbours : (pairs : List Pair) (i : ℕ) (one other : List ℕ) (same total : Bool) → i + 1 < length pairs
    → ((d : Pair) → one ≡ key_code (get_or pairs i d).key) → ((d : Pair) → IsKey (get_or pairs i d).key) → ((d : Pair) → other ≡ key_code (get_or pairs (i + 1) d).key) → ((d : Pair) → IsKey (get_or pairs (i + 1) d).key)
    → same ≡ is_same_key (key_front one) (key_front other) → has_repeat (drop i pairs) ≡ total → total ≡ (same || has_repeat (drop (i + 1) pairs))
neighbours pairs i one other same total few first is second isnt answer so_far =
    let d : Pair = pair_with [] 0 in
    let left : key_front one ≡ (get_or pairs i d).key = ap key_front (first d) ∙ front_again (get_or pairs i d).key (is d) in
    let right : key_front other ≡ (get_or pairs (i + 1) d).key = ap key_front (second d) ∙ front_again (get_or pairs (i + 1) d).key (isnt d) in
    let told : same ≡ is_same_key (get_or pairs i d).key (get_or pairs (i + 1) d).key = answer ∙ ap (λ k. is_same_key k (key_front other)) left ∙ ap (λ k. is_same_key (get_or pairs i d).key k) right in
    sym so_far ∙ step_on pairs i d few ∙ ap (λ b. b || has_repeat (drop (i + 1) pairs)) (sym told)
