-- Key lists: sorting is a permutation in order, and there is one such list.
use Rattle.std.proofs.Common.{◌≡◌, ℕ, zero, suc, ◌+◌, ◌<◌, Bool, true, false, cond, List, [], ◌∷◌, length, get_or, refl, sym, ap, subst, ◌∙◌, arith, IsPermutation, IsSorted, sum_by}
use Rattle.std.proofs.lemmas.Cmp.{nat_cmp_total, on_total, then_total, tied_itself, alike_right}
use Rattle.std.proofs.lemmas.List.Sorted.{IsPermutation-refl, IsPermutation-trans, IsPermutation-cons, IsPermutation-middle, sum_by-IsPermutation}
use Rattle.std.proofs.lemmas.List.Sums.{sum_by-cons}
use Rattle.std.proofs.lemmas.Bool.Decides.{nat_tests}
use Rattle.std.specs.Ordering.{nat_cmp, ordering_then, ordering_reverse, is_gt, is_lt, is_eq}
use Rattle.std.specs.Cmp.{IsTotalOrder}
use Rattle.std.specs.declared.cmp.Ordering.{Ordering}
use Rattle.std.specs.declared.cmp.Ordering.TheVariants.{Less, Equal, Greater}
use Rattle.myi_keys.specs.Order.{key_cmp}
use Rattle.myi_keys.specs.OrderLaws.{key_total, key_exact}
use Rattle.myi_keylist.specs.declared.pair.Pair.{Pair}
use Rattle.myi_keylist.specs.PairOrder.{pair_with, pair_cmp, put_pair, sorted}

-- the order of pairs

pub pair_total : IsTotalOrder pair_cmp
pair_total = then_total (on_total (λ (p : Pair). p.key) key_total) (on_total (λ (p : Pair). p.row) nat_cmp_total)

then_equal : (a b : Ordering) → ordering_then a b ≡ Equal → (a ≡ Equal) × (b ≡ Equal)
then_equal Less b same = absurd cc
then_equal Equal b same = (refl, same)
then_equal Greater b same = absurd cc

row_exact : (m n : ℕ) → nat_cmp m n ≡ Equal → m ≡ n
row_exact m n same = grind (arith, nat_tests)

pub pair_exact : (p q : Pair) → pair_cmp p q ≡ Equal → p ≡ q
pair_exact p q same =
    let both = then_equal (key_cmp p.key q.key) (nat_cmp p.row q.row) same in
    ap (λ key. pair_with key p.row) (key_exact p.key q.key both.0) ∙ ap (λ row. pair_with q.key row) (row_exact p.row q.row both.1)

-- a list in order: no pair is above the one behind it

unfoldable pub Behind : Pair → List Pair → Type 0
Behind p [] = Unit {0}
Behind p (q ∷ qs) = (is_gt (pair_cmp p q) ≡ false) × Behind q qs

unfoldable pub InOrder : List Pair → Type 0
InOrder [] = Unit {0}
InOrder (p ∷ ps) = Behind p ps

-- sorting keeps the pairs, and puts them in order

put_permutes : (p : Pair) (qs : List Pair) → IsPermutation (p ∷ qs) (put_pair p qs)
put_permutes p [] = IsPermutation-refl (p ∷ [])
put_permutes p (q ∷ qs) = choose (is_gt (pair_cmp p q)) (put_permutes p qs)
  where
    choose : (b : Bool) → IsPermutation (p ∷ qs) (put_pair p qs) → IsPermutation (p ∷ q ∷ qs) (cond b (q ∷ put_pair p qs) (p ∷ q ∷ qs))
    choose false others = IsPermutation-refl (p ∷ q ∷ qs)
    choose true others = IsPermutation-trans (p ∷ q ∷ qs) (q ∷ p ∷ qs) (q ∷ put_pair p qs) (IsPermutation-middle (p ∷ []) q qs) (IsPermutation-cons q (p ∷ qs) (put_pair p qs) others)

pub sorted_permutes : (ps : List Pair) → IsPermutation ps (sorted ps)
sorted_permutes [] = IsPermutation-refl []
sorted_permutes (p ∷ ps) = IsPermutation-trans (p ∷ ps) (p ∷ sorted ps) (put_pair p (sorted ps)) (IsPermutation-cons p ps (sorted ps) (sorted_permutes ps)) (put_permutes p (sorted ps))

not_gt : (o : Ordering) → is_gt o ≡ true → is_gt (ordering_reverse o) ≡ false
not_gt Less is = absurd cc
not_gt Equal is = absurd cc
not_gt Greater is = refl

turned : (p q : Pair) → is_gt (pair_cmp p q) ≡ true → is_gt (pair_cmp q p) ≡ false
turned p q is = ap is_gt (pair_total.antisymm q p) ∙ not_gt (pair_cmp p q) is

put_behind : (r p : Pair) (qs : List Pair) → is_gt (pair_cmp r p) ≡ false → Behind r qs → Behind r (put_pair p qs)
unfolding Behind
put_behind r p [] low behind = (low, tt)
put_behind r p (q ∷ qs) low behind = choose (is_gt (pair_cmp p q)) refl (λ up. put_behind q p qs up behind.1)
  where
    choose : (b : Bool) → is_gt (pair_cmp p q) ≡ b → (is_gt (pair_cmp q p) ≡ false → Behind q (put_pair p qs)) → Behind r (cond b (q ∷ put_pair p qs) (p ∷ q ∷ qs))
    choose false is others = (low, (is, behind.1))
    choose true is others = (behind.0, others (turned p q is))

put_in_order : (p : Pair) (qs : List Pair) → InOrder qs → InOrder (put_pair p qs)
unfolding InOrder Behind
put_in_order p [] order = tt
put_in_order p (q ∷ qs) order = choose (is_gt (pair_cmp p q)) refl
  where
    choose : (b : Bool) → is_gt (pair_cmp p q) ≡ b → InOrder (cond b (q ∷ put_pair p qs) (p ∷ q ∷ qs))
    choose false is = (is, order)
    choose true is = put_behind q p qs (turned p q is) order

pub sorted_in_order : (ps : List Pair) → InOrder (sorted ps)
unfolding InOrder
sorted_in_order [] = tt
sorted_in_order (p ∷ ps) = put_in_order p (sorted ps) (sorted_in_order ps)

-- the same, said by places

not_lt : (o : Ordering) → is_gt o ≡ false → is_lt (ordering_reverse o) ≡ false
not_lt Less is = refl
not_lt Equal is = refl
not_lt Greater is = absurd cc

not_lt_back : (o : Ordering) → is_lt (ordering_reverse o) ≡ false → is_gt o ≡ false
not_lt_back Less is = refl
not_lt_back Equal is = refl
not_lt_back Greater is = absurd cc

at_places : (p : Pair) (ps : List Pair) → Behind p ps → (k : ℕ) (d : Pair) → k + 1 < length (p ∷ ps) → is_lt (pair_cmp (get_or (p ∷ ps) (k + 1) d) (get_or (p ∷ ps) k d)) ≡ false
unfolding Behind
at_places p [] behind k d inside = absurd (omega arith)
at_places p (q ∷ qs) behind zero d inside = ap is_lt (pair_total.antisymm q p) ∙ not_lt (pair_cmp p q) behind.0
at_places p (q ∷ qs) behind (suc k) d inside =
    let e : suc k + 1 ≡ suc (k + 1) = omega arith in
    rw e (at_places q qs behind.1 k d (omega arith))

pub is_sorted : (ps : List Pair) → InOrder ps → IsSorted pair_cmp ps
unfolding InOrder
is_sorted [] order = λ k d low inside. absurd (omega arith)
is_sorted (p ∷ ps) order = λ k d low inside. at_places p ps order k d inside

from_places : (p : Pair) (ps : List Pair) → ((k : ℕ) (d : Pair) → k + 1 < length (p ∷ ps) → is_lt (pair_cmp (get_or (p ∷ ps) (k + 1) d) (get_or (p ∷ ps) k d)) ≡ false) → Behind p ps
unfolding Behind
from_places p [] low = tt
from_places p (q ∷ qs) low = (
  not_lt_back (pair_cmp p q) (sym (ap is_lt (pair_total.antisymm q p)) ∙ low 0 p (omega arith)),
  from_places q qs (λ k d inside. let e : suc k + 1 ≡ suc (k + 1) = omega arith in rw e at (low (suc k) d (omega arith))),
)

pub in_order : (ps : List Pair) → IsSorted pair_cmp ps → InOrder ps
unfolding InOrder
in_order [] sorted = tt
in_order (p ∷ ps) sorted = from_places p ps (λ k d inside. sorted k d (omega arith) inside)

-- there is one list in order with the same pairs

AllAbove : Pair → List Pair → Type 0
AllAbove low [] = Unit {0}
AllAbove low (q ∷ qs) = (pair_cmp low q ≡ Less) × AllAbove low qs

still_less : (low p q : Pair) → pair_cmp low p ≡ Less → is_gt (pair_cmp p q) ≡ false → pair_cmp low q ≡ Less
still_less low p q less order = by (pair_cmp p q) refl order
  where
    by : (o : Ordering) → pair_cmp p q ≡ o → is_gt o ≡ false → pair_cmp low q ≡ Less
    by Less is order = pair_total.trans low p q less is
    by Equal is order = sym (alike_right pair_total p q low is) ∙ less
    by Greater is order = absurd cc

all_above : (low p : Pair) (qs : List Pair) → pair_cmp low p ≡ Less → Behind p qs → AllAbove low (p ∷ qs)
unfolding Behind AllAbove
all_above low p [] less behind = (less, tt)
all_above low p (q ∷ qs) less behind = (less, all_above low q qs (still_less low p q less behind.0) behind.1)

-- how often a pair is there
times : Pair → Pair → ℕ
times p q = cond (is_eq (pair_cmp p q)) 1 0

never : (low : Pair) (ps : List Pair) → AllAbove low ps → sum_by (times low) ps ≡ 0
unfolding AllAbove times
never low [] above = refl
never low (p ∷ ps) above = sum_by-cons (times low) p ps ∙ omega (arith, ap (λ o. cond {A = ℕ} (is_eq o) 1 0) above.0, never low ps above.1)

once : (p : Pair) (ps : List Pair) → 0 < sum_by (times p) (p ∷ ps)
unfolding times
once p ps = omega (arith, sum_by-cons (times p) p ps, ap (λ o. cond {A = ℕ} (is_eq o) 1 0) (tied_itself pair_total p))

SamePairs : List Pair → List Pair → Type 0
SamePairs ps qs = (f : Pair → ℕ) → sum_by f qs ≡ sum_by f ps

same_first : (p q : Pair) (ps qs : List Pair) → SamePairs (p ∷ ps) (q ∷ qs) → Behind p ps → Behind q qs → p ≡ q
unfolding SamePairs
same_first p q ps qs same order other = by (pair_cmp p q) refl
  where
    by : (o : Ordering) → pair_cmp p q ≡ o → p ≡ q
    by Equal is = pair_exact p q is
    by Less is = absurd (omega (arith, never p (q ∷ qs) (all_above p q qs is other), once p ps, same (times p)))
    by Greater is =
        let less : pair_cmp q p ≡ Less = pair_total.antisymm q p ∙ ap ordering_reverse is in
        absurd (omega (arith, never q (p ∷ ps) (all_above q p ps less order), once q qs, same (times q)))

same_rest : (p : Pair) (ps qs : List Pair) → SamePairs (p ∷ ps) (p ∷ qs) → SamePairs ps qs
unfolding SamePairs
same_rest p ps qs same = λ f. omega (arith, same f, sum_by-cons f p ps, sum_by-cons f p qs)

pub behind_order : (p : Pair) (ps : List Pair) → Behind p ps → InOrder ps
unfolding Behind InOrder
behind_order p [] behind = tt
behind_order p (q ∷ qs) behind = behind.1

-- a list that is not empty has a pair
some_pair : (p : Pair) (ps : List Pair) → SamePairs (p ∷ ps) [] → ⊥
unfolding SamePairs
some_pair p ps same = omega (arith, same (λ q. 1), sum_by-cons (λ q. 1) p ps)

no_pair : (p : Pair) (ps : List Pair) → SamePairs [] (p ∷ ps) → ⊥
unfolding SamePairs
no_pair p ps same = omega (arith, same (λ q. 1), sum_by-cons (λ q. 1) p ps)

one_order : (ps qs : List Pair) → SamePairs ps qs → InOrder ps → InOrder qs → ps ≡ qs
unfolding InOrder
one_order [] [] same order other = refl
one_order [] (q ∷ qs) same order other = absurd (no_pair q qs same)
one_order (p ∷ ps) [] same order other = absurd (some_pair p ps same)
one_order (p ∷ ps) (q ∷ qs) same order other =
    let first : p ≡ q = same_first p q ps qs same order other in
    let rest : SamePairs ps qs = same_rest p ps qs (subst (λ r. SamePairs (p ∷ ps) (r ∷ qs)) (sym first) same) in
    ap (λ r. r ∷ ps) first ∙ ap (λ rs. q ∷ rs) (one_order ps qs rest (behind_order p ps order) (behind_order q qs other))

pub sorted_is : (ps qs : List Pair) → IsPermutation ps qs → IsSorted pair_cmp qs → qs ≡ sorted ps
unfolding SamePairs
sorted_is ps qs permutes order =
    let other = sorted_permutes ps in
    sym (one_order (sorted ps) qs (λ f. sum_by-IsPermutation f ps qs permutes ∙ sym (sum_by-IsPermutation f ps (sorted ps) other)) (sorted_in_order ps) (in_order qs order))

pub sorted_sorted : (ps : List Pair) → IsSorted pair_cmp (sorted ps)
sorted_sorted ps = is_sorted (sorted ps) (sorted_in_order ps)
