-- Places of the rows of a list: sorting is a permutation in order, and there is one such list.
use Rattle.std.proofs.Common.{◌≡◌, ℕ, zero, suc, ◌+◌, ◌<◌, Bool, true, false, cond, List, [], ◌∷◌, length, get_or, refl, sym, ap, subst, ◌∙◌, arith, IsPermutation, IsSorted, sum_by}
use Rattle.std.specs.Prelude.{if◌then◌else◌}
use Rattle.std.proofs.lemmas.Cmp.{nat_cmp_total, on_total, then_total, tied_itself, alike_right}
use Rattle.std.proofs.lemmas.List.Sorted.{IsPermutation-refl, IsPermutation-trans, IsPermutation-cons, IsPermutation-middle, sum_by-IsPermutation}
use Rattle.std.proofs.lemmas.List.Sums.{sum_by-cons}
use Rattle.std.proofs.lemmas.Bool.Decides.{nat_tests}
use Rattle.std.specs.Ordering.{nat_cmp, ordering_then, ordering_reverse, is_gt, is_lt, is_eq}
use Rattle.std.specs.Cmp.{IsTotalOrder}
use Rattle.std.specs.declared.cmp.Ordering.{Ordering}
use Rattle.std.specs.declared.cmp.Ordering.TheVariants.{Less, Equal, Greater}
use Rattle.myi_keys.specs.declared.values.KeySeg.{KeySeg}
use Rattle.myi_keys.specs.Order.{key_cmp}
use Rattle.myi_keys.specs.OrderLaws.{key_total, key_exact}
use Rattle.myi_history.specs.Reads.{MergedPlace, place_cmp}

-- the order of places

pub place_total : IsTotalOrder place_cmp
place_total = then_total (on_total (λ (p : MergedPlace). p.key) key_total) (then_total (on_total (λ (p : MergedPlace). p.table) nat_cmp_total) (on_total (λ (p : MergedPlace). p.at) nat_cmp_total))

then_equal : (a b : Ordering) → ordering_then a b ≡ Equal → (a ≡ Equal) × (b ≡ Equal)
then_equal Less b same = absurd cc
then_equal Equal b same = (refl, same)
then_equal Greater b same = absurd cc

row_exact : (m n : ℕ) → nat_cmp m n ≡ Equal → m ≡ n
row_exact m n same = grind (arith, nat_tests)

abbrev place_with : List KeySeg → ℕ → ℕ → MergedPlace
place_with key table at = record { key = key; table = table; at = at }

pub place_exact : (p q : MergedPlace) → place_cmp p q ≡ Equal → p ≡ q
place_exact p q same =
    let both = then_equal (key_cmp p.key q.key) (ordering_then (nat_cmp p.table q.table) (nat_cmp p.at q.at)) same in
    let more = then_equal (nat_cmp p.table q.table) (nat_cmp p.at q.at) both.1 in
    ap (λ key. place_with key p.table p.at) (key_exact p.key q.key both.0) ∙ ap (λ table. place_with q.key table p.at) (row_exact p.table q.table more.0) ∙ ap (λ at. place_with q.key q.table at) (row_exact p.at q.at more.1)

-- a list in order: no place is above the one behind it

unfoldable pub Behind : MergedPlace → List MergedPlace → Type 0
Behind p [] = Unit {0}
Behind p (q ∷ qs) = (is_gt (place_cmp p q) ≡ false) × Behind q qs

unfoldable pub InOrder : List MergedPlace → Type 0
InOrder [] = Unit {0}
InOrder (p ∷ ps) = Behind p ps

-- a place put among others, and places in order
abbrev pub put_place : MergedPlace → List MergedPlace → List MergedPlace
put_place p [] = p ∷ []
put_place p (q ∷ qs) = if is_gt (place_cmp p q) then q ∷ put_place p qs else p ∷ q ∷ qs

abbrev pub in_places : List MergedPlace → List MergedPlace
in_places [] = []
in_places (p ∷ ps) = put_place p (in_places ps)

-- sorting keeps the places, and puts them in order

put_permutes : (p : MergedPlace) (qs : List MergedPlace) → IsPermutation (p ∷ qs) (put_place p qs)
put_permutes p [] = IsPermutation-refl (p ∷ [])
put_permutes p (q ∷ qs) = choose (is_gt (place_cmp p q)) (put_permutes p qs)
  where
    choose : (b : Bool) → IsPermutation (p ∷ qs) (put_place p qs) → IsPermutation (p ∷ q ∷ qs) (cond b (q ∷ put_place p qs) (p ∷ q ∷ qs))
    choose false others = IsPermutation-refl (p ∷ q ∷ qs)
    choose true others = IsPermutation-trans (p ∷ q ∷ qs) (q ∷ p ∷ qs) (q ∷ put_place p qs) (IsPermutation-middle (p ∷ []) q qs) (IsPermutation-cons q (p ∷ qs) (put_place p qs) others)

pub sorted_permutes : (ps : List MergedPlace) → IsPermutation ps (in_places ps)
sorted_permutes [] = IsPermutation-refl []
sorted_permutes (p ∷ ps) = IsPermutation-trans (p ∷ ps) (p ∷ in_places ps) (put_place p (in_places ps)) (IsPermutation-cons p ps (in_places ps) (sorted_permutes ps)) (put_permutes p (in_places ps))

not_gt : (o : Ordering) → is_gt o ≡ true → is_gt (ordering_reverse o) ≡ false
not_gt Less is = absurd cc
not_gt Equal is = absurd cc
not_gt Greater is = refl

turned : (p q : MergedPlace) → is_gt (place_cmp p q) ≡ true → is_gt (place_cmp q p) ≡ false
turned p q is = ap is_gt (place_total.antisymm q p) ∙ not_gt (place_cmp p q) is

put_behind : (r p : MergedPlace) (qs : List MergedPlace) → is_gt (place_cmp r p) ≡ false → Behind r qs → Behind r (put_place p qs)
unfolding Behind
put_behind r p [] low behind = (low, tt)
put_behind r p (q ∷ qs) low behind = choose (is_gt (place_cmp p q)) refl (λ up. put_behind q p qs up behind.1)
  where
    choose : (b : Bool) → is_gt (place_cmp p q) ≡ b → (is_gt (place_cmp q p) ≡ false → Behind q (put_place p qs)) → Behind r (cond b (q ∷ put_place p qs) (p ∷ q ∷ qs))
    choose false is others = (low, (is, behind.1))
    choose true is others = (behind.0, others (turned p q is))

put_in_order : (p : MergedPlace) (qs : List MergedPlace) → InOrder qs → InOrder (put_place p qs)
unfolding InOrder Behind
put_in_order p [] order = tt
put_in_order p (q ∷ qs) order = choose (is_gt (place_cmp p q)) refl
  where
    choose : (b : Bool) → is_gt (place_cmp p q) ≡ b → InOrder (cond b (q ∷ put_place p qs) (p ∷ q ∷ qs))
    choose false is = (is, order)
    choose true is = put_behind q p qs (turned p q is) order

pub sorted_in_order : (ps : List MergedPlace) → InOrder (in_places ps)
unfolding InOrder
sorted_in_order [] = tt
sorted_in_order (p ∷ ps) = put_in_order p (in_places ps) (sorted_in_order ps)

-- the same, said by places

not_lt : (o : Ordering) → is_gt o ≡ false → is_lt (ordering_reverse o) ≡ false
not_lt Less is = refl
not_lt Equal is = refl
not_lt Greater is = absurd cc

not_lt_back : (o : Ordering) → is_lt (ordering_reverse o) ≡ false → is_gt o ≡ false
not_lt_back Less is = refl
not_lt_back Equal is = refl
not_lt_back Greater is = absurd cc

at_places : (p : MergedPlace) (ps : List MergedPlace) → Behind p ps → (k : ℕ) (d : MergedPlace) → k + 1 < length (p ∷ ps) → is_lt (place_cmp (get_or (p ∷ ps) (k + 1) d) (get_or (p ∷ ps) k d)) ≡ false
unfolding Behind
at_places p [] behind k d inside = absurd (omega arith)
at_places p (q ∷ qs) behind zero d inside = ap is_lt (place_total.antisymm q p) ∙ not_lt (place_cmp p q) behind.0
at_places p (q ∷ qs) behind (suc k) d inside =
    let e : suc k + 1 ≡ suc (k + 1) = omega arith in
    rw e (at_places q qs behind.1 k d (omega arith))

pub is_sorted : (ps : List MergedPlace) → InOrder ps → IsSorted place_cmp ps
unfolding InOrder
is_sorted [] order = λ k d low inside. absurd (omega arith)
is_sorted (p ∷ ps) order = λ k d low inside. at_places p ps order k d inside

from_places : (p : MergedPlace) (ps : List MergedPlace) → ((k : ℕ) (d : MergedPlace) → k + 1 < length (p ∷ ps) → is_lt (place_cmp (get_or (p ∷ ps) (k + 1) d) (get_or (p ∷ ps) k d)) ≡ false) → Behind p ps
unfolding Behind
from_places p [] low = tt
from_places p (q ∷ qs) low = (
  not_lt_back (place_cmp p q) (sym (ap is_lt (place_total.antisymm q p)) ∙ low 0 p (omega arith)),
  from_places q qs (λ k d inside. let e : suc k + 1 ≡ suc (k + 1) = omega arith in rw e at (low (suc k) d (omega arith))),
)

pub in_order : (ps : List MergedPlace) → IsSorted place_cmp ps → InOrder ps
unfolding InOrder
in_order [] rising = tt
in_order (p ∷ ps) rising = from_places p ps (λ k d inside. rising k d (omega arith) inside)

-- there is one list in order with the same places

AllAbove : MergedPlace → List MergedPlace → Type 0
AllAbove low [] = Unit {0}
AllAbove low (q ∷ qs) = (place_cmp low q ≡ Less) × AllAbove low qs

still_less : (low p q : MergedPlace) → place_cmp low p ≡ Less → is_gt (place_cmp p q) ≡ false → place_cmp low q ≡ Less
still_less low p q less order = by (place_cmp p q) refl order
  where
    by : (o : Ordering) → place_cmp p q ≡ o → is_gt o ≡ false → place_cmp low q ≡ Less
    by Less is order = place_total.trans low p q less is
    by Equal is order = sym (alike_right place_total p q low is) ∙ less
    by Greater is order = absurd cc

all_above : (low p : MergedPlace) (qs : List MergedPlace) → place_cmp low p ≡ Less → Behind p qs → AllAbove low (p ∷ qs)
unfolding Behind AllAbove
all_above low p [] less behind = (less, tt)
all_above low p (q ∷ qs) less behind = (less, all_above low q qs (still_less low p q less behind.0) behind.1)

-- how often a place is there
times : MergedPlace → MergedPlace → ℕ
times p q = cond (is_eq (place_cmp p q)) 1 0

never : (low : MergedPlace) (ps : List MergedPlace) → AllAbove low ps → sum_by (times low) ps ≡ 0
unfolding AllAbove times
never low [] above = refl
never low (p ∷ ps) above = sum_by-cons (times low) p ps ∙ omega (arith, ap (λ o. cond {A = ℕ} (is_eq o) 1 0) above.0, never low ps above.1)

once : (p : MergedPlace) (ps : List MergedPlace) → 0 < sum_by (times p) (p ∷ ps)
unfolding times
once p ps = omega (arith, sum_by-cons (times p) p ps, ap (λ o. cond {A = ℕ} (is_eq o) 1 0) (tied_itself place_total p))

SamePlaces : List MergedPlace → List MergedPlace → Type 0
SamePlaces ps qs = (f : MergedPlace → ℕ) → sum_by f qs ≡ sum_by f ps

same_first : (p q : MergedPlace) (ps qs : List MergedPlace) → SamePlaces (p ∷ ps) (q ∷ qs) → Behind p ps → Behind q qs → p ≡ q
unfolding SamePlaces
same_first p q ps qs same order other = by (place_cmp p q) refl
  where
    by : (o : Ordering) → place_cmp p q ≡ o → p ≡ q
    by Equal is = place_exact p q is
    by Less is = absurd (omega (arith, never p (q ∷ qs) (all_above p q qs is other), once p ps, same (times p)))
    by Greater is =
        let less : place_cmp q p ≡ Less = place_total.antisymm q p ∙ ap ordering_reverse is in
        absurd (omega (arith, never q (p ∷ ps) (all_above q p ps less order), once q qs, same (times q)))

same_rest : (p : MergedPlace) (ps qs : List MergedPlace) → SamePlaces (p ∷ ps) (p ∷ qs) → SamePlaces ps qs
unfolding SamePlaces
same_rest p ps qs same = λ f. omega (arith, same f, sum_by-cons f p ps, sum_by-cons f p qs)

pub behind_order : (p : MergedPlace) (ps : List MergedPlace) → Behind p ps → InOrder ps
unfolding Behind InOrder
behind_order p [] behind = tt
behind_order p (q ∷ qs) behind = behind.1

-- a list that is not empty has a place
some_place : (p : MergedPlace) (ps : List MergedPlace) → SamePlaces (p ∷ ps) [] → ⊥
unfolding SamePlaces
some_place p ps same = omega (arith, same (λ q. 1), sum_by-cons (λ q. 1) p ps)

no_place : (p : MergedPlace) (ps : List MergedPlace) → SamePlaces [] (p ∷ ps) → ⊥
unfolding SamePlaces
no_place p ps same = omega (arith, same (λ q. 1), sum_by-cons (λ q. 1) p ps)

one_order : (ps qs : List MergedPlace) → SamePlaces ps qs → InOrder ps → InOrder qs → ps ≡ qs
unfolding InOrder
one_order [] [] same order other = refl
one_order [] (q ∷ qs) same order other = absurd (no_place q qs same)
one_order (p ∷ ps) [] same order other = absurd (some_place p ps same)
one_order (p ∷ ps) (q ∷ qs) same order other =
    let first : p ≡ q = same_first p q ps qs same order other in
    let rest : SamePlaces ps qs = same_rest p ps qs (subst (λ r. SamePlaces (p ∷ ps) (r ∷ qs)) (sym first) same) in
    ap (λ r. r ∷ ps) first ∙ ap (λ rs. q ∷ rs) (one_order ps qs rest (behind_order p ps order) (behind_order q qs other))

pub sorted_is : (ps qs : List MergedPlace) → IsPermutation ps qs → IsSorted place_cmp qs → qs ≡ in_places ps
unfolding SamePlaces
sorted_is ps qs permutes order =
    let other = sorted_permutes ps in
    sym (one_order (in_places ps) qs (λ f. sum_by-IsPermutation f ps qs permutes ∙ sym (sum_by-IsPermutation f ps (in_places ps) other)) (sorted_in_order ps) (in_order qs order))

pub sorted_sorted : (ps : List MergedPlace) → IsSorted place_cmp (in_places ps)
sorted_sorted ps = is_sorted (in_places ps) (sorted_in_order ps)
