-- Rising pairs of a list, as many as the list has, are the list in order.
use Rattle.std.proofs.Common.{◌≡◌, ℕ, zero, suc, ◌+◌, ◌<◌, false, List, [], ◌∷◌, ◌++◌, length, refl, sym, ap, subst, ◌∙◌, arith}
use Rattle.std.specs.Prelude.{get_or, IsPermutation, IsSorted, remove}
use Rattle.std.specs.List.{AllByRecursion, Contains}
use Rattle.std.specs.Ordering.{is_lt, ordering_reverse}
use Rattle.std.specs.declared.cmp.Ordering.{Ordering}
use Rattle.std.specs.declared.cmp.Ordering.TheVariants.{Less, Equal, Greater}
use Rattle.std.proofs.lemmas.Cmp.{tied_itself}
use Rattle.std.proofs.lemmas.List.Sorted.{IsPermutation-refl, IsPermutation-remove, IsPermutation-trans, IsPermutation-cons, Contains-permutation, length_permutation}
use Rattle.std.proofs.lemmas.Map.Made.{Contains-tail}
use Rattle.myi_keylist.specs.declared.pair.Pair.{Pair}
use Rattle.myi_keylist.specs.PairOrder.{pair_cmp, sorted}
use Rattle.myi_keylist.proofs.CallerLemmas.{pair_total, sorted_is}
use Rattle.myi_check.specs.Asked.{AreBelow, AreRising}

-- ---- one pair more

pub rising_more : (seen : List Pair) (p : Pair) → AreRising seen → AreBelow seen p → AreRising (seen ++ p ∷ [])
rising_more [] p rising below = (tt, tt)
rising_more (q ∷ qs) p rising below = (all_more qs p rising.0 below.0, rising_more qs p rising.1 below.1)
  where
    all_more : (qs : List Pair) (p : Pair) → AllByRecursion (λ r. pair_cmp q r ≡ Less) qs → pair_cmp q p ≡ Less → AllByRecursion (λ r. pair_cmp q r ≡ Less) (qs ++ p ∷ [])
    all_more [] p all is = (is, tt)
    all_more (r ∷ rs) p all is = (all.0, all_more rs p all.1 is)

pub below_more : (seen : List Pair) (p r : Pair) → AreBelow seen p → pair_cmp p r ≡ Less → AreBelow (seen ++ p ∷ []) r
below_more [] p r below is = (is, tt)
below_more (q ∷ qs) p r below is = (pair_total.trans q p r below.0 is, below_more qs p r below.1 is)

pub of_more : (Of : Pair → Type 0) (seen : List Pair) (p : Pair) → AllByRecursion Of seen → Of p → AllByRecursion Of (seen ++ p ∷ [])
of_more Of [] p all is = (is, tt)
of_more Of (q ∷ qs) p all is = (all.0, of_more Of qs p all.1 is)

-- ---- all of them

not_less : (p : Pair) → pair_cmp p p ≡ Less → ⊥
not_less p e = let k : ◌≡◌ {A = Ordering} Less Equal = sym e ∙ tied_itself pair_total p in absurd cc

-- those that are above the first stand among the others
behind : (p : Pair) (rest ps : List Pair) → AllByRecursion (λ q. pair_cmp p q ≡ Less) ps → AllByRecursion (Contains (p ∷ rest)) ps → AllByRecursion (Contains rest) ps
behind p rest [] above all = tt
behind p rest (q ∷ qs) above all = (Contains-tail p rest q (λ same. not_less p (ap (pair_cmp p) same ∙ above.0)) all.0, behind p rest qs above.1 all.1)

moved : (xs ys ps : List Pair) → IsPermutation xs ys → AllByRecursion (Contains xs) ps → AllByRecursion (Contains ys) ps
moved xs ys [] same all = tt
moved xs ys (p ∷ ps) same all = (Contains-permutation xs ys p same all.0, moved xs ys ps same all.1)

no_item : (xs : List Pair) → length xs ≡ 0 → xs ≡ []
no_item [] e = refl
no_item (x ∷ xs) e = absurd (omega arith)

pub rising_permuted : (list seen : List Pair) → AreRising seen → AllByRecursion (Contains list) seen → length seen ≡ length list → IsPermutation list seen
rising_permuted list [] rising all long = subst (λ (xs : List Pair). IsPermutation xs []) (sym (no_item list (sym long))) (IsPermutation-refl [])
rising_permuted list (p ∷ ps) rising all long =
    let (k, inside, is) = all.0 in
    let rest = remove list k in
    let out : IsPermutation list (p ∷ rest) = IsPermutation-remove list k p inside (sym is) in
    let few : length ps ≡ length rest = omega (arith, long, length_permutation list (p ∷ rest) out) in
    let more = rising_permuted rest ps rising.1 (behind p rest ps rising.0 (moved list (p ∷ rest) ps out all.1)) few in
    IsPermutation-trans list (p ∷ rest) (p ∷ ps) out (IsPermutation-cons p rest ps more)

-- ---- in order

reversed : (o : Ordering) → o ≡ Less → (r : Ordering) → o ≡ ordering_reverse r → is_lt r ≡ false
reversed o less r e = by r (sym less ∙ e)
  where
    by : (r : Ordering) → Less ≡ ordering_reverse r → is_lt r ≡ false
    by Less e = absurd cc
    by Equal e = refl
    by Greater e = refl

first_of : (p : Pair) (ps : List Pair) (d : Pair) → 0 < length ps → AllByRecursion (λ q. pair_cmp p q ≡ Less) ps → pair_cmp p (get_or ps 0 d) ≡ Less
first_of p [] d some all = absurd (omega arith)
first_of p (q ∷ qs) d some all = all.0

pub rising_sorted : (ps : List Pair) → AreRising ps → IsSorted pair_cmp ps
rising_sorted [] rising = λ k d low high. absurd (omega arith)
rising_sorted (p ∷ ps) rising = λ k d low high. by (rising_sorted ps rising.1) k d high
  where
    by : IsSorted pair_cmp ps → (k : ℕ) (d : Pair) → k + 1 < length (p ∷ ps) → is_lt (pair_cmp (get_or (p ∷ ps) (k + 1) d) (get_or (p ∷ ps) k d)) ≡ false
    by more zero d high = reversed (pair_cmp p (get_or ps 0 d)) (first_of p ps d (omega (arith, high)) rising.0) (pair_cmp (get_or ps 0 d) p) (pair_total.antisymm p (get_or ps 0 d))
    by more (suc k) d high = let e : suc k + 1 ≡ suc (k + 1) = omega arith in ap (λ n. is_lt (pair_cmp (get_or (p ∷ ps) n d) (get_or (p ∷ ps) (suc k) d))) e ∙ more k d (omega arith) (omega (arith, high))

-- rising pairs that are all in a list, as many as it has, are the list in order
pub rising_all : (list seen : List Pair) → AreRising seen → AllByRecursion (Contains list) seen → length seen ≡ length list → seen ≡ sorted list
rising_all list seen rising all long = sorted_is list seen (rising_permuted list seen rising all long) (rising_sorted seen rising)
