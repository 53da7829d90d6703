-- Lists of pairs in order, of which one is put in or taken out.
use Rattle.std.proofs.Common.{◌≡◌, Bool, true, false, ◌||◌, List, [], ◌∷◌, refl, ap, ◌∙◌, inl, inr}
use Rattle.std.specs.List.{AllByRecursion}
use Rattle.std.specs.List.Sorted.{IsStrictlySortedBy, IsPermutation}
use Rattle.std.specs.Ordering.{is_gt, is_eq, ordering_reverse}
use Rattle.std.specs.declared.cmp.Ordering.{Ordering}
use Rattle.std.specs.declared.cmp.Ordering.TheVariants.{Less, Equal, Greater}
use Rattle.std.proofs.lemmas.Bool.{cases_Bool}
use Rattle.std.proofs.lemmas.Cmp.{tied_itself}
use Rattle.std.proofs.lemmas.List.Sorted.{IsPermutation-sym, IsPermutation-trans}
use Rattle.myi_keylist.specs.declared.pair.Pair.{Pair}
use Rattle.myi_keylist.specs.PairOrder.{pair_cmp, put_pair, sorted}
use Rattle.myi_keylist.proofs.CallerLemmas.{pair_total, sorted_permutes, sorted_sorted, sorted_is}
use Rattle.myi_insertion.specs.Removal.{has_pair, without_pair}

-- lists with the same pairs are one list in order
pub sorted_same : (ps qs : List Pair) → IsPermutation ps qs → sorted ps ≡ sorted qs
sorted_same ps qs same = sorted_is qs (sorted ps) (IsPermutation-trans qs ps (sorted ps) (IsPermutation-sym ps qs same) (sorted_permutes ps)) (sorted_sorted ps)

pub itself : (p : Pair) → pair_cmp p p ≡ Equal
itself p = tied_itself pair_total p

greater_only : (o : Ordering) → is_gt o ≡ true → is_eq o ≡ false
greater_only Less is = absurd cc
greater_only Equal is = absurd cc
greater_only Greater is = refl

-- a pair that was put in is taken out again
pub put_without : (p : Pair) (qs : List Pair) → without_pair p (put_pair p qs) ≡ qs
put_without p [] = rw (itself p) refl
put_without p (q ∷ qs) =
    elim (cases_Bool (is_gt (pair_cmp p q))) [
      | inl is ↦ rw is (rw (greater_only (pair_cmp p q) is) (ap (λ (t : List Pair). q ∷ t) (put_without p qs)))
      | inr other ↦ rw other (rw (itself p) refl)
    ]

or_true : (b : Bool) → (b || true) ≡ true
or_true true = refl
or_true false = refl

pub put_has : (p : Pair) (qs : List Pair) → has_pair p (put_pair p qs) ≡ true
put_has p [] = rw (itself p) refl
put_has p (q ∷ qs) =
    elim (cases_Bool (is_gt (pair_cmp p q))) [
      | inl is ↦ rw is (rw (put_has p qs) (or_true (is_eq (pair_cmp p q))))
      | inr other ↦ rw other (rw (itself p) refl)
    ]

-- ---- no two alike

-- the pair is none of these
abbrev pub IsOther : Pair → List Pair → Type 0
IsOther p qs = AllByRecursion (λ q. is_eq (pair_cmp p q) ≡ false) qs

below_of : (o : Ordering) → is_gt o ≡ false → is_eq o ≡ false → o ≡ Less
below_of Less a b = refl
below_of Equal a b = absurd cc
below_of Greater a b = absurd cc

above_of : (o : Ordering) → is_gt o ≡ true → o ≡ Greater
above_of Less a = absurd cc
above_of Equal a = absurd cc
above_of Greater a = refl

all_below : (p q : Pair) (rs : List Pair) → pair_cmp p q ≡ Less → AllByRecursion (λ r. pair_cmp q r ≡ Less) rs → AllByRecursion (λ r. pair_cmp p r ≡ Less) rs
all_below p q [] less all = tt
all_below p q (r ∷ rs) less all = (pair_total.trans p q r less all.0, all_below p q rs less all.1)

put_all : (P : Pair → Type 0) (p : Pair) (qs : List Pair) → P p → AllByRecursion P qs → AllByRecursion P (put_pair p qs)
put_all P p [] own all = (own, tt)
put_all P p (q ∷ qs) own all =
    elim (cases_Bool (is_gt (pair_cmp p q))) [
      | inl is ↦ rw is (all.0, put_all P p qs own all.1)
      | inr other ↦ rw other (own, all)
    ]

pub put_strict : (p : Pair) (qs : List Pair) → IsOther p qs → IsStrictlySortedBy pair_cmp qs → IsStrictlySortedBy pair_cmp (put_pair p qs)
unfolding IsStrictlySortedBy
put_strict p [] others strict = (tt, tt)
put_strict p (q ∷ qs) others strict =
    elim (cases_Bool (is_gt (pair_cmp p q))) [
      | inl is ↦ rw is (put_all (λ r. pair_cmp q r ≡ Less) p qs (pair_total.antisymm q p ∙ ap ordering_reverse (above_of (pair_cmp p q) is)) strict.0, put_strict p qs others.1 strict.1)
      | inr other ↦
          let less = below_of (pair_cmp p q) other others.0 in
          rw other ((less, all_below p q qs less strict.0), strict)
    ]
