-- In a list in order equal keys stand together.
use Rattle.std.proofs.Common.{◌≡◌, ℕ, zero, suc, ◌<◌, false, List, [], ◌∷◌, length, get_or, refl, sym, ap, subst, ◌∙◌, arith, IsSorted}
use Rattle.std.proofs.lemmas.Cmp.{alike_right}
use Rattle.std.specs.Cmp.{IsTotalOrder}
use Rattle.std.specs.Ordering.{nat_cmp, ordering_then, ordering_reverse, is_gt}
use Rattle.std.specs.declared.cmp.Ordering.{Ordering}
use Rattle.std.specs.declared.cmp.Ordering.TheVariants.{Less, Equal, Greater}
use Rattle.myi_keys.specs.declared.values.KeySeg.{KeySeg}
use Rattle.myi_keys.specs.Order.{key_cmp}
use Rattle.myi_keys.specs.OrderLaws.{key_total, key_exact}
use Rattle.myi_keylist.specs.declared.pair.Pair.{Pair}
use Rattle.myi_keylist.specs.PairOrder.{pair_cmp}
use Rattle.myi_keylist.proofs.SortedLaws.{Behind, InOrder, in_order, behind_order}

pub up_through : {K : Type 0} {R : K → K → Ordering} → IsTotalOrder R → (a b c : K) → is_gt (R a b) ≡ false → is_gt (R b c) ≡ false → is_gt (R a c) ≡ false
up_through {K} {R} total a b c first second = by (R a b) (R b c) refl refl first second
  where
    by : (o u : Ordering) → R a b ≡ o → R b c ≡ u → is_gt o ≡ false → is_gt u ≡ false → is_gt (R a c) ≡ false
    by Less Less is isnt low high = ap is_gt (total.trans a b c is isnt)
    by Less Equal is isnt low high = ap is_gt (sym (alike_right total b c a isnt) ∙ is)
    by Less Greater is isnt low high = absurd cc
    by Equal u is isnt low high = ap is_gt (total.congr a b c is ∙ isnt) ∙ high
    by Greater u is isnt low high = absurd cc

key_up : (p q : Pair) → is_gt (pair_cmp p q) ≡ false → is_gt (key_cmp p.key q.key) ≡ false
key_up p q low = by (key_cmp p.key q.key) low
  where
    by : (o : Ordering) → is_gt (ordering_then o (nat_cmp p.row q.row)) ≡ false → is_gt o ≡ false
    by Less low = refl
    by Equal low = refl
    by Greater low = absurd cc

behind_up : (p : Pair) (qs : List Pair) → Behind p qs → (i : ℕ) (d : Pair) → i < length qs → is_gt (key_cmp p.key (get_or qs i d).key) ≡ false
unfolding Behind
behind_up p [] behind i d few = absurd (omega arith)
behind_up p (q ∷ qs) behind zero d few = key_up p q behind.0
behind_up p (q ∷ qs) behind (suc i) d few = up_through key_total p.key q.key (get_or qs i d).key (key_up p q behind.0) (behind_up q qs behind.1 i d (omega arith))

places_up : (ps : List Pair) → InOrder ps → (i j : ℕ) (d : Pair) → i < j → j < length ps → is_gt (key_cmp (get_or ps i d).key (get_or ps j d).key) ≡ false
unfolding InOrder
places_up [] order i j d low few = absurd (omega arith)
places_up (p ∷ ps) order i zero d low few = absurd (omega arith)
places_up (p ∷ ps) order zero (suc j) d low few = behind_up p ps order j d (omega arith)
places_up (p ∷ ps) order (suc i) (suc j) d low few = places_up ps (behind_order p ps order) i j d (omega arith) (omega arith)

up_and_down : (a b : List KeySeg) → is_gt (key_cmp a b) ≡ false → is_gt (key_cmp b a) ≡ false → b ≡ a
up_and_down a b up down = by (key_cmp a b) refl up (sym (ap is_gt (key_total.antisymm b a)) ∙ down)
  where
    by : (o : Ordering) → key_cmp a b ≡ o → is_gt o ≡ false → is_gt (ordering_reverse (key_cmp a b)) ≡ false → b ≡ a
    by Less is up down = absurd (let e = sym (ap (λ u. is_gt (ordering_reverse u)) is) ∙ down in cc)
    by Equal is up down = sym (key_exact a b is)
    by Greater is up down = absurd cc

pub together : (ps : List Pair) → InOrder ps → (i j k : ℕ) (d : Pair) → i < j → j < k → k < length ps → (get_or ps i d).key ≡ (get_or ps k d).key → (get_or ps j d).key ≡ (get_or ps i d).key
together ps order i j k d low high few same =
    up_and_down (get_or ps i d).key (get_or ps j d).key (places_up ps order i j d low (omega (arith, high, few)))
    (subst (λ key. is_gt (key_cmp (get_or ps j d).key key) ≡ false) (sym same) (places_up ps order j k d high few))

pub stand_together : (ps : List Pair) (i j k : ℕ) (d : Pair) → IsSorted pair_cmp ps → i < j → j < k → k < length ps → (get_or ps i d).key ≡ (get_or ps k d).key → (get_or ps j d).key ≡ (get_or ps i d).key
stand_together ps i j k d sorted low high few same = together ps (in_order ps sorted) i j k d low high few same
