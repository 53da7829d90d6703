-- Where a pair goes.
use Rattle.std.proofs.Common.{◌≡◌, true, false, List, [], ◌∷◌, ◌++◌, length, refl, sym, ap, subst, ◌∙◌, append_assoc, inl, inr, arith}
use Rattle.std.specs.List.{AllByRecursion}
use Rattle.std.specs.List.Sorted.{IsStrictlySortedBy}
use Rattle.std.specs.Ordering.{is_gt, is_eq, ordering_reverse}
use Rattle.std.specs.declared.cmp.Ordering.{Ordering}
use Rattle.std.specs.declared.cmp.Ordering.TheVariants.{Less, Equal, Greater}
use Rattle.std.proofs.lemmas.Bool.{cases_Bool}
use Rattle.std.proofs.lemmas.List.{append-nil}
use Rattle.myi_keylist.specs.declared.pair.Pair.{Pair}
use Rattle.myi_keylist.specs.PairOrder.{pair_cmp, put_pair}
use Rattle.myi_keylist.proofs.CallerLemmas.{pair_total}
use Rattle.myi_insertion.specs.Strips.{lefts, rights}
use Rattle.myi_insertion.specs.Ordered.{AreBefore, BeginsBehind, begins_with}
use Rattle.myi_insertion.specs.Removal.{has_pair, without_pair}

put_right : (p : Pair) (m r : List Pair) → BeginsBehind p r → put_pair p (m ++ r) ≡ put_pair p m ++ r
put_right p [] [] h = refl
put_right p [] (q ∷ r) h = rw h refl
put_right p (q ∷ m) r h =
    elim (cases_Bool (is_gt (pair_cmp p q))) [
      | inl is ↦ rw is (ap (λ (t : List Pair). q ∷ t) (put_right p m r h))
      | inr other ↦ rw other refl
    ]

pub put_sides : (p : Pair) (l m r : List Pair) → AreBefore p l → BeginsBehind p r → put_pair p ((l ++ m) ++ r) ≡ (l ++ put_pair p m) ++ r
put_sides p [] m r b h = put_right p m r h
put_sides p (q ∷ l) m r b h = rw b.0 (ap (λ (t : List Pair). q ∷ t) (put_sides p l m r b.1 h))

pub put_at : (p : Pair) (l r : List Pair) → AreBefore p l → BeginsBehind p r → put_pair p (l ++ r) ≡ (l ++ p ∷ []) ++ r
put_at p l r b h = ap (λ (t : List Pair). put_pair p (t ++ r)) (sym (append-nil l)) ∙ put_sides p l [] r b h

sorted_right : (l r : List Pair) → IsStrictlySortedBy pair_cmp (l ++ r) → IsStrictlySortedBy pair_cmp r
unfolding IsStrictlySortedBy
sorted_right [] r s = s
sorted_right (p ∷ l) r s = sorted_right l r s.1

all_front : {A : Type 0} (P : A → Type 0) (xs ys : List A) → AllByRecursion P (xs ++ ys) → AllByRecursion P xs
all_front P [] ys h = tt
all_front P (x ∷ xs) ys h = (h.0, all_front P xs ys h.1)

all_back : {A : Type 0} (P : A → Type 0) (xs ys : List A) → AllByRecursion P (xs ++ ys) → AllByRecursion P ys
all_back P [] ys h = h
all_back P (x ∷ xs) ys h = all_back P xs ys h.1

pub sorted_left : (l r : List Pair) → IsStrictlySortedBy pair_cmp (l ++ r) → IsStrictlySortedBy pair_cmp l
unfolding IsStrictlySortedBy
sorted_left [] r s = tt
sorted_left (p ∷ l) r s = (all_front (λ q. pair_cmp p q ≡ Less) l r s.0, sorted_left l r s.1)

pub sorted_mid : (l m r : List Pair) → IsStrictlySortedBy pair_cmp ((l ++ m) ++ r) → IsStrictlySortedBy pair_cmp m
sorted_mid l m r s = sorted_right l m (sorted_left (l ++ m) r s)

greater : (r : Ordering) → is_gt r ≡ true → r ≡ Greater
greater Less e = absurd cc
greater Equal e = absurd cc
greater Greater e = refl

-- what is below a pair before another one stands before that too
before_then : (q e p : Pair) → pair_cmp q e ≡ Less → is_gt (pair_cmp p e) ≡ true → is_gt (pair_cmp p q) ≡ true
before_then q e p less more =
    let below : pair_cmp e p ≡ Less = pair_total.antisymm e p ∙ ap ordering_reverse (greater (pair_cmp p e) more) in
    ap is_gt (pair_total.antisymm p q ∙ ap ordering_reverse (pair_total.trans q e p less below))

before_last : (l : List Pair) (e p : Pair) → IsStrictlySortedBy pair_cmp (l ++ e ∷ []) → is_gt (pair_cmp p e) ≡ true → AreBefore p (l ++ e ∷ [])
unfolding IsStrictlySortedBy
before_last [] e p s h = (h, tt)
before_last (q ∷ l) e p s h = (before_then q e p (all_back (λ r. pair_cmp q r ≡ Less) l (e ∷ []) s.0).0 h, before_last l e p s.1 h)

all_join : (P : Pair → Type 0) (xs ys : List Pair) → AllByRecursion P xs → AllByRecursion P ys → AllByRecursion P (xs ++ ys)
all_join P [] ys h k = k
all_join P (x ∷ xs) ys h k = (h.0, all_join P xs ys h.1 k)

-- all that stands left of where a pair goes is below it
pub lefts_before : (cs : List (List Pair)) (ps : List Pair) (p : Pair) → IsStrictlySortedBy pair_cmp (lefts cs ps) → AreBefore p ps → AreBefore p (lefts cs ps)
lefts_before [] ps p s b = tt
lefts_before (c ∷ cs) [] p s b = tt
lefts_before (c ∷ cs) (e ∷ ps) p s b =
    let assoc : (c ++ e ∷ []) ++ lefts cs ps ≡ c ++ e ∷ lefts cs ps = append_assoc c (e ∷ []) (lefts cs ps) in
    let s2 : IsStrictlySortedBy pair_cmp ((c ++ e ∷ []) ++ lefts cs ps) = subst (λ (t : List Pair). IsStrictlySortedBy pair_cmp t) (sym assoc) s in
    let front = before_last c e p (sorted_left (c ++ e ∷ []) (lefts cs ps) s2) b.0 in
    let back = lefts_before cs ps p (sorted_right (c ++ e ∷ []) (lefts cs ps) s2) b.1 in
    subst (λ (t : List Pair). AreBefore p t) assoc (all_join (λ q. is_gt (pair_cmp p q) ≡ true) (c ++ e ∷ []) (lefts cs ps) front back)

pub rights_behind : (cs : List (List Pair)) (ps : List Pair) (p : Pair) → length cs ≡ length ps → BeginsBehind p ps → BeginsBehind p (rights ps cs)
rights_behind cs [] p n h = tt
rights_behind [] (q ∷ ps) p n h = tt
rights_behind (c ∷ cs) (q ∷ ps) p n h = h

-- where the pair stands among the others
pub put_between : (p : Pair) (xs : List Pair) → (a b : List Pair) × (xs ≡ a ++ b) × (put_pair p xs ≡ a ++ p ∷ b) × AreBefore p a × BeginsBehind p b
put_between p [] = ([], [], refl, refl, tt, tt)
put_between p (q ∷ qs) =
    elim (cases_Bool (is_gt (pair_cmp p q))) [
      | inl is ↦ let k = put_between p qs in (q ∷ k.0, k.1, ap (λ (t : List Pair). q ∷ t) k.2, rw is (ap (λ (t : List Pair). q ∷ t) k.3), (is, k.4), k.5)
      | inr other ↦ ([], q ∷ qs, refl, rw other refl, tt, other)
    ]

-- a pair is below those behind the first that it is below
below_all : (p q : Pair) (qs : List Pair) → pair_cmp p q ≡ Less → AllByRecursion (λ r. pair_cmp q r ≡ Less) qs → AllByRecursion (λ r. pair_cmp p r ≡ Less) qs
below_all p q [] less h = tt
below_all p q (r ∷ qs) less h = (pair_total.trans p q r less h.0, below_all p q qs less h.1)

less_from : (r : Ordering) → is_gt r ≡ false → (r ≡ Equal → ⊥) → r ≡ Less
less_from Less e differ = refl
less_from Equal e differ = absurd (differ refl)
less_from Greater e differ = absurd cc

put_all : (q p : Pair) (qs : List Pair) → pair_cmp q p ≡ Less → AllByRecursion (λ r. pair_cmp q r ≡ Less) qs → AllByRecursion (λ r. pair_cmp q r ≡ Less) (put_pair p qs)
put_all q p [] less h = (less, tt)
put_all q p (r ∷ qs) less h =
    elim (cases_Bool (is_gt (pair_cmp p r))) [
      | inl is ↦ rw is (h.0, put_all q p qs less h.1)
      | inr other ↦ rw other (less, h)
    ]

pub put_sorted : (p : Pair) (xs : List Pair) → IsStrictlySortedBy pair_cmp xs → AllByRecursion (λ q. pair_cmp p q ≡ Equal → ⊥) xs → IsStrictlySortedBy pair_cmp (put_pair p xs)
unfolding IsStrictlySortedBy
put_sorted p [] s differ = (tt, tt)
put_sorted p (q ∷ qs) s differ =
    elim (cases_Bool (is_gt (pair_cmp p q))) [
      | inl is ↦ let below : pair_cmp q p ≡ Less = pair_total.antisymm q p ∙ ap ordering_reverse (greater (pair_cmp p q) is) in rw is (put_all q p qs below s.0, put_sorted p qs s.1 differ.1)
      | inr other ↦ let less = less_from (pair_cmp p q) other differ.0 in rw other ((less, below_all p q qs less s.0), s)
    ]

-- ---- where a pair is sought

equal_is : (r : Ordering) → is_eq r ≡ true → r ≡ Equal
equal_is Less e = absurd cc
equal_is Equal e = refl
equal_is Greater e = absurd cc

differs_is : (r : Ordering) → is_eq r ≡ false → r ≡ Equal → ⊥
differs_is Less e f = absurd cc
differs_is Equal e f = absurd cc
differs_is Greater e f = absurd cc

differs_not : (r : Ordering) → (r ≡ Equal → ⊥) → is_eq r ≡ false
differs_not Less f = refl
differs_not Equal f = absurd (f refl)
differs_not Greater f = refl

-- the first of some pairs is the pair
pub begins_is : (p : Pair) (qs : List Pair) → begins_with p qs ≡ true → (q : Pair) × (rest : List Pair) × (qs ≡ q ∷ rest) × (pair_cmp p q ≡ Equal)
begins_is p [] e = absurd cc
begins_is p (q ∷ rest) e = (q, rest, refl, equal_is (pair_cmp p q) e)

pub rights_begin : (cs : List (List Pair)) (ps : List Pair) (p : Pair) → length cs ≡ length ps → begins_with p ps ≡ false → begins_with p (rights ps cs) ≡ false
rights_begin cs [] p n h = refl
rights_begin [] (q ∷ ps) p n h = absurd (omega arith)
rights_begin (c ∷ cs) (q ∷ ps) p n h = h

-- none of those before where the pair goes is it, and none behind, where the first is not
pub none_before : (p : Pair) (qs : List Pair) → AreBefore p qs → AllByRecursion (λ q. pair_cmp p q ≡ Equal → ⊥) qs
none_before p [] b = tt
none_before p (q ∷ qs) b = (λ e. let k : is_gt Equal ≡ true = sym (ap is_gt e) ∙ b.0 in absurd cc, none_before p qs b.1)

less_none : (p : Pair) (qs : List Pair) → AllByRecursion (λ r. pair_cmp p r ≡ Less) qs → AllByRecursion (λ q. pair_cmp p q ≡ Equal → ⊥) qs
less_none p [] h = tt
less_none p (q ∷ qs) h = (λ e. let k : Less ≡ Equal = sym h.0 ∙ e in absurd cc, less_none p qs h.1)

pub none_behind : (p : Pair) (qs : List Pair) → IsStrictlySortedBy pair_cmp qs → BeginsBehind p qs → begins_with p qs ≡ false → AllByRecursion (λ q. pair_cmp p q ≡ Equal → ⊥) qs
unfolding IsStrictlySortedBy
none_behind p [] s h n = tt
none_behind p (q ∷ qs) s h n =
    let less = less_from (pair_cmp p q) h (differs_is (pair_cmp p q) n) in
    (differs_is (pair_cmp p q) n, less_none p qs (below_all p q qs less s.0))

pub sorted_back : (l r : List Pair) → IsStrictlySortedBy pair_cmp (l ++ r) → IsStrictlySortedBy pair_cmp r
sorted_back l r s = sorted_right l r s

-- ---- a pair that is taken out

pub none_has : (p : Pair) (qs : List Pair) → AllByRecursion (λ q. pair_cmp p q ≡ Equal → ⊥) qs → (has_pair p qs ≡ false) × (without_pair p qs ≡ qs)
none_has p [] none = (refl, refl)
none_has p (q ∷ qs) none =
    let n = differs_not (pair_cmp p q) none.0 in
    let k = none_has p qs none.1 in
    (rw n k.0, rw n (ap (λ (t : List Pair). q ∷ t) k.1))

pub one_has : (p q : Pair) (front back : List Pair) → IsStrictlySortedBy pair_cmp (front ++ q ∷ back) → pair_cmp p q ≡ Equal → (has_pair p (front ++ q ∷ back) ≡ true) × (without_pair p (front ++ q ∷ back) ≡ front ++ back)
unfolding IsStrictlySortedBy
one_has p q [] back s e = (rw e refl, rw e refl)
one_has p q (r ∷ front) back s e =
    let less : pair_cmp r q ≡ Less = (all_back (λ t. pair_cmp r t ≡ Less) front (q ∷ back) s.0).0 in
    let n = differs_not (pair_cmp p r) (λ f. let k : Less ≡ Equal = sym less ∙ sym (pair_total.congr p r q f) ∙ e in absurd cc) in
    let k = one_has p q front back s.1 e in
    (rw n k.0, rw n (ap (λ (t : List Pair). r ∷ t) k.1))
