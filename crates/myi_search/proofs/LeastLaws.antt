-- In a list in order the first pair that a search does not pass by is the least one that is wanted.
use Rattle.std.proofs.Common.{◌≡◌, ◌≢◌, ℕ, zero, suc, ◌<◌, ◌≤◌, Bool, true, false, cond, not, Option, Some, None, List, [], ◌∷◌, ◌++◌, length, get_or, refl, sym, ap, subst, ◌∙◌, arith, inl, inr}
use Rattle.std.specs.Prelude.{All, Contains, IsSorted}
use Rattle.std.specs.List.{AllByRecursion}
use Rattle.std.specs.Ordering.{nat_cmp, ordering_then, ordering_reverse, is_lt, is_le, is_gt, is_eq}
use Rattle.std.specs.Cmp.{IsTotalOrder}
use Rattle.std.specs.declared.cmp.Ordering.{Ordering}
use Rattle.std.specs.declared.cmp.Ordering.TheVariants.{Less, Equal, Greater}
use Rattle.std.proofs.lemmas.Bool.{cases_Bool}
use Rattle.std.proofs.lemmas.Bool.Decides.{nat_tests}
use Rattle.std.proofs.lemmas.Cmp.{upto, tied_itself}
use Rattle.std.proofs.lemmas.List.Elements.{All-from_recursion, recursion_from_All}
use Rattle.std.proofs.lemmas.List.Sorted.{ranks_by, sorted_far}
use Rattle.myi_keys.specs.declared.values.KeySeg.{KeySeg}
use Rattle.myi_keys.specs.Order.{key_cmp}
use Rattle.myi_keys.specs.OrderLaws.{key_total, key_exact, key_equal}
use Rattle.myi_keylist.specs.declared.pair.Pair.{Pair}
use Rattle.myi_keylist.specs.PairOrder.{pair_with, pair_cmp}
use Rattle.myi_keylist.proofs.CallerLemmas.{pair_total}
use Rattle.myi_search.specs.Least.{IsLeastRow, IsAbove, IsLeastAbove}
use Rattle.myi_search.specs.Path.{is_below, is_up_to}
use Rattle.myi_search.specs.Passing.{first_kept, IsParted, row_with}
use Rattle.myi_search.proofs.TreeLaws.{Test}

-- ---- orders turned round

flip : {K : Type 0} {R : K → K → Ordering} → IsTotalOrder R → (x y : K) → is_lt (R x y) ≡ is_gt (R y x)
flip {K} {R} o x y = ap is_lt (o.antisymm x y) ∙ by (R y x)
  where
    by : (c : Ordering) → is_lt (ordering_reverse c) ≡ is_gt c
    by Less = refl
    by Equal = refl
    by Greater = refl

le_gt : (c : Ordering) → is_le c ≡ not (is_gt c)
le_gt Less = refl
le_gt Equal = refl
le_gt Greater = refl

not_lt : (c d : Ordering) → is_lt (ordering_then c d) ≡ false → is_lt c ≡ false
not_lt Less d e = e
not_lt Equal d e = refl
not_lt Greater d e = refl

false_true : {b : Bool} → b ≡ true → b ≡ false → ⊥
false_true is other = let k : true ≡ false = sym is ∙ other in cc

-- ---- pairs that rise

-- no later pair is before an earlier one
Rising : List Pair → Type 0
Rising [] = Unit {0}
Rising (p ∷ ps) = AllByRecursion (λ q. is_lt (pair_cmp q p) ≡ false) ps × Rising ps

rises : (pairs : List Pair) → ((i j : ℕ) (d : Pair) → i ≤ j → j < length pairs → is_lt (pair_cmp (get_or pairs j d) (get_or pairs i d)) ≡ false) → Rising pairs
unfolding Rising
rises [] far = tt
rises (p ∷ ps) far = (
  recursion_from_All (λ (q : Pair). is_lt (pair_cmp q p) ≡ false) ps (λ k d lt. far zero (suc k) d (omega arith) (omega (arith, lt))),
  rises ps (λ i j d le lt. far (suc i) (suc j) d (omega (arith, le)) (omega (arith, lt))),
)

rising : (pairs : List Pair) → IsSorted pair_cmp pairs → Rising pairs
rising pairs up = rises pairs (λ i j d le lt. sorted_far (λ (x y : Pair). is_lt (pair_cmp x y)) (ranks_by pair_total (λ (x : Pair). x)) pairs up i j d le lt)

all_of : (P Q : Pair → Type 0) (xs : List Pair) → ((q : Pair) → P q → Q q) → AllByRecursion P xs → AllByRecursion Q xs
all_of P Q [] f h = tt
all_of P Q (x ∷ xs) f h = (f x h.0, all_of P Q xs f h.1)

all_join : (P : Pair → Type 0) (xs : List Pair) (p : Pair) (ys : List Pair) → AllByRecursion P xs → P p → AllByRecursion P ys → AllByRecursion P (xs ++ p ∷ ys)
all_join P [] p ys a here b = (here, b)
all_join P (x ∷ xs) p ys a here b = (a.0, all_join P xs p ys a.1 here b)

rising_behind : (xs : List Pair) (p : Pair) (ys : List Pair) → Rising (xs ++ p ∷ ys) → AllByRecursion (λ q. is_lt (pair_cmp q p) ≡ false) ys
unfolding Rising
rising_behind [] p ys h = h.0
rising_behind (x ∷ xs) p ys h = rising_behind xs p ys h.1

-- ---- a search passes by a front of them

key_not_below : (key : List KeySeg) (p q : Pair) → is_below key p ≡ false → is_lt (pair_cmp q p) ≡ false → is_below key q ≡ false
key_not_below key p q here behind =
    let a : is_gt (key_cmp key p.key) ≡ false = sym (flip key_total p.key key) ∙ here in
    let b : is_gt (key_cmp p.key q.key) ≡ false = sym (flip key_total q.key p.key) ∙ not_lt (key_cmp q.key p.key) (nat_cmp q.row p.row) behind in
    flip key_total q.key key ∙ upto key_total key p.key q.key a b

above_stays : (after : Option Pair) (p q : Pair) → is_up_to after p ≡ false → is_lt (pair_cmp q p) ≡ false → is_up_to after q ≡ false
above_stays None p q here behind = refl
above_stays (Some a) p q here behind = elim (cases_Bool (is_gt (pair_cmp q a))) [
  | inl is ↦ le_gt (pair_cmp q a) ∙ ap not is
  | inr off ↦
      let x : is_gt (pair_cmp p q) ≡ false = sym (flip pair_total q p) ∙ behind in
      let y : is_gt (pair_cmp p a) ≡ false = upto pair_total p q a x off in
      absurd (false_true (le_gt (pair_cmp p a) ∙ ap not y) here)
]

parted : (test : Test) → ((p q : Pair) → test p ≡ false → is_lt (pair_cmp q p) ≡ false → test q ≡ false) → (pairs : List Pair) → Rising pairs → IsParted test pairs
unfolding Rising
parted test stays [] h = tt
parted test stays (p ∷ ps) h = (λ kept. all_of (λ q. is_lt (pair_cmp q p) ≡ false) (λ q. test q ≡ false) ps (λ q behind. stays p q kept behind) h.0, parted test stays ps h.1)

pub key_parted : (key : List KeySeg) (pairs : List Pair) → IsSorted pair_cmp pairs → IsParted (is_below key) pairs
key_parted key pairs up = parted (is_below key) (key_not_below key) pairs (rising pairs up)

pub above_parted : (after : Option Pair) (pairs : List Pair) → IsSorted pair_cmp pairs → IsParted (is_up_to after) pairs
above_parted after pairs up = parted (is_up_to after) (above_stays after) pairs (rising pairs up)

-- ---- the first that is kept

record Kept (test : Test) (pairs : List Pair) (p : Pair) : Type 0 where
  pub front : List Pair
  pub back : List Pair
  pub is : pairs ≡ front ++ p ∷ back
  pub passed : AllByRecursion (λ q. test q ≡ true) front
  pub kept : test p ≡ false

kept_at : (test : Test) (pairs : List Pair) (p : Pair) → first_kept test pairs ≡ Some p → Kept test pairs p
kept_at test [] p e = absurd cc
kept_at test (x ∷ xs) p e = by (test x) refl e (λ f. kept_at test xs p f)
  where
    by : (b : Bool) → test x ≡ b → cond b (first_kept test xs) (Some x) ≡ Some p → (first_kept test xs ≡ Some p → Kept test xs p) → Kept test (x ∷ xs) p
    by true is e again = let k = again e in record { front = x ∷ k.front; back = k.back; is = ap (λ (ys : List Pair). x ∷ ys) k.is; passed = (is, k.passed); kept = k.kept }
    by false is e again =
        let same : x ≡ p = cc in
        record { front = []; back = xs; is = ap (λ (y : Pair). y ∷ xs) same; passed = tt; kept = ap test (sym same) ∙ is }

all_passed : (test : Test) (pairs : List Pair) → first_kept test pairs ≡ None → AllByRecursion (λ q. test q ≡ true) pairs
all_passed test [] e = tt
all_passed test (x ∷ xs) e = by (test x) refl e (λ f. all_passed test xs f)
  where
    by : (b : Bool) → test x ≡ b → cond b (first_kept test xs) (Some x) ≡ None → (first_kept test xs ≡ None → AllByRecursion (λ q. test q ≡ true) xs) → AllByRecursion (λ q. test q ≡ true) (x ∷ xs)
    by true is e again = (is, again e)
    by false is e again = absurd cc

contains_mid : (xs : List Pair) (p : Pair) (ys : List Pair) → Contains (xs ++ p ∷ ys) p
contains_mid [] p ys = (zero, omega arith, refl)
contains_mid (x ∷ xs) p ys = let k = contains_mid xs p ys in (suc k.0, omega (arith, k.1), k.2)

-- ---- the least row of a key

below_other : (key : List KeySeg) (q : Pair) → is_below key q ≡ true → q.key ≡ key → ⊥
below_other key q below same = false_true below (ap is_lt (key_equal q.key key same))

eq_is : (c : Ordering) → is_eq c ≡ true → c ≡ Equal
eq_is Less e = absurd cc
eq_is Equal e = refl
eq_is Greater e = absurd cc

row_at_least : (key : List KeySeg) (p q : Pair) → p.key ≡ key → is_lt (pair_cmp q p) ≡ false → q.key ≡ key → p.row ≤ q.row
row_at_least key p q here behind same =
    let tied : key_cmp q.key p.key ≡ Equal = key_equal q.key p.key (same ∙ sym here) in
    let rows : is_lt (nat_cmp q.row p.row) ≡ false = ap (λ (c : Ordering). is_lt (ordering_then c (nat_cmp q.row p.row))) (sym tied) ∙ behind in
    grind (arith, nat_tests)

past_key : (key : List KeySeg) (p q : Pair) → is_below key p ≡ false → is_eq (key_cmp p.key key) ≡ false → is_lt (pair_cmp q p) ≡ false → q.key ≡ key → ⊥
past_key key p q kept other behind same =
    let above : is_gt (key_cmp p.key key) ≡ true = by (key_cmp p.key key) kept other in
    let less : is_lt (key_cmp q.key p.key) ≡ true = ap (λ (k : List KeySeg). is_lt (key_cmp k p.key)) same ∙ flip key_total key p.key ∙ above in
    false_true less (not_lt (key_cmp q.key p.key) (nat_cmp q.row p.row) behind)
  where
    by : (c : Ordering) → is_lt c ≡ false → is_eq c ≡ false → is_gt c ≡ true
    by Less a b = absurd cc
    by Equal a b = absurd cc
    by Greater a b = refl

pub least_row : (key : List KeySeg) (pairs : List Pair) (best : Option Pair) → IsSorted pair_cmp pairs → best ≡ first_kept (is_below key) pairs → IsLeastRow key pairs (row_with key best)
least_row key pairs best up e = by best e
  where
    others : (q : Pair) → is_below key q ≡ true → q.key ≢ key
    others q below = λ same. below_other key q below same

    at : (p : Pair) → Kept (is_below key) pairs p → (b : Bool) → is_eq (key_cmp p.key key) ≡ b → IsLeastRow key pairs (cond b (Some p.row) None)
    at p k true is =
        let here : p.key ≡ key = key_exact p.key key (eq_is (key_cmp p.key key) is) in
        let behind = rising_behind k.front p k.back (subst Rising k.is (rising pairs up)) in
        let P : Pair → Type 0 = λ (q : Pair). q.key ≡ key → p.row ≤ q.row in (
          subst (λ (x : Pair). Contains pairs x) (ap (λ (s : List KeySeg). pair_with s p.row) here) (subst (λ (ps : List Pair). Contains ps p) (sym k.is) (contains_mid k.front p k.back)),
          subst (λ (ps : List Pair). All (λ (q : Pair). q.key ≡ key → p.row ≤ q.row) ps) (sym k.is) (All-from_recursion P (k.front ++ p ∷ k.back) (all_join P k.front p k.back
              (all_of (λ q. is_below key q ≡ true) P k.front (λ q below same. absurd (below_other key q below same)) k.passed)
              (λ same. omega arith)
              (all_of (λ q. is_lt (pair_cmp q p) ≡ false) P k.back (λ q b same. row_at_least key p q here b same) behind))),
        )
    at p k false is =
        let behind = rising_behind k.front p k.back (subst Rising k.is (rising pairs up)) in
        let P : Pair → Type 0 = λ (q : Pair). q.key ≢ key in
        subst (λ (ps : List Pair). All (λ (q : Pair). q.key ≢ key) ps) (sym k.is) (All-from_recursion P (k.front ++ p ∷ k.back) (all_join P k.front p k.back
        (all_of (λ q. is_below key q ≡ true) P k.front others k.passed)
        (λ same. false_true (ap is_eq (key_equal p.key key same)) is)
        (all_of (λ q. is_lt (pair_cmp q p) ≡ false) P k.back (λ q b same. past_key key p q k.kept is b same) behind)))

    by : (best : Option Pair) → best ≡ first_kept (is_below key) pairs → IsLeastRow key pairs (row_with key best)
    by None e = All-from_recursion (λ (q : Pair). q.key ≢ key) pairs (all_of (λ q. is_below key q ≡ true) (λ (q : Pair). q.key ≢ key) pairs others (all_passed (is_below key) pairs (sym e)))
    by (Some p) e = at p (kept_at (is_below key) pairs p (sym e)) (is_eq (key_cmp p.key key)) refl

-- ---- the least pair above another one

not_above : (after : Option Pair) (q : Pair) → is_up_to after q ≡ true → IsAbove after q → ⊥
not_above None q up above = cc
not_above (Some a) q up above = false_true (sym (flip pair_total a q) ∙ above) (by (pair_cmp q a) up)
  where
    by : (c : Ordering) → is_le c ≡ true → is_gt c ≡ false
    by Less e = refl
    by Equal e = refl
    by Greater e = absurd cc

is_above : (after : Option Pair) (q : Pair) → is_up_to after q ≡ false → IsAbove after q
is_above None q e = tt
is_above (Some a) q e = flip pair_total a q ∙ by (pair_cmp q a) e
  where
    by : (c : Ordering) → is_le c ≡ false → is_gt c ≡ true
    by Less e = absurd cc
    by Equal e = absurd cc
    by Greater e = refl

pub least_above : (after : Option Pair) (pairs : List Pair) (best : Option Pair) → IsSorted pair_cmp pairs → best ≡ first_kept (is_up_to after) pairs → IsLeastAbove after pairs best
least_above after pairs best up e = by best e
  where
    by : (best : Option Pair) → best ≡ first_kept (is_up_to after) pairs → IsLeastAbove after pairs best
    by None e = All-from_recursion (λ q. IsAbove after q → ⊥) pairs (all_of (λ q. is_up_to after q ≡ true) (λ q. IsAbove after q → ⊥) pairs (not_above after) (all_passed (is_up_to after) pairs (sym e)))
    by (Some p) e =
        let k : Kept (is_up_to after) pairs p = kept_at (is_up_to after) pairs p (sym e) in
        let behind = rising_behind k.front p k.back (subst Rising k.is (rising pairs up)) in
        let P : Pair → Type 0 = λ (q : Pair). IsAbove after q → is_le (pair_cmp p q) ≡ true in (
          subst (λ (ps : List Pair). Contains ps p) (sym k.is) (contains_mid k.front p k.back),
          is_above after p k.kept,
          subst (λ (ps : List Pair). All (λ q. IsAbove after q → is_le (pair_cmp p q) ≡ true) ps) (sym k.is) (All-from_recursion P (k.front ++ p ∷ k.back) (all_join P k.front p k.back
              (all_of (λ q. is_up_to after q ≡ true) P k.front (λ q u above. absurd (not_above after q u above)) k.passed)
              (λ above. ap is_le (tied_itself pair_total p))
              (all_of (λ q. is_lt (pair_cmp q p) ≡ false) P k.back (λ q b above. le_gt (pair_cmp p q) ∙ ap not (sym (flip pair_total q p) ∙ b)) behind))),
        )
