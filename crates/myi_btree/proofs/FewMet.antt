-- Pages that a walk met are different, so that they are no more than the places that they are among.
use Rattle.std.proofs.Common.{◌≡◌, ℕ, suc, ◌<◌, ◌≤◌, nat_cmp, eqb, cond, ◌||◌, Bool, true, false, Option, Some, List, [], ◌∷◌, length, refl, ap, subst, arith, inl, inr}
use Rattle.std.specs.List.{list_all, AllByRecursion}
use Rattle.std.specs.List.Sorted.{IsStrictlySortedBy}
use Rattle.std.specs.declared.cmp.Ordering.TheVariants.{Less}
use Rattle.std.proofs.lemmas.Bool.{and_parts, and_from, ne_eqb, eqb-true, cases_Bool}
use Rattle.myi_base.specs.Holding.{Holding, IfTold}
use Rattle.myi_keycache.specs.Caching.{Caching, IsCurrent}
use Rattle.myi_btree.specs.declared.place.Place.{Place}
use Rattle.myi_btree.specs.Walk.{Walked}
use Rattle.myi_btree.specs.Visit.{HasWalk}
use Rattle.myi_btree.specs.Visited.{CountsMet}
use Rattle.myi_btree.specs.CachedTrees.{node_lent, IsRootNamed, HasPages, CanWalk, is_among, ReadsOnce, RoseBy, CountsPages}
use Rattle.myi_btree.specs.Serving.{view, ReadsAsked}
use Rattle.myi_btree.proofs.Among.{all_weaker}
use Rattle.myi_btree.proofs.WalkLaws.{less_is}
use Rattle.myi_btree.proofs.StartLaws.{Begins, begins_in}

-- a list without the first of these places
without : ℕ → List ℕ → List ℕ
without x [] = []
without x (y ∷ ys) = cond (eqb y x) ys (y ∷ without x ys)

one_less : (x : ℕ) (ys : List ℕ) → is_among ys x ≡ true → length ys ≡ suc (length (without x ys))
unfolding without
one_less x [] e = absurd cc
one_less x (y ∷ ys) e = elim (cases_Bool (eqb y x)) [
  | inl is ↦ rw is refl
  | inr other ↦ rw other (ap suc (one_less x ys (rw other at e)))
]

still_among : (x z : ℕ) (ys : List ℕ) → x < z → is_among ys z ≡ true → is_among (without x ys) z ≡ true
unfolding without
still_among x z [] lt e = absurd cc
still_among x z (y ∷ ys) lt e = elim (cases_Bool (eqb y x)) [
  | inl is ↦
      let other : eqb y z ≡ false = ne_eqb y z (λ same. omega (arith, eqb-true y x is, same, lt)) in
      rw is (rw other at e)
  | inr off ↦ rw off (by (eqb y z) e (λ f. still_among x z ys lt f))
]
  where
    by : (b : Bool) → (b || is_among ys z) ≡ true → (is_among ys z ≡ true → is_among (without x ys) z ≡ true) → (b || is_among (without x ys) z) ≡ true
    by true e again = refl
    by false e again = again e

all_still : (x : ℕ) (xs ys : List ℕ) → AllByRecursion (λ z. nat_cmp x z ≡ Less) xs → list_all (is_among ys) xs ≡ true → list_all (is_among (without x ys)) xs ≡ true
all_still x [] ys above all = refl
all_still x (z ∷ xs) ys above all =
    let k = and_parts (is_among ys z) (list_all (is_among ys) xs) all in
    and_from (is_among (without x ys) z) (list_all (is_among (without x ys)) xs) (still_among x z ys (less_is x z above.0) k.0) (all_still x xs ys above.1 k.1)

few : (xs ys : List ℕ) → IsStrictlySortedBy nat_cmp xs → list_all (is_among ys) xs ≡ true → length xs ≤ length ys
unfolding IsStrictlySortedBy
few [] ys sorted all = omega arith
few (x ∷ xs) ys sorted all =
    let k = and_parts (is_among ys x) (list_all (is_among ys) xs) all in
    omega (arith, one_less x ys k.0, few xs (without x ys) sorted.1 (all_still x xs ys sorted.0 k.1))

-- ---- what a walk says

pub reads_told : (writable : Bool) (place : Place) (told next : Option Holding) (old new : Caching) (none : List ℕ) (root before after : ℕ) → CanWalk writable told place old → place.root ≡ Some root → none ≡ []
    → ((m : Holding) (b : Begins place told old m root) → ReadsAsked place (view old m b.asked) next new before after none) → IfTold told (λ m. IsCurrent old m → ReadsOnce place old m before after)
reads_told writable place told next old new none root before after may is empty reads = λ m held current places at closed.
    let b = begins_in writable place told old m root (is_among places) may held current is (subst (λ (r : Option ℕ). IsRootNamed r (is_among places)) is at) closed in
    let r = reads m b.begins in
    omega (arith, r.few, ap length empty, few r.tried places r.served.ascends (all_weaker b.begins.asked (is_among places) b.within r.tried r.served.named))

pub counts_told : (place : Place) (old new : Caching) (m : Holding) (root : ℕ) (none keys : List ℕ) → none ≡ [] → CountsMet old new none keys → place.root ≡ Some root → ((w : Walked) → HasWalk place.block_length (node_lent place old m) root w → length keys ≡ length w.pages)
    → CountsPages place old m new
counts_told place old new m root none keys e c is long = λ pages has. by pages (subst (λ (r : Option ℕ). HasPages place old m r pages) is has)
  where
    by : (pages : List ℕ) → HasPages place old m (Some root) pages → RoseBy (length pages) old.counters.read_requests new.counters.read_requests
    by pages (w, walk, all) =
        let same : c.0 ≡ length pages = omega (arith, c.1, ap length e, long w walk, ap length all) in
        subst (λ (k : ℕ). RoseBy k old.counters.read_requests new.counters.read_requests) same c.2
