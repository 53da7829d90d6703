-- A place that is put among others in order.
use Rattle.std.proofs.Common.{◌≡◌, ℕ, suc, ◌+◌, ◌<◌, ◌≤◌, nat_cmp, Option, List, [], ◌∷◌, length, true, refl, sym, ◌∙◌, arith, inl, inr}
use Rattle.std.specs.List.{list_all, AllByRecursion}
use Rattle.std.specs.List.Sorted.{IsStrictlySortedBy}
use Rattle.std.specs.Cmp.{nat_cmp_is}
use Rattle.std.specs.BTreeSet.{insert_key}
use Rattle.std.specs.declared.cmp.Ordering.{Ordering}
use Rattle.std.specs.declared.cmp.Ordering.TheVariants.{Less, Equal, Greater}
use Rattle.std.proofs.lemmas.Bool.{cases_lt}
use Rattle.myi_base.specs.Holding.{Holding, Told}
use Rattle.myi_keycache.specs.Kept.{AddsOnly}
use Rattle.myi_keycache.specs.Caching.{pages_of, Caching, CanGet, Stays}
use Rattle.myi_btree.specs.declared.place.Place.{Place}
use Rattle.myi_btree.specs.CachedTrees.{ReadsOnly}
use Rattle.myi_btree.specs.Serving.{View, CanAsk, IsServed, ReadsAsked}
use Rattle.myi_btree.specs.Visited.{ReadsMet}
use Rattle.myi_btree.proofs.WalkLaws.{less_is, all_more}
use Rattle.myi_btree.proofs.ServeLaws.{serves_on}

abbrev Behind : ℕ → ℕ → Type 0
Behind x y = nat_cmp x y ≡ Less

behind : (x y : ℕ) → x < y → Behind x y
behind x y lt = sym (nat_cmp_is x y Less lt)

greater_is : (x y : ℕ) → nat_cmp x y ≡ Greater → y < x
greater_is x y e = elim (cases_lt y x) [
  | inl lt ↦ lt
  | inr ge ↦ elim (cases_lt x y) [
    | inl less ↦ let k : Less ≡ Greater = nat_cmp_is x y Less less ∙ e in absurd cc
    | inr le ↦ let k : Equal ≡ Greater = nat_cmp_is x y Equal (omega arith) ∙ e in absurd cc
  ]
]

all_behind : (x k : ℕ) (keys : List ℕ) → x < k → AllByRecursion (Behind k) keys → AllByRecursion (Behind x) keys
all_behind x k [] lt all = tt
all_behind x k (y ∷ ys) lt all = (behind x y (omega (arith, lt, less_is k y all.0)), all_behind x k ys lt all.1)

behind_more : (x k : ℕ) (keys : List ℕ) → x < k → AllByRecursion (Behind x) keys → AllByRecursion (Behind x) (insert_key nat_cmp keys k)
behind_more x k [] lt all = (behind x k lt, tt)
behind_more x k (y ∷ ys) lt all = by (nat_cmp k y) refl (behind_more x k ys lt all.1)
  where
    by : (o : Ordering) → nat_cmp k y ≡ o → AllByRecursion (Behind x) (insert_key nat_cmp ys k) → AllByRecursion (Behind x) (insert_key nat_cmp (y ∷ ys) k)
    by Less e again = rw e (behind x k lt, all)
    by Equal e again = rw e all
    by Greater e again = rw e (all.0, again)

pub sorted_more : (keys : List ℕ) (k : ℕ) → IsStrictlySortedBy nat_cmp keys → IsStrictlySortedBy nat_cmp (insert_key nat_cmp keys k)
unfolding IsStrictlySortedBy
sorted_more [] k s = (tt, tt)
sorted_more (x ∷ xs) k s = by (nat_cmp k x) refl (sorted_more xs k s.1)
  where
    by : (o : Ordering) → nat_cmp k x ≡ o → IsStrictlySortedBy nat_cmp (insert_key nat_cmp xs k) → IsStrictlySortedBy nat_cmp (insert_key nat_cmp (x ∷ xs) k)
    by Less e again = rw e ((e, all_behind k x xs (less_is k x e) s.0), s)
    by Equal e again = rw e s
    by Greater e again = rw e (behind_more x k xs (greater_is k x e) s.0, again)

-- the page at a place was asked for
pub asks_more : (place : Place) (v : View) (told next : Option Holding) (old new : Caching) (at : ℕ) (keys : List ℕ) (before after : ℕ) → (k : CanAsk place v told old at) → ReadsOnly told next old new
    → Told told next (λ m n. CanGet old m at place.block_length → Stays old new m n) → AddsOnly at place.block_length (pages_of old) (pages_of new) → list_all v.asked keys ≡ true → IsStrictlySortedBy nat_cmp keys
    → length (insert_key nat_cmp keys at) ≡ suc (length keys) → after ≤ before + 1 → ReadsAsked place v next new before after keys
asks_more place v told next old new at keys before after k r t adds named ascends long one = record {
  tried = insert_key nat_cmp keys at;
  served = record {
    serves = serves_on place v told next old new at k r t adds;
    named = all_more keys (insert_key nat_cmp keys at) at v.asked refl k.asked named;
    ascends = sorted_more keys at ascends;
  };
  few = omega (arith, long, one);
}

-- nothing was read
pub asks_none : (place : Place) (v : View) (told : Option Holding) (cache : Caching) (keys : List ℕ) (before after : ℕ) → IsServed place v told cache keys → after ≤ before → ReadsAsked place v told cache before after keys
asks_none place v told cache keys before after s same = record { tried = keys; served = s; few = omega (arith, same) }

-- calls that read no more than they met, and one behind them
pub asked_on : (place : Place) (v : View) (told : Option Holding) (cache : Caching) (a b c : ℕ) (one two : List ℕ) → ReadsMet a b one two → ReadsAsked place v told cache b c two → ReadsAsked place v told cache a c one
asked_on place v told cache a b c one two met r = record { tried = r.tried; served = r.served; few = omega (arith, met, r.few) }
