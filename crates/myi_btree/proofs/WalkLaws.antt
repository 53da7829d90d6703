-- Loading a page, and whether it has a byte of one that was met.
use Rattle.std.proofs.Common.{◌≡◌, ℕ, suc, ◌+◌, ◌-◌, ◌%◌, ◌<◌, ◌≤◌, ◌||◌, ◌&&◌, Bool, true, false, leb, cond, nat_cmp, Option, Some, None, Result, Err, List, [], ◌∷◌, ◌++◌, length, map, refl, sym, ap, subst, ◌∙◌, arith, inl, inr}
use Rattle.std.specs.Prelude.{IfErr}
use Rattle.std.specs.List.{list_all, filter, AllByRecursion}
use Rattle.std.specs.List.Sorted.{IsStrictlySortedBy}
use Rattle.std.specs.Ordering.{is_le}
use Rattle.std.specs.Cmp.{nat_cmp_is}
use Rattle.std.specs.BTreeMap.Range.{range_contains}
use Rattle.std.specs.BTreeSet.{insert_key}
use Rattle.std.specs.declared.ops.Bound.{Bound}
use Rattle.std.specs.declared.cmp.Ordering.{Ordering}
use Rattle.std.specs.declared.cmp.Ordering.TheVariants.{Less, Equal, Greater}
use Rattle.std.proofs.lemmas.Bool.{cases_lt, le-leb, lt-leb, eq-eqb, ne_eqb, and_parts, and_from}
use Rattle.std.proofs.lemmas.List.{length-append}
use Rattle.myi_base.specs.Ranges.{are_apart}
use Rattle.myi_base.specs.Holding.{Holding}
use Rattle.myi_keycache.specs.Kept.{AllWritten}
use Rattle.myi_keycache.specs.Caching.{pages_of, Caching, lends, IsCurrent, CanGet}
use Rattle.myi_keycache.specs.declared.setup.CacheFault.{CacheFault}
use Rattle.myi_keycache.specs.declared.setup.CacheFault.TheVariants as cache
use Rattle.myi_btree.specs.declared.fault.TreeFault.{TreeFault}
use Rattle.myi_btree.specs.declared.fault.TreeFault.TheVariants.{Damaged}
use Rattle.myi_btree.specs.declared.place.Place.{Place}
use Rattle.myi_btree.specs.Faults.{IsToldAs}
use Rattle.myi_btree.specs.Walk.{Node, Places}
use Rattle.myi_btree.specs.Nodes.{node_in}
use Rattle.myi_btree.specs.CachedTrees.{node_lent}
use Rattle.myi_btree.specs.Visit.{page_range, is_new, entered}
use Rattle.myi_btree.specs.Visited.{HasPlaces}

-- ---- loading

pub same_place : (x y : ℕ) → Damaged x ≡ Damaged y → y ≡ x
same_place x y e = let k : x ≡ y = cc in sym k

pub can_get : (cache : Caching) (m : Holding) (at len : ℕ) → AllWritten (pages_of cache) → IsCurrent cache m → CanGet cache m at len
can_get cache m at len written current = record { current = current; apart = λ p n u. absurd (written p n u) }

pub lent_off : (place : Place) (cache : Caching) (m : Holding) (at : ℕ) → (at % 1024 ≡ 0 → ⊥) → node_lent place cache m at ≡ None
unfolding node_lent
lent_off place cache m at off = rw (ne_eqb (at % 1024) 0 off) refl

pub lent_none : (place : Place) (cache : Caching) (m : Holding) (at : ℕ) → at % 1024 ≡ 0 → lends cache m at place.block_length ≡ None → node_lent place cache m at ≡ None
unfolding node_lent
lent_none place cache m at whole e = rw (eq-eqb (at % 1024) 0 whole, e) refl

pub lent_is : (place : Place) (cache : Caching) (m : Holding) (at : ℕ) (bytes : List ℕ) (found : Option Node) → at % 1024 ≡ 0 → lends cache m at place.block_length ≡ Some bytes → found ≡ node_in place.rec_ref bytes → node_lent place cache m at ≡ found
unfolding node_lent
lent_is place cache m at bytes found whole e f = rw (eq-eqb (at % 1024) 0 whole, e) (sym f)

-- a fault of the cache that is a damage says that the file ends before
pub short_only : (f : CacheFault) (x : TreeFault) (p : ℕ) → IsToldAs f x → x ≡ Damaged p → f ≡ cache.Short p
short_only f x p (inl (inl file)) d = let k = sym d ∙ file.1 in absurd cc
short_only f x p (inl (inr memory)) d = let k = sym d ∙ memory.1 in absurd cc
short_only f x p (inr (at, e, t)) d = let k : Damaged at ≡ Damaged p = sym t ∙ d in let q : at ≡ p = cc in e ∙ ap cache.Short q

pub if_err : {T : Type 0} (r : Result T TreeFault) (x : TreeFault) (P : TreeFault → Type 0) → r ≡ Err x → P x → IfErr r P
if_err r x P e h = rw e h

-- ---- whether a page has a byte of one that was met

is_le-leb : (x y : ℕ) → is_le (nat_cmp x y) ≡ leb x y
is_le-leb x y = elim (cases_lt x y) [
  | inl lt ↦ ap is_le (sym (nat_cmp_is x y Less lt)) ∙ sym (le-leb x y (omega arith))
  | inr ge ↦ elim (cases_lt y x) [
    | inl gt ↦ ap is_le (sym (nat_cmp_is x y Greater gt)) ∙ sym (lt-leb x y gt)
    | inr le ↦ let e : x ≡ y = omega arith in ap is_le (sym (nat_cmp_is x y Equal e)) ∙ sym (le-leb x y (omega arith))
  ]
]

pub less_is : (x y : ℕ) → nat_cmp x y ≡ Less → x < y
less_is x y e = elim (cases_lt x y) [
  | inl lt ↦ lt
  | inr ge ↦ elim (cases_lt y x) [
    | inl gt ↦ let k : Greater ≡ Less = nat_cmp_is x y Greater gt ∙ e in absurd cc
    | inr le ↦ let k : Equal ≡ Less = nat_cmp_is x y Equal (omega arith) ∙ e in absurd cc
  ]
]

-- whether pages of so many bytes there have no byte in common
apart : ℕ → ℕ → ℕ → Bool
apart block at q = are_apart (page_range block at) (page_range block q)

apart_below : (block at q : ℕ) → q < at - (block - 1) → apart block at q ≡ true
unfolding apart
apart_below block at q lt = let e : leb (q + block) at ≡ true = le-leb _ _ (omega arith) in rw e (or_true (leb (at + block) q))
  where
    or_true : (b : Bool) → (b || true) ≡ true
    or_true true = refl
    or_true false = refl

apart_behind : (block at q : ℕ) → 0 < block → at - (block - 1) ≤ q → apart block at q ≡ leb block (q - at)
unfolding apart
apart_behind block at q some ge = elim (cases_lt q (at + block)) [
  | inl lt ↦
      let a : leb (at + block) q ≡ false = lt-leb _ _ lt in
      let b : leb (q + block) at ≡ false = lt-leb _ _ (omega arith) in
      let c : leb block (q - at) ≡ false = lt-leb _ _ (omega arith) in
      rw (a, b, c) refl
  | inr le ↦
      let a : leb (at + block) q ≡ true = le-leb _ _ le in
      let c : leb block (q - at) ≡ true = le-leb _ _ (omega arith) in
      rw (a, c) refl
]

all_apart : (block at p : ℕ) (keys : List ℕ) → at + block ≤ p → AllByRecursion (λ y. nat_cmp p y ≡ Less) keys → list_all (apart block at) keys ≡ true
unfolding apart
all_apart block at p [] le all = refl
all_apart block at p (k ∷ keys) le all =
    let lt : p < k = less_is p k all.0 in
    let a : leb (at + block) k ≡ true = le-leb _ _ (omega arith) in
    rw a (all_apart block at p keys le all.1)

-- what the first of the keys from a place on says of all
abbrev says : ℕ → ℕ → List ℕ → Bool
says block at [] = true
says block at (p ∷ rest) = leb block (p - at)

from_first : (block at first : ℕ) (keys : List ℕ) → 0 < block → first ≡ at - (block - 1) → IsStrictlySortedBy nat_cmp keys → says block at (filter (range_contains nat_cmp (Bound.Included first) Bound.Unbounded) keys) ≡ list_all (apart block at) keys
unfolding IsStrictlySortedBy
from_first block at first [] some f sorted = refl
from_first block at first (k ∷ keys) some f sorted = elim (cases_lt k first) [
  | inl lt ↦
      let off : is_le (nat_cmp first k) ≡ false = is_le-leb first k ∙ lt-leb _ _ lt in
      let a : apart block at k ≡ true = apart_below block at k (omega arith) in
      rw (off, a) (from_first block at first keys some f sorted.1)
  | inr ge ↦
      let on : is_le (nat_cmp first k) ≡ true = is_le-leb first k ∙ le-leb _ _ ge in
      let a : apart block at k ≡ leb block (k - at) = apart_behind block at k some (omega arith) in
      rw (on, a) (elim (cases_lt k (at + block)) [
        | inl near ↦ let n : leb block (k - at) ≡ false = lt-leb _ _ (omega arith) in rw n refl
        | inr far ↦ let n : list_all (apart block at) keys ≡ true = all_apart block at k keys far sorted.0 in rw n (sym (and_true (leb block (k - at))))
      ])
]
  where
    and_true : (b : Bool) → (b && true) ≡ b
    and_true true = refl
    and_true false = refl

pub none_from : (block at first : ℕ) (keys xs : List ℕ) → 0 < block → first ≡ at - (block - 1) → IsStrictlySortedBy nat_cmp keys → xs ≡ filter (range_contains nat_cmp (Bound.Included first) Bound.Unbounded) keys → xs ≡ [] → true ≡ list_all (λ p. are_apart (page_range block at) (page_range block p)) keys
unfolding apart
none_from block at first keys xs some f sorted are none = ap (says block at) (sym none ∙ are) ∙ from_first block at first keys some f sorted

pub some_from : (block at first p : ℕ) (keys xs rest : List ℕ) → 0 < block → first ≡ at - (block - 1) → IsStrictlySortedBy nat_cmp keys → xs ≡ filter (range_contains nat_cmp (Bound.Included first) Bound.Unbounded) keys → xs ≡ p ∷ rest → leb block (p - at) ≡ list_all (λ p. are_apart (page_range block at) (page_range block p)) keys
unfolding apart
some_from block at first p keys xs rest some f sorted are is = ap (says block at) (sym is ∙ are) ∙ from_first block at first keys some f sorted

-- ---- going into a page

all-map : {A : Type 0} (test : A → Bool) (f : ℕ → A) (xs : List ℕ) → list_all test (map f xs) ≡ list_all (λ x. test (f x)) xs
all-map test f [] = refl
all-map test f (x ∷ xs) = ap (λ (b : Bool). test (f x) && b) (all-map test f xs)

new_is : (block at : ℕ) (keys met : List ℕ) (b : Bool) → HasPlaces keys met → b ≡ list_all (λ p. are_apart (page_range block at) (page_range block p)) keys → is_new block at met ≡ b
new_is block at keys met b has e = all-map (λ s. are_apart (page_range block at) s) (page_range block) met ∙ sym (has.0 (λ p. are_apart (page_range block at) (page_range block p))) ∙ sym e

pub entered_ok : (block : ℕ) (read : Places) (at : ℕ) (keys met : List ℕ) (node : Node) (b : Bool) → HasPlaces keys met → b ≡ list_all (λ p. are_apart (page_range block at) (page_range block p)) keys → b ≡ true → read at ≡ Some node → entered block read at met ≡ Some node
entered_ok block read at keys met node b has e yes_it r = rw (new_is block at keys met b has e ∙ yes_it, r) refl

pub entered_not : (block : ℕ) (read : Places) (at : ℕ) (keys met : List ℕ) (b : Bool) → HasPlaces keys met → b ≡ list_all (λ p. are_apart (page_range block at) (page_range block p)) keys → b ≡ false → entered block read at met ≡ None
entered_not block read at keys met b has e no_it = rw (new_is block at keys met b has e ∙ no_it) refl

pub entered_none : (block : ℕ) (read : Places) (at : ℕ) (met : List ℕ) → read at ≡ None → entered block read at met ≡ None
entered_none block read at met r = rw r (by (is_new block at met))
  where
    by : (b : Bool) → ◌≡◌ {A = Option Node} (cond b None None) None
    by true = refl
    by false = refl

and_again : (a b : Bool) → (a && b) ≡ (a && (a && b))
and_again true b = refl
and_again false b = refl

and_turn : (a b c : Bool) → (a && (b && c)) ≡ (b && (a && c))
and_turn true true c = refl
and_turn true false c = refl
and_turn false true c = refl
and_turn false false c = refl

and_swap : (a b : Bool) → (a && b) ≡ (b && a)
and_swap true true = refl
and_swap true false = refl
and_swap false true = refl
and_swap false false = refl

equal_is : (x y : ℕ) → nat_cmp x y ≡ Equal → x ≡ y
equal_is x y e = elim (cases_lt x y) [
  | inl lt ↦ let k : Less ≡ Equal = nat_cmp_is x y Less lt ∙ e in absurd cc
  | inr ge ↦ elim (cases_lt y x) [
    | inl gt ↦ let k : Greater ≡ Equal = nat_cmp_is x y Greater gt ∙ e in absurd cc
    | inr le ↦ omega arith
  ]
]

all_insert : (test : ℕ → Bool) (keys : List ℕ) (k : ℕ) → list_all test (insert_key nat_cmp keys k) ≡ (test k && list_all test keys)
all_insert test [] k = refl
all_insert test (x ∷ xs) k = by (nat_cmp k x) refl (all_insert test xs k)
  where
    by : (o : Ordering) → nat_cmp k x ≡ o → list_all test (insert_key nat_cmp xs k) ≡ (test k && list_all test xs) → list_all test (insert_key nat_cmp (x ∷ xs) k) ≡ (test k && list_all test (x ∷ xs))
    by Less e again = rw e refl
    by Equal e again = let same : k ≡ x = equal_is k x e in rw e (ap (λ (n : ℕ). test x && list_all test xs) same ∙ and_again (test x) (list_all test xs) ∙ ap (λ (n : ℕ). test n && (test x && list_all test xs)) (sym same))
    by Greater e again = rw e (ap (λ (b : Bool). test x && b) again ∙ and_turn (test x) (test k) (list_all test xs))

all_end : (test : ℕ → Bool) (met : List ℕ) (k : ℕ) → list_all test (met ++ k ∷ []) ≡ (test k && list_all test met)
all_end test [] k = refl
all_end test (x ∷ xs) k = ap (λ (b : Bool). test x && b) (all_end test xs k) ∙ and_turn (test x) (test k) (list_all test xs)

-- a page has bytes of itself
not_apart : (block at : ℕ) → 0 < block → are_apart (page_range block at) (page_range block at) ≡ true → ⊥
not_apart block at some e =
    let off : leb (at + block) at ≡ false = lt-leb _ _ (omega arith) in
    let k : false ≡ true = rw off at e in
    absurd cc

-- so a place whose page is apart from those of all others is one more
insert_long : (block : ℕ) (keys : List ℕ) (k : ℕ) → 0 < block → list_all (λ p. are_apart (page_range block k) (page_range block p)) keys ≡ true → length (insert_key nat_cmp keys k) ≡ suc (length keys)
insert_long block [] k some apart = refl
insert_long block (x ∷ xs) k some apart =
    let parts = and_parts (are_apart (page_range block k) (page_range block x)) (list_all (λ p. are_apart (page_range block k) (page_range block p)) xs) apart in
    by (nat_cmp k x) refl parts.0 (insert_long block xs k some parts.1)
  where
    by : (o : Ordering) → nat_cmp k x ≡ o → are_apart (page_range block k) (page_range block x) ≡ true → length (insert_key nat_cmp xs k) ≡ suc (length xs) → length (insert_key nat_cmp (x ∷ xs) k) ≡ suc (length (x ∷ xs))
    by Less e a again = rw e refl
    by Equal e a again = absurd (not_apart block k some (subst (λ (q : ℕ). are_apart (page_range block k) (page_range block q) ≡ true) (sym (equal_is k x e)) a))
    by Greater e a again = rw e (ap suc again)

pub more_keys : (block : ℕ) (keys new : List ℕ) (k : ℕ) (b : Bool) → 0 < block → b ≡ list_all (λ p. are_apart (page_range block k) (page_range block p)) keys → b ≡ true → new ≡ insert_key nat_cmp keys k → length new ≡ suc (length keys)
more_keys block keys new k b some is yes_it e = ap length e ∙ insert_long block keys k some (sym is ∙ yes_it)

pub met_more : (keys met new : List ℕ) (k : ℕ) → new ≡ insert_key nat_cmp keys k → length new ≡ suc (length keys) → HasPlaces keys met → HasPlaces new (met ++ k ∷ [])
met_more keys met new k e long has = (
  λ test. ap (list_all test) e ∙ all_insert test keys k ∙ ap (λ (b : Bool). test k && b) (has.0 test) ∙ sym (all_end test met k),
  omega (arith, long, has.1, length-append met (k ∷ [])),
)

pub all_more : (keys new : List ℕ) (k : ℕ) (test : ℕ → Bool) → new ≡ insert_key nat_cmp keys k → test k ≡ true → list_all test keys ≡ true → list_all test new ≡ true
all_more keys new k test e here all = ap (list_all test) e ∙ all_insert test keys k ∙ and_from (test k) (list_all test keys) here all
