-- Whether a page has a byte of a page of a tree before.
use Rattle.std.proofs.Common.{◌≡◌, ℕ, ◌+◌, ◌-◌, ◌<◌, ◌≤◌, ◌||◌, ◌&&◌, Bool, true, false, leb, nat_cmp, List, [], ◌∷◌, refl, sym, ap, ◌∙◌, arith, inl, inr}
use Rattle.std.specs.List.{list_all, filter, AllByRecursion}
use Rattle.std.specs.List.Sorted.{IsStrictlySortedBy}
use Rattle.std.specs.Ordering.{is_le}
use Rattle.std.specs.Cmp.{nat_cmp_is}
use Rattle.std.specs.BTreeMap.Range.{range_contains}
use Rattle.std.specs.BTreeSet.{insert_key}
use Rattle.std.specs.declared.ops.Bound.{Bound}
use Rattle.std.specs.declared.cmp.Ordering.{Ordering}
use Rattle.std.specs.declared.cmp.Ordering.TheVariants.{Less, Equal, Greater}
use Rattle.std.proofs.lemmas.Bool.{cases_lt, le-leb, lt-leb}
use Rattle.myi_base.specs.Ranges.{are_apart}

is_le-leb : (x y : ℕ) → is_le (nat_cmp x y) ≡ leb x y
is_le-leb x y = elim (cases_lt x y) [
  | inl lt ↦ ap is_le (sym (nat_cmp_is x y Less lt)) ∙ sym (le-leb x y (omega arith))
  | inr ge ↦ elim (cases_lt y x) [
    | inl gt ↦ ap is_le (sym (nat_cmp_is x y Greater gt)) ∙ sym (lt-leb x y gt)
    | inr le ↦ let e : x ≡ y = omega arith in ap is_le (sym (nat_cmp_is x y Equal e)) ∙ sym (le-leb x y (omega arith))
  ]
]

less_is : (x y : ℕ) → nat_cmp x y ≡ Less → x < y
less_is x y e = elim (cases_lt x y) [
  | inl lt ↦ lt
  | inr ge ↦ elim (cases_lt y x) [
    | inl gt ↦ let k : Greater ≡ Less = nat_cmp_is x y Greater gt ∙ e in absurd cc
    | inr le ↦ let k : Equal ≡ Less = nat_cmp_is x y Equal (omega arith) ∙ e in absurd cc
  ]
]

-- whether a page of so many bytes has no byte of one of that length elsewhere
apart : ℕ → ℕ → ℕ → ℕ → Bool
apart block len at q = are_apart (at, at + block) (q, q + len)

apart_below : (block len at q : ℕ) → q < at - (len - 1) → apart block len at q ≡ true
unfolding apart
apart_below block len at q lt = let e : leb (q + len) at ≡ true = le-leb _ _ (omega arith) in rw e (or_true (leb (at + block) q))
  where
    or_true : (b : Bool) → (b || true) ≡ true
    or_true true = refl
    or_true false = refl

apart_behind : (block len at q : ℕ) → 0 < block → 0 < len → at - (len - 1) ≤ q → apart block len at q ≡ leb block (q - at)
unfolding apart
apart_behind block len at q some has ge = elim (cases_lt q (at + block)) [
  | inl lt ↦
      let a : leb (at + block) q ≡ false = lt-leb _ _ lt in
      let b : leb (q + len) at ≡ false = lt-leb _ _ (omega arith) in
      let c : leb block (q - at) ≡ false = lt-leb _ _ (omega arith) in
      rw (a, b, c) refl
  | inr le ↦
      let a : leb (at + block) q ≡ true = le-leb _ _ le in
      let c : leb block (q - at) ≡ true = le-leb _ _ (omega arith) in
      rw (a, c) refl
]

all_apart : (block len at p : ℕ) (keys : List ℕ) → at + block ≤ p → AllByRecursion (λ y. nat_cmp p y ≡ Less) keys → list_all (apart block len at) keys ≡ true
unfolding apart
all_apart block len at p [] le all = refl
all_apart block len at p (k ∷ keys) le all =
    let lt : p < k = less_is p k all.0 in
    let a : leb (at + block) k ≡ true = le-leb _ _ (omega arith) in
    rw a (all_apart block len at p keys le all.1)

-- what the first of the keys from a place on says of all
abbrev says : ℕ → ℕ → List ℕ → Bool
says block at [] = true
says block at (p ∷ rest) = leb block (p - at)

from_first : (block len at first : ℕ) (keys : List ℕ) → 0 < block → 0 < len → first ≡ at - (len - 1) → IsStrictlySortedBy nat_cmp keys → says block at (filter (range_contains nat_cmp (Bound.Included first) Bound.Unbounded) keys) ≡ list_all (apart block len at) keys
unfolding IsStrictlySortedBy
from_first block len at first [] some has f sorted = refl
from_first block len at first (k ∷ keys) some has f sorted = elim (cases_lt k first) [
  | inl lt ↦
      let off : is_le (nat_cmp first k) ≡ false = is_le-leb first k ∙ lt-leb _ _ lt in
      let a : apart block len at k ≡ true = apart_below block len at k (omega arith) in
      rw (off, a) (from_first block len at first keys some has f sorted.1)
  | inr ge ↦
      let on : is_le (nat_cmp first k) ≡ true = is_le-leb first k ∙ le-leb _ _ ge in
      let a : apart block len at k ≡ leb block (k - at) = apart_behind block len at k some has (omega arith) in
      rw (on, a) (elim (cases_lt k (at + block)) [
        | inl near ↦ let n : leb block (k - at) ≡ false = lt-leb _ _ (omega arith) in rw n refl
        | inr far ↦ let n : list_all (apart block len at) keys ≡ true = all_apart block len at k keys far sorted.0 in rw n (sym (and_true (leb block (k - at))))
      ])
]
  where
    and_true : (b : Bool) → (b && true) ≡ b
    and_true true = refl
    and_true false = refl

pub none_from : (block len at first : ℕ) (keys xs : List ℕ) → 0 < block → 0 < len → first ≡ at - (len - 1) → IsStrictlySortedBy nat_cmp keys → xs ≡ filter (range_contains nat_cmp (Bound.Included first) Bound.Unbounded) keys → xs ≡ [] → true ≡ list_all (λ p. are_apart (at, at + block) (p, p + len)) keys
unfolding apart
none_from block len at first keys xs some has f sorted are none = ap (says block at) (sym none ∙ are) ∙ from_first block len at first keys some has f sorted

pub some_from : (block len at first p : ℕ) (keys xs rest : List ℕ) → 0 < block → 0 < len → first ≡ at - (len - 1) → IsStrictlySortedBy nat_cmp keys → xs ≡ filter (range_contains nat_cmp (Bound.Included first) Bound.Unbounded) keys → xs ≡ p ∷ rest → leb block (p - at) ≡ list_all (λ p. are_apart (at, at + block) (p, p + len)) keys
unfolding apart
some_from block len at first p keys xs rest some has f sorted are is = ap (says block at) (sym is ∙ are) ∙ from_first block len at first keys some has f sorted

-- ---- a key that is put into a set

and_again : (a b : Bool) → (a && b) ≡ (a && (a && b))
and_again true b = refl
and_again false b = refl

and_turn : (a b c : Bool) → (a && (b && c)) ≡ (b && (a && c))
and_turn true true c = refl
and_turn true false c = refl
and_turn false true c = refl
and_turn false false c = refl

equal_is : (x y : ℕ) → nat_cmp x y ≡ Equal → x ≡ y
equal_is x y e = elim (cases_lt x y) [
  | inl lt ↦ let k : Less ≡ Equal = nat_cmp_is x y Less lt ∙ e in absurd cc
  | inr ge ↦ elim (cases_lt y x) [
    | inl gt ↦ let k : Greater ≡ Equal = nat_cmp_is x y Greater gt ∙ e in absurd cc
    | inr le ↦ omega arith
  ]
]

all_insert : (test : ℕ → Bool) (keys : List ℕ) (k : ℕ) → list_all test (insert_key nat_cmp keys k) ≡ (test k && list_all test keys)
all_insert test [] k = refl
all_insert test (x ∷ xs) k = by (nat_cmp k x) refl (all_insert test xs k)
  where
    by : (o : Ordering) → nat_cmp k x ≡ o → list_all test (insert_key nat_cmp xs k) ≡ (test k && list_all test xs) → list_all test (insert_key nat_cmp (x ∷ xs) k) ≡ (test k && list_all test (x ∷ xs))
    by Less e again = rw e refl
    by Equal e again = let same : k ≡ x = equal_is k x e in rw e (ap (λ (n : ℕ). test x && list_all test xs) same ∙ and_again (test x) (list_all test xs) ∙ ap (λ (n : ℕ). test n && (test x && list_all test xs)) (sym same))
    by Greater e again = rw e (ap (λ (b : Bool). test x && b) again ∙ and_turn (test x) (test k) (list_all test xs))

-- what holds of all places that were met, and of those that are left, where one more was met
pub all_more : (test : ℕ → Bool) (keys new : List ℕ) (k : ℕ) (rest : List ℕ) → new ≡ insert_key nat_cmp keys k → (list_all test keys && list_all test (k ∷ rest)) ≡ (list_all test new && list_all test rest)
all_more test keys new k rest e =
    and_turn (list_all test keys) (test k) (list_all test rest) ∙ and_assoc (test k) (list_all test keys) (list_all test rest)
    ∙ ap (λ (b : Bool). b && list_all test rest) (sym (ap (list_all test) e ∙ all_insert test keys k))
  where
    and_assoc : (a b c : Bool) → (a && (b && c)) ≡ ((a && b) && c)
    and_assoc true b c = refl
    and_assoc false b c = refl
