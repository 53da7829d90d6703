-- Which pairs of a list in order are left behind the first of them.
use Rattle.std.proofs.Common.{◌≡◌, ◌≢◌, ℕ, zero, suc, ◌≤◌, Bool, true, false, cond, ◌&&◌, Option, Some, None, List, [], ◌∷◌, refl, sym, ap, subst, ◌∙◌, arith}
use Rattle.std.specs.Prelude.{Contains, filter, option_map, is_some}
use Rattle.std.specs.List.{AllByRecursion}
use Rattle.std.specs.List.Sorted.{IsStrictlySortedBy}
use Rattle.std.specs.Ordering.{nat_cmp, ordering_then, ordering_reverse, is_lt, is_le}
use Rattle.std.specs.declared.cmp.Ordering.{Ordering}
use Rattle.std.specs.declared.cmp.Ordering.TheVariants.{Less, Equal, Greater}
use Rattle.std.proofs.lemmas.Bool.Decides.{nat_tests}
use Rattle.std.proofs.lemmas.Cmp.{tied_itself}
use Rattle.std.proofs.lemmas.List.Elements.{recursion_from_All, All-contains, All-from_recursion}
use Rattle.myi_keys.specs.declared.values.KeySeg.{KeySeg}
use Rattle.myi_keys.specs.Order.{key_cmp}
use Rattle.myi_keys.specs.OrderLaws.{key_total, key_exact}
use Rattle.myi_keylist.specs.declared.pair.Pair.{Pair}
use Rattle.myi_keylist.specs.PairOrder.{pair_with, pair_cmp}
use Rattle.myi_keylist.proofs.CallerLemmas.{pair_total}
use Rattle.myi_search.specs.Path.{is_up_to}
use Rattle.myi_search.specs.Least.{IsLeastRow, IsAbove, IsLeastAbove}
use Rattle.myi_search.specs.Cursor.{CursorAt, from_kept, StandsIn, Advances}
use Rattle.myi_tablestate.specs.Matching.{stays_below}
use Rattle.myi_ranges.specs.declared.ranges.Reached.{Reached}
use Rattle.myi_ranges.specs.declared.ranges.Reached.TheVariants.{Start, Key, Behind, End}
use Rattle.myi_ranges.specs.Ranges.{comes_behind, is_left, left_of, IsNext, ComesTo}

-- ---- filters

pub takes : {X : Type 0} (test : X → Bool) (x : X) (xs : List X) → test x ≡ true → filter test (x ∷ xs) ≡ x ∷ filter test xs
takes test x xs e = ap (λ (b : Bool). cond b (x ∷ filter test xs) (filter test xs)) e

pub skips : {X : Type 0} (test : X → Bool) (x : X) (xs : List X) → test x ≡ false → filter test (x ∷ xs) ≡ filter test xs
skips test x xs e = ap (λ (b : Bool). cond b (x ∷ filter test xs) (filter test xs)) e

pub none_kept : {X : Type 0} (test : X → Bool) (xs : List X) → AllByRecursion (λ x. test x ≡ false) xs → filter test xs ≡ []
none_kept test [] all = refl
none_kept test (x ∷ xs) all = skips test x xs all.0 ∙ none_kept test xs all.1

pub kept_alike : {X : Type 0} (test other : X → Bool) (xs : List X) → AllByRecursion (λ x. test x ≡ other x) xs → filter test xs ≡ filter other xs
kept_alike test other [] all = refl
kept_alike test other (x ∷ xs) all = ap (λ (b : Bool). cond b (x ∷ filter test xs) (filter test xs)) all.0 ∙ ap (λ ys. cond (other x) (x ∷ ys) ys) (kept_alike test other xs all.1)

pub all_alike : {X : Type 0} (test other : X → Bool) (xs : List X) → ((x : X) → test x ≡ other x) → filter test xs ≡ filter other xs
all_alike test other [] f = refl
all_alike test other (x ∷ xs) f = ap (λ (b : Bool). cond b (x ∷ filter test xs) (filter test xs)) (f x) ∙ ap (λ ys. cond (other x) (x ∷ ys) ys) (all_alike test other xs f)

pub kept_twice : {X : Type 0} (test other : X → Bool) (xs : List X) → filter (λ x. test x && other x) xs ≡ filter other (filter test xs)
kept_twice test other [] = refl
kept_twice test other (x ∷ xs) = by (test x) (kept_twice test other xs)
  where
    by : (b : Bool) → filter (λ y. test y && other y) xs ≡ filter other (filter test xs) → cond (b && other x) (x ∷ filter (λ y. test y && other y) xs) (filter (λ y. test y && other y) xs) ≡ filter other (cond b (x ∷ filter test xs) (filter test xs))
    by true more = ap (λ ys. cond (other x) (x ∷ ys) ys) more
    by false more = more

pub all_of : {X : Type 0} (P Q : X → Type 0) (xs : List X) → ((x : X) → P x → Q x) → AllByRecursion P xs → AllByRecursion Q xs
all_of P Q [] f all = tt
all_of P Q (x ∷ xs) f all = (f x all.0, all_of P Q xs f all.1)

-- ---- orders

not_true : (b : Bool) → (b ≡ true → ⊥) → b ≡ false
not_true true never = absurd (never refl)
not_true false never = refl

front_le : (c d : Ordering) → ordering_then c d ≡ Less → is_le c ≡ true
front_le Less d e = refl
front_le Equal d e = refl
front_le Greater d e = absurd cc

less_is : (c : Ordering) → is_lt c ≡ true → c ≡ Less
less_is Less e = refl
less_is Equal e = absurd cc
less_is Greater e = absurd cc

-- ---- the first that is left

pub first_left : (keep : Pair → Bool) (p : Pair) (pairs : List Pair) → IsStrictlySortedBy pair_cmp pairs → Contains pairs p → keep p ≡ true → ((q : Pair) → pair_cmp p q ≡ Less → keep q ≡ true)
    → AllByRecursion (λ q. keep q ≡ true → is_le (pair_cmp p q) ≡ true) pairs → filter keep pairs ≡ p ∷ filter (λ q. is_lt (pair_cmp p q)) pairs
unfolding IsStrictlySortedBy
first_left keep p [] up has kept more least = absurd (let lt = has.1 in omega (arith, lt))
first_left keep p (x ∷ xs) up (zero, lt, e) kept more least =
    let here : x ≡ p = e in
    let above : Pair → Bool = λ q. is_lt (pair_cmp x q) in
    subst (λ (t : Pair). filter keep (x ∷ xs) ≡ t ∷ filter (λ q. is_lt (pair_cmp t q)) (x ∷ xs)) here
    (takes keep x xs (ap keep here ∙ kept)
    ∙ ap (λ (ys : List Pair). x ∷ ys) (kept_alike keep above xs (all_of (λ y. pair_cmp x y ≡ Less) (λ y. keep y ≡ above y) xs (λ y less. more y (ap (λ (t : Pair). pair_cmp t y) (sym here) ∙ less) ∙ sym (ap is_lt less)) up.0))
    ∙ ap (λ (ys : List Pair). x ∷ ys) (sym (skips above x xs (ap is_lt (tied_itself pair_total x)))))
first_left keep p (x ∷ xs) up (suc k, lt, e) kept more least =
    let has : Contains xs p = (k, omega (arith, lt), e) in
    let less : pair_cmp x p ≡ Less = All-contains (λ (y : Pair). pair_cmp x y ≡ Less) xs p (All-from_recursion (λ (y : Pair). pair_cmp x y ≡ Less) xs up.0) has in
    let greater : pair_cmp p x ≡ Greater = pair_total.antisymm p x ∙ ap ordering_reverse less in
    let out : keep x ≡ false = not_true (keep x) (λ is. let k : true ≡ false = sym (least.0 is) ∙ ap is_le greater in cc) in
    skips keep x xs out ∙ first_left keep p xs up.1 has kept more least.1 ∙ ap (λ (ys : List Pair). p ∷ ys) (sym (skips (λ q. is_lt (pair_cmp p q)) x xs (ap is_lt greater)))

above_more : (q p r : Pair) → is_lt (pair_cmp q p) ≡ true → pair_cmp p r ≡ Less → is_lt (pair_cmp q r) ≡ true
above_more q p r one two = ap is_lt (pair_total.trans q p r (less_is (pair_cmp q p) one) two)

pub none_above : (last : Option Pair) (pairs : List Pair) → IsLeastAbove last pairs None → filter (comes_behind last) pairs ≡ []
none_above None pairs least = none_kept (comes_behind None) pairs (all_of (λ p. IsAbove None p → ⊥) (λ p. comes_behind None p ≡ false) pairs (λ p never. absurd (never tt)) (recursion_from_All (λ (p : Pair). IsAbove None p → ⊥) pairs least))
none_above (Some after) pairs least = none_kept (comes_behind (Some after)) pairs (all_of (λ p. IsAbove (Some after) p → ⊥) (λ p. comes_behind (Some after) p ≡ false) pairs (λ p never. not_true (comes_behind (Some after) p) never) (recursion_from_All (λ (p : Pair). IsAbove (Some after) p → ⊥) pairs least))

pub next_above : (last : Option Pair) (pairs : List Pair) (p : Pair) → IsStrictlySortedBy pair_cmp pairs → IsLeastAbove last pairs (Some p) → filter (comes_behind last) pairs ≡ p ∷ filter (comes_behind (Some p)) pairs
next_above None pairs p up least =
    first_left (comes_behind None) p pairs up least.0 refl (λ q less. refl) (all_of (λ q. IsAbove None q → is_le (pair_cmp p q) ≡ true) (λ q. comes_behind None q ≡ true → is_le (pair_cmp p q) ≡ true) pairs (λ q f is. f tt) (recursion_from_All (λ (q : Pair). IsAbove None q → is_le (pair_cmp p q) ≡ true) pairs least.2))
next_above (Some after) pairs p up least =
    first_left (comes_behind (Some after)) p pairs up least.0 least.1 (λ q less. above_more after p q least.1 less) (recursion_from_All (λ (q : Pair). IsAbove (Some after) q → is_le (pair_cmp p q) ≡ true) pairs least.2)

-- a cursor went on, or stays where no pair is behind it
pub comes_on : (pairs : List Pair) (old new : CursorAt) → IsStrictlySortedBy pair_cmp pairs → Advances pairs old new true → ComesTo (Behind old) pairs (Some new)
comes_on pairs old new up a = (a.0, a.1, next_above old.last pairs a.0 up a.2, a.3)

pub comes_off : (pairs : List Pair) (old new : CursorAt) → Advances pairs old new false → ComesTo (Behind old) pairs None
comes_off pairs old new a = none_above old.last pairs a.0

-- a place at which the same is left
pub comes_alike : (at other : Reached) (pairs : List Pair) (found : Option CursorAt) → left_of at pairs ≡ left_of other pairs → ComesTo other pairs found → ComesTo at pairs found
comes_alike at other pairs None same c = same ∙ c
comes_alike at other pairs (Some next) same c = (c.0, c.1, same ∙ c.2, c.3)

pub stands_new : (pairs : List Pair) (last : Option Pair) (c : CursorAt) → c ≡ record { last = last; ahead = [] } → StandsIn pairs c
stands_new pairs last c is = subst (λ (t : CursorAt). StandsIn pairs t) (sym is) (from_kept (is_up_to last) pairs, refl)

start_alike : (c : CursorAt) (pairs : List Pair) → c.last ≡ None → left_of Start pairs ≡ left_of (Behind c) pairs
start_alike c pairs is = kept_alike (is_left Start) (is_left (Behind c)) pairs (each pairs)
  where
    each : (ps : List Pair) → AllByRecursion (λ p. is_left Start p ≡ is_left (Behind c) p) ps
    each [] = tt
    each (p ∷ ps) = (ap (λ (l : Option Pair). comes_behind l p) (sym is), each ps)

pub comes_first : (pairs : List Pair) (c : CursorAt) (found : Option CursorAt) → c ≡ record { last = None; ahead = [] } → (StandsIn pairs c → ComesTo (Behind c) pairs found) → ComesTo Start pairs found
comes_first pairs c found is comes = comes_alike Start (Behind c) pairs found (start_alike c pairs (ap (λ (t : CursorAt). t.last) is)) (comes (stands_new pairs None c is))

-- ---- the pair of a cursor

pub some_mapped : {A B : Type 0} (f : A → B) (r : Option A) (o : Option B) → option_map f r ≡ o → is_some o ≡ true → is_some r ≡ true
some_mapped f None o e some = let k : false ≡ true = ap is_some e ∙ some in absurd cc
some_mapped f (Some x) o e some = refl

-- ---- from a key on

next_found : (low : List KeySeg) (pairs : List Pair) (row : ℕ) → IsStrictlySortedBy pair_cmp pairs → IsLeastRow low pairs (Some row) → IsNext (Key low) pairs (pair_with low row)
next_found low pairs row up least =
    let p : Pair = pair_with low row in
    first_left (is_left (Key low)) p pairs up least.0 (ap is_le (tied_itself key_total low)) (λ q less. front_le (key_cmp low q.key) (nat_cmp row q.row) less)
    (all_of (λ (q : Pair). q.key ≡ low → row ≤ q.row) (λ q. is_left (Key low) q ≡ true → is_le (pair_cmp p q) ≡ true) pairs (λ q f is. by q (key_cmp low q.key) refl is f) (recursion_from_All (λ (q : Pair). q.key ≡ low → row ≤ q.row) pairs least.1))
  where
    by : (q : Pair) (c : Ordering) → key_cmp low q.key ≡ c → is_le c ≡ true → (q.key ≡ low → row ≤ q.row) → is_le (ordering_then c (nat_cmp row q.row)) ≡ true
    by q Less e le f = refl
    by q Equal e le f = let rows : row ≤ q.row = f (sym (key_exact low q.key e)) in grind (arith, nat_tests)
    by q Greater e le f = absurd cc

pub comes_at : (low : List KeySeg) (pairs : List Pair) (row : ℕ) (c : CursorAt) → IsStrictlySortedBy pair_cmp pairs → c ≡ record { last = Some (pair_with low row); ahead = [] } → IsLeastRow low pairs (Some row) → ComesTo (Key low) pairs (Some c)
comes_at low pairs row c up is least = (pair_with low row, ap (λ (t : CursorAt). t.last) is, next_found low pairs row up least, stands_new pairs (Some (pair_with low row)) c is)

key_alike : (low : List KeySeg) (pairs : List Pair) (c : CursorAt) → IsLeastRow low pairs None → c.last ≡ Some (pair_with low 0) → left_of (Key low) pairs ≡ left_of (Behind c) pairs
key_alike low pairs c none is = kept_alike (is_left (Key low)) (is_left (Behind c)) pairs (all_of (λ (p : Pair). p.key ≢ low) (λ p. is_left (Key low) p ≡ is_left (Behind c) p) pairs (λ p other. alike p (key_cmp low p.key) refl other ∙ ap (λ (l : Option Pair). comes_behind l p) (sym is)) (recursion_from_All (λ (p : Pair). p.key ≢ low) pairs none))
  where
    alike : (p : Pair) (o : Ordering) → key_cmp low p.key ≡ o → p.key ≢ low → is_le o ≡ is_lt (ordering_then o (nat_cmp 0 p.row))
    alike p Less e other = refl
    alike p Equal e other = absurd (other (sym (key_exact low p.key e)))
    alike p Greater e other = refl

pub comes_past : (low : List KeySeg) (pairs : List Pair) (c : CursorAt) (found : Option CursorAt) → c ≡ record { last = Some (pair_with low 0); ahead = [] } → IsLeastRow low pairs None → (StandsIn pairs c → ComesTo (Behind c) pairs found) → ComesTo (Key low) pairs found
comes_past low pairs c found is none comes = comes_alike (Key low) (Behind c) pairs found (key_alike low pairs c none (ap (λ (t : CursorAt). t.last) is)) (comes (stands_new pairs (Some (pair_with low 0)) c is))

pub end_none : (pairs : List Pair) → left_of End pairs ≡ []
end_none [] = refl
end_none (p ∷ pairs) = end_none pairs

-- ---- up to a bound

past_bound : (to : Option (List KeySeg)) (p q : Pair) → stays_below to p.key ≡ false → is_lt (pair_cmp p q) ≡ true → stays_below to q.key ≡ false
past_bound None p q past less = absurd cc
past_bound (Some high) p q past less = not_true (is_le (key_cmp q.key high)) (λ is.
    let one : is_le (key_cmp p.key q.key) ≡ true = front_le (key_cmp p.key q.key) (nat_cmp p.row q.row) (less_is (pair_cmp p q) less) in
    let both : is_le (key_cmp p.key high) ≡ true = le_then (key_cmp p.key q.key) (key_cmp q.key high) refl refl one is in
    let k : true ≡ false = sym both ∙ past in cc)
  where
    le_then : (c d : Ordering) → key_cmp p.key q.key ≡ c → key_cmp q.key high ≡ d → is_le c ≡ true → is_le d ≡ true → is_le (key_cmp p.key high) ≡ true
    le_then Less Less e f one two = ap is_le (key_total.trans p.key q.key high e f)
    le_then Less Equal e f one two = ap is_le (ap (λ (k : List KeySeg). key_cmp p.key k) (sym (key_exact q.key high f)) ∙ e)
    le_then Equal d e f one two = ap is_le (ap (λ (k : List KeySeg). key_cmp k high) (key_exact p.key q.key e) ∙ f) ∙ two
    le_then Less Greater e f one two = absurd cc
    le_then Greater d e f one two = absurd cc

-- what of the pairs that are left is to come
abbrev pub to_come : Reached → Option (List KeySeg) → List Pair → List Pair
to_come at to pairs = filter (λ (p : Pair). is_left at p && stays_below to p.key) pairs

abbrev below : Option (List KeySeg) → Pair → Bool
below to p = stays_below to p.key

pub come_none : (at : Reached) (to : Option (List KeySeg)) (pairs : List Pair) → left_of at pairs ≡ [] → to_come at to pairs ≡ []
come_none at to pairs next = kept_twice (is_left at) (below to) pairs ∙ ap (λ (ys : List Pair). filter (below to) ys) next

pub come_next : (at : Reached) (to : Option (List KeySeg)) (pairs : List Pair) (p : Pair) (c : CursorAt) → IsNext at pairs p → stays_below to p.key ≡ true → c.last ≡ Some p → to_come at to pairs ≡ p ∷ to_come (Behind c) to pairs
come_next at to pairs p c next may is =
    kept_twice (is_left at) (below to) pairs ∙ ap (λ (ys : List Pair). filter (below to) ys) next
    ∙ takes (below to) p (filter (comes_behind (Some p)) pairs) may
    ∙ ap (λ (ys : List Pair). p ∷ ys) (sym (kept_twice (comes_behind (Some p)) (below to) pairs))
    ∙ ap (λ (l : Option Pair). p ∷ filter (λ (q : Pair). comes_behind l q && stays_below to q.key) pairs) (sym is)

pub come_past : (at : Reached) (to : Option (List KeySeg)) (pairs : List Pair) (p : Pair) → IsNext at pairs p → stays_below to p.key ≡ false → to_come at to pairs ≡ []
come_past at to pairs p next past =
    kept_twice (is_left at) (below to) pairs ∙ ap (λ (ys : List Pair). filter (below to) ys) next
    ∙ skips (below to) p (filter (comes_behind (Some p)) pairs) past
    ∙ sym (kept_twice (comes_behind (Some p)) (below to) pairs)
    ∙ none_kept (λ (q : Pair). comes_behind (Some p) q && stays_below to q.key) pairs (each pairs)
  where
    one : (q : Pair) (b : Bool) → is_lt (pair_cmp p q) ≡ b → (b && stays_below to q.key) ≡ false
    one q true e = past_bound to p q past e
    one q false e = refl

    each : (xs : List Pair) → AllByRecursion (λ (q : Pair). (comes_behind (Some p) q && stays_below to q.key) ≡ false) xs
    each [] = tt
    each (q ∷ xs) = (one q (is_lt (pair_cmp p q)) refl, each xs)
