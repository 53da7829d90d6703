-- The reading whose next row has the least key, the first of those.
use Rattle.std.proofs.Common.{◌≡◌, ◌⊎◌, ℕ, zero, suc, ◌+◌, ◌<◌, ◌≤◌, Bool, true, false, Option, Some, None, List, [], ◌∷◌, length, get_or, slice_get, refl, sym, ap, subst, ◌∙◌, arith, inl, inr}
use Rattle.std.specs.Prelude.{is_some, IsSome, IfSome}
use Rattle.std.specs.List.{AllByRecursion}
use Rattle.std.specs.Ordering.{is_lt, is_gt, ordering_reverse}
use Rattle.std.specs.declared.cmp.Ordering.{Ordering}
use Rattle.std.specs.declared.cmp.Ordering.TheVariants.{Less, Equal, Greater}
use Rattle.std.proofs.lemmas.Cmp.{tied_itself, upto}
use Rattle.std.proofs.lemmas.Option.{same_Some}
use Rattle.myi_keys.specs.declared.values.KeySeg.{KeySeg}
use Rattle.myi_keys.specs.Order.{key_cmp}
use Rattle.myi_keys.specs.OrderLaws.{key_total}
use Rattle.myi_merge.specs.declared.ranges.Head.{Head}
use Rattle.myi_merge.specs.declared.ranges.Reading.{Reading}
use Rattle.myi_merge.specs.Merging.{comes_before, IsLeast}
use Rattle.myi_merge.proofs.TableLemmas.{got_back}

-- ---- the order of rows that come

not_itself : (h : Option Head) → comes_before h h ≡ false
not_itself None = refl
not_itself (Some h) = ap is_lt (tied_itself key_total h.key)

lt_turned : (a b : List KeySeg) → is_lt (key_cmp a b) ≡ is_gt (key_cmp b a)
lt_turned a b = ap is_lt (key_total.antisymm a b) ∙ by (key_cmp b a)
  where
    by : (o : Ordering) → is_lt (ordering_reverse o) ≡ is_gt o
    by Less = refl
    by Equal = refl
    by Greater = refl

is_less : (o : Ordering) → is_lt o ≡ true → o ≡ Less
is_less Less e = refl
is_less Equal e = absurd cc
is_less Greater e = absurd cc

less_not_gt : (o : Ordering) → is_lt o ≡ true → is_gt o ≡ false
less_not_gt Less e = refl
less_not_gt Equal e = absurd cc
less_not_gt Greater e = absurd cc

-- what does not come before one that another comes before does not come before that one
late : (r best new : Option Head) → comes_before r best ≡ false → comes_before new best ≡ true → comes_before r new ≡ false
late None best new one two = refl
late (Some r) None new one two = absurd cc
late (Some r) (Some best) None one two = absurd cc
late (Some r) (Some best) (Some new) one two =
    -- best <= r and new < best
    lt_turned r.key new.key ∙ upto key_total new.key best.key r.key (less_not_gt (key_cmp new.key best.key) two) (sym (lt_turned r.key best.key) ∙ one)

-- what comes before all comes before this one
early : (r best new : Option Head) → comes_before r best ≡ false → comes_before new best ≡ true → IsSome r → comes_before new r ≡ true
early None best new one two some = absurd cc
early (Some r) None new one two some = absurd cc
early (Some r) (Some best) None one two some = absurd cc
early (Some r) (Some best) (Some new) one two some = by (key_cmp best.key r.key) refl (sym (lt_turned r.key best.key) ∙ one)
  where
    less : key_cmp new.key best.key ≡ Less
    less = is_less (key_cmp new.key best.key) two

    by : (o : Ordering) → key_cmp best.key r.key ≡ o → is_gt (key_cmp best.key r.key) ≡ false → is_lt (key_cmp new.key r.key) ≡ true
    by Less e up = ap is_lt (key_total.trans new.key best.key r.key less e)
    by Equal e up = ap is_lt (sym (Rattle.std.proofs.lemmas.Cmp.alike_right key_total best.key r.key new.key e) ∙ less)
    by Greater e up = absurd (let t : is_gt (key_cmp best.key r.key) ≡ true = ap is_gt e in let bad : true ≡ false = sym t ∙ up in cc)

pub some_there : (h : Option Head) → is_some h ≡ true → IsSome h
some_there None e = absurd cc
some_there (Some h) e = refl

pub none_there : (h : Option Head) → is_some h ≡ false → h ≡ None
none_there None e = refl
none_there (Some h) e = absurd cc

-- ---- the first so many readings

-- of the first so many readings the one of that number has the least next row, the first of those
pub record LeastOf (rs : List Reading) (n index : ℕ) : Type 0 where
  pub below : index < n
  pub least : Reading
  pub stands : slice_get rs index ≡ Some least
  pub there : IsSome least.head
  pub first : (i : ℕ) (r : Reading) → i < n → slice_get rs i ≡ Some r → comes_before r.head least.head ≡ false
  pub none : (i : ℕ) (r : Reading) → i < index → slice_get rs i ≡ Some r → IsSome r.head → comes_before least.head r.head ≡ true

-- none of them has a next row
abbrev pub NoneOf : List Reading → ℕ → Type 0
NoneOf rs n = (i : ℕ) (r : Reading) → i < n → slice_get rs i ≡ Some r → r.head ≡ None

last_or_before : (i n : ℕ) → i < n + 1 → (i < n) ⊎ (i ≡ n)
last_or_before i n lt = by (Rattle.std.specs.Prelude.nat_lt i n) refl
  where
    by : (b : Bool) → Rattle.std.specs.Prelude.nat_lt i n ≡ b → (i < n) ⊎ (i ≡ n)
    by true e = inl (grind (arith, Rattle.std.proofs.lemmas.Bool.Decides.nat_tests, e))
    by false e = inr (grind (arith, Rattle.std.proofs.lemmas.Bool.Decides.nat_tests, e, lt))

same_reading : (rs : List Reading) (i n : ℕ) (r q : Reading) → i ≡ n → slice_get rs i ≡ Some r → slice_get rs n ≡ Some q → r ≡ q
same_reading rs i n r q same one two = same_Some r q (sym one ∙ ap (slice_get rs) same ∙ two)

-- no one before it had a next row
pub least_first : (rs : List Reading) (n : ℕ) (q : Reading) → slice_get rs n ≡ Some q → IsSome q.head → NoneOf rs n → LeastOf rs (n + 1) n
least_first rs n q is some none = record {
  below = omega arith;
  least = q;
  stands = is;
  there = some;
  first = λ i r lt at. by r (last_or_before i n lt) at;
  none = λ i r lt at there. absurd (let e : r.head ≡ None = none i r lt at in let bad : false ≡ true = subst IsSome e there in cc);
}
  where
    by : (r : Reading) {i : ℕ} → (i < n) ⊎ (i ≡ n) → slice_get rs i ≡ Some r → comes_before r.head q.head ≡ false
    by r {i} (inl lt) at = ap (λ (o : Option Head). comes_before o q.head) (none i r lt at)
    by r {i} (inr same) at = ap (λ (p : Reading). comes_before p.head q.head) (same_reading rs i n r q same at is) ∙ not_itself q.head

-- it comes before the one that was the least so far
pub least_new : (rs : List Reading) (n best : ℕ) (q : Reading) → slice_get rs n ≡ Some q → (b : LeastOf rs n best) → comes_before q.head b.least.head ≡ true → LeastOf rs (n + 1) n
least_new rs n best q is b better = record {
  below = omega arith;
  least = q;
  stands = is;
  there = some q.head better;
  first = λ i r lt at. by r (last_or_before i n lt) at;
  none = λ i r lt at there. early r.head b.least.head q.head (b.first i r lt at) better there;
}
  where
    some : (o : Option Head) → comes_before o b.least.head ≡ true → IsSome o
    some None e = absurd cc
    some (Some h) e = refl

    by : (r : Reading) {i : ℕ} → (i < n) ⊎ (i ≡ n) → slice_get rs i ≡ Some r → comes_before r.head q.head ≡ false
    by r {i} (inl lt) at = late r.head b.least.head q.head (b.first i r lt at) better
    by r {i} (inr same) at = ap (λ (p : Reading). comes_before p.head q.head) (same_reading rs i n r q same at is) ∙ not_itself q.head

-- it does not
pub least_kept : (rs : List Reading) (n best : ℕ) (q : Reading) → slice_get rs n ≡ Some q → (b : LeastOf rs n best) → comes_before q.head b.least.head ≡ false → LeastOf rs (n + 1) best
least_kept rs n best q is b not = record {
  below = let lt = b.below in omega (arith, lt);
  least = b.least;
  stands = b.stands;
  there = b.there;
  first = λ i r lt at. by r (last_or_before i n lt) at;
  none = b.none;
}
  where
    by : (r : Reading) {i : ℕ} → (i < n) ⊎ (i ≡ n) → slice_get rs i ≡ Some r → comes_before r.head b.least.head ≡ false
    by r {i} (inl lt) at = b.first i r lt at
    by r {i} (inr same) at = ap (λ (p : Reading). comes_before p.head b.least.head) (same_reading rs i n r q same at is) ∙ not

pub none_more : (rs : List Reading) (n : ℕ) (q : Reading) → slice_get rs n ≡ Some q → q.head ≡ None → NoneOf rs n → NoneOf rs (n + 1)
none_more rs n q is head none = λ i r lt at. by r (last_or_before i n lt) at
  where
    by : (r : Reading) {i : ℕ} → (i < n) ⊎ (i ≡ n) → slice_get rs i ≡ Some r → r.head ≡ None
    by r {i} (inl lt) at = none i r lt at
    by r {i} (inr same) at = ap (λ (p : Reading). p.head) (same_reading rs i n r q same at is) ∙ head

-- this one is the least so far, or there is none
pub record SoFar (rs : List Reading) (n : ℕ) (least : Option ℕ) : Type 0 where
  pub found : IfSome least (LeastOf rs n)
  pub none : least ≡ None → NoneOf rs n

pub so_far_some : (rs : List Reading) (n index : ℕ) (least : Option ℕ) → least ≡ Some index → LeastOf rs n index → SoFar rs n least
so_far_some rs n index least is of = record {
  found = subst (λ (o : Option ℕ). IfSome o (LeastOf rs n)) (sym is) of;
  none = λ e. absurd (let bad : ◌≡◌ {A = Option ℕ} (Some index) None = sym is ∙ e in cc);
}

pub so_far_none : (rs : List Reading) (n : ℕ) (least : Option ℕ) → least ≡ None → NoneOf rs n → SoFar rs n least
so_far_none rs n least is none = record {
  found = subst (λ (o : Option ℕ). IfSome o (LeastOf rs n)) (sym is) tt;
  none = λ e. none;
}

-- ---- all readings

inside : (rs : List Reading) (i : ℕ) (r : Reading) → slice_get rs i ≡ Some r → i < length rs
inside [] i r at = absurd cc
inside (q ∷ rs) zero r at = omega arith
inside (q ∷ rs) (suc i) r at = let more = inside rs i r at in omega (arith, more)

pub least_of_all : (rs : List Reading) (n index : ℕ) → length rs ≤ n → LeastOf rs n index → IsLeast rs index
least_of_all rs n index all b = record {
  least = b.least;
  stands = b.stands;
  there = b.there;
  first = λ i r at. b.first i r (let lt = inside rs i r at in omega (arith, all, lt)) at;
  none = b.none;
}

pub none_of_all : (rs : List Reading) (n : ℕ) → length rs ≤ n → NoneOf rs n → AllByRecursion (λ (r : Reading). r.head ≡ None) rs
none_of_all [] n all none = tt
none_of_all (r ∷ rs) zero all none = absurd (omega (arith, all))
none_of_all (r ∷ rs) (suc n) all none = (none 0 r (omega arith) refl, none_of_all rs n (omega (arith, all)) (λ i q lt at. none (suc i) q (omega (arith, lt)) at))

-- the least reading has a next row
pub least_has : (rs : List Reading) (i : ℕ) (r : Reading) → IsLeast rs i → slice_get rs i ≡ Some r → r.head ≡ None → ⊥
least_has rs i r least at none =
    let e : least.least.head ≡ None = ap (λ (q : Reading). q.head) (same_Some least.least r (sym least.stands ∙ at)) ∙ none in
    let bad : false ≡ true = subst IsSome e least.there in
    cc

-- where the least one stands, in a list that is this one
pub inside_least : (rs qs : List Reading) (i : ℕ) → qs ≡ rs → IsLeast qs i → i < length rs
inside_least rs qs i same least = subst (λ (l : List Reading). i < length l) same (inside qs i least.least least.stands)

pub stands_least : (rs qs : List Reading) (i : ℕ) (r : Reading) → qs ≡ rs → IsLeast qs i → r ≡ get_or rs i r → slice_get rs i ≡ Some r
stands_least rs qs i r same least at = got_back rs i r (inside_least rs qs i same least) (sym at)
