-- No row repeats another in a unique key exactly where no pair of the key's sorted list repeats the one before it.
use Rattle.std.proofs.Common.{◌≡◌, ℕ, ◌+◌, ◌≤◌, ◌⊎◌, inl, inr, Bool, true, false, cond, ◌&&◌, ◌||◌, List, [], ◌∷◌, ◌++◌, map, Option, Some, None, refl, sym, ap, subst, ◌∙◌, arith, append_assoc, sum_by}
use Rattle.std.specs.List.{AllByRecursion, list_any}
use Rattle.std.specs.Ordering.{is_eq}
use Rattle.std.specs.declared.cmp.Ordering.{Ordering}
use Rattle.std.specs.declared.cmp.Ordering.TheVariants.{Less, Equal, Greater}
use Rattle.std.proofs.lemmas.Cmp.{tied_itself}
use Rattle.std.proofs.lemmas.List.Sorted.{sum_by-IsPermutation}
use Rattle.std.proofs.lemmas.List.Sums.{sum_by-cons, sum_by-append}
use Rattle.myi_keys.specs.declared.values.KeySeg.{KeySeg}
use Rattle.myi_keys.specs.Limits.{is_complete}
use Rattle.myi_keys.specs.Order.{key_cmp}
use Rattle.myi_keys.specs.OrderLaws.{key_total, key_exact}
use Rattle.myi_keylist.specs.declared.pair.Pair.{Pair}
use Rattle.myi_keylist.specs.PairOrder.{sorted}
use Rattle.myi_keylist.specs.Repeats.{is_same_key, has_repeat, AreApart, keys_of}
use Rattle.myi_keylist.proofs.CallerLemmas.{sorted_permutes}
use Rattle.myi_pair.proofs.FirstBadLaws.{Fresh}

or_false : (a b : Bool) → (a || b) ≡ false → (a ≡ false) × (b ≡ false)
or_false true b is = absurd cc
or_false false b is = (refl, is)

or_from : (a b : Bool) → a ≡ false → b ≡ false → (a || b) ≡ false
or_from true b one other = absurd cc
or_from false b one other = other

-- ---- neighbours

pub fresh_none : (last : Option (List KeySeg)) (ps : List Pair) → Fresh true last ps → has_repeat ps ≡ false
fresh_none last [] fresh = refl
fresh_none last (p ∷ []) fresh = refl
fresh_none last (p ∷ q ∷ ps) fresh = or_from (is_same_key p.key q.key) (has_repeat (q ∷ ps)) fresh.1.0 (fresh_none (Some p.key) (q ∷ ps) fresh.1)

none_behind : (p : Pair) (ps : List Pair) → has_repeat (p ∷ ps) ≡ false → Fresh true (Some p.key) ps
none_behind p [] none = tt
none_behind p (q ∷ ps) none = let k = or_false (is_same_key p.key q.key) (has_repeat (q ∷ ps)) none in (k.0, none_behind q ps k.1)

pub none_fresh : (ps : List Pair) → has_repeat ps ≡ false → Fresh true None ps
none_fresh [] none = tt
none_fresh (p ∷ ps) none = (refl, none_behind p ps none)

pub plain_fresh : (last : Option (List KeySeg)) (ps : List Pair) → Fresh false last ps
plain_fresh last [] = tt
plain_fresh last (p ∷ ps) = (refl, plain_fresh (Some p.key) ps)

-- ---- how often a complete key is there

same : List KeySeg → List KeySeg → ℕ
same key other = cond (is_same_key key other) 1 0

times : List KeySeg → List (List KeySeg) → ℕ
times key keys = sum_by (same key) keys

times_more : (key other : List KeySeg) (keys : List (List KeySeg)) → times key (other ∷ keys) ≡ same key other + times key keys
unfolding times
times_more key other keys = sum_by-cons (same key) other keys

times_both : (key : List KeySeg) (keys others : List (List KeySeg)) → times key (keys ++ others) ≡ times key keys + times key others
unfolding times
times_both key keys others = sum_by-append (same key) keys others

by_pairs : (key : List KeySeg) (pairs : List Pair) → sum_by (λ (p : Pair). same key p.key) pairs ≡ times key (keys_of pairs)
unfolding times
by_pairs key [] = refl
by_pairs key (p ∷ ps) = omega (arith, sum_by-cons (λ (q : Pair). same key q.key) p ps, sum_by-cons (same key) p.key (keys_of ps), by_pairs key ps)

times_none : (key : List KeySeg) → times key [] ≡ 0
unfolding times
times_none key = refl

times_one : (key k : List KeySeg) → times key (k ∷ []) ≡ same key k
times_one key k = omega (arith, times_more key k [], times_none key)

-- keys that are one are complete and equal
same_is : (key other : List KeySeg) → is_same_key key other ≡ true → (is_complete key ≡ true) × (key ≡ other)
same_is key other is = by (is_complete key) (key_cmp key other) refl refl is
  where
    by : (whole : Bool) (o : Ordering) → is_complete key ≡ whole → key_cmp key other ≡ o → (whole && is_eq o) ≡ true → (is_complete key ≡ true) × (key ≡ other)
    by false o w k is = absurd cc
    by true Less w k is = absurd cc
    by true Equal w k is = (w, key_exact key other k)
    by true Greater w k is = absurd cc

same_one : (key other : List KeySeg) → is_same_key key other ≡ true → same key other ≡ 1
unfolding same
same_one key other is = ap (λ (b : Bool). cond {A = ℕ} b 1 0) is

same_no : (key other : List KeySeg) → is_same_key key other ≡ false → same key other ≡ 0
unfolding same
same_no key other is = ap (λ (b : Bool). cond {A = ℕ} b 1 0) is

itself : (key : List KeySeg) → is_complete key ≡ true → is_same_key key key ≡ true
itself key whole = let tied = tied_itself key_total key in rw (whole, tied) refl

-- a key that is none of these is there never
never : (key : List KeySeg) (keys : List (List KeySeg)) → list_any (is_same_key key) keys ≡ false → times key keys ≡ 0
unfolding times
never key [] none = refl
never key (k ∷ keys) none =
    let both = or_false (is_same_key key k) (list_any (is_same_key key) keys) none in
    omega (arith, sum_by-cons (same key) k keys, same_no key k both.0, never key keys both.1)

one_more : (key k : List KeySeg) (before : List (List KeySeg)) → list_any (is_same_key k) before ≡ false → times key before ≤ 1 → times key (before ++ k ∷ []) ≤ 1
one_more key k before none few = by (is_same_key key k) refl
  where
    by : (b : Bool) → is_same_key key k ≡ b → times key (before ++ k ∷ []) ≤ 1
    by true is =
        let both = same_is key k is in
        let gone : times key before ≡ 0 = subst (λ (q : List KeySeg). times q before ≡ 0) (sym both.1) (never k before none) in
        omega (arith, times_both key before (k ∷ []), times_one key k, same_one key k is, gone)
    by false is = omega (arith, times_both key before (k ∷ []), times_one key k, same_no key k is, few)

at_most_once : (key : List KeySeg) (before keys : List (List KeySeg)) → AreApart before keys → times key before ≤ 1 → times key (before ++ keys) ≤ 1
at_most_once key before [] are few = omega (arith, few, times_both key before [], times_none key)
at_most_once key before (k ∷ keys) are few =
    subst (λ (ks : List (List KeySeg)). times key ks ≤ 1) (append_assoc before (k ∷ []) keys) (at_most_once key (before ++ k ∷ []) keys are.1 (one_more key k before are.0 few))

twice : (ps : List Pair) → has_repeat ps ≡ true → (key : List KeySeg) × (2 ≤ times key (keys_of ps))
twice [] is = absurd cc
twice (p ∷ []) is = absurd cc
twice (p ∷ q ∷ ps) is = by (is_same_key p.key q.key) refl is (twice (q ∷ ps))
  where
    by : (b : Bool) → is_same_key p.key q.key ≡ b → (b || has_repeat (q ∷ ps)) ≡ true → (has_repeat (q ∷ ps) ≡ true → (key : List KeySeg) × (2 ≤ times key (keys_of (q ∷ ps)))) → (key : List KeySeg) × (2 ≤ times key (keys_of (p ∷ q ∷ ps)))
    by true same_keys is ih =
        let whole = (same_is p.key q.key same_keys).0 in
        (p.key, omega (arith, times_more p.key p.key (keys_of (q ∷ ps)), times_more p.key q.key (keys_of ps), same_one p.key p.key (itself p.key whole), same_one p.key q.key same_keys))
    by false others is ih = let k = ih is in (k.0, omega (arith, times_more k.0 p.key (keys_of (q ∷ ps)), k.1))

-- where keys are apart no neighbours of the sorted list repeat each other
pub apart_none : (pairs : List Pair) → AreApart [] (keys_of pairs) → has_repeat (sorted pairs) ≡ false
apart_none pairs are = by (has_repeat (sorted pairs)) refl
  where
    by : (b : Bool) → has_repeat (sorted pairs) ≡ b → b ≡ false
    by false is = refl
    by true is =
        let k = twice (sorted pairs) is in
        absurd (omega (arith, k.1, by_pairs k.0 pairs, by_pairs k.0 (sorted pairs), sum_by-IsPermutation (λ (p : Pair). same k.0 p.key) pairs (sorted pairs) (sorted_permutes pairs), at_most_once k.0 [] (keys_of pairs) are (omega (arith, times_none k.0))))

-- ---- rows

-- the item is one of these
abbrev pub Among : {A : Type 0} → A → List A → Type 0
Among x [] = ⊥
Among x (y ∷ ys) = (x ≡ y) ⊎ Among x ys

pub all_at : {A : Type 0} (P : A → Type 0) (x : A) (xs : List A) → AllByRecursion P xs → Among x xs → P x
all_at P x [] all is = absurd is
all_at P x (y ∷ ys) all (inl is) = subst P (sym is) all.0
all_at P x (y ∷ ys) all (inr behind) = all_at P x ys all.1 behind

pub all_from : {A : Type 0} (P : A → Type 0) (xs : List A) → ((x : A) → Among x xs → P x) → AllByRecursion P xs
all_from P [] each = tt
all_from P (y ∷ ys) each = (each y (inl refl), all_from P ys (λ x is. each x (inr is)))

none_any : {A : Type 0} (f : A → Bool) (xs : List A) → list_any f xs ≡ false → AllByRecursion (λ x. f x ≡ false) xs
none_any f [] none = tt
none_any f (x ∷ xs) none = let k = or_false (f x) (list_any f xs) none in (k.0, none_any f xs k.1)

any_none : {A : Type 0} (f : A → Bool) (xs : List A) → AllByRecursion (λ x. f x ≡ false) xs → list_any f xs ≡ false
any_none f [] none = refl
any_none f (x ∷ xs) none = or_from (f x) (list_any f xs) none.0 (any_none f xs none.1)

mapped : {A B : Type 0} (P : B → Type 0) (f : A → B) (xs : List A) → AllByRecursion (λ x. P (f x)) xs → AllByRecursion P (map f xs)
mapped P f [] all = tt
mapped P f (x ∷ xs) all = (all.0, mapped P f xs all.1)

unmapped : {A B : Type 0} (P : B → Type 0) (f : A → B) (xs : List A) → AllByRecursion P (map f xs) → AllByRecursion (λ x. P (f x)) xs
unmapped P f [] all = tt
unmapped P f (x ∷ xs) all = (all.0, unmapped P f xs all.1)

map_snoc : {A B : Type 0} (f : A → B) (xs : List A) (x : A) → map f (xs ++ x ∷ []) ≡ map f xs ++ f x ∷ []
map_snoc f [] x = refl
map_snoc f (y ∷ ys) x = ap (λ zs. f y ∷ zs) (map_snoc f ys x)

module _ {R : Type 0} (unique : ℕ → Bool) (key : ℕ → R → List KeySeg) (ks : List ℕ) where
  -- the row has, in one of the unique keys, the complete key of the other
  abbrev pub repeats_one : R → R → Bool
  repeats_one row other = list_any (λ k. unique k && is_same_key (key k row) (key k other)) ks

  module _ (repeats : R → R → Bool) (is : (row other : R) → repeats row other ≡ repeats_one row other) where
    abbrev pub Distinct : List R → List R → Type 0
    Distinct before [] = Unit {0}
    Distinct before (row ∷ rows) = (list_any (repeats row) before ≡ false) × Distinct (before ++ row ∷ []) rows

    -- in one of the unique keys
    one_key : (k : ℕ) → Among k ks → unique k ≡ true → (row other : R) → repeats row other ≡ false → is_same_key (key k row) (key k other) ≡ false
    one_key k among uniq row other none =
        let at : (unique k && is_same_key (key k row) (key k other)) ≡ false = all_at (λ (j : ℕ). (unique j && is_same_key (key j row) (key j other)) ≡ false) k ks (none_any (λ j. unique j && is_same_key (key j row) (key j other)) ks (sym (is row other) ∙ none)) among in
        sym (ap (λ (b : Bool). b && is_same_key (key k row) (key k other)) uniq) ∙ at

    pub distinct_apart : (k : ℕ) → Among k ks → unique k ≡ true → (before rows : List R) → Distinct before rows → AreApart (map (key k) before) (map (key k) rows)
    distinct_apart k among uniq before [] d = tt
    distinct_apart k among uniq before (row ∷ rows) d = (
      any_none (is_same_key (key k row)) (map (key k) before)
          (mapped (λ other. is_same_key (key k row) other ≡ false) (key k) before
          (all_from (λ other. is_same_key (key k row) (key k other) ≡ false) before (λ other here. one_key k among uniq row other (all_at (λ o. repeats row o ≡ false) other before (none_any (repeats row) before d.0) here)))),
      subst (λ bs. AreApart bs (map (key k) rows)) (map_snoc (key k) before row) (distinct_apart k among uniq (before ++ row ∷ []) rows d.1),
    )

    -- all keys
    abbrev pub AllApart : List R → List R → Type 0
    AllApart before rows = (k : ℕ) → Among k ks → unique k ≡ true → AreApart (map (key k) before) (map (key k) rows)

    no_key : (row other : R) → ((k : ℕ) → Among k ks → unique k ≡ true → is_same_key (key k row) (key k other) ≡ false) → repeats row other ≡ false
    no_key row other each = is row other ∙ any_none (λ j. unique j && is_same_key (key j row) (key j other)) ks (all_from (λ j. (unique j && is_same_key (key j row) (key j other)) ≡ false) ks (λ j here. by j here (unique j) refl))
      where
        by : (j : ℕ) → Among j ks → (b : Bool) → unique j ≡ b → (b && is_same_key (key j row) (key j other)) ≡ false
        by j here true e = each j here e
        by j here false e = refl

    pub apart_distinct : (before rows : List R) → AllApart before rows → Distinct before rows
    apart_distinct before [] all = tt
    apart_distinct before (row ∷ rows) all = (
      any_none (repeats row) before
          (all_from (λ other. repeats row other ≡ false) before
          (λ other here. no_key row other
          (λ k among uniq. all_at (λ o. is_same_key (key k row) (key k o) ≡ false) other before (unmapped (λ o. is_same_key (key k row) o ≡ false) (key k) before (none_any (is_same_key (key k row)) (map (key k) before) (all k among uniq).0)) here))),
      apart_distinct (before ++ row ∷ []) rows (λ k among uniq. subst (λ bs. AreApart bs (map (key k) rows)) (sym (map_snoc (key k) before row)) (all k among uniq).1),
    )
