-- What an access keeps of the two lists, whatever stands on them.
use Rattle.std.proofs.Common.{◌≡◌, ℕ, ◌+◌, ◌≤◌, ◌<◌, Bool, true, false, cond, List, [], ◌∷◌, ◌++◌, ◌-◌, ◌||◌, length, drop, slice_get, Option, None, Some, refl, sym, ap, subst, ◌∙◌, arith, inl, inr}
use Rattle.std.specs.Prelude.{◌⊎◌, ◌&&◌, ◌==◌, nat_le, nat_lt, if◌then◌else◌}
use Rattle.std.specs.Option.{option_map_or}
use Rattle.std.proofs.lemmas.Bool.{cases_Bool, and_parts, eqb-true, eq-eqb, leb-true, leb-false}
use Rattle.std.proofs.lemmas.List.{length-append}
use Rattle.std.proofs.lemmas.List.Sums.{sum_by-cons, sum_by-append}
use Rattle.myi_keycache.specs.declared.setup.CacheSetup.{CacheSetup}
use Rattle.myi_keycache.specs.Counts.{raised}
use Rattle.myi_keycache.specs.Midpoint.{Listed, Lists, is_named, listed, without, is_full, without_first, taken_in, keeps_share, hit_warm, hit_hot, asked, age_limit, aged, midpoint, times, AreLists, is_listed, goes}

-- ---- how often a page stands on a list

pub times_first : (p n : ℕ) (x : Listed) (xs : List Listed) → times p n (x ∷ xs) ≡ cond {A = ℕ} (is_named p n x) 1 0 + times p n xs
times_first p n x xs = sum_by-cons (λ (y : Listed). cond {A = ℕ} (is_named p n y) 1 0) x xs

times_last : (p n : ℕ) (xs : List Listed) (x : Listed) → times p n (xs ++ x ∷ []) ≡ times p n xs + cond {A = ℕ} (is_named p n x) 1 0
times_last p n xs x =
    let a = sum_by-append (λ (y : Listed). cond {A = ℕ} (is_named p n y) 1 0) xs (x ∷ []) in
    let b : times p n (x ∷ []) ≡ cond {A = ℕ} (is_named p n x) 1 0 + times p n [] = times_first p n x [] in
    let c : times p n [] ≡ 0 = refl in
    omega (arith, a, b, c)

times_rest : (p n : ℕ) (xs : List Listed) → times p n (drop 1 xs) ≤ times p n xs
times_rest p n [] = omega arith
times_rest p n (x ∷ xs) = omega (arith, times_first p n x xs)

-- a page that is on a list, and the list without it
pub record Taken (at len : ℕ) (xs : List Listed) (page : Listed) : Type 0 where
  pub named : is_named at len page ≡ true
  pub times_is : (p n : ℕ) → times p n xs ≡ cond {A = ℕ} (is_named p n page) 1 0 + times p n (without page.at page.len xs)
  pub long : length xs ≡ 1 + length (without page.at page.len xs)

pub same_Some : {A : Type 0} (x y : A) → Some x ≡ Some y → x ≡ y
same_Some {A} x y e = ap (λ (o : Option A). option_map_or (λ z. z) o x) e

self_named : (x : Listed) → is_named x.at x.len x ≡ true
self_named x = both (x.at == x.at) (x.len == x.len) (same x.at) (same x.len)
  where
    same : (k : ℕ) → (k == k) ≡ true
    same k = eq-eqb k k refl

    both : (a b : Bool) → a ≡ true → b ≡ true → (a && b) ≡ true
    both a b e f = rw (e, f) refl

pub taken : (at len : ℕ) (xs : List Listed) (page : Listed) → listed at len xs ≡ Some page → Taken at len xs page
unfolding without
taken at len [] page e = absurd cc
taken at len (x ∷ xs) page e = elim (cases_Bool (is_named at len x)) [
  | inl is ↦ first is (same_Some x page (rw is at e))
  | inr other ↦ later other (taken at len xs page (rw other at e))
]
  where
    first : is_named at len x ≡ true → x ≡ page → Taken at len (x ∷ xs) page
    first is same = subst (λ (y : Listed). Taken at len (x ∷ xs) y) same (front is)
      where
        front : is_named at len x ≡ true → Taken at len (x ∷ xs) x
        front is = record {
          named = is;
          times_is = λ p n. rw (self_named x) (times_first p n x xs);
          long = rw (self_named x) (omega arith);
        }

    later : is_named at len x ≡ false → Taken at len xs page → Taken at len (x ∷ xs) page
    later other t =
        let parts = and_parts _ _ t.named in
        let at_is : page.at ≡ at = eqb-true _ _ parts.0 in
        let len_is : page.len ≡ len = eqb-true _ _ parts.1 in
        let off : is_named page.at page.len x ≡ false = rw (at_is, len_is) other in
        record {
          named = t.named;
          times_is = λ p n. rw off (
              let a = times_first p n x xs in
              let b = t.times_is p n in
              let d = times_first p n x (without page.at page.len xs) in
              omega (arith, a, b, d));
          long = rw off (let l = t.long in omega (arith, l));
        }

none_times : (at len : ℕ) (xs : List Listed) → listed at len xs ≡ None → times at len xs ≡ 0
none_times at len [] e = refl
none_times at len (x ∷ xs) e = elim (cases_Bool (is_named at len x)) [
  | inl is ↦ let both : Some x ≡ None = rw is at e in absurd cc
  | inr other ↦
      let rest = none_times at len xs (rw other at e) in
      let zero_is : cond {A = ℕ} (is_named at len x) 1 0 ≡ 0 = rw other refl in
      omega (arith, times_first at len x xs, rest, zero_is)
]

-- ---- the page moves

-- the same pages, so many as before
record SameLists (a b : Lists) : Type 0 where
  times_is : (p n : ℕ) → times p n b.warm + times p n b.hot ≡ times p n a.warm + times p n a.hot
  long : length b.warm + length b.hot ≡ length a.warm + length a.hot

same_lists : (setup : CacheSetup) (a b : Lists) → SameLists a b → AreLists setup a → AreLists setup b
same_lists setup a b s l = record { once = λ p n. omega (arith, s.times_is p n, l.once p n); few = omega (arith, s.long, l.few) }

warm_same : (setup : CacheSetup) (at len : ℕ) (page : Listed) (lists : Lists) → listed at len lists.warm ≡ Some page → SameLists lists (hit_warm setup page lists)
warm_same setup at len page lists found = by (nat_le 3 hit.hits && keeps_share setup rest)
  where
    rest : List Listed
    rest = without page.at page.len lists.warm

    hit : Listed
    hit = record page { hits = raised 1 page.hits; last = lists.accesses }

    by : (b : Bool) → SameLists lists (if b then record lists { warm = rest; hot = lists.hot ++ hit ∷ [] } else record lists { warm = rest ++ hit ∷ [] })
    by true = record {
      times_is = λ p n.
          let a : times p n (lists.hot ++ hit ∷ []) ≡ times p n lists.hot + cond {A = ℕ} (is_named p n page) 1 0 = times_last p n lists.hot hit in
          let b = (taken at len lists.warm page found).times_is p n in
          omega (arith, a, b);
      long =
          let a = length-append lists.hot (hit ∷ []) in
          let b = (taken at len lists.warm page found).long in
          omega (arith, a, b);
    }
    by false = record {
      times_is = λ p n.
          let a : times p n (rest ++ hit ∷ []) ≡ times p n rest + cond {A = ℕ} (is_named p n page) 1 0 = times_last p n rest hit in
          let b = (taken at len lists.warm page found).times_is p n in
          omega (arith, a, b);
      long =
          let a = length-append rest (hit ∷ []) in
          let b = (taken at len lists.warm page found).long in
          omega (arith, a, b);
    }

hot_same : (at len : ℕ) (page : Listed) (lists : Lists) → listed at len lists.hot ≡ Some page → SameLists lists (hit_hot page lists)
hot_same at len page lists found = record {
  times_is = λ p n.
      let a : times p n (rest ++ hit ∷ []) ≡ times p n rest + cond {A = ℕ} (is_named p n page) 1 0 = times_last p n rest hit in
      let b = (taken at len lists.hot page found).times_is p n in
      omega (arith, a, b);
  long =
      let a = length-append rest (hit ∷ []) in
      let b = (taken at len lists.hot page found).long in
      omega (arith, a, b);
}
  where
    rest : List Listed
    rest = without page.at page.len lists.hot

    hit : Listed
    hit = record page { last = lists.accesses }

-- ---- a page is taken in

pub nonempty : (x : Listed) (xs : List Listed) → (length (x ∷ xs) == 0) ≡ false
nonempty x xs = elim (cases_Bool (length (x ∷ xs) == 0)) [
  | inl empty ↦ let e : length (x ∷ xs) ≡ 0 = eqb-true _ _ empty in absurd (omega (arith, e))
  | inr some ↦ some
]

gone_times : (p n : ℕ) (warm hot : List Listed) → times p n (drop 1 warm) + times p n (if length warm == 0 then drop 1 hot else hot) ≤ times p n warm + times p n hot
gone_times p n [] hot = let a = times_rest p n hot in omega (arith, a)
gone_times p n (x ∷ xs) hot =
    let a = times_first p n x xs in
    let d : times p n (drop 1 (x ∷ xs)) ≡ times p n xs = refl in
    let e = ap (λ (b : Bool). times p n (if b then drop 1 hot else hot)) (nonempty x xs) in
    omega (arith, a, d, e)

gone_long : (warm hot : List Listed) → 1 ≤ length warm + length hot → length (drop 1 warm) + length (if length warm == 0 then drop 1 hot else hot) + 1 ≤ length warm + length hot
gone_long [] [] le = absurd (omega (arith, le))
gone_long [] (y ∷ ys) le = omega arith
gone_long (x ∷ xs) hot le =
    let d : length (drop 1 (x ∷ xs)) ≡ length xs = refl in
    let e = ap (λ (b : Bool). length (if b then drop 1 hot else hot)) (nonempty x xs) in
    omega (arith, d, e)

new_in : (setup : CacheSetup) (room lists : Lists) (at len last : ℕ) → ((p n : ℕ) → times p n room.warm + times p n room.hot ≤ times p n lists.warm + times p n lists.hot) → length room.warm + length room.hot + 1 ≤ setup.blocks
    → times at len lists.warm + times at len lists.hot ≡ 0 → AreLists setup lists → AreLists setup (record room { warm = room.warm ++ record { at = at; len = len; hits = 0; last = last } ∷ [] })
new_in setup room lists at len last fewer long absent l = record {
  once = λ p n. by p n (cases_Bool (is_named p n x));
  few = let a = length-append room.warm (x ∷ []) in omega (arith, a, long);
}
  where
    x : Listed
    x = record { at = at; len = len; hits = 0; last = last }

    by : (p n : ℕ) → (is_named p n x ≡ true) ⊎ (is_named p n x ≡ false) → times p n (room.warm ++ x ∷ []) + times p n room.hot ≤ 1
    by p n (inl is) =
        let parts = and_parts _ _ is in
        let at_is : at ≡ p = eqb-true _ _ parts.0 in
        let len_is : len ≡ n = eqb-true _ _ parts.1 in
        let none : times p n lists.warm + times p n lists.hot ≡ 0 = sym (λ i. times (at_is i) (len_is i) lists.warm + times (at_is i) (len_is i) lists.hot) ∙ absent in
        let a = times_last p n room.warm x in
        let b : cond {A = ℕ} (is_named p n x) 1 0 ≡ 1 = ap (λ (t : Bool). cond {A = ℕ} t 1 0) is in
        omega (arith, a, b, none, fewer p n)
    by p n (inr other) =
        let a = times_last p n room.warm x in
        let b : cond {A = ℕ} (is_named p n x) 1 0 ≡ 0 = ap (λ (t : Bool). cond {A = ℕ} t 1 0) other in
        omega (arith, a, b, fewer p n, l.once p n)

new_lists : (setup : CacheSetup) (at len : ℕ) (lists : Lists) → 1 ≤ setup.blocks → listed at len lists.warm ≡ None → listed at len lists.hot ≡ None → AreLists setup lists → AreLists setup (taken_in setup at len lists)
new_lists setup at len lists some cold cool l = by (is_full setup lists) refl
  where
    absent : times at len lists.warm + times at len lists.hot ≡ 0
    absent = omega (arith, none_times at len lists.warm cold, none_times at len lists.hot cool)

    with_new : Lists → Lists
    with_new room = record room { warm = room.warm ++ record { at = at; len = len; hits = 0; last = lists.accesses } ∷ [] }

    by : (b : Bool) → is_full setup lists ≡ b → AreLists setup (with_new (if b then without_first lists else lists))
    by true full =
        let le = leb-true _ _ full in
        let long = gone_long lists.warm lists.hot (omega (arith, le, some)) in
        new_in setup (without_first lists) lists at len lists.accesses (λ p n. gone_times p n lists.warm lists.hot) (omega (arith, long, l.few)) absent l
    by false free =
        let lt = leb-false _ _ free in
        new_in setup lists lists at len lists.accesses (λ p n. omega arith) (omega (arith, lt)) absent l

-- ---- an access

pub asked_lists : (setup : CacheSetup) (at len : ℕ) (lists : Lists) → 1 ≤ setup.blocks → AreLists setup lists → AreLists setup (asked setup at len lists)
asked_lists setup at len lists some l = warm_by (listed at len lists.warm) refl
  where
    hot_by : (o : Option Listed) → listed at len lists.hot ≡ o → listed at len lists.warm ≡ None → AreLists setup (option_map_or (λ page. hit_hot page lists) o (taken_in setup at len lists))
    hot_by None cool cold = new_lists setup at len lists some cold cool l
    hot_by (Some page) found cold = same_lists setup lists _ (hot_same at len page lists found) l

    warm_by : (o : Option Listed) → listed at len lists.warm ≡ o → AreLists setup (option_map_or (λ page. hit_warm setup page lists) o (option_map_or (λ page. hit_hot page lists) (listed at len lists.hot) (taken_in setup at len lists)))
    warm_by None cold = hot_by (listed at len lists.hot) refl cold
    warm_by (Some page) found = same_lists setup lists _ (warm_same setup at len page lists found) l

aged_at : (setup : CacheSetup) (warm hot : List Listed) (accesses : ℕ) → AreLists setup (record { warm = warm; hot = hot; accesses = accesses }) → AreLists setup (aged setup (record { warm = warm; hot = hot; accesses = accesses }))
aged_at setup warm [] accesses l = l
aged_at setup warm (page ∷ hot) accesses l = by (nat_lt (age_limit setup) (accesses - page.last))
  where
    lists : Lists
    lists = record { warm = warm; hot = page ∷ hot; accesses = accesses }

    cold : Listed
    cold = record page { hits = 0 }

    by : (b : Bool) → AreLists setup (if b then record lists { warm = cold ∷ warm; hot = hot } else lists)
    by false = l
    by true = record {
      once = λ p n.
          let a : times p n (cold ∷ warm) ≡ cond {A = ℕ} (is_named p n page) 1 0 + times p n warm = times_first p n cold warm in
          let b = times_first p n page hot in
          omega (arith, a, b, l.once p n);
      few = let a = l.few in omega (arith, a);
    }

pub midpoint_lists : (setup : CacheSetup) (lists : Lists) (at len : ℕ) → 1 ≤ setup.blocks → AreLists setup lists → AreLists setup (midpoint setup lists at len)
unfolding midpoint
midpoint_lists setup lists at len some l =
    let counted : Lists = record lists { accesses = raised 1 lists.accesses } in
    let after : Lists = asked setup at len counted in
    aged_at setup after.warm after.hot after.accesses (asked_lists setup at len counted some (record { once = l.once; few = l.few }))

-- ---- which page goes, and which becomes hot

pub goes_first : (setup : CacheSetup) (lists : Lists) (at len : ℕ) (page : Listed) → goes setup lists at len ≡ Some page → (slice_get lists.warm 0 ≡ Some page) ⊎ ((lists.warm ≡ []) × (slice_get lists.hot 0 ≡ Some page))
goes_first setup lists at len page e = by (is_listed lists at len || nat_lt (length lists.warm + length lists.hot) setup.blocks) lists.warm refl e
  where
    by : (b : Bool) (warm : List Listed) → lists.warm ≡ warm → (if b then None else slice_get (warm ++ lists.hot) 0) ≡ Some page → (slice_get lists.warm 0 ≡ Some page) ⊎ ((lists.warm ≡ []) × (slice_get lists.hot 0 ≡ Some page))
    by true warm is e = absurd cc
    by false [] is e = inr (is, e)
    by false (x ∷ xs) is e = inl (ap (λ (l : List Listed). slice_get l 0) is ∙ e)

same_hot : (h : List Listed) (b : Bool) (x y : Lists) → b ≡ false → y.hot ≡ h → (if b then x else y).hot ≡ h
same_hot h b x y off is = rw off is

and_off : (a b : Bool) → b ≡ false → (a && b) ≡ false
and_off true b off = off
and_off false b off = refl

pub third_hit : (setup : CacheSetup) (lists : Lists) (at len : ℕ) (page : Listed) → listed at len lists.warm ≡ Some page → page.hits < 2 → (asked setup at len lists).hot ≡ lists.hot
third_hit setup lists at len page found few =
    rw found (same_hot lists.hot (nat_le 3 (raised 1 page.hits) && keeps_share setup (without page.at page.len lists.warm)) _ _ (off (nat_le 3 (raised 1 page.hits)) refl) refl)
  where
    off : (b : Bool) → nat_le 3 (raised 1 page.hits) ≡ b → (b && keeps_share setup (without page.at page.len lists.warm)) ≡ false
    off false is = refl
    off true is = let le = leb-true _ _ is in absurd (omega (arith, le, few))

pub share_kept : (setup : CacheSetup) (lists : Lists) (at len : ℕ) (page : Listed) → listed at len lists.warm ≡ Some page → keeps_share setup (without page.at page.len lists.warm) ≡ false → (asked setup at len lists).hot ≡ lists.hot
share_kept setup lists at len page found none =
    rw found (same_hot lists.hot (nat_le 3 (raised 1 page.hits) && keeps_share setup (without page.at page.len lists.warm)) _ _ (and_off (nat_le 3 (raised 1 page.hits)) _ none) refl)
