-- Which page goes in an access, and which stay.
use Rattle.std.proofs.Common.{◌≡◌, ℕ, ◌+◌, ◌≤◌, ◌<◌, ◌-◌, Bool, true, false, cond, List, [], ◌∷◌, ◌++◌, length, drop, slice_get, map, Option, None, Some, refl, sym, ap, subst, ◌∙◌, arith, inl, inr}
use Rattle.std.specs.Prelude.{◌⊎◌, ◌&&◌, ◌||◌, ◌==◌, nat_le, nat_lt, is_some, find, option_map, if◌then◌else◌}
use Rattle.std.specs.Option.{option_or, option_map_or}
use Rattle.std.proofs.lemmas.Bool.{cases_Bool, and_parts, and_from, eqb-true, eq-eqb, leb-true, leb-false, lt-ltb, le-ltb}
use Rattle.std.proofs.lemmas.List.{map-append, length-map, length-append}
use Rattle.std.proofs.lemmas.List.Folds.{find-append}
use Rattle.myi_keycache.specs.declared.setup.CacheSetup.{CacheSetup}
use Rattle.myi_keycache.specs.Counts.{raised}
use Rattle.myi_keycache.specs.Kept.{Page, KeptPage, is_page, kept, is_kept, AreOthers}
use Rattle.myi_keycache.specs.Caching.{Caching, pages_of, listed_as, lists_of, leaving}
use Rattle.myi_keycache.specs.Midpoint.{Listed, Lists, is_named, listed, without, is_full, without_first, taken_in, keeps_share, hit_warm, hit_hot, asked, age_limit, aged, midpoint, on_lists, accessed, asked_page, times, AreLists, is_listed, goes}
use Rattle.myi_keycache.proofs.ListsLemmas.{taken, times_first, nonempty, asked_lists, same_Some}

-- ---- the page of a name

not_both : (p n at len : ℕ) (x : Listed) → AreOthers p n at len → is_named at len x ≡ true → is_named p n x ≡ false
not_both p n at len x differ is = elim (cases_Bool (is_named p n x)) [
  | inl also ↦
      let a = and_parts _ _ is in
      let b = and_parts _ _ also in
      absurd (differ (sym (eqb-true _ _ b.0) ∙ eqb-true _ _ a.0) (sym (eqb-true _ _ b.1) ∙ eqb-true _ _ a.1))
  | inr off ↦ off
]

-- a page of another name
not_named : (p n : ℕ) (x : Listed) → AreOthers p n x.at x.len → is_named p n x ≡ false
not_named p n x differ = elim (cases_Bool (is_named p n x)) [
  | inl also ↦ let b = and_parts _ _ also in absurd (differ (sym (eqb-true _ _ b.0)) (sym (eqb-true _ _ b.1)))
  | inr off ↦ off
]

skips : (p n : ℕ) (x : Listed) (xs : List Listed) → is_named p n x ≡ false → listed p n (x ∷ xs) ≡ listed p n xs
skips p n x xs off = rw off refl

finds : (p n : ℕ) (x : Listed) (xs : List Listed) → is_named p n x ≡ true → listed p n (x ∷ xs) ≡ Some x
finds p n x xs is = rw is refl

or_none : (o : Option Listed) → option_or o None ≡ o
or_none None = refl
or_none (Some x) = refl

-- a page of another name at the end of a list
skips_last : (p n : ℕ) (xs : List Listed) (x : Listed) → is_named p n x ≡ false → listed p n (xs ++ x ∷ []) ≡ listed p n xs
skips_last p n xs x off = find-append (is_named p n) xs (x ∷ []) ∙ ap (option_or (listed p n xs)) (skips p n x [] off) ∙ or_none (listed p n xs)

listed_without : (p n at len : ℕ) (xs : List Listed) → AreOthers p n at len → listed p n (without at len xs) ≡ listed p n xs
unfolding without
listed_without p n at len [] differ = refl
listed_without p n at len (x ∷ xs) differ = elim (cases_Bool (is_named at len x)) [
  | inl is ↦ rw is (sym (skips p n x xs (not_both p n at len x differ is)))
  | inr other ↦ rw other (elim (cases_Bool (is_named p n x)) [
    | inl here ↦ finds p n x (without at len xs) here ∙ sym (finds p n x xs here)
    | inr off ↦ skips p n x (without at len xs) off ∙ listed_without p n at len xs differ ∙ sym (skips p n x xs off)
  ])
]

none_listed : (p n : ℕ) (xs : List Listed) → times p n xs ≡ 0 → listed p n xs ≡ None
none_listed p n [] e = refl
none_listed p n (x ∷ xs) e =
    let a = times_first p n x xs in
    elim (cases_Bool (is_named p n x)) [
      | inl is ↦ let b : cond {A = ℕ} (is_named p n x) 1 0 ≡ 1 = ap (λ (t : Bool). cond {A = ℕ} t 1 0) is in absurd (omega (arith, a, b, e))
      | inr off ↦ skips p n x xs off ∙ none_listed p n xs (omega (arith, a, e))
    ]

-- ---- the three forms of an access

by_access : (P : Lists → Type 0) (setup : CacheSetup) (at len : ℕ) (lists : Lists) → ((page : Listed) → listed at len lists.warm ≡ Some page → P (hit_warm setup page lists)) → ((page : Listed) → listed at len lists.warm ≡ None → listed at len lists.hot ≡ Some page → P (hit_hot page lists))
    → (listed at len lists.warm ≡ None → listed at len lists.hot ≡ None → P (taken_in setup at len lists)) → P (asked setup at len lists)
by_access P setup at len lists warm hot none = warm_by (listed at len lists.warm) refl
  where
    hot_by : (o : Option Listed) → listed at len lists.hot ≡ o → listed at len lists.warm ≡ None → P (option_map_or (λ page. hit_hot page lists) o (taken_in setup at len lists))
    hot_by None cool cold = none cold cool
    hot_by (Some page) found cold = hot page cold found

    warm_by : (o : Option Listed) → listed at len lists.warm ≡ o → P (option_map_or (λ page. hit_warm setup page lists) o (option_map_or (λ page. hit_hot page lists) (listed at len lists.hot) (taken_in setup at len lists)))
    warm_by None cold = hot_by (listed at len lists.hot) refl cold
    warm_by (Some page) found = warm page found

abbrev with_new : ℕ → ℕ → Lists → Lists → Lists
with_new at len lists room = record room { warm = room.warm ++ record { at = at; len = len; hits = 0; last = lists.accesses } ∷ [] }

by_full : (P : Lists → Type 0) (setup : CacheSetup) (at len : ℕ) (lists : Lists) → (is_full setup lists ≡ true → P (with_new at len lists (without_first lists))) → (is_full setup lists ≡ false → P (with_new at len lists lists)) → P (taken_in setup at len lists)
by_full P setup at len lists full free = by (is_full setup lists) refl
  where
    by : (b : Bool) → is_full setup lists ≡ b → P (with_new at len lists (if b then without_first lists else lists))
    by true e = full e
    by false e = free e

by_hot : (P : Lists → Type 0) (setup : CacheSetup) (page : Listed) (lists : Lists) → P (record lists { warm = without page.at page.len lists.warm; hot = lists.hot ++ record page { hits = raised 1 page.hits; last = lists.accesses } ∷ [] })
    → P (record lists { warm = without page.at page.len lists.warm ++ record page { hits = raised 1 page.hits; last = lists.accesses } ∷ [] }) → P (hit_warm setup page lists)
by_hot P setup page lists hot warm = by (nat_le 3 (raised 1 page.hits) && keeps_share setup (without page.at page.len lists.warm))
  where
    by : (b : Bool) → P (if b then record lists { warm = without page.at page.len lists.warm; hot = lists.hot ++ record page { hits = raised 1 page.hits; last = lists.accesses } ∷ [] } else record lists { warm = without page.at page.len lists.warm ++ record page { hits = raised 1 page.hits; last = lists.accesses } ∷ [] })
    by true = hot
    by false = warm

-- ---- the page that goes

goes_full : (setup : CacheSetup) (lists : Lists) (at len : ℕ) → listed at len lists.warm ≡ None → listed at len lists.hot ≡ None → is_full setup lists ≡ true → goes setup lists at len ≡ slice_get (lists.warm ++ lists.hot) 0
goes_full setup lists at len cold cool full =
    let le = leb-true _ _ full in
    let not_free : nat_lt (length lists.warm + length lists.hot) setup.blocks ≡ false = le-ltb _ _ (omega (arith, le)) in
    rw (cold, cool, not_free) refl

-- where a page goes, all blocks are used and the page that is asked for is on neither list
record Goes (setup : CacheSetup) (lists : Lists) (at len : ℕ) (page : Listed) : Type 0 where
  cold : listed at len lists.warm ≡ None
  cool : listed at len lists.hot ≡ None
  full : is_full setup lists ≡ true
  first : slice_get (lists.warm ++ lists.hot) 0 ≡ Some page

none_of : (o : Option Listed) → is_some o ≡ false → o ≡ None
none_of None e = refl
none_of (Some x) e = absurd cc

not_less : (setup : CacheSetup) (lists : Lists) → nat_lt (length lists.warm + length lists.hot) setup.blocks ≡ false → is_full setup lists ≡ true
not_less setup lists e = elim (cases_Bool (is_full setup lists)) [
  | inl full ↦ full
  | inr free ↦ let lt = leb-false _ _ free in let yes : nat_lt (length lists.warm + length lists.hot) setup.blocks ≡ true = lt-ltb _ _ (omega (arith, lt)) in let both : true ≡ false = sym yes ∙ e in absurd cc
]

goes_parts : (setup : CacheSetup) (lists : Lists) (at len : ℕ) (page : Listed) → goes setup lists at len ≡ Some page → Goes setup lists at len page
goes_parts setup lists at len page e = by (is_some (listed at len lists.warm)) (is_some (listed at len lists.hot)) (nat_lt (length lists.warm + length lists.hot) setup.blocks) refl refl refl e
  where
    by : (a b c : Bool) → is_some (listed at len lists.warm) ≡ a → is_some (listed at len lists.hot) ≡ b → nat_lt (length lists.warm + length lists.hot) setup.blocks ≡ c → (if (a || b) || c then None else slice_get (lists.warm ++ lists.hot) 0) ≡ Some page → Goes setup lists at len page
    by true b c is_a is_b is_c e = absurd cc
    by false true c is_a is_b is_c e = absurd cc
    by false false true is_a is_b is_c e = absurd cc
    by false false false is_a is_b is_c e = record { cold = none_of (listed at len lists.warm) is_a; cool = none_of (listed at len lists.hot) is_b; full = not_less setup lists is_c; first = e }

-- ---- the other pages

-- of the pages but the first
first_off : (p n : ℕ) (warm hot : List Listed) → ((page : Listed) → slice_get (warm ++ hot) 0 ≡ Some page → AreOthers p n page.at page.len) → option_or (listed p n (drop 1 warm)) (listed p n (if length warm == 0 then drop 1 hot else hot)) ≡ option_or (listed p n warm) (listed p n hot)
first_off p n [] [] other = refl
first_off p n [] (y ∷ ys) other = sym (skips p n y ys (not_named p n y (other y refl)))
first_off p n (x ∷ xs) hot other = ap (λ (b : Bool). option_or (listed p n xs) (listed p n (if b then drop 1 hot else hot))) (nonempty x xs) ∙ ap (λ (o : Option Listed). option_or o (listed p n hot)) (sym (skips p n x xs (not_named p n x (other x refl))))

others_warm : (setup : CacheSetup) (at len : ℕ) (page : Listed) (lists : Lists) (p n : ℕ) → listed at len lists.warm ≡ Some page → AreOthers p n at len → on_lists p n (hit_warm setup page lists) ≡ on_lists p n lists
others_warm setup at len page lists p n found differ =
    let off : is_named p n page ≡ false = not_both p n at len page differ (taken at len lists.warm page found).named in
    let parts = and_parts _ _ (taken at len lists.warm page found).named in
    let other : AreOthers p n page.at page.len = λ a b. differ (a ∙ eqb-true _ _ parts.0) (b ∙ eqb-true _ _ parts.1) in
    let rest = listed_without p n page.at page.len lists.warm other in
    by_hot (λ after. on_lists p n after ≡ on_lists p n lists) setup page lists
    (λ j. option_or (rest j) (skips_last p n lists.hot (record page { hits = raised 1 page.hits; last = lists.accesses }) off j))
    (ap (λ (o : Option Listed). option_or o (listed p n lists.hot)) (skips_last p n (without page.at page.len lists.warm) (record page { hits = raised 1 page.hits; last = lists.accesses }) off ∙ rest))

others_hot : (at len : ℕ) (page : Listed) (lists : Lists) (p n : ℕ) → listed at len lists.hot ≡ Some page → AreOthers p n at len → on_lists p n (hit_hot page lists) ≡ on_lists p n lists
others_hot at len page lists p n found differ =
    let off : is_named p n page ≡ false = not_both p n at len page differ (taken at len lists.hot page found).named in
    let parts = and_parts _ _ (taken at len lists.hot page found).named in
    let other : AreOthers p n page.at page.len = λ a b. differ (a ∙ eqb-true _ _ parts.0) (b ∙ eqb-true _ _ parts.1) in
    ap (option_or (listed p n lists.warm)) (skips_last p n (without page.at page.len lists.hot) (record page { last = lists.accesses }) off ∙ listed_without p n page.at page.len lists.hot other)

others_new : (setup : CacheSetup) (at len : ℕ) (lists : Lists) (p n : ℕ) → listed at len lists.warm ≡ None → listed at len lists.hot ≡ None → ((page : Listed) → goes setup lists at len ≡ Some page → AreOthers p n page.at page.len) → AreOthers p n at len → on_lists p n (taken_in setup at len lists) ≡ on_lists p n lists
others_new setup at len lists p n cold cool stays differ =
    by_full (λ after. on_lists p n after ≡ on_lists p n lists) setup at len lists
    (λ full. new_off (without_first lists) ∙ first_off p n lists.warm lists.hot (λ page first. stays page (goes_full setup lists at len cold cool full ∙ first)))
    (λ free. new_off lists)
  where
    new_off : (room : Lists) → on_lists p n (with_new at len lists room) ≡ on_lists p n room
    new_off room = ap (λ (o : Option Listed). option_or o (listed p n room.hot)) (skips_last p n room.warm (record { at = at; len = len; hits = 0; last = lists.accesses }) (not_named p n (record { at = at; len = len; hits = 0; last = lists.accesses }) differ))

others_asked : (setup : CacheSetup) (at len : ℕ) (lists : Lists) (p n : ℕ) → ((page : Listed) → goes setup lists at len ≡ Some page → AreOthers p n page.at page.len) → AreOthers p n at len → on_lists p n (asked setup at len lists) ≡ on_lists p n lists
others_asked setup at len lists p n stays differ =
    by_access (λ after. on_lists p n after ≡ on_lists p n lists) setup at len lists
    (λ page found. others_warm setup at len page lists p n found differ)
    (λ page cold found. others_hot at len page lists p n found differ)
    (λ cold cool. others_new setup at len lists p n cold cool stays differ)

pub page_stays : (setup : CacheSetup) (lists : Lists) (at len p n : ℕ) (page : Listed) → goes setup lists at len ≡ Some page → AreOthers p n page.at page.len → AreOthers p n at len → on_lists p n (accessed setup lists at len) ≡ on_lists p n lists
page_stays setup lists at len p n page gone differ other =
    others_asked setup at len (record lists { accesses = raised 1 lists.accesses }) p n (λ q is. let same : page ≡ q = same_Some page q (sym gone ∙ is) in subst (λ (t : Listed). AreOthers p n t.at t.len) same differ) other

pub all_stay : (setup : CacheSetup) (lists : Lists) (at len p n : ℕ) → goes setup lists at len ≡ None → AreOthers p n at len → on_lists p n (accessed setup lists at len) ≡ on_lists p n lists
all_stay setup lists at len p n none other = others_asked setup at len (record lists { accesses = raised 1 lists.accesses }) p n (λ q is. let both : None ≡ Some q = sym none ∙ is in absurd cc) other

-- ---- the age

asked_accesses : (setup : CacheSetup) (at len : ℕ) (lists : Lists) → (asked setup at len lists).accesses ≡ lists.accesses
asked_accesses setup at len lists =
    by_access (λ after. after.accesses ≡ lists.accesses) setup at len lists
    (λ page found. by_hot (λ after. after.accesses ≡ lists.accesses) setup page lists refl refl)
    (λ page cold found. refl)
    (λ cold cool. by_full (λ after. after.accesses ≡ lists.accesses) setup at len lists (λ full. refl) (λ free. refl))

aged_old : (setup : CacheSetup) (lists : Lists) (first : Listed) (hot : List Listed) → lists.hot ≡ first ∷ hot → age_limit setup < lists.accesses - first.last → aged setup lists ≡ record { warm = record first { hits = 0 } ∷ lists.warm; hot = hot; accesses = lists.accesses }
aged_old setup lists first hot is old =
    let yes : nat_lt (age_limit setup) (lists.accesses - first.last) ≡ true = lt-ltb _ _ old in
    (λ j. aged setup (record { warm = lists.warm; hot = is j; accesses = lists.accesses }))
    ∙ (λ j. if yes j then record { warm = record first { hits = 0 } ∷ lists.warm; hot = hot; accesses = lists.accesses } else record { warm = lists.warm; hot = first ∷ hot; accesses = lists.accesses })

aged_young : (setup : CacheSetup) (lists : Lists) (first : Listed) (hot : List Listed) → lists.hot ≡ first ∷ hot → lists.accesses - first.last ≤ age_limit setup → aged setup lists ≡ lists
aged_young setup lists first hot is young =
    let off : nat_lt (age_limit setup) (lists.accesses - first.last) ≡ false = le-ltb _ _ young in
    (λ j. aged setup (record { warm = lists.warm; hot = is j; accesses = lists.accesses }))
    ∙ (λ j. if off j then record { warm = record first { hits = 0 } ∷ lists.warm; hot = hot; accesses = lists.accesses } else record { warm = lists.warm; hot = first ∷ hot; accesses = lists.accesses })
    ∙ (λ j. record { warm = lists.warm; hot = sym is j; accesses = lists.accesses })

aged_none : (setup : CacheSetup) (lists : Lists) → lists.hot ≡ [] → aged setup lists ≡ lists
aged_none setup lists is = (λ j. aged setup (record { warm = lists.warm; hot = is j; accesses = lists.accesses })) ∙ (λ j. record { warm = lists.warm; hot = sym is j; accesses = lists.accesses })

pub first_old : (setup : CacheSetup) (lists : Lists) (at len : ℕ) (first : Listed) (hot : List Listed) → (accessed setup lists at len).hot ≡ first ∷ hot → age_limit setup < raised 1 lists.accesses - first.last
    → midpoint setup lists at len ≡ record { warm = record first { hits = 0 } ∷ (accessed setup lists at len).warm; hot = hot; accesses = raised 1 lists.accesses }
unfolding midpoint
first_old setup lists at len first hot is old =
    let count : (accessed setup lists at len).accesses ≡ raised 1 lists.accesses = asked_accesses setup at len (record lists { accesses = raised 1 lists.accesses }) in
    aged_old setup (accessed setup lists at len) first hot is (subst (λ (k : ℕ). age_limit setup < k - first.last) (sym count) old)
    ∙ (λ j. record { warm = record first { hits = 0 } ∷ (accessed setup lists at len).warm; hot = hot; accesses = count j })

pub first_young : (setup : CacheSetup) (lists : Lists) (at len : ℕ) (first : Listed) (hot : List Listed) → (accessed setup lists at len).hot ≡ first ∷ hot → raised 1 lists.accesses - first.last ≤ age_limit setup → midpoint setup lists at len ≡ accessed setup lists at len
unfolding midpoint
first_young setup lists at len first hot is young =
    let count : (accessed setup lists at len).accesses ≡ raised 1 lists.accesses = asked_accesses setup at len (record lists { accesses = raised 1 lists.accesses }) in
    aged_young setup (accessed setup lists at len) first hot is (subst (λ (k : ℕ). k - first.last ≤ age_limit setup) (sym count) young)

pub no_hot : (setup : CacheSetup) (lists : Lists) (at len : ℕ) → (accessed setup lists at len).hot ≡ [] → midpoint setup lists at len ≡ accessed setup lists at len
unfolding midpoint
no_hot setup lists at len is = aged_none setup (accessed setup lists at len) is

-- a page that is on neither list is on neither afterwards
both_none : (a b : Option Listed) → option_or a b ≡ None → (a ≡ None) × (b ≡ None)
both_none None b e = (refl, e)
both_none (Some x) b e = absurd cc

aged_absent : (setup : CacheSetup) (p n : ℕ) (warm hot : List Listed) (accesses : ℕ) → option_or (listed p n warm) (listed p n hot) ≡ None → on_lists p n (aged setup (record { warm = warm; hot = hot; accesses = accesses })) ≡ None
aged_absent setup p n warm [] accesses e = e
aged_absent setup p n warm (f ∷ hot) accesses e = by (nat_lt (age_limit setup) (accesses - f.last))
  where
    off : is_named p n f ≡ false
    off = elim (cases_Bool (is_named p n f)) [
      | inl is ↦ let both : Some f ≡ None = sym (finds p n f hot is) ∙ (both_none (listed p n warm) (listed p n (f ∷ hot)) e).1 in absurd cc
      | inr not_it ↦ not_it
    ]

    by : (b : Bool) → on_lists p n (if b then record { warm = record f { hits = 0 } ∷ warm; hot = hot; accesses = accesses } else record { warm = warm; hot = f ∷ hot; accesses = accesses }) ≡ None
    by true = (λ j. option_or (skips p n (record f { hits = 0 }) warm off j) (listed p n hot)) ∙ (λ j. option_or ((both_none (listed p n warm) (listed p n (f ∷ hot)) e).0 j) (listed p n hot)) ∙ sym (skips p n f hot off) ∙ (both_none (listed p n warm) (listed p n (f ∷ hot)) e).1
    by false = e

aged_there : (setup : CacheSetup) (p n : ℕ) (warm hot : List Listed) (accesses : ℕ) (page : Listed) → AreLists setup (record { warm = warm; hot = hot; accesses = accesses }) → option_or (listed p n warm) (listed p n hot) ≡ Some page
    → (on_lists p n (aged setup (record { warm = warm; hot = hot; accesses = accesses })) ≡ Some page) ⊎ ((slice_get hot 0 ≡ Some page) × (on_lists p n (aged setup (record { warm = warm; hot = hot; accesses = accesses })) ≡ Some (record page { hits = 0 })))
aged_there setup p n warm [] accesses page l e = inl e
aged_there setup p n warm (f ∷ hot) accesses page l e = by (nat_lt (age_limit setup) (accesses - f.last))
  where
    by : (b : Bool) → (on_lists p n (if b then record { warm = record f { hits = 0 } ∷ warm; hot = hot; accesses = accesses } else record { warm = warm; hot = f ∷ hot; accesses = accesses }) ≡ Some page) ⊎ ((Some f ≡ Some page) × (on_lists p n (if b then record { warm = record f { hits = 0 } ∷ warm; hot = hot; accesses = accesses } else record { warm = warm; hot = f ∷ hot; accesses = accesses }) ≡ Some (record page { hits = 0 })))
    by false = inl e
    by true = elim (cases_Bool (is_named p n f)) [
      | inl is ↦
          let a = times_first p n f hot in
          let b : cond {A = ℕ} (is_named p n f) 1 0 ≡ 1 = ap (λ (t : Bool). cond {A = ℕ} t 1 0) is in
          let c = l.once p n in
          let cold : listed p n warm ≡ None = none_listed p n warm (omega (arith, a, b, c)) in
          let same : Some f ≡ Some page = sym (finds p n f hot is) ∙ (λ j. option_or (sym cold j) (listed p n (f ∷ hot))) ∙ e in
          let is_page_of : f ≡ page = same_Some f page same in
          inr (same, (λ j. option_or (finds p n (record f { hits = 0 }) warm is j) (listed p n hot)) ∙ ap (λ (q : Listed). Some (record q { hits = 0 })) is_page_of)
      | inr off ↦ inl ((λ j. option_or (skips p n (record f { hits = 0 }) warm off j) (sym (skips p n f hot off) j)) ∙ e)
    ]

pub aged_stays : (setup : CacheSetup) (lists : Lists) (at len p n : ℕ) (page : Listed) → 1 ≤ setup.blocks → AreLists setup lists → on_lists p n (accessed setup lists at len) ≡ Some page
    → (on_lists p n (midpoint setup lists at len) ≡ Some page) ⊎ ((slice_get (accessed setup lists at len).hot 0 ≡ Some page) × (on_lists p n (midpoint setup lists at len) ≡ Some (record page { hits = 0 })))
unfolding midpoint
aged_stays setup lists at len p n page some l e =
    let after : Lists = accessed setup lists at len in
    aged_there setup p n after.warm after.hot after.accesses page (asked_lists setup at len (record lists { accesses = raised 1 lists.accesses }) some (record { once = l.once; few = l.few })) e

-- the page that goes is on neither list
gone_off : (p n : ℕ) (warm hot : List Listed) (page : Listed) → times p n warm + times p n hot ≤ 1 → slice_get (warm ++ hot) 0 ≡ Some page → is_named p n page ≡ true → option_or (listed p n (drop 1 warm)) (listed p n (if length warm == 0 then drop 1 hot else hot)) ≡ None
gone_off p n [] [] page le first is = refl
gone_off p n [] (y ∷ ys) page le first is =
    let same : y ≡ page = same_Some y page first in
    let a = times_first p n y ys in
    let b : cond {A = ℕ} (is_named p n y) 1 0 ≡ 1 = ap (λ (t : Listed). cond {A = ℕ} (is_named p n t) 1 0) same ∙ ap (λ (t : Bool). cond {A = ℕ} t 1 0) is in
    none_listed p n ys (omega (arith, a, b, le))
gone_off p n (x ∷ xs) hot page le first is =
    let same : x ≡ page = same_Some x page first in
    let a = times_first p n x xs in
    let b : cond {A = ℕ} (is_named p n x) 1 0 ≡ 1 = ap (λ (t : Listed). cond {A = ℕ} (is_named p n t) 1 0) same ∙ ap (λ (t : Bool). cond {A = ℕ} t 1 0) is in
    ap (λ (t : Bool). option_or (listed p n xs) (listed p n (if t then drop 1 hot else hot))) (nonempty x xs) ∙ (λ j. option_or (none_listed p n xs (omega (arith, a, b, le)) j) (none_listed p n hot (omega (arith, a, b, le)) j))

-- the first page is on a list
first_there : (p n : ℕ) (warm hot : List Listed) (page : Listed) → slice_get (warm ++ hot) 0 ≡ Some page → listed p n warm ≡ None → listed p n hot ≡ None → is_named p n page ≡ false
first_there p n [] [] page first cold cool = absurd cc
first_there p n [] (y ∷ ys) page first cold cool = elim (cases_Bool (is_named p n page)) [
  | inl is ↦ let here : is_named p n y ≡ true = subst (λ (t : Listed). is_named p n t ≡ true) (sym (same_Some y page first)) is in let both : Some y ≡ None = sym (finds p n y ys here) ∙ cool in absurd cc
  | inr off ↦ off
]
first_there p n (x ∷ xs) hot page first cold cool = elim (cases_Bool (is_named p n page)) [
  | inl is ↦ let here : is_named p n x ≡ true = subst (λ (t : Listed). is_named p n t ≡ true) (sym (same_Some x page first)) is in let both : Some x ≡ None = sym (finds p n x xs here) ∙ cold in absurd cc
  | inr off ↦ off
]

self_named : (x : Listed) → is_named x.at x.len x ≡ true
self_named x = and_from _ _ (eq-eqb x.at x.at refl) (eq-eqb x.len x.len refl)

gone_asked : (setup : CacheSetup) (at len : ℕ) (lists : Lists) (page : Listed) → AreLists setup lists → Goes setup lists at len page → on_lists page.at page.len (asked setup at len lists) ≡ None
gone_asked setup at len lists page l g =
    by_access (λ after. on_lists page.at page.len after ≡ None) setup at len lists
    (λ q found. let both : None ≡ Some q = sym g.cold ∙ found in absurd cc)
    (λ q cold found. let both : None ≡ Some q = sym g.cool ∙ found in absurd cc)
    (λ cold cool. by_full (λ after. on_lists page.at page.len after ≡ None) setup at len lists
    (λ full. (λ j. option_or (new_off j) (listed page.at page.len (without_first lists).hot)) ∙ gone_off page.at page.len lists.warm lists.hot page (l.once page.at page.len) g.first (self_named page))
    (λ free. let both : true ≡ false = sym g.full ∙ free in absurd cc))
  where
    differ : AreOthers page.at page.len at len
    differ a b =
        let never : true ≡ false = sym (self_named page) ∙ (λ j. is_named (a j) (b j) page) ∙ first_there at len lists.warm lists.hot page g.first g.cold g.cool in
        absurd cc

    new_off : listed page.at page.len ((without_first lists).warm ++ record { at = at; len = len; hits = 0; last = lists.accesses } ∷ []) ≡ listed page.at page.len (without_first lists).warm
    new_off = skips_last page.at page.len (without_first lists).warm (record { at = at; len = len; hits = 0; last = lists.accesses }) (not_named page.at page.len (record { at = at; len = len; hits = 0; last = lists.accesses }) differ)

pub page_gone : (setup : CacheSetup) (lists : Lists) (at len : ℕ) (page : Listed) → AreLists setup lists → goes setup lists at len ≡ Some page → on_lists page.at page.len (midpoint setup lists at len) ≡ None
unfolding midpoint
page_gone setup lists at len page l e =
    let after : Lists = accessed setup lists at len in
    let counted : Lists = record lists { accesses = raised 1 lists.accesses } in
    aged_absent setup page.at page.len after.warm after.hot after.accesses (gone_asked setup at len counted page (record { once = l.once; few = l.few }) (goes_parts setup counted at len page e))

-- ---- the page that is asked for

last_found : (p n : ℕ) (xs : List Listed) (x : Listed) → listed p n xs ≡ None → is_named p n x ≡ true → listed p n (xs ++ x ∷ []) ≡ Some x
last_found p n xs x none is = find-append (is_named p n) xs (x ∷ []) ∙ (λ j. option_or (none j) (finds p n x [] is j))

none_rest : (p n : ℕ) (xs : List Listed) → listed p n xs ≡ None → listed p n (drop 1 xs) ≡ None
none_rest p n [] e = refl
none_rest p n (x ∷ xs) e = elim (cases_Bool (is_named p n x)) [
  | inl is ↦ let both : Some x ≡ None = sym (finds p n x xs is) ∙ e in absurd cc
  | inr off ↦ sym (skips p n x xs off) ∙ e
]

-- a page that is on a list once is not on the list without it
once_gone : (at len : ℕ) (xs : List Listed) (page : Listed) → listed at len xs ≡ Some page → times at len xs ≤ 1 → listed at len (without page.at page.len xs) ≡ None
once_gone at len xs page found once =
    let t = taken at len xs page found in
    let a = t.times_is at len in
    let b : cond {A = ℕ} (is_named at len page) 1 0 ≡ 1 = ap (λ (k : Bool). cond {A = ℕ} k 1 0) t.named in
    none_listed at len (without page.at page.len xs) (omega (arith, a, b, once))

once_there : (at len : ℕ) (xs : List Listed) (page : Listed) → listed at len xs ≡ Some page → 1 ≤ times at len xs
once_there at len xs page found =
    let t = taken at len xs page found in
    let a = t.times_is at len in
    let b : cond {A = ℕ} (is_named at len page) 1 0 ≡ 1 = ap (λ (k : Bool). cond {A = ℕ} k 1 0) t.named in
    omega (arith, a, b)

-- the page as it stands afterwards, where the access is counted
abbrev page_after : Lists → ℕ → ℕ → Listed
page_after lists at len = record {
  at = at;
  len = len;
  hits = option_map_or (λ (page : Listed). raised 1 page.hits) (listed at len lists.warm) (option_map_or (λ (page : Listed). page.hits) (listed at len lists.hot) 0);
  last = lists.accesses;
}

asked_warm : (setup : CacheSetup) (at len : ℕ) (lists : Lists) (page : Listed) → AreLists setup lists → listed at len lists.warm ≡ Some page → on_lists at len (hit_warm setup page lists) ≡ Some (page_after lists at len)
asked_warm setup at len lists page l found =
    let t = taken at len lists.warm page found in
    let parts = and_parts (page.at == at) (page.len == len) t.named in
    let place : page.at ≡ at = eqb-true page.at at parts.0 in
    let long : page.len ≡ len = eqb-true page.len len parts.1 in
    let hit : Listed = record page { hits = raised 1 page.hits; last = lists.accesses } in
    let same : hit ≡ page_after lists at len = λ j. record { at = place j; len = long j; hits = option_map_or (λ (q : Listed). raised 1 q.hits) (sym found j) (option_map_or (λ (q : Listed). q.hits) (listed at len lists.hot) 0); last = lists.accesses } in
    let once = l.once at len in
    let gone = once_gone at len lists.warm page found (omega (arith, once)) in
    let there = once_there at len lists.warm page found in
    let cool : listed at len lists.hot ≡ None = none_listed at len lists.hot (omega (arith, once, there)) in
    by_hot (λ after. on_lists at len after ≡ Some (page_after lists at len)) setup page lists
    ((λ j. option_or (gone j) (last_found at len lists.hot hit cool t.named j)) ∙ ap Some same)
    ((λ j. option_or (last_found at len (without page.at page.len lists.warm) hit gone t.named j) (listed at len lists.hot)) ∙ ap Some same)

asked_hot : (setup : CacheSetup) (at len : ℕ) (lists : Lists) (page : Listed) → AreLists setup lists → listed at len lists.warm ≡ None → listed at len lists.hot ≡ Some page → on_lists at len (hit_hot page lists) ≡ Some (page_after lists at len)
asked_hot setup at len lists page l cold found =
    let t = taken at len lists.hot page found in
    let parts = and_parts (page.at == at) (page.len == len) t.named in
    let place : page.at ≡ at = eqb-true page.at at parts.0 in
    let long : page.len ≡ len = eqb-true page.len len parts.1 in
    let hit : Listed = record page { last = lists.accesses } in
    let same : hit ≡ page_after lists at len = λ j. record { at = place j; len = long j; hits = option_map_or (λ (q : Listed). raised 1 q.hits) (sym cold j) (option_map_or (λ (q : Listed). q.hits) (sym found j) 0); last = lists.accesses } in
    let once = l.once at len in
    let gone = once_gone at len lists.hot page found (omega (arith, once)) in
    (λ j. option_or (cold j) (last_found at len (without page.at page.len lists.hot) hit gone t.named j)) ∙ ap Some same

asked_new : (setup : CacheSetup) (at len : ℕ) (lists : Lists) → listed at len lists.warm ≡ None → listed at len lists.hot ≡ None → on_lists at len (taken_in setup at len lists) ≡ Some (page_after lists at len)
asked_new setup at len lists cold cool =
    by_full (λ after. on_lists at len after ≡ Some (page_after lists at len)) setup at len lists
    (λ full. shown (without_first lists) (none_rest at len lists.warm cold))
    (λ free. shown lists cold)
  where
    shown : (room : Lists) → listed at len room.warm ≡ None → on_lists at len (with_new at len lists room) ≡ Some (page_after lists at len)
    shown room none =
        (λ j. option_or (last_found at len room.warm (record { at = at; len = len; hits = 0; last = lists.accesses }) none (self_named (record { at = at; len = len; hits = 0; last = lists.accesses })) j) (listed at len room.hot))
        ∙ (λ j. Some (record { at = at; len = len; hits = option_map_or (λ (q : Listed). raised 1 q.hits) (sym cold j) (option_map_or (λ (q : Listed). q.hits) (sym cool j) 0); last = lists.accesses }))

asked_there : (setup : CacheSetup) (at len : ℕ) (lists : Lists) → AreLists setup lists → on_lists at len (asked setup at len lists) ≡ Some (page_after lists at len)
asked_there setup at len lists l =
    by_access (λ after. on_lists at len after ≡ Some (page_after lists at len)) setup at len lists
    (λ page found. asked_warm setup at len lists page l found)
    (λ page cold found. asked_hot setup at len lists page l cold found)
    (λ cold cool. asked_new setup at len lists cold cool)

first_and_rest : (xs : List Listed) (page : Listed) → slice_get xs 0 ≡ Some page → xs ≡ page ∷ drop 1 xs
first_and_rest [] page e = absurd cc
first_and_rest (x ∷ xs) page e = ap (λ (t : Listed). t ∷ xs) (same_Some x page e)

-- it is not old, since this is its last access
pub page_asked : (setup : CacheSetup) (lists : Lists) (at len : ℕ) → 1 ≤ setup.blocks → AreLists setup lists → on_lists at len (midpoint setup lists at len) ≡ Some (asked_page lists at len)
page_asked setup lists at len some l =
    let there : on_lists at len (accessed setup lists at len) ≡ Some (asked_page lists at len) = asked_there setup at len (record lists { accesses = raised 1 lists.accesses }) (record { once = l.once; few = l.few }) in
    elim (aged_stays setup lists at len at len (asked_page lists at len) some l there) [
      | inl stays ↦ stays
      | inr first ↦
          let young = first_young setup lists at len (asked_page lists at len) (drop 1 (accessed setup lists at len).hot) (first_and_rest (accessed setup lists at len).hot (asked_page lists at len) first.0) (omega arith) in
          ap (on_lists at len) young ∙ there
    ]

-- ---- the page that leaves a cache

found_on : (at len : ℕ) (pages : List KeptPage) → is_some (find (is_named at len) (map listed_as pages)) ≡ is_kept (map (λ (b : KeptPage). b.page) pages) at len
unfolding kept
found_on at len [] = refl
found_on at len (x ∷ pages) = elim (cases_Bool (is_page at len x.page)) [
  | inl is ↦ rw is refl
  | inr off ↦ rw off (found_on at len pages)
]

some_or : (a b : Option Listed) → is_some (option_or a b) ≡ (is_some a || is_some b)
some_or None b = refl
some_or (Some x) b = refl

abbrev page_name : Page → ℕ × ℕ
page_name p = (p.at, length p.bytes)

abbrev listed_name : Listed → ℕ × ℕ
listed_name p = (p.at, p.len)

first_same : (pages : List KeptPage) → option_map page_name (slice_get (map (λ (b : KeptPage). b.page) pages) 0) ≡ option_map listed_name (slice_get (map listed_as pages) 0)
first_same [] = refl
first_same (x ∷ pages) = refl

pub leaving_goes : (cache : Caching) (at len : ℕ) → option_map page_name (leaving cache at len) ≡ option_map listed_name (goes cache.setup (lists_of cache) at len)
leaving_goes cache at len =
    let all : List KeptPage = cache.warm ++ cache.hot in
    let there : is_listed (lists_of cache) at len ≡ is_kept (pages_of cache) at len = sym (some_or (listed at len (map listed_as cache.warm)) (listed at len (map listed_as cache.hot))) ∙ ap is_some (sym (find-append (is_named at len) (map listed_as cache.warm) (map listed_as cache.hot))) ∙ ap (λ (l : List Listed). is_some (find (is_named at len) l)) (sym (map-append listed_as cache.warm cache.hot)) ∙ found_on at len all in
    let long : length (map listed_as cache.warm) + length (map listed_as cache.hot) ≡ length (pages_of cache) = sym (length-append (map listed_as cache.warm) (map listed_as cache.hot)) ∙ ap length (sym (map-append listed_as cache.warm cache.hot)) ∙ length-map all listed_as ∙ sym (length-map all (λ (b : KeptPage). b.page)) in
    by (is_kept (pages_of cache) at len || nat_lt (length (pages_of cache)) cache.setup.blocks)
    ∙ (λ j. option_map listed_name (if sym there j || nat_lt (sym long j) cache.setup.blocks then None else slice_get (map-append listed_as cache.warm cache.hot j) 0))
  where
    by : (b : Bool) → option_map page_name (if b then None else slice_get (pages_of cache) 0) ≡ option_map listed_name (if b then None else slice_get (map listed_as (cache.warm ++ cache.hot)) 0)
    by true = refl
    by false = first_same (cache.warm ++ cache.hot)
