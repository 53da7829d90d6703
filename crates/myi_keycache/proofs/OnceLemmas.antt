-- No page stands twice on the lists of a cache.
use Rattle.std.proofs.Common.{◌≡◌, ℕ, ◌+◌, ◌≤◌, Bool, true, cond, List, [], ◌∷◌, ◌++◌, length, map, take, drop, sym, ap, ◌∙◌, arith, inl, inr}
use Rattle.std.specs.List.{AllByRecursion}
use Rattle.std.proofs.lemmas.Bool.{cases_Bool, and_parts, eqb-true}
use Rattle.std.proofs.lemmas.List.{map-append, length-map, length-append, take-append-drop}
use Rattle.std.proofs.lemmas.List.Sums.{sum_by-append}
use Rattle.myi_keycache.specs.Kept.{Page, KeptPage, is_page}
use Rattle.myi_keycache.specs.Caching.{listed_as}
use Rattle.myi_keycache.specs.Midpoint.{Listed, is_named, times, AreLists}
use Rattle.myi_keycache.specs.Order.{Order, contents_of, lists_in, Pairs, Differ, IsOrdered}
use Rattle.myi_keycache.proofs.ListsLemmas.{times_first}

none_more : (x : Page) (pages : List KeptPage) (at len : ℕ) → is_page at len x ≡ true → AllByRecursion (Differ x) (contents_of pages) → times at len (map listed_as pages) ≡ 0
none_more x [] at len is all = omega arith
none_more x (q ∷ pages) at len is all =
    let a = times_first at len (listed_as q) (map listed_as pages) in
    let rest = none_more x pages at len is all.1 in
    elim (cases_Bool (is_page at len q.page)) [
      | inl same ↦
          let p = and_parts _ _ is in
          let s = and_parts _ _ same in
          absurd (all.0 (eqb-true _ _ p.0 ∙ sym (eqb-true _ _ s.0)) (eqb-true _ _ p.1 ∙ sym (eqb-true _ _ s.1)))
      | inr off ↦ let b : cond {A = ℕ} (is_named at len (listed_as q)) 1 0 ≡ 0 = ap (λ (t : Bool). cond {A = ℕ} t 1 0) off in omega (arith, a, b, rest)
    ]

once_all : (pages : List KeptPage) (at len : ℕ) → Pairs Differ (contents_of pages) → times at len (map listed_as pages) ≤ 1
unfolding Pairs
once_all [] at len d = omega arith
once_all (q ∷ pages) at len d =
    let a = times_first at len (listed_as q) (map listed_as pages) in
    elim (cases_Bool (is_page at len q.page)) [
      | inl is ↦
          let rest = none_more q.page pages at len is d.0 in
          let b : cond {A = ℕ} (is_named at len (listed_as q)) 1 0 ≡ 1 = ap (λ (t : Bool). cond {A = ℕ} t 1 0) is in
          omega (arith, a, b, rest)
      | inr off ↦
          let rest = once_all pages at len d.1 in
          let b : cond {A = ℕ} (is_named at len (listed_as q)) 1 0 ≡ 0 = ap (λ (t : Bool). cond {A = ℕ} t 1 0) off in
          omega (arith, a, b, rest)
    ]

both_lists : (warm : ℕ) (pages : List KeptPage) → map listed_as (take warm pages) ++ map listed_as (drop warm pages) ≡ map listed_as pages
both_lists warm pages = sym (map-append listed_as (take warm pages) (drop warm pages)) ∙ ap (map listed_as) (take-append-drop warm pages)

pub ordered_lists : (o : Order) → IsOrdered o → AreLists o.setup (lists_in o)
ordered_lists o ordered = record {
  once = λ at len.
      let a : times at len (map listed_as (take o.warm o.pages) ++ map listed_as (drop o.warm o.pages)) ≡ times at len (map listed_as (take o.warm o.pages)) + times at len (map listed_as (drop o.warm o.pages)) = sum_by-append (λ (y : Listed). cond {A = ℕ} (is_named at len y) 1 0) (map listed_as (take o.warm o.pages)) (map listed_as (drop o.warm o.pages)) in
      let b = ap (times at len) (both_lists o.warm o.pages) in
      let c = once_all o.pages at len ordered.differ in
      omega (arith, a, b, c);
  few =
      let a = length-append (map listed_as (take o.warm o.pages)) (map listed_as (drop o.warm o.pages)) in
      let b = ap length (both_lists o.warm o.pages) in
      let c = length-map o.pages listed_as in
      let d = ordered.few in
      omega (arith, a, b, c, d);
}
