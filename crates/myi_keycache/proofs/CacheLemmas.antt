-- What the pages in one order say of a cache and its file.
use Rattle.std.proofs.Common.{◌≡◌, ℕ, zero, suc, ◌+◌, ◌-◌, ◌^◌, ◌≤◌, ◌<◌, Bool, true, false, ◌||◌, cond, List, [], ◌∷◌, ◌++◌, length, map, take, drop, slice_get, Option, None, Some, refl, sym, ap, subst, ◌∙◌, arith, inl, inr}
use Rattle.std.specs.Prelude.{◌&&◌, not, unwrap_or, nat_lt, IfSome, AllPairs}
use Rattle.std.specs.List.{list_any, position_or_len}
use Rattle.std.proofs.lemmas.Bool.{cases_Bool, and_from, eq-eqb, or_left}
use Rattle.std.proofs.lemmas.List.{map-append, length-take, take-append-drop, take-map, drop-map}
use Rattle.std.proofs.lemmas.List.Elements.{recursion_from_All, All-from_recursion}
use Rattle.std.proofs.lemmas.List.Sums.{sum_by-cons}
use Rattle.myi_base.specs.Holding.{Holding, bytes_of, overwritten, Told, Writes, WritesPart, OthersStay}
use Rattle.myi_base.proofs.CallerLemmas.{told_same, told_more, told_then}
use Rattle.myi_keycache.specs.declared.setup.Counters.{Counters}
use Rattle.myi_keycache.specs.Kept.{Page, KeptPage, is_page, kept, is_unwritten, unwritten_count, AllWritten}
use Rattle.myi_keycache.specs.Counts.{raised, writes_after, flushes_counted}
use Rattle.myi_keycache.specs.Caching.{Caching, pages_of, listed_as, ArePlaced, IsCurrent, Stays}
use Rattle.myi_keycache.specs.Order.{Order, Split, with_page, as_written, contents_of, has_name, Pairs, Differ, PagesStay, WritesOnly, cache_of}
use Rattle.myi_keycache.proofs.LentLemmas.{pairs_from}
use Rattle.myi_keycache.proofs.FrontLemmas.{unwritten_count_out, unwritten_out}
use Rattle.myi_keycache.proofs.StaysLemmas.{Good, Keeping, keeping_same, keeping_then, keeping_alike, to_front, from_front, written, wrote, wrote_part, same_kept}
use Rattle.myi_keycache.proofs.OrderLemmas.{get_middle, same_length, differ_with}

-- ---- the pages of a cache, and its file

pub pages_eq : (name : List ℕ) (o : Order) (c : Counters) → pages_of (cache_of name o c) ≡ contents_of o.pages
pages_eq name o c = ap contents_of (take-append-drop o.warm o.pages)

pairs_all : (R : Page → Page → Type 0) (ps : List Page) → Pairs R ps → AllPairs R ps
unfolding Pairs
pairs_all R [] p i j d lt below = absurd (omega arith)
pairs_all R (x ∷ ps) p zero zero d lt below = absurd (omega arith)
pairs_all R (x ∷ ps) p zero (suc j) d lt below = (All-from_recursion (R x) ps p.0) j d (omega arith)
pairs_all R (x ∷ ps) p (suc i) zero d lt below = absurd (omega arith)
pairs_all R (x ∷ ps) p (suc i) (suc j) d lt below = pairs_all R ps p.1 i j d (omega arith) (omega arith)

pub good_of : (cache : Caching) (m : Holding) → IsCurrent cache m → Good (pages_of cache) (bytes_of cache.name m)
good_of cache m current = record { clean = recursion_from_All _ _ current.clean; placed = pairs_from ArePlaced _ current.placed }

pub current_of : (cache : Caching) (m : Holding) → Good (pages_of cache) (bytes_of cache.name m) → IsCurrent cache m
current_of cache m good = record { clean = All-from_recursion _ _ good.clean; placed = pairs_all ArePlaced _ good.placed }

pub good_in : (name : List ℕ) (o : Order) (c : Counters) (m : Holding) → IsCurrent (cache_of name o c) m → Good (contents_of o.pages) (bytes_of name m)
good_in name o c m current = subst (λ l. Good l (bytes_of name m)) (pages_eq name o c) (good_of (cache_of name o c) m current)

pub stays_of : (name : List ℕ) (a b : Order) (c d : Counters) (m n : Holding) → (Good (contents_of a.pages) (bytes_of name m) → Keeping (contents_of a.pages) (contents_of b.pages) (bytes_of name m) (bytes_of name n))
    → IsCurrent (cache_of name a c) m → Stays (cache_of name a c) (cache_of name b d) m n
stays_of name a b c d m n f current =
    let k = f (good_in name a c m current) in
    let k1 = subst (λ l. Keeping l (contents_of b.pages) (bytes_of name m) (bytes_of name n)) (sym (pages_eq name a c)) k in
    let k2 = subst (λ l. Keeping (pages_of (cache_of name a c)) l (bytes_of name m) (bytes_of name n)) (sym (pages_eq name b d)) k1 in
    record { current = current_of (cache_of name b d) n k2.good; lent = k2.lent; contents = k2.contents }

-- ---- a page is written where it stands

wrote_at : (front : List Page) (x : Page) (back : List Page) (file : List ℕ) → Pairs Differ (front ++ x ∷ back) → x.unwritten ≡ true → Good (front ++ x ∷ back) file
    → Keeping (front ++ x ∷ back) (front ++ written x ∷ back) file (overwritten x.at x.bytes file)
unfolding Pairs
wrote_at front x back file differ u good =
    let a = keeping_alike _ (x ∷ (front ++ back)) file differ (to_front front x back) good in
    let b = wrote x (front ++ back) file u a.good in
    let d = (to_front front x back).differ differ in
    let c = keeping_alike (written x ∷ (front ++ back)) (front ++ written x ∷ back) (overwritten x.at x.bytes file) d (from_front front (written x) back) b.good in
    keeping_then _ _ _ file file (overwritten x.at x.bytes file) a (keeping_then _ _ _ file (overwritten x.at x.bytes file) (overwritten x.at x.bytes file) b c)

part_at : (front : List Page) (x : Page) (back : List Page) (file bytes : List ℕ) → Pairs Differ (front ++ x ∷ back) → x.unwritten ≡ true → length bytes ≤ length x.bytes → Good (front ++ x ∷ back) file
    → Keeping (front ++ x ∷ back) (front ++ x ∷ back) file (overwritten x.at bytes file)
part_at front x back file bytes differ u le good =
    let a = keeping_alike _ (x ∷ (front ++ back)) file differ (to_front front x back) good in
    let b = wrote_part x (front ++ back) file bytes u le a.good in
    let d = (to_front front x back).differ differ in
    let c = keeping_alike (x ∷ (front ++ back)) (front ++ x ∷ back) (overwritten x.at bytes file) d (from_front front x back) b.good in
    keeping_then _ _ _ file file (overwritten x.at bytes file) a (keeping_then _ _ _ file (overwritten x.at bytes file) (overwritten x.at bytes file) b c)

-- the file after a write
pub after_write : (name new : List ℕ) (n : Holding) → n name ≡ Some new → bytes_of name n ≡ new
after_write name new n e = ap (λ (o : Option (List ℕ)). unwrap_or o []) e

parted : (o : Order) (i : ℕ) (s : Split o.pages i) → contents_of o.pages ≡ contents_of s.front ++ s.page.page ∷ contents_of s.back
parted o i s = ap contents_of s.is ∙ map-append _ s.front (s.page ∷ s.back)

with_parted : (o : Order) (i : ℕ) (s : Split o.pages i) (p : KeptPage) → contents_of (with_page s p) ≡ contents_of s.front ++ p.page ∷ contents_of s.back
with_parted o i s p = map-append _ s.front (p ∷ s.back)

pub written_keeps : (name : List ℕ) (o new : Order) (i : ℕ) (s : Split o.pages i) (at : ℕ) (bytes : List ℕ) (m n : Holding) → Pairs Differ (contents_of o.pages) → s.page.page.unwritten ≡ true → at ≡ s.page.page.at → bytes ≡ s.page.page.bytes
    → new ≡ record o { pages = with_page s (as_written s.page) } → Writes name at bytes m n → Good (contents_of o.pages) (bytes_of name m) → Keeping (contents_of o.pages) (contents_of new.pages) (bytes_of name m) (bytes_of name n)
written_keeps name o new i s at bytes m n differ u at_is bytes_is is w good =
    let x : Page = s.page.page in
    let differ1 = subst (Pairs Differ) (parted o i s) differ in
    let good1 = subst (λ l. Good l (bytes_of name m)) (parted o i s) good in
    let k = wrote_at (contents_of s.front) x (contents_of s.back) (bytes_of name m) differ1 u good1 in
    let file : bytes_of name n ≡ overwritten x.at x.bytes (bytes_of name m) = after_write name _ n w.here ∙ (λ j. overwritten (at_is j) (bytes_is j) (bytes_of name m)) in
    let now : contents_of new.pages ≡ contents_of s.front ++ written x ∷ contents_of s.back = ap (λ (t : Order). contents_of t.pages) is ∙ with_parted o i s (as_written s.page) in
    subst (λ l. Keeping l (contents_of new.pages) (bytes_of name m) (bytes_of name n)) (sym (parted o i s))
    (subst (λ l. Keeping (contents_of s.front ++ x ∷ contents_of s.back) l (bytes_of name m) (bytes_of name n)) (sym now)
    (subst (λ l. Keeping (contents_of s.front ++ x ∷ contents_of s.back) (contents_of s.front ++ written x ∷ contents_of s.back) (bytes_of name m) l) (sym file) k))

pub part_keeps : (name : List ℕ) (o : Order) (i : ℕ) (s : Split o.pages i) (at : ℕ) (bytes : List ℕ) (m n : Holding) → Pairs Differ (contents_of o.pages) → s.page.page.unwritten ≡ true → at ≡ s.page.page.at → bytes ≡ s.page.page.bytes
    → WritesPart name at bytes m n → Good (contents_of o.pages) (bytes_of name m) → Keeping (contents_of o.pages) (contents_of o.pages) (bytes_of name m) (bytes_of name n)
part_keeps name o i s at bytes m n differ u at_is bytes_is (inl same) good = subst (λ (h : Holding). Keeping (contents_of o.pages) (contents_of o.pages) (bytes_of name m) (bytes_of name h)) (sym same) (keeping_same (contents_of o.pages) (bytes_of name m) good)
part_keeps name o i s at bytes m n differ u at_is bytes_is (inr (k, le, w)) good =
    let x : Page = s.page.page in
    let differ1 = subst (Pairs Differ) (parted o i s) differ in
    let good1 = subst (λ l. Good l (bytes_of name m)) (parted o i s) good in
    let short : length (take k bytes) ≤ length x.bytes = omega (arith, length-take k bytes, ap length bytes_is) in
    let p = part_at (contents_of s.front) x (contents_of s.back) (bytes_of name m) (take k bytes) differ1 u short good1 in
    let file : bytes_of name n ≡ overwritten x.at (take k bytes) (bytes_of name m) = after_write name _ n w.here ∙ (λ j. overwritten (at_is j) (take k bytes) (bytes_of name m)) in
    subst (λ l. Keeping l l (bytes_of name m) (bytes_of name n)) (sym (parted o i s))
    (subst (λ l. Keeping (contents_of s.front ++ x ∷ contents_of s.back) (contents_of s.front ++ x ∷ contents_of s.back) (bytes_of name m) l) (sym file) p)

-- ---- the same pages on the same lists

tests_same : (test : KeptPage → Bool) (front : List KeptPage) (p q : KeptPage) (back : List KeptPage) → test q ≡ test p → position_or_len test (front ++ q ∷ back) ≡ position_or_len test (front ++ p ∷ back)
tests_same test [] p q back e = ap (λ (b : Bool). cond (not b) (1 + position_or_len test back) 0) e
tests_same test (f ∷ front) p q back e = ap (λ (n : ℕ). cond (not (test f)) (1 + n) 0) (tests_same test front p q back e)

kept_same : (front : List Page) (x y : Page) (back : List Page) (at len : ℕ) → y.at ≡ x.at → y.bytes ≡ x.bytes → kept (front ++ y ∷ back) at len ≡ kept (front ++ x ∷ back) at len
unfolding kept
kept_same [] x y back at len a b = same_kept x y back at len a b
kept_same (f ∷ front) x y back at len a b =
    elim (cases_Bool (is_page at len f)) [
      | inl is ↦ rw is refl
      | inr other ↦ rw other (kept_same front x y back at len a b)
    ]

less_unwritten : (front : List Page) (x y : Page) (back : List Page) (at len : ℕ) → y.unwritten ≡ false → is_unwritten (front ++ y ∷ back) at len ≡ true → is_unwritten (front ++ x ∷ back) at len ≡ true
unfolding is_unwritten
less_unwritten [] x y back at len w u =
    elim (cases_Bool (is_page at len x && x.unwritten)) [
      | inl is ↦ rw is refl
      | inr other ↦ rw other (rest (is_page at len y) (rw w at u))
    ]
  where
    rest : (b : Bool) → ((b && false) || list_any (λ page. is_page at len page && page.unwritten) back) ≡ true → list_any (λ page. is_page at len page && page.unwritten) back ≡ true
    rest true e = e
    rest false e = e
less_unwritten (f ∷ front) x y back at len w u =
    elim (cases_Bool (is_page at len f && f.unwritten)) [
      | inl is ↦ rw is refl
      | inr other ↦ rw other (less_unwritten front x y back at len w (rw other at u))
    ]

pub stay_same : (o : Order) → PagesStay o o
stay_same o = record { setup = refl; long = refl; lists = refl; named = λ at len. refl; differ = λ d. d; kept = λ p n. refl; unwritten = λ p n u. u }

pub stay_then : (a b c : Order) → PagesStay a b → PagesStay b c → PagesStay a c
stay_then a b c one two = record {
  setup = two.setup ∙ one.setup;
  long = two.long ∙ one.long;
  lists = two.lists ∙ one.lists;
  named = λ at len. two.named at len ∙ one.named at len;
  differ = λ d. two.differ (one.differ d);
  kept = λ p n. two.kept p n ∙ one.kept p n;
  unwritten = λ p n u. one.unwritten p n (two.unwritten p n u);
}

pub stay_written : (o new : Order) (i : ℕ) (s : Split o.pages i) → new ≡ record o { pages = with_page s (as_written s.page) } → PagesStay o new
stay_written o new i s is = subst (PagesStay o) (sym is) (record {
  setup = refl;
  long = same_length o.pages i s (as_written s.page);
  lists =
      let names : map listed_as (with_page s (as_written s.page)) ≡ map listed_as o.pages = map-append _ s.front (as_written s.page ∷ s.back) ∙ sym (map-append _ s.front (s.page ∷ s.back)) ∙ sym (ap (map listed_as) s.is) in
      (λ j. record {
        warm = (sym (take-map listed_as o.warm (with_page s (as_written s.page))) ∙ ap (take o.warm) names ∙ take-map listed_as o.warm o.pages) j;
        hot = (sym (drop-map listed_as o.warm (with_page s (as_written s.page))) ∙ ap (drop o.warm) names ∙ drop-map listed_as o.warm o.pages) j;
        accesses = o.accesses;
      });
  named = λ at len.
      let before : position_or_len (has_name at len) (with_page s (as_written s.page)) ≡ position_or_len (has_name at len) o.pages = tests_same (has_name at len) s.front s.page (as_written s.page) s.back refl ∙ ap (position_or_len (has_name at len)) (sym s.is) in
      (λ j. cond (nat_lt (before j) (same_length o.pages i s (as_written s.page) j)) (Some (before j)) None);
  differ = λ d. differ_with o.pages i s (as_written s.page) refl refl d;
  kept = λ p n. ap (λ l. kept l p n) (with_parted o i s (as_written s.page)) ∙ kept_same (contents_of s.front) s.page.page (written s.page.page) (contents_of s.back) p n refl refl ∙ ap (λ l. kept l p n) (sym (parted o i s));
  unwritten = λ p n u. subst (λ l. is_unwritten l p n ≡ true) (sym (parted o i s)) (less_unwritten (contents_of s.front) s.page.page (written s.page.page) (contents_of s.back) p n refl (subst (λ l. is_unwritten l p n ≡ true) (with_parted o i s (as_written s.page)) u));
})

-- ---- counters, and what the files tell

pub count_written : (o new : Order) (i : ℕ) (s : Split o.pages i) → s.page.page.unwritten ≡ true → new ≡ record o { pages = with_page s (as_written s.page) } → unwritten_count (contents_of o.pages) ≡ unwritten_count (contents_of new.pages) + 1
unfolding unwritten_count
count_written o new i s u is =
    let rest : List Page = contents_of s.front ++ contents_of s.back in
    let x : Page = s.page.page in
    let test : Page → Bool = λ p. p.unwritten in
    let was : unwritten_count (contents_of o.pages) ≡ unwritten_count (x ∷ rest) = ap unwritten_count (parted o i s) ∙ unwritten_count_out (contents_of s.front) x (contents_of s.back) in
    let now : unwritten_count (contents_of new.pages) ≡ unwritten_count (written x ∷ rest) = ap (λ (t : Order). unwritten_count (contents_of t.pages)) is ∙ ap unwritten_count (with_parted o i s (as_written s.page)) ∙ unwritten_count_out (contents_of s.front) (written x) (contents_of s.back) in
    let a : unwritten_count (x ∷ rest) ≡ cond x.unwritten 1 0 + unwritten_count rest = sum_by-cons (λ (p : Page). cond p.unwritten 1 0) x rest in
    let b : unwritten_count (written x ∷ rest) ≡ 0 + unwritten_count rest = sum_by-cons (λ (p : Page). cond p.unwritten 1 0) (written x) rest in
    let yes : cond {A = ℕ} x.unwritten 1 0 ≡ cond {A = ℕ} true 1 0 = ap (λ (t : Bool). cond {A = ℕ} t 1 0) u in
    omega (arith, was, now, a, b, yes)

pub not_all_written : (o : Order) (i : ℕ) (s : Split o.pages i) → s.page.page.unwritten ≡ true → AllWritten (contents_of o.pages) → ⊥
unfolding is_unwritten
not_all_written o i s u all =
    let x : Page = s.page.page in
    let here : is_page x.at (length x.bytes) x ≡ true = and_from _ _ (eq-eqb x.at x.at refl) (eq-eqb (length x.bytes) (length x.bytes) refl) in
    let there : is_unwritten (contents_of s.front ++ x ∷ contents_of s.back) x.at (length x.bytes) ≡ true = unwritten_out (contents_of s.front) x (contents_of s.back) x.at (length x.bytes) ∙ or_left _ _ (and_from _ _ here u) in
    all x.at (length x.bytes) (subst (λ l. is_unwritten l x.at (length x.bytes) ≡ true) (sym (parted o i s)) there)

pub at_split : (pages : List KeptPage) (i : ℕ) (s : Split pages i) (P : KeptPage → Type 0) → IfSome (slice_get pages i) P → P s.page
at_split pages i s P h = subst (λ (o : Option KeptPage). IfSome o P) (subst (λ l. slice_get l i ≡ Some s.page) (sym s.is) (get_middle s.front s.page s.back i s.long)) h

pub wrote_only : (before after : Option Holding) (name : List ℕ) (o new : Order) (c d : Counters) (i : ℕ) (s : Split o.pages i) (at : ℕ) (bytes : List ℕ) → Pairs Differ (contents_of o.pages) → s.page.page.unwritten ≡ true → at ≡ s.page.page.at → bytes ≡ s.page.page.bytes
    → new ≡ record o { pages = with_page s (as_written s.page) } → d ≡ record c { writes = raised 1 c.writes } → Told before after (Writes name at bytes) → WritesOnly before after (cache_of name o c) (cache_of name new d)
wrote_only before after name o new c d i s at bytes differ u at_is bytes_is is counted told = record {
  told = told_more before after (Writes name at bytes) _ told (λ m n held w. stays_of name o new c d m n (written_keeps name o new i s at bytes m n differ u at_is bytes_is is w));
  others = told_more before after (Writes name at bytes) _ told (λ m n held w q ne. w.others q ne);
  clean = λ all. absurd (not_all_written o i s u (subst AllWritten (pages_eq name o c) all));
  counters =
      let a = ap unwritten_count (pages_eq name o c) in
      let b = ap unwritten_count (pages_eq name new d) in
      let n = count_written o new i s u is in
      let one : 1 ≡ unwritten_count (pages_of (cache_of name o c)) + 0 - unwritten_count (pages_of (cache_of name new d)) = omega (arith, a, b, n) in
      counted ∙ ap (λ (k : ℕ). record c { writes = raised k c.writes }) one;
}

pub same_counters : (name : List ℕ) (o : Order) (c : Counters) → c.writes < 2 ^ 64 → c ≡ flushes_counted (pages_of (cache_of name o c)) (pages_of (cache_of name o c)) c
same_counters name o c lt =
    let none : c.writes ≡ writes_after 0 (pages_of (cache_of name o c)) (pages_of (cache_of name o c)) c.writes = omega arith in
    ap (λ (k : ℕ). record c { writes = k }) none

pub part_only : (before after : Option Holding) (name : List ℕ) (o : Order) (c : Counters) (i : ℕ) (s : Split o.pages i) (at : ℕ) (bytes : List ℕ) → Pairs Differ (contents_of o.pages) → s.page.page.unwritten ≡ true → at ≡ s.page.page.at → bytes ≡ s.page.page.bytes
    → c.writes < 2 ^ 64 → Told before after (WritesPart name at bytes) → WritesOnly before after (cache_of name o c) (cache_of name o c)
part_only before after name o c i s at bytes differ u at_is bytes_is lt told = record {
  told = told_more before after (WritesPart name at bytes) _ told (λ m n held w. stays_of name o o c c m n (part_keeps name o i s at bytes m n differ u at_is bytes_is w));
  others = told_more before after (WritesPart name at bytes) _ told (λ m n held w. others m n w);
  clean = λ all. absurd (not_all_written o i s u (subst AllWritten (pages_eq name o c) all));
  counters = same_counters name o c lt;
}
  where
    others : (m n : Holding) → WritesPart name at bytes m n → OthersStay name m n
    others m n (inl same) = λ q ne. ap (λ (h : Holding). h q) same
    others m n (inr (k, le, w)) = λ q ne. w.others q ne

pub nothing_only : (before after : Option Holding) (name : List ℕ) (o : Order) (c : Counters) → c.writes < 2 ^ 64 → after ≡ before → WritesOnly before after (cache_of name o c) (cache_of name o c)
nothing_only before after name o c lt same = record {
  told = told_same before after _ same (λ m held. stays_of name o o c c m m (keeping_same (contents_of o.pages) (bytes_of name m)));
  others = told_same before after _ same (λ m held q ne. refl);
  clean = λ all. same;
  counters = same_counters name o c lt;
}

pub only_then : (a b c : Option Holding) (name : List ℕ) (o mid new : Order) (k1 k2 k3 : Counters) → unwritten_count (contents_of mid.pages) ≤ unwritten_count (contents_of o.pages) → unwritten_count (contents_of new.pages) ≤ unwritten_count (contents_of mid.pages)
    → (AllWritten (contents_of o.pages) → AllWritten (contents_of mid.pages))
    → WritesOnly a b (cache_of name o k1) (cache_of name mid k2) → WritesOnly b c (cache_of name mid k2) (cache_of name new k3) → WritesOnly a c (cache_of name o k1) (cache_of name new k3)
only_then a b c name o mid new k1 k2 k3 le1 le2 stay one two = record {
  told = told_then a b c _ _ _ one.told two.told (λ m n k s t current. let x = s current in let y = t x.current in record { current = y.current; lent = λ p len z e. y.lent p len z (x.lent p len z e); contents = y.contents ∙ x.contents });
  others = told_then a b c _ _ _ one.others two.others (λ m n k s t q ne. t q ne ∙ s q ne);
  clean = λ all. two.clean (subst AllWritten (sym (pages_eq name mid k2)) (stay (subst AllWritten (pages_eq name o k1) all))) ∙ one.clean all;
  counters =
      let p = ap unwritten_count (pages_eq name o k1) in
      let q = ap unwritten_count (pages_eq name mid k2) in
      let r = ap unwritten_count (pages_eq name new k3) in
      let x = one.counters in
      let y = two.counters in
      let w : k2.writes ≡ writes_after 0 (pages_of (cache_of name o k1)) (pages_of (cache_of name mid k2)) k1.writes = ap (λ (k : Counters). k.writes) x in
      let z : writes_after 0 (pages_of (cache_of name mid k2)) (pages_of (cache_of name new k3)) k2.writes ≡ writes_after 0 (pages_of (cache_of name o k1)) (pages_of (cache_of name new k3)) k1.writes = omega (arith, p, q, r, w, le1, le2) in
      y ∙ (λ i. record (x i) { writes = z i });
}
