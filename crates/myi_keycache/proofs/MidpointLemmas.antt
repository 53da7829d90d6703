-- The lists after an access, from where the page of that name stands.
use Rattle.std.proofs.Common.{◌≡◌, ℕ, zero, suc, ◌+◌, ◌-◌, ◌*◌, ◌≤◌, ◌<◌, Bool, true, false, List, [], ◌∷◌, ◌++◌, length, map, take, drop, insert, get_or, max, None, Some, refl, sym, ap, subst, ◌∙◌, arith, inl, inr}
use Rattle.std.specs.Prelude.{nat_lt, nat_le, ◌==◌, ◌&&◌, ◌||◌, position, if◌then◌else◌}
use Rattle.std.specs.List.{AllByRecursion}
use Rattle.std.proofs.lemmas.Bool.{cases_Bool, cases_lt, lt-ltb, le-ltb, le-leb, lt-leb, and_parts, eqb-true}
use Rattle.std.proofs.lemmas.List.{map-append, length-map, length-append, take_at, drop_at, take-append-drop, append_assoc, length-take, drop_all}
use Rattle.std.proofs.lemmas.List.Quantifiers.{position-Some}
use Rattle.myi_keycache.specs.declared.setup.CacheSetup.{CacheSetup}
use Rattle.myi_keycache.specs.Kept.{KeptPage}
use Rattle.myi_keycache.specs.Counts.{raised}
use Rattle.myi_keycache.specs.Caching.{listed_as}
use Rattle.myi_keycache.specs.Midpoint.{Listed, Lists, listed, without, is_full, taken_in, asked, age_limit, aged}
use Rattle.myi_keycache.specs.Order.{Order, Split, hit_page, goes_hot, new_page, lists_in, has_name}

-- ---- where a name stands

all_before : (test : KeptPage → Bool) (front : List KeptPage) (x : KeptPage) (back : List KeptPage) → ((k : ℕ) → k < length front → test (get_or (front ++ x ∷ back) k x) ≡ false) → AllByRecursion (λ y. test y ≡ false) front
all_before test [] x back h = tt
all_before test (f ∷ front) x back h = (h 0 (omega arith), all_before test front x back (λ k lt. h (suc k) (omega arith)))

at_middle : (front : List KeptPage) (x : KeptPage) (back : List KeptPage) (i : ℕ) → length front ≡ i → get_or (front ++ x ∷ back) i x ≡ x
at_middle [] x back i e = subst (λ (t : ℕ). get_or (x ∷ back) t x ≡ x) e refl
at_middle (f ∷ front) x back zero e = absurd (omega arith)
at_middle (f ∷ front) x back (suc i) e = at_middle front x back i (omega arith)

pub record Named (at len : ℕ) (front : List KeptPage) (page : KeptPage) : Type 0 where
  pub before : AllByRecursion (λ y. has_name at len y ≡ false) front
  pub here : has_name at len page ≡ true

pub named : (at len : ℕ) (pages : List KeptPage) (i : ℕ) (s : Split pages i) → position (has_name at len) pages ≡ Some i → Named at len s.front s.page
named at len pages i s e =
    let p = position-Some (has_name at len) (s.front ++ s.page ∷ s.back) i s.page (subst (λ l. position (has_name at len) l ≡ Some i) s.is e) in
    let long = s.long in
    record {
      before = all_before (has_name at len) s.front s.page s.back (λ k lt. p.2 k (omega (arith, long)));
      here = subst (λ (y : KeptPage). has_name at len y ≡ true) (at_middle s.front s.page s.back i s.long) p.1;
    }

find_here : (at len : ℕ) (front : List KeptPage) (page : KeptPage) (back : List KeptPage) → AllByRecursion (λ y. has_name at len y ≡ false) front → has_name at len page ≡ true
    → listed at len (map listed_as (front ++ page ∷ back)) ≡ Some (listed_as page)
find_here at len [] page back before here = rw here refl
find_here at len (f ∷ front) page back before here = rw before.0 (find_here at len front page back before.1 here)

find_none : (at len : ℕ) (pages : List KeptPage) → AllByRecursion (λ y. has_name at len y ≡ false) pages → listed at len (map listed_as pages) ≡ None
find_none at len [] all = refl
find_none at len (f ∷ pages) all = rw all.0 (find_none at len pages all.1)

without_here : (at len : ℕ) (front : List KeptPage) (page : KeptPage) (back : List KeptPage) → AllByRecursion (λ y. has_name at len y ≡ false) front → has_name at len page ≡ true
    → without at len (map listed_as (front ++ page ∷ back)) ≡ map listed_as (front ++ back)
unfolding without
without_here at len [] page back before here = rw here refl
without_here at len (f ∷ front) page back before here = rw before.0 (ap (λ (t : List Listed). listed_as f ∷ t) (without_here at len front page back before.1 here))

all_front : (P : KeptPage → Type 0) (xs ys : List KeptPage) → AllByRecursion P (xs ++ ys) → AllByRecursion P xs
all_front P [] ys all = tt
all_front P (x ∷ xs) ys all = (all.0, all_front P xs ys all.1)

all_back : (P : KeptPage → Type 0) (xs ys : List KeptPage) → AllByRecursion P (xs ++ ys) → AllByRecursion P ys
all_back P [] ys all = all
all_back P (x ∷ xs) ys all = all_back P xs ys all.1

-- ---- the two lists as parts of the order

pub halves : (setup : CacheSetup) (pages a b : List KeptPage) (warm acc : ℕ) → pages ≡ a ++ b → length a ≡ warm
    → lists_in (record { setup = setup; pages = pages; warm = warm; accesses = acc }) ≡ record { warm = map listed_as a; hot = map listed_as b; accesses = acc }
halves setup pages a b warm acc is long = λ i. record {
  warm = map listed_as ((ap (take warm) is ∙ take_at a b warm long) i);
  hot = map listed_as ((ap (drop warm) is ∙ drop_at a b warm long) i);
  accesses = acc;
}

abbrev pub lists : List Listed → List Listed → ℕ → Lists
lists warm hot acc = record { warm = warm; hot = hot; accesses = acc }

-- a hit of a warm page
warm_hit : (setup : CacheSetup) (at len acc : ℕ) (front : List KeptPage) (page : KeptPage) (b1 b2 : List KeptPage) → Named at len front page
    → asked setup at len (lists (map listed_as (front ++ page ∷ b1)) (map listed_as b2) acc)
    ≡ (if nat_le 3 (raised 1 page.hits) && nat_le (setup.division * setup.blocks) (length (front ++ b1) * 100)
    then lists (map listed_as (front ++ b1)) (map listed_as b2 ++ listed_as (record page { hits = raised 1 page.hits; last = acc }) ∷ []) acc
    else lists (map listed_as (front ++ b1) ++ listed_as (record page { hits = raised 1 page.hits; last = acc }) ∷ []) (map listed_as b2) acc)
warm_hit setup at len acc front page b1 b2 has =
    let parts = and_parts _ _ has.here in
    let at_is : page.page.at ≡ at = eqb-true _ _ parts.0 in
    let len_is : length page.page.bytes ≡ len = eqb-true _ _ parts.1 in
    let rest : without page.page.at (length page.page.bytes) (map listed_as (front ++ page ∷ b1)) ≡ map listed_as (front ++ b1) =
    (λ i. without (at_is i) (len_is i) (map listed_as (front ++ page ∷ b1))) ∙ without_here at len front page b1 has.before has.here in
    rw (find_here at len front page b1 has.before has.here, rest, length-map (front ++ b1) listed_as) refl

hot_hit : (setup : CacheSetup) (at len acc : ℕ) (f1 f2 : List KeptPage) (page : KeptPage) (back : List KeptPage) → Named at len (f1 ++ f2) page
    → asked setup at len (lists (map listed_as f1) (map listed_as (f2 ++ page ∷ back)) acc) ≡ lists (map listed_as f1) (map listed_as (f2 ++ back) ++ listed_as (record page { last = acc }) ∷ []) acc
hot_hit setup at len acc f1 f2 page back has =
    let parts = and_parts _ _ has.here in
    let at_is : page.page.at ≡ at = eqb-true _ _ parts.0 in
    let len_is : length page.page.bytes ≡ len = eqb-true _ _ parts.1 in
    let behind = all_back _ f1 f2 has.before in
    let rest : without page.page.at (length page.page.bytes) (map listed_as (f2 ++ page ∷ back)) ≡ map listed_as (f2 ++ back) =
    (λ i. without (at_is i) (len_is i) (map listed_as (f2 ++ page ∷ back))) ∙ without_here at len f2 page back behind has.here in
    rw (find_none at len f1 (all_front _ f1 f2 has.before), find_here at len f2 page back behind has.here, rest) refl

-- ---- the order after a hit

-- a warm page, and the warm and the hot pages behind it
record Warm (pages : List KeptPage) (warm index : ℕ) (s : Split pages index) : Type 0 where
  pub b1 : List KeptPage
  pub b2 : List KeptPage
  pub back : s.back ≡ b1 ++ b2
  pub long : suc (length (s.front ++ b1)) ≡ warm
  pub is : pages ≡ (s.front ++ s.page ∷ b1) ++ b2
  pub warm_long : length (s.front ++ s.page ∷ b1) ≡ warm

warm_parts : (pages : List KeptPage) (warm index : ℕ) (s : Split pages index) → warm ≤ length pages → index < warm → Warm pages warm index s
warm_parts pages warm index s le lt =
    let k : ℕ = warm - suc index in
    let parted : s.back ≡ take k s.back ++ drop k s.back = sym (take-append-drop k s.back) in
    let total = ap length s.is in
    let long = s.long in
    record {
      b1 = take k s.back;
      b2 = drop k s.back;
      back = parted;
      long = omega (arith, length-append s.front (take k s.back), length-append s.front (s.page ∷ s.back), length-take k s.back, total, long);
      is = s.is ∙ ap (λ l. s.front ++ s.page ∷ l) parted ∙ sym (append_assoc s.front (s.page ∷ take k s.back) (drop k s.back));
      warm_long = omega (arith, length-append s.front (s.page ∷ take k s.back), length-append s.front (s.page ∷ s.back), length-take k s.back, total, long);
    }

-- a hot page, and the warm and the hot pages before it
record Hot (pages : List KeptPage) (warm index : ℕ) (s : Split pages index) : Type 0 where
  pub f1 : List KeptPage
  pub f2 : List KeptPage
  pub front : s.front ≡ f1 ++ f2
  pub long : length f1 ≡ warm
  pub is : pages ≡ f1 ++ (f2 ++ s.page ∷ s.back)

hot_parts : (pages : List KeptPage) (warm index : ℕ) (s : Split pages index) → warm ≤ index → Hot pages warm index s
hot_parts pages warm index s le =
    let parted : s.front ≡ take warm s.front ++ drop warm s.front = sym (take-append-drop warm s.front) in
    let long = s.long in
    record {
      f1 = take warm s.front;
      f2 = drop warm s.front;
      front = parted;
      long = omega (arith, length-take warm s.front, long);
      is = s.is ∙ ap (λ l. l ++ s.page ∷ s.back) parted ∙ append_assoc (take warm s.front) (drop warm s.front) (s.page ∷ s.back);
    }

abbrev order : CacheSetup → List KeptPage → ℕ → ℕ → Order
order setup pages warm acc = record { setup = setup; pages = pages; warm = warm; accesses = acc }

chosen : (share : ℕ → Bool) (m n : ℕ) (a b c : Bool) → (l r : Lists) → m ≡ n → b ≡ false → (b || (a && share n)) ≡ c → (if a && share m then l else r) ≡ (if c then l else r)
chosen share m n a b c l r e f is = (λ i. if (a && share (e i)) then l else r) ∙ (λ i. if (sym f i || (a && share n)) then l else r) ∙ ap (λ (t : Bool). if t then l else r) is

-- the share of the warm list, in a hit of a warm page
share_is : (setup : CacheSetup) (pages : List KeptPage) (warm acc index : ℕ) (s : Split pages index) (w : Warm pages warm index s) (c : Bool) (l r : Lists) → index < warm → goes_hot (order setup pages warm acc) index s.page ≡ c
    → (if nat_le 3 (raised 1 s.page.hits) && nat_le (setup.division * setup.blocks) (length (s.front ++ w.b1) * 100) then l else r) ≡ (if c then l else r)
share_is setup pages warm acc index s w c l r lt is =
    let long = w.long in
    chosen (λ n. nat_le (setup.division * setup.blocks) (n * 100)) (length (s.front ++ w.b1)) (warm - 1) (nat_le 3 (raised 1 s.page.hits)) (nat_le warm index) c l r (omega (arith, long)) (lt-leb warm index lt) is

pub hit_to_hot : (setup : CacheSetup) (pages : List KeptPage) (warm acc index : ℕ) (s : Split pages index) (at len : ℕ) → Named at len s.front s.page → warm ≤ length pages → goes_hot (order setup pages warm acc) index s.page ≡ true
    → asked setup at len (record (lists_in (order setup pages warm acc)) { accesses = raised 1 acc })
    ≡ lists_in (order setup ((s.front ++ s.back) ++ hit_page (order setup pages warm acc) index s.page ∷ []) (if nat_lt index warm then warm - 1 else warm) (raised 1 acc))
hit_to_hot setup pages warm acc index s at len has le hot = elim (cases_lt index warm) [
  | inl lt ↦
      let w = warm_parts pages warm index s le lt in
      let less : nat_lt index warm ≡ true = lt-ltb index warm lt in
      let p1 : KeptPage = record s.page { hits = raised 1 s.page.hits; last = raised 1 acc } in
      let was : lists_in (order setup pages warm acc) ≡ lists (map listed_as (s.front ++ s.page ∷ w.b1)) (map listed_as w.b2) acc = halves setup pages (s.front ++ s.page ∷ w.b1) w.b2 warm acc w.is w.warm_long in
      let long = w.long in
      let parted : (s.front ++ s.back) ++ p1 ∷ [] ≡ (s.front ++ w.b1) ++ (w.b2 ++ p1 ∷ []) =
      ap (λ l. (s.front ++ l) ++ p1 ∷ []) w.back ∙ ap (λ l. l ++ p1 ∷ []) (sym (append_assoc s.front w.b1 w.b2)) ∙ append_assoc (s.front ++ w.b1) w.b2 (p1 ∷ []) in
      let now : lists_in (order setup ((s.front ++ s.back) ++ p1 ∷ []) (warm - 1) (raised 1 acc)) ≡ lists (map listed_as (s.front ++ w.b1)) (map listed_as w.b2 ++ listed_as p1 ∷ []) (raised 1 acc) =
      halves setup _ (s.front ++ w.b1) (w.b2 ++ p1 ∷ []) (warm - 1) (raised 1 acc) parted (omega (arith, long))
      ∙ ap (λ l. lists (map listed_as (s.front ++ w.b1)) l (raised 1 acc)) (map-append listed_as w.b2 (p1 ∷ [])) in
      rw less (
      ap (λ L. asked setup at len (record L { accesses = raised 1 acc })) was
      ∙ warm_hit setup at len (raised 1 acc) s.front s.page w.b1 w.b2 has
      ∙ share_is setup pages warm acc index s w true _ _ lt hot
      ∙ sym now)
  | inr ge ↦
      let h = hot_parts pages warm index s ge in
      let less : nat_lt index warm ≡ false = le-ltb index warm ge in
      let p1 : KeptPage = record s.page { last = raised 1 acc } in
      let was : lists_in (order setup pages warm acc) ≡ lists (map listed_as h.f1) (map listed_as (h.f2 ++ s.page ∷ s.back)) acc = halves setup pages h.f1 (h.f2 ++ s.page ∷ s.back) warm acc h.is h.long in
      let parted : (s.front ++ s.back) ++ p1 ∷ [] ≡ h.f1 ++ ((h.f2 ++ s.back) ++ p1 ∷ []) =
      ap (λ l. (l ++ s.back) ++ p1 ∷ []) h.front ∙ ap (λ l. l ++ p1 ∷ []) (append_assoc h.f1 h.f2 s.back) ∙ append_assoc h.f1 (h.f2 ++ s.back) (p1 ∷ []) in
      let now : lists_in (order setup ((s.front ++ s.back) ++ p1 ∷ []) warm (raised 1 acc)) ≡ lists (map listed_as h.f1) (map listed_as (h.f2 ++ s.back) ++ listed_as p1 ∷ []) (raised 1 acc) =
      halves setup _ h.f1 ((h.f2 ++ s.back) ++ p1 ∷ []) warm (raised 1 acc) parted h.long
      ∙ ap (λ l. lists (map listed_as h.f1) l (raised 1 acc)) (map-append listed_as (h.f2 ++ s.back) (p1 ∷ [])) in
      let has1 : Named at len (h.f1 ++ h.f2) s.page = subst (λ l. Named at len l s.page) h.front has in
      rw less (
      ap (λ L. asked setup at len (record L { accesses = raised 1 acc })) was
      ∙ hot_hit setup at len (raised 1 acc) h.f1 h.f2 s.page s.back has1
      ∙ sym now)
]

pub hit_to_warm : (setup : CacheSetup) (pages : List KeptPage) (warm acc index : ℕ) (s : Split pages index) (at len : ℕ) → Named at len s.front s.page → warm ≤ length pages → goes_hot (order setup pages warm acc) index s.page ≡ false
    → asked setup at len (record (lists_in (order setup pages warm acc)) { accesses = raised 1 acc })
    ≡ lists_in (order setup (insert (s.front ++ s.back) (warm - 1) (hit_page (order setup pages warm acc) index s.page)) warm (raised 1 acc))
hit_to_warm setup pages warm acc index s at len has le cold = elim (cases_lt index warm) [
  | inr ge ↦ let both : true ≡ false = ap (λ (t : Bool). t || (nat_le 3 (raised 1 s.page.hits) && nat_le (setup.division * setup.blocks) ((warm - 1) * 100))) (sym (le-leb warm index ge)) ∙ cold in absurd cc
  | inl lt ↦
      let w = warm_parts pages warm index s le lt in
      let less : nat_lt index warm ≡ true = lt-ltb index warm lt in
      let p1 : KeptPage = record s.page { hits = raised 1 s.page.hits; last = raised 1 acc } in
      let was : lists_in (order setup pages warm acc) ≡ lists (map listed_as (s.front ++ s.page ∷ w.b1)) (map listed_as w.b2) acc = halves setup pages (s.front ++ s.page ∷ w.b1) w.b2 warm acc w.is w.warm_long in
      let long = w.long in
      let short : length (s.front ++ w.b1) ≡ warm - 1 = omega (arith, long) in
      let all : s.front ++ s.back ≡ (s.front ++ w.b1) ++ w.b2 = ap (λ l. s.front ++ l) w.back ∙ sym (append_assoc s.front w.b1 w.b2) in
      let parted : insert (s.front ++ s.back) (warm - 1) p1 ≡ ((s.front ++ w.b1) ++ p1 ∷ []) ++ w.b2 =
      ap (λ l. insert l (warm - 1) p1) all
      ∙ (λ i. take_at (s.front ++ w.b1) w.b2 (warm - 1) short i ++ p1 ∷ drop_at (s.front ++ w.b1) w.b2 (warm - 1) short i)
      ∙ sym (append_assoc (s.front ++ w.b1) (p1 ∷ []) w.b2) in
      let now : lists_in (order setup (insert (s.front ++ s.back) (warm - 1) p1) warm (raised 1 acc)) ≡ lists (map listed_as (s.front ++ w.b1) ++ listed_as p1 ∷ []) (map listed_as w.b2) (raised 1 acc) =
      halves setup _ ((s.front ++ w.b1) ++ p1 ∷ []) w.b2 warm (raised 1 acc) parted (omega (arith, long, length-append (s.front ++ w.b1) (p1 ∷ [])))
      ∙ ap (λ l. lists l (map listed_as w.b2) (raised 1 acc)) (map-append listed_as (s.front ++ w.b1) (p1 ∷ [])) in
      rw less (
      ap (λ L. asked setup at len (record L { accesses = raised 1 acc })) was
      ∙ warm_hit setup at len (raised 1 acc) s.front s.page w.b1 w.b2 has
      ∙ share_is setup pages warm acc index s w false _ _ lt cold
      ∙ sym now)
]

-- ---- the order after the age was looked at

pub aged_none : (setup : CacheSetup) (pages : List KeptPage) (warm acc : ℕ) → length pages ≤ warm → aged setup (lists_in (order setup pages warm acc)) ≡ lists_in (order setup pages warm acc)
aged_none setup pages warm acc le =
    let gone : drop warm pages ≡ [] = drop_all warm pages le in
    ap (λ (l : List KeptPage). aged setup (lists (map listed_as (take warm pages)) (map listed_as l) acc)) gone
    ∙ ap (λ (l : List KeptPage). lists (map listed_as (take warm pages)) (map listed_as l) acc) (sym gone)

first_hot : (setup : CacheSetup) (pages : List KeptPage) (warm acc : ℕ) (s : Split pages warm) → lists_in (order setup pages warm acc) ≡ lists (map listed_as s.front) (listed_as s.page ∷ map listed_as s.back) acc
first_hot setup pages warm acc s = halves setup pages s.front (s.page ∷ s.back) warm acc s.is s.long

pub aged_young : (setup : CacheSetup) (pages : List KeptPage) (warm acc : ℕ) (s : Split pages warm) → nat_lt (age_limit setup) (acc - s.page.last) ≡ false → aged setup (lists_in (order setup pages warm acc)) ≡ lists_in (order setup pages warm acc)
aged_young setup pages warm acc s young =
    let is = first_hot setup pages warm acc s in
    ap (aged setup) is
    ∙ ap (λ (b : Bool). if b then lists (record (listed_as s.page) { hits = 0 } ∷ map listed_as s.front) (map listed_as s.back) acc else lists (map listed_as s.front) (listed_as s.page ∷ map listed_as s.back) acc) young
    ∙ sym is

pub aged_old : (setup : CacheSetup) (pages : List KeptPage) (warm acc : ℕ) (s : Split pages warm) → nat_lt (age_limit setup) (acc - s.page.last) ≡ true
    → aged setup (lists_in (order setup pages warm acc)) ≡ lists_in (order setup (insert (s.front ++ s.back) 0 (record s.page { hits = 0 })) (warm + 1) acc)
aged_old setup pages warm acc s old =
    let is = first_hot setup pages warm acc s in
    let p0 : KeptPage = record s.page { hits = 0 } in
    let long = s.long in
    ap (aged setup) is
    ∙ ap (λ (b : Bool). if b then lists (record (listed_as s.page) { hits = 0 } ∷ map listed_as s.front) (map listed_as s.back) acc else lists (map listed_as s.front) (listed_as s.page ∷ map listed_as s.back) acc) old
    ∙ sym (halves setup (p0 ∷ (s.front ++ s.back)) (p0 ∷ s.front) s.back (warm + 1) acc refl (omega (arith, long)))

-- ---- the order after a page was taken in

full_is : (setup : CacheSetup) (pages : List KeptPage) (warm acc : ℕ) → is_full setup (lists_in (order setup pages warm acc)) ≡ nat_le setup.blocks (length pages)
full_is setup pages warm acc =
    let a = length-map (take warm pages) listed_as in
    let b = length-map (drop warm pages) listed_as in
    let c = ap length (take-append-drop warm pages) in
    let d = length-append (take warm pages) (drop warm pages) in
    let n : length (map listed_as (take warm pages)) + length (map listed_as (drop warm pages)) ≡ length pages = omega (arith, a, b, c, d) in
    ap (nat_le setup.blocks) n

pub taken_in_room : (setup : CacheSetup) (pages : List KeptPage) (warm acc acc1 at : ℕ) (bytes : List ℕ) (unwritten : Bool) → warm ≤ length pages → nat_le setup.blocks (length pages) ≡ false
    → taken_in setup at (length bytes) (record (lists_in (order setup pages warm acc)) { accesses = acc1 }) ≡ lists_in (order setup (insert pages warm (new_page at bytes unwritten acc1)) (warm + 1) acc1)
taken_in_room setup pages warm acc acc1 at bytes unwritten le room =
    let n : KeptPage = new_page at bytes unwritten acc1 in
    let long = length-take warm pages in
    let now : lists_in (order setup (insert pages warm n) (warm + 1) acc1) ≡ lists (map listed_as (take warm pages) ++ listed_as n ∷ []) (map listed_as (drop warm pages)) acc1 =
    halves setup _ (take warm pages ++ n ∷ []) (drop warm pages) (warm + 1) acc1 (sym (append_assoc (take warm pages) (n ∷ []) (drop warm pages))) (omega (arith, long, length-append (take warm pages) (n ∷ [])))
    ∙ ap (λ l. lists l (map listed_as (drop warm pages)) acc1) (map-append listed_as (take warm pages) (n ∷ [])) in
    rw (full_is setup pages warm acc ∙ room) (sym now)

pub taken_in_full : (setup : CacheSetup) (first : KeptPage) (pages : List KeptPage) (warm acc acc1 at : ℕ) (bytes : List ℕ) (unwritten : Bool) → warm ≤ suc (length pages) → nat_le setup.blocks (length (first ∷ pages)) ≡ true
    → taken_in setup at (length bytes) (record (lists_in (order setup (first ∷ pages) warm acc)) { accesses = acc1 })
    ≡ lists_in (order setup (insert pages (max warm 1 - 1) (new_page at bytes unwritten acc1)) (max warm 1) acc1)
taken_in_full setup first pages zero acc acc1 at bytes unwritten le full =
    rw (full_is setup (first ∷ pages) zero acc ∙ full) refl
taken_in_full setup first pages (suc w) acc acc1 at bytes unwritten le full =
    let n : KeptPage = new_page at bytes unwritten acc1 in
    let one : max (suc w) 1 ≡ suc w = omega arith in
    let less : max (suc w) 1 - 1 ≡ w = omega arith in
    let long = length-take w pages in
    let now : lists_in (order setup (insert pages (max (suc w) 1 - 1) n) (max (suc w) 1) acc1) ≡ lists (map listed_as (take w pages) ++ listed_as n ∷ []) (map listed_as (drop w pages)) acc1 =
    (λ i. lists_in (order setup (insert pages (less i) n) (one i) acc1))
    ∙ halves setup _ (take w pages ++ n ∷ []) (drop w pages) (suc w) acc1 (sym (append_assoc (take w pages) (n ∷ []) (drop w pages))) (omega (arith, long, length-append (take w pages) (n ∷ [])))
    ∙ ap (λ l. lists l (map listed_as (drop w pages)) acc1) (map-append listed_as (take w pages) (n ∷ [])) in
    rw (full_is setup (first ∷ pages) (suc w) acc ∙ full) (ap (λ (b : Bool). lists (map listed_as (take w pages) ++ listed_as n ∷ []) (if b then drop 1 (map listed_as (drop w pages)) else map listed_as (drop w pages)) acc1) (not_zero (length (map listed_as (take w pages)))) ∙ sym now)
  where
    not_zero : (k : ℕ) → (suc k == 0) ≡ false
    not_zero k = elim (cases_Bool (suc k == 0)) [ inl e ↦ absurd (omega (arith, eqb-true _ _ e)) | inr e ↦ e ]
