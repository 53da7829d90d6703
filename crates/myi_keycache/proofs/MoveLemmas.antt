-- Pages whose indexes move on the lists, and one that is hit.
use Rattle.std.proofs.Common.{◌≡◌, ℕ, ◌+◌, ◌-◌, ◌≤◌, ◌<◌, Bool, true, false, List, [], ◌∷◌, ◌++◌, length, map, insert, slice_get, Option, Some, refl, sym, ap, subst, ◌∙◌, arith, inl, inr, append-nil, append_assoc}
use Rattle.std.specs.Prelude.{◌⊎◌, nat_lt, if◌then◌else◌}
use Rattle.std.specs.List.{AllByRecursion}
use Rattle.std.proofs.lemmas.Bool.{lt-ltb, le-ltb}
use Rattle.std.proofs.lemmas.List.{length-append, length-map}
use Rattle.std.proofs.lemmas.List.Edits.{insert_end}
use Rattle.std.proofs.lemmas.Option.{same_Some, slice_get_within}
use Rattle.myi_keycache.specs.declared.setup.CacheSetup.{CacheSetup}
use Rattle.myi_keycache.specs.declared.blocks.PageName.{PageName}
use Rattle.myi_keycache.specs.declared.blocks.Block.{Block}
use Rattle.myi_keycache.specs.Counts.{raised}
use Rattle.myi_keycache.specs.Kept.{KeptPage}
use Rattle.myi_keycache.specs.Ring.{Linked, IsOn, IsOff, IsAbsent}
use Rattle.myi_keycache.specs.Order.{Order, Split, with_page, page_in, page_at, ordered_by, hit_page, HoldsPages}
use Rattle.indexmap.specs.Layout.{set_value_at}
use Rattle.myi_keycache.proofs.SlotLemmas.{Placed, Moved, moved_order, holds_moved, placed_at, page_here, get_value, changed_order, slots_less, all_parts}

-- ---- which list

pub part_of : (warm hot front : List ℕ) (x : ℕ) (back : List ℕ) → warm ++ hot ≡ front ++ x ∷ back
    → ((b : List ℕ) × (warm ≡ front ++ x ∷ b) × (back ≡ b ++ hot)) ⊎ ((f : List ℕ) × (front ≡ warm ++ f) × (hot ≡ f ++ x ∷ back))
part_of [] hot front x back e = inr (front, refl, e)
part_of (w ∷ warm) hot [] x back e =
    let first : w ≡ x = cc in
    let rest : warm ++ hot ≡ back = cc in
    inl (warm, ap (λ (n : ℕ). n ∷ warm) first, sym rest)
part_of (w ∷ warm) hot (y ∷ front) x back e =
    let first : w ≡ y = cc in
    let rest : warm ++ hot ≡ front ++ x ∷ back = cc in
    elim (part_of warm hot front x back rest) [
      | inl r ↦ inl (r.0, (λ i. first i ∷ r.1 i), r.2)
      | inr r ↦ inr (r.0, (λ i. sym first i ∷ r.1 i), r.2)
    ]

-- the index of a page is on one of the lists, and its place tells on which
pub record Side (lists : Linked) (index i : ℕ) : Type 0 where
  pub on : IsOn lists index
  pub warm : i < length lists.warm → (front : List ℕ) × (back : List ℕ) × (lists.warm ≡ front ++ index ∷ back)
  pub hot : length lists.warm ≤ i → (front : List ℕ) × (back : List ℕ) × (lists.hot ≡ front ++ index ∷ back)

pub side : (es : List (PageName × Block)) (lists : Linked) (index i : ℕ) → Placed es lists index i → Side lists index i
side es lists index i p = elim (part_of lists.warm lists.hot p.front index p.back p.slots) [
  | inl r ↦
      let long = p.long in
      let lt : i < length lists.warm = omega (arith, long, ap length r.1, length-append p.front (index ∷ r.0)) in
      record { on = inl (p.front, r.0, r.1); warm = λ _. (p.front, r.0, r.1); hot = λ le. absurd (omega (arith, lt, le)) }
  | inr r ↦
      let long = p.long in
      let le : length lists.warm ≤ i = omega (arith, long, ap length r.1, length-append lists.warm r.0) in
      record { on = inr (r.0, p.back, r.2); warm = λ lt. absurd (omega (arith, lt, le)); hot = λ _. (r.0, p.back, r.2) }
]

-- a mark of the lists tells on which
pub marked : (es : List (PageName × Block)) (lists : Linked) (index i : ℕ) (r : Bool) → Placed es lists index i → ((front back : List ℕ) → lists.warm ≡ front ++ index ∷ back → r ≡ false) → ((front back : List ℕ) → lists.hot ≡ front ++ index ∷ back → r ≡ true)
    → (r ≡ true → length lists.warm ≤ i) × (r ≡ false → i < length lists.warm)
marked es lists index i r p warm hot = elim (part_of lists.warm lists.hot p.front index p.back p.slots) [
  | inl q ↦
      let long = p.long in
      let lt : i < length lists.warm = omega (arith, long, ap length q.1, length-append p.front (index ∷ q.0)) in
      ((λ is. let both : true ≡ false = sym is ∙ warm p.front q.0 q.1 in absurd cc), (λ _. lt))
  | inr q ↦
      let long = p.long in
      let le : length lists.warm ≤ i = omega (arith, long, ap length q.1, length-append lists.warm q.0) in
      ((λ _. le), (λ is. let both : true ≡ false = sym (hot q.0 p.back q.2) ∙ is in absurd cc))
]

-- ---- moves

abbrev pub ToHot : Linked → Linked → ℕ → Type 0
ToHot lists lists1 index =
    ((f b : List ℕ) → lists.warm ≡ f ++ index ∷ b → lists1 ≡ record lists { warm = f ++ b; hot = lists.hot ++ index ∷ [] })
    × ((f b : List ℕ) → lists.hot ≡ f ++ index ∷ b → lists1 ≡ record lists { hot = (f ++ b) ++ index ∷ [] })

abbrev pub ToWarm : Linked → Linked → ℕ → Type 0
ToWarm lists lists1 index =
    ((f b : List ℕ) → lists.warm ≡ f ++ index ∷ b → lists1 ≡ record lists { warm = (f ++ b) ++ index ∷ [] })
    × ((f b : List ℕ) → lists.hot ≡ f ++ index ∷ b → lists1 ≡ record lists { warm = lists.warm ++ index ∷ []; hot = f ++ b })

-- what is said of the fields after a move
pub record Goes (setup : CacheSetup) (es : List (PageName × Block)) (lists1 : Linked) (acc i at warm : ℕ) (o : Order) : Type 0 where
  pub holds : HoldsPages setup es lists1 acc
  pub is : (s : Split o.pages i) → ordered_by setup es lists1 acc ≡ record o { pages = insert (s.front ++ s.back) at s.page; warm = warm }

goes : (setup : CacheSetup) (es : List (PageName × Block)) (lists lists1 : Linked) (acc index i at warm : ℕ) (o : Order) → ordered_by setup es lists acc ≡ o → HoldsPages setup es lists acc → (m : Moved lists lists1 index) → length m.front ≡ i → length m.front1 ≡ at → length lists1.warm ≡ warm → Goes setup es lists1 acc i at warm o
goes setup es lists lists1 acc index i at warm o view held m long at_is warm_is = record {
  holds = holds_moved setup es lists lists1 acc index held m;
  is = λ s. moved_order setup es lists lists1 acc index i warm m o view long warm_is s ∙ ap (λ (n : ℕ). record o { pages = insert (s.front ++ s.back) n s.page; warm = warm }) at_is;
}

pub to_hot : (setup : CacheSetup) (es : List (PageName × Block)) (lists lists1 : Linked) (acc index i : ℕ) (o : Order) → ordered_by setup es lists acc ≡ o → HoldsPages setup es lists acc → Placed es lists index i → ToHot lists lists1 index
    → HoldsPages setup es lists1 acc × ((s : Split o.pages i) → ordered_by setup es lists1 acc ≡ record o { pages = (s.front ++ s.back) ++ s.page ∷ []; warm = if nat_lt i o.warm then o.warm - 1 else o.warm })
to_hot setup es lists lists1 acc index i o view held p to =
    subst (λ (t : Order). HoldsPages setup es lists1 acc × ((s : Split t.pages i) → ordered_by setup es lists1 acc ≡ record t { pages = (s.front ++ s.back) ++ s.page ∷ []; warm = if nat_lt i t.warm then t.warm - 1 else t.warm })) view
    (elim (part_of lists.warm lists.hot p.front index p.back p.slots) [
      | inl r ↦
          let is = to.0 p.front r.0 r.1 in
          let long = p.long in
          let lt : i < length lists.warm = omega (arith, long, ap length r.1, length-append p.front (index ∷ r.0)) in
          let m : Moved lists lists1 index = record {
            front = p.front;
            back = p.back;
            front1 = (p.front ++ r.0) ++ lists.hot;
            back1 = [];
            slots = p.slots;
            slots1 = ap (λ (l : Linked). l.warm ++ l.hot) is ∙ sym (append_assoc (p.front ++ r.0) lists.hot (index ∷ []));
            same = ap (λ (l : List ℕ). p.front ++ l) r.2 ∙ sym (append_assoc p.front r.0 lists.hot) ∙ sym (append-nil ((p.front ++ r.0) ++ lists.hot));
            room = ap (λ (l : Linked). l.room) is;
          } in
          let warm : length lists1.warm ≡ (if nat_lt i (length lists.warm) then length lists.warm - 1 else length lists.warm) =
          ap (λ (l : Linked). length l.warm) is ∙ omega (arith, length-append p.front r.0, length-append p.front (index ∷ r.0), ap length r.1) ∙ sym (ap (λ (b : Bool). if b then length lists.warm - 1 else length lists.warm) (lt-ltb i (length lists.warm) lt)) in
          ending m long refl warm
      | inr r ↦
          let is = to.1 r.0 p.back r.2 in
          let long = p.long in
          let le : length lists.warm ≤ i = omega (arith, long, ap length r.1, length-append lists.warm r.0) in
          let m : Moved lists lists1 index = record {
            front = p.front;
            back = p.back;
            front1 = lists.warm ++ (r.0 ++ p.back);
            back1 = [];
            slots = p.slots;
            slots1 = ap (λ (l : Linked). l.warm ++ l.hot) is ∙ sym (append_assoc lists.warm (r.0 ++ p.back) (index ∷ []));
            same = ap (λ (l : List ℕ). l ++ p.back) r.1 ∙ append_assoc lists.warm r.0 p.back ∙ sym (append-nil (lists.warm ++ (r.0 ++ p.back)));
            room = ap (λ (l : Linked). l.room) is;
          } in
          let warm : length lists1.warm ≡ (if nat_lt i (length lists.warm) then length lists.warm - 1 else length lists.warm) =
          ap (λ (l : Linked). length l.warm) is ∙ sym (ap (λ (b : Bool). if b then length lists.warm - 1 else length lists.warm) (le-ltb i (length lists.warm) le)) in
          ending m long refl warm
    ])
  where
    o1 : Order
    o1 = ordered_by setup es lists acc

    ending : (m : Moved lists lists1 index) → length m.front ≡ i → m.back1 ≡ [] → {w : ℕ} → length lists1.warm ≡ w
        → HoldsPages setup es lists1 acc × ((s : Split o1.pages i) → ordered_by setup es lists1 acc ≡ record o1 { pages = (s.front ++ s.back) ++ s.page ∷ []; warm = w })
    ending m long none {w} warm =
        let g = goes setup es lists lists1 acc index i (length m.front1) w o1 refl held m long refl warm in
        (g.holds, (λ s. g.is s ∙ ap (λ l. record o1 { pages = l; warm = w }) (at_end s)))
      where
        at_end : (s : Split o1.pages i) → insert (s.front ++ s.back) (length m.front1) s.page ≡ (s.front ++ s.back) ++ s.page ∷ []
        at_end s =
            let n : length m.front1 ≡ length (s.front ++ s.back) =
            omega (arith, length-append s.front s.back, length-append s.front (s.page ∷ s.back), ap length s.is, length-map (lists.warm ++ lists.hot) (page_at es), ap length m.slots, length-append m.front (index ∷ m.back), ap length m.same, length-append m.front m.back, length-append m.front1 m.back1, ap length none) in
            ap (λ (k : ℕ). insert (s.front ++ s.back) k s.page) n ∙ insert_end (s.front ++ s.back) s.page

pub to_warm : (setup : CacheSetup) (es : List (PageName × Block)) (lists lists1 : Linked) (acc index i : ℕ) (o : Order) → ordered_by setup es lists acc ≡ o → HoldsPages setup es lists acc → Placed es lists index i → ToWarm lists lists1 index → i < o.warm
    → HoldsPages setup es lists1 acc × ((s : Split o.pages i) → ordered_by setup es lists1 acc ≡ record o { pages = insert (s.front ++ s.back) (o.warm - 1) s.page })
to_warm setup es lists lists1 acc index i o view held p to =
    subst (λ (t : Order). i < t.warm → HoldsPages setup es lists1 acc × ((s : Split t.pages i) → ordered_by setup es lists1 acc ≡ record t { pages = insert (s.front ++ s.back) (t.warm - 1) s.page })) view (λ lt.
    elim (part_of lists.warm lists.hot p.front index p.back p.slots) [
      | inl r ↦
          let is = to.0 p.front r.0 r.1 in
          let m : Moved lists lists1 index = record {
            front = p.front;
            back = p.back;
            front1 = p.front ++ r.0;
            back1 = lists.hot;
            slots = p.slots;
            slots1 = ap (λ (l : Linked). l.warm ++ l.hot) is ∙ append_assoc (p.front ++ r.0) (index ∷ []) lists.hot;
            same = ap (λ (l : List ℕ). p.front ++ l) r.2 ∙ sym (append_assoc p.front r.0 lists.hot);
            room = ap (λ (l : Linked). l.room) is;
          } in
          let warm : length lists1.warm ≡ length lists.warm = ap (λ (l : Linked). length l.warm) is ∙ omega (arith, length-append (p.front ++ r.0) (index ∷ []), length-append p.front r.0, length-append p.front (index ∷ r.0), ap length r.1) in
          let at : length (p.front ++ r.0) ≡ length lists.warm - 1 = omega (arith, length-append p.front r.0, length-append p.front (index ∷ r.0), ap length r.1) in
          let g = goes setup es lists lists1 acc index i (length lists.warm - 1) (length lists.warm) (ordered_by setup es lists acc) refl held m p.long at warm in
          (g.holds, g.is)
      | inr r ↦ let long = p.long in absurd (omega (arith, long, lt, ap length r.1, length-append lists.warm r.0))
    ])

-- the first hot page goes to the warm beginning
pub to_first : (setup : CacheSetup) (es : List (PageName × Block)) (lists lists1 : Linked) (acc index : ℕ) (rest : List ℕ) (o : Order) → ordered_by setup es lists acc ≡ o → HoldsPages setup es lists acc → lists.hot ≡ index ∷ rest → lists1 ≡ record lists { warm = index ∷ lists.warm; hot = rest }
    → HoldsPages setup es lists1 acc × ((s : Split o.pages o.warm) → ordered_by setup es lists1 acc ≡ record o { pages = insert (s.front ++ s.back) 0 s.page; warm = o.warm + 1 })
to_first setup es lists lists1 acc index rest o view held first is =
    subst (λ (t : Order). HoldsPages setup es lists1 acc × ((s : Split t.pages t.warm) → ordered_by setup es lists1 acc ≡ record t { pages = insert (s.front ++ s.back) 0 s.page; warm = t.warm + 1 })) view
    (let m : Moved lists lists1 index = record {
      front = lists.warm;
      back = rest;
      front1 = [];
      back1 = lists.warm ++ rest;
      slots = ap (λ (l : List ℕ). lists.warm ++ l) first;
      slots1 = ap (λ (l : Linked). l.warm ++ l.hot) is;
      same = refl;
      room = ap (λ (l : Linked). l.room) is;
    } in
    let warm : length lists1.warm ≡ length lists.warm + 1 = ap (λ (l : Linked). length l.warm) is ∙ omega arith in
    let g = goes setup es lists lists1 acc index (length lists.warm) 0 (length lists.warm + 1) (ordered_by setup es lists acc) refl held m refl refl warm in
    (g.holds, g.is))

-- ---- the first hot page

pub record First (es : List (PageName × Block)) (lists : Linked) (o : Order) : Type 0 where
  pub index : ℕ
  pub rest : List ℕ
  pub hot : lists.hot ≡ index ∷ rest
  pub placed : Placed es lists index o.warm

pub first_hot_page : (setup : CacheSetup) (es : List (PageName × Block)) (lists : Linked) (acc : ℕ) (o : Order) → ordered_by setup es lists acc ≡ o → HoldsPages setup es lists acc → o.warm < length o.pages → First es lists o
first_hot_page setup es lists acc o view held =
    subst (λ (t : Order). t.warm < length t.pages → First es lists t) view (λ lt. by lists.hot refl (omega (arith, lt, length-map (lists.warm ++ lists.hot) (page_at es), length-append lists.warm lists.hot)))
  where
    by : (hot : List ℕ) → lists.hot ≡ hot → 0 < length hot → First es lists (ordered_by setup es lists acc)
    by [] is lt = absurd (omega arith)
    by (x ∷ rest) is lt = record { index = x; rest = rest; hot = is; placed = placed_at setup es lists acc x lists.warm rest held (ap (λ (l : List ℕ). lists.warm ++ l) is) }

pub first_index : (es : List (PageName × Block)) (lists : Linked) (o : Order) (f : First es lists o) (r : Option ℕ) → r ≡ slice_get lists.hot 0 → r ≡ Some f.index
first_index es lists o f r is = is ∙ ap (λ (l : List ℕ). slice_get l 0) f.hot

pub no_hot_page : (setup : CacheSetup) (es : List (PageName × Block)) (lists : Linked) (acc : ℕ) (o : Order) (x : ℕ) → ordered_by setup es lists acc ≡ o → length o.pages ≤ o.warm → slice_get lists.hot 0 ≡ Some x → ⊥
no_hot_page setup es lists acc o x view =
    subst (λ (t : Order). length t.pages ≤ t.warm → slice_get lists.hot 0 ≡ Some x → ⊥) view (λ le got. by lists.hot (omega (arith, le, length-map (lists.warm ++ lists.hot) (page_at es), length-append lists.warm lists.hot)) got)
  where
    by : (hot : List ℕ) → length hot ≤ 0 → slice_get hot 0 ≡ Some x → ⊥
    by [] le got = absurd cc
    by (y ∷ rest) le got = absurd (omega arith)

-- ---- a page that is hit

pub hit_hot_order : (setup : CacheSetup) (es : List (PageName × Block)) (lists : Linked) (acc acc1 index i : ℕ) (b : Block) (o : Order) → ordered_by setup es lists acc ≡ o → HoldsPages setup es lists acc → Placed es lists index i
    → slice_get (map (λ (e : PageName × Block). e.1) es) index ≡ Some b → acc1 ≡ raised 1 acc → length lists.warm ≤ i → (s : Split o.pages i)
    → ordered_by setup (set_value_at es index (record b { last = acc1 })) lists acc1 ≡ record o { accesses = raised 1 o.accesses; pages = with_page s (hit_page o i s.page) }
hit_hot_order setup es lists acc acc1 index i b o view held p got acc_is le =
    subst (λ (t : Order). (s : Split t.pages i) → ordered_by setup (set_value_at es index (record b { last = acc1 })) lists acc1 ≡ record t { accesses = raised 1 t.accesses; pages = with_page s (hit_page t i s.page) }) view
    (changed_order setup es lists acc acc1 index i (record b { last = acc1 }) b (hit_page (ordered_by setup es lists acc) i) (raised 1) (ordered_by setup es lists acc) refl held p got acc_is
    (λ n. (λ j. record { page = (page_in (n, b)).page; hits = if sym (le-ltb i (length lists.warm) le) j then raised 1 b.hits else b.hits; last = acc_is j })))

pub hit_warm_order : (setup : CacheSetup) (es : List (PageName × Block)) (lists : Linked) (acc acc1 hits index i : ℕ) (b : Block) (o : Order) → ordered_by setup es lists acc ≡ o → HoldsPages setup es lists acc → Placed es lists index i
    → slice_get (map (λ (e : PageName × Block). e.1) es) index ≡ Some b → acc1 ≡ raised 1 acc → hits ≡ raised 1 b.hits → i < length lists.warm → (s : Split o.pages i)
    → ordered_by setup (set_value_at es index (record b { hits = hits; last = acc1 })) lists acc1 ≡ record o { accesses = raised 1 o.accesses; pages = with_page s (hit_page o i s.page) }
hit_warm_order setup es lists acc acc1 hits index i b o view held p got acc_is hits_is lt =
    subst (λ (t : Order). (s : Split t.pages i) → ordered_by setup (set_value_at es index (record b { hits = hits; last = acc1 })) lists acc1 ≡ record t { accesses = raised 1 t.accesses; pages = with_page s (hit_page t i s.page) }) view
    (changed_order setup es lists acc acc1 index i (record b { hits = hits; last = acc1 }) b (hit_page (ordered_by setup es lists acc) i) (raised 1) (ordered_by setup es lists acc) refl held p got acc_is
    (λ n. (λ j. record { page = (page_in (n, b)).page; hits = (hits_is ∙ ap (λ (t : Bool). if t then raised 1 b.hits else b.hits) (sym (lt-ltb i (length lists.warm) lt))) j; last = acc_is j })))

-- ---- how many pages are left where one is taken off

pub few_left : (setup : CacheSetup) (es : List (PageName × Block)) (lists mid : Linked) (acc index i : ℕ) → HoldsPages setup es lists acc → Placed es lists index i
    → ((f b : List ℕ) → lists.warm ≡ f ++ index ∷ b → mid ≡ record lists { warm = f ++ b }) → ((f b : List ℕ) → lists.hot ≡ f ++ index ∷ b → mid ≡ record lists { hot = f ++ b })
    → length mid.warm + length mid.hot < 65536
few_left setup es lists mid acc index i held p warm hot =
    let few = held.ordered.few in
    let most = held.ordered.setup.most_blocks in
    let long = length-map (lists.warm ++ lists.hot) (page_at es) in
    let both = length-append lists.warm lists.hot in
    elim (part_of lists.warm lists.hot p.front index p.back p.slots) [
      | inl r ↦
          let is = warm p.front r.0 r.1 in
          omega (arith, few, most, long, both, ap (λ (l : Linked). length l.warm) is, ap (λ (l : Linked). length l.hot) is, length-append p.front r.0, length-append p.front (index ∷ r.0), ap length r.1)
      | inr r ↦
          let is = hot r.0 p.back r.2 in
          omega (arith, few, most, long, both, ap (λ (l : Linked). length l.warm) is, ap (λ (l : Linked). length l.hot) is, length-append r.0 p.back, length-append r.0 (index ∷ p.back), ap length r.2)
    ]

-- the first hot page, as the map shows it
pub hot_at_first : (setup : CacheSetup) (es : List (PageName × Block)) (lists : Linked) (acc index : ℕ) (o : Order) → ordered_by setup es lists acc ≡ o → HoldsPages setup es lists acc → slice_get lists.hot 0 ≡ Some index
    → ((b : Block) → slice_get (map (λ (e : PageName × Block). e.1) es) index ≡ Some b → (s : Split o.pages o.warm) → b.last ≡ s.page.last) × (index < length es)
hot_at_first setup es lists acc index o view held first = by lists.hot refl first
  where
    by : (hot : List ℕ) → lists.hot ≡ hot → slice_get hot 0 ≡ Some index → ((b : Block) → slice_get (map (λ (e : PageName × Block). e.1) es) index ≡ Some b → (s : Split o.pages o.warm) → b.last ≡ s.page.last) × (index < length es)
    by [] is at = absurd cc
    by (x ∷ rest) is at =
        let same : x ≡ index = same_Some x index at in
        let p : Placed es lists index (length lists.warm) = placed_at setup es lists acc index lists.warm rest held (ap (λ (l : List ℕ). lists.warm ++ l) is ∙ ap (λ (n : ℕ). lists.warm ++ n ∷ rest) same) in (
          (λ b got s.
              let warm : length lists.warm ≡ o.warm = ap (λ (t : Order). t.warm) view in
              let page = page_here setup es lists acc index o.warm o view (subst (Placed es lists index) warm p) s in
              let block = get_value es index (subst (Placed es lists index) warm p).entry b (subst (Placed es lists index) warm p).got got in
              ap (λ (t : Block). t.last) (sym block) ∙ ap (λ (k : KeptPage). k.last) (sym page)),
          slice_get_within es index p.entry p.got,
        )

-- ---- the first page, and a new index

pub first_on : (lists : Linked) (index : ℕ) (rest : List ℕ) → lists.warm ++ lists.hot ≡ index ∷ rest → IsOn lists index
first_on lists index rest is = elim (part_of lists.warm lists.hot [] index rest is) [
  | inl r ↦ inl ([], r.0, r.1)
  | inr r ↦ inr (r.0, rest, r.2)
]

absent_less : (n : ℕ) (xs : List ℕ) → AllByRecursion (λ (m : ℕ). m < n) xs → IsAbsent n xs
absent_less n [] all = tt
absent_less n (x ∷ xs) all = let lt = all.0 in ((λ e. absurd (omega (arith, e, lt))), absent_less n xs all.1)

pub off_new : (setup : CacheSetup) (es : List (PageName × Block)) (lists : Linked) (acc index : ℕ) → HoldsPages setup es lists acc → index ≡ length es → index < lists.room → IsOff lists index
off_new setup es lists acc index held is lt =
    let less = subst (λ (n : ℕ). AllByRecursion (λ (m : ℕ). m < n) (lists.warm ++ lists.hot)) (sym is) (slots_less (length es) (lists.warm ++ lists.hot) held.listed) in
    let p = all_parts (λ (m : ℕ). m < index) lists.warm lists.hot less in
    record { there = lt; warm = absent_less index lists.warm p.0; hot = absent_less index lists.hot p.1 }
