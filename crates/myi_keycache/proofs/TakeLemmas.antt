-- The order of the pages after one was taken in.
use Rattle.std.proofs.Common.{◌≡◌, ℕ, zero, suc, ◌+◌, ◌-◌, ◌≤◌, ◌<◌, Bool, true, false, List, [], ◌∷◌, ◌++◌, length, map, take, drop, insert, set, slice_get, get_or, position, max, Option, None, Some, cond, refl, sym, ap, subst, ◌∙◌, arith, inl, inr, append_assoc}
use Rattle.std.specs.Prelude.{◌⊎◌, ◌==◌, not, nat_le, IfSome, if◌then◌else◌}
use Rattle.std.specs.List.{AllByRecursion, position_or_len, swap_remove}
use Rattle.std.proofs.lemmas.Bool.{cases_Bool, cases_lt, lt-ltb, leb-false, and_from, eq-eqb}
use Rattle.std.proofs.lemmas.List.{map-append, length-map, length-append, take-append-drop, take_at, drop_at}
use Rattle.std.proofs.lemmas.Option.{slice_get_within, get_or_from_slice_get}
use Rattle.std.proofs.lemmas.List.Sorted.{IsPermutation-refl}
use Rattle.indexmap.specs.IndexMap.{insert_entry}
use Rattle.myi_keycache.specs.declared.setup.CacheSetup.{CacheSetup}
use Rattle.myi_keycache.specs.declared.blocks.PageName.{PageName}
use Rattle.myi_keycache.specs.declared.blocks.Block.{Block}
use Rattle.myi_keycache.specs.Setup.{IsSetup}
use Rattle.myi_keycache.specs.Kept.{KeptPage}
use Rattle.myi_keycache.specs.Counts.{raised}
use Rattle.myi_keycache.specs.Caching.{listed_as}
use Rattle.myi_keycache.specs.Midpoint.{Lists, listed, taken_in, aged, midpoint}
use Rattle.myi_keycache.specs.Ring.{Linked, IsAbsent}
use Rattle.myi_keycache.specs.Order.{Order, page_of, new_page, room_in, page_in, page_at, ordered_by, IsStored, IsOrdered, Pairs, Differ, HoldsPages, SameNumbers, below, contents_of, lists_in, has_name, Alike}
use Rattle.myi_keycache.proofs.StaysLemmas.{from_front, alike_then}
use Rattle.myi_keycache.proofs.RingLemmas.{get_mapped, absent_parts}
use Rattle.myi_keycache.proofs.OrderLemmas.{parts, get_middle}
use Rattle.myi_keycache.proofs.SlotLemmas.{stands, alone, slots_less, same_then, same_moved, same_more, same_pages, page_is, all_at, all_parts}
use Rattle.myi_keycache.proofs.MoveLemmas.{part_of, ToWarm}
use Rattle.myi_keycache.proofs.MidpointLemmas.{taken_in_room, taken_in_full}
use Rattle.myi_keycache.proofs.AgeLemmas.{Aged}

abbrev order : CacheSetup → List KeptPage → ℕ → ℕ → Order
order setup pages warm acc = record { setup = setup; pages = pages; warm = warm; accesses = acc }

-- ---- a name that is not there

not_before : {X : Type 0} (test : X → Bool) (xs : List X) → length xs ≤ position_or_len test xs → AllByRecursion (λ x. test x ≡ false) xs
not_before test [] le = tt
not_before test (x ∷ xs) le =
    let fails : test x ≡ false = first (cases_Bool (test x)) le in
    let more : position_or_len test (x ∷ xs) ≡ 1 + position_or_len test xs = ap (λ (b : Bool). cond (not b) (1 + position_or_len test xs) 0) fails in
    (fails, not_before test xs (omega (arith, le, more)))
  where
    first : (test x ≡ true) ⊎ (test x ≡ false) → length (x ∷ xs) ≤ position_or_len test (x ∷ xs) → test x ≡ false
    first (inl is) le = absurd (let none : position_or_len test (x ∷ xs) ≡ 0 = ap (λ (b : Bool). cond (not b) (1 + position_or_len test xs) 0) is in omega (arith, le, none))
    first (inr other) le = other

pub not_there : {X : Type 0} (test : X → Bool) (xs : List X) → position test xs ≡ None → AllByRecursion (λ x. test x ≡ false) xs
not_there test xs e = elim (cases_lt (position_or_len test xs) (length xs)) [
  | inl lt ↦ let both : Some (position_or_len test xs) ≡ None = ap (λ (b : Bool). cond b (Some (position_or_len test xs)) None) (sym (lt-ltb (position_or_len test xs) (length xs) lt)) ∙ e in absurd cc
  | inr ge ↦ not_before test xs ge
]

pub others_differ : (at : ℕ) (bytes : List ℕ) (unwritten : Bool) (pages : List KeptPage) → AllByRecursion (λ p. has_name at (length bytes) p ≡ false) pages → AllByRecursion (Differ (page_of at bytes unwritten)) (contents_of pages)
others_differ at bytes unwritten [] all = tt
others_differ at bytes unwritten (p ∷ pages) all = (
  (λ a l. let both : true ≡ false = sym (and_from (p.page.at == at) (length p.page.bytes == length bytes) (eq-eqb p.page.at at (sym a)) (eq-eqb (length p.page.bytes) (length bytes) (sym l))) ∙ all.0 in absurd cc),
  others_differ at bytes unwritten pages all.1,
)

-- no entry has the name of a page that is not kept
pub names_new : (setup : CacheSetup) (es : List (PageName × Block)) (lists : Linked) (acc at size : ℕ) (o : Order) → ordered_by setup es lists acc ≡ o → HoldsPages setup es lists acc → position (has_name at size) o.pages ≡ None
    → AllByRecursion (λ (e : PageName × Block). e.0.at ≡ at → e.0.size ≡ size → ⊥) es
names_new setup es lists acc at size o view held =
    subst (λ (t : Order). position (has_name at size) t.pages ≡ None → AllByRecursion (λ (e : PageName × Block). e.0.at ≡ at → e.0.size ≡ size → ⊥) es) view
    (λ none. from_gets (λ (e : PageName × Block). e.0.at ≡ at → e.0.size ≡ size → ⊥) es (one (not_there (has_name at size) (map (page_at es) (lists.warm ++ lists.hot)) none)))
  where
    from_gets : (P : PageName × Block → Type 0) (xs : List (PageName × Block)) → ((m : ℕ) (e : PageName × Block) → slice_get xs m ≡ Some e → P e) → AllByRecursion P xs
    from_gets P [] each = tt
    from_gets P (x ∷ xs) each = (each 0 x refl, from_gets P xs (λ m e got. each (suc m) e got))

    one : AllByRecursion (λ p. has_name at size p ≡ false) (map (page_at es) (lists.warm ++ lists.hot)) → (m : ℕ) (e : PageName × Block) → slice_get es m ≡ Some e → e.0.at ≡ at → e.0.size ≡ size → ⊥
    one all m e got a l =
        let s = stands (length es) m (lists.warm ++ lists.hot) held.listed (slice_get_within es m e got) in
        let there : slice_get (map (page_at es) (lists.warm ++ lists.hot)) (length s.0) ≡ Some (page_at es m) = get_mapped (page_at es) (lists.warm ++ lists.hot) (length s.0) m (ap (λ (xs : List ℕ). slice_get xs (length s.0)) s.2 ∙ get_middle s.0 m s.1 (length s.0) refl) in
        let off : has_name at size (page_in e) ≡ false = ap (has_name at size) (sym (page_is es m e got)) ∙ all_at (λ p. has_name at size p ≡ false) (map (page_at es) (lists.warm ++ lists.hot)) (length s.0) (page_at es m) all there in
        let stored : e.0.size ≡ length e.1.bytes.items = all_at IsStored es m e held.stored got in
        let both : true ≡ false = sym (and_from (e.0.at == at) (length e.1.bytes.items == size) (eq-eqb e.0.at at a) (eq-eqb (length e.1.bytes.items) size (sym stored ∙ l))) ∙ off in
        absurd cc

pub pushed : (eq : PageName → PageName → Bool) (es : List (PageName × Block)) (name : PageName) (block : Block) → ((k : PageName) → eq name k ≡ true → (k.at ≡ name.at) × (k.size ≡ name.size)) → AllByRecursion (λ (e : PageName × Block). e.0.at ≡ name.at → e.0.size ≡ name.size → ⊥) es
    → insert_entry eq es name block ≡ es ++ (name, block) ∷ []
pushed eq [] name block same all = refl
pushed eq (e ∷ es) name block same all = elim (cases_Bool (eq name e.0)) [
  | inl is ↦ let s = same e.0 is in absurd (all.0 s.0 s.1)
  | inr other ↦ rw other (ap (λ (t : List (PageName × Block)). e ∷ t) (pushed eq es name block same all.1))
]

-- ---- the order with the page

pub record Inserted (o new : Order) (at : ℕ) (bytes : List ℕ) (unwritten : Bool) : Type 0 where
  pub lists : lists_in new ≡ taken_in o.setup at (length bytes) (record (lists_in o) { accesses = raised 1 o.accesses })
  pub setup : new.setup ≡ o.setup
  pub alike : Alike (page_of at bytes unwritten ∷ room_in o) (contents_of new.pages)

contents_insert : (pages : List KeptPage) (i : ℕ) (p : KeptPage) → contents_of (insert pages i p) ≡ contents_of (take i pages) ++ p.page ∷ contents_of (drop i pages)
contents_insert pages i p = map-append _ (take i pages) (p ∷ drop i pages)

contents_parted : (pages : List KeptPage) (i : ℕ) → contents_of (take i pages) ++ contents_of (drop i pages) ≡ contents_of pages
contents_parted pages i = sym (map-append _ (take i pages) (drop i pages)) ∙ ap contents_of (take-append-drop i pages)

alike_insert : (pages : List KeptPage) (i : ℕ) (p : KeptPage) → Alike (p.page ∷ contents_of pages) (contents_of (insert pages i p))
alike_insert pages i p =
    subst (λ l. Alike (p.page ∷ contents_of pages) l) (sym (contents_insert pages i p))
    (subst (λ l. Alike (p.page ∷ l) (contents_of (take i pages) ++ p.page ∷ contents_of (drop i pages))) (contents_parted pages i) (from_front (contents_of (take i pages)) p.page (contents_of (drop i pages))))

length_insert : (pages : List KeptPage) (i : ℕ) (p : KeptPage) → length (insert pages i p) ≡ length pages + 1
length_insert pages i p = omega (arith, length-append (take i pages) (p ∷ drop i pages), length-append (take i pages) (drop i pages), ap length (take-append-drop i pages))

ordered_insert : (setup : CacheSetup) (pages : List KeptPage) (warm acc : ℕ) (i : ℕ) (p : KeptPage) (was : Order) → IsOrdered was → was.setup ≡ setup → Pairs Differ (contents_of pages) → AllByRecursion (Differ p.page) (contents_of pages) → warm ≤ length pages + 1 → length pages + 1 ≤ setup.blocks
    → IsOrdered (record { setup = setup; pages = insert pages i p; warm = warm; accesses = acc })
unfolding Pairs
ordered_insert setup pages warm acc i p was ordered same differ all le few =
    let n = length_insert pages i p in
    record {
      setup = subst (λ (t : CacheSetup). IsSetup t) same ordered.setup;
      differ = (alike_insert pages i p).differ (all, differ);
      warm = omega (arith, n);
      few = omega (arith, n);
    }

-- there is room
room_taken : (setup : CacheSetup) (pages : List KeptPage) (warm acc acc1 at : ℕ) (bytes : List ℕ) (unwritten : Bool) → IsOrdered (order setup pages warm acc) → position (has_name at (length bytes)) pages ≡ None → nat_le setup.blocks (length pages) ≡ false → acc1 ≡ raised 1 acc
    → IsOrdered (order setup (insert pages warm (new_page at bytes unwritten acc1)) (warm + 1) acc1)
    × Inserted (order setup pages warm acc) (order setup (insert pages warm (new_page at bytes unwritten acc1)) (warm + 1) acc1) at bytes unwritten
room_taken setup pages warm acc acc1 at bytes unwritten held none room acc_is =
    let n : KeptPage = new_page at bytes unwritten acc1 in
    let le : warm ≤ length pages = held.warm in
    let all = others_differ at bytes unwritten pages (not_there (has_name at (length bytes)) pages none) in (
      ordered_insert setup pages (warm + 1) acc1 warm n (order setup pages warm acc) held refl held.differ all (omega (arith, le)) (omega (arith, leb-false _ _ room)),
      record {
        lists = sym (ap (λ (k : ℕ). taken_in setup at (length bytes) (record (lists_in (order setup pages warm acc)) { accesses = k })) (sym acc_is) ∙ taken_in_room setup pages warm acc acc1 at bytes unwritten le room);
        setup = refl;
        alike = subst (λ l. Alike (page_of at bytes unwritten ∷ l) (contents_of (insert pages warm n))) (sym (ap (λ (b : Bool). if b then drop 1 (contents_of pages) else contents_of pages) room)) (alike_insert pages warm n);
      },
    )

-- all blocks are used
full_taken : (setup : CacheSetup) (first : KeptPage) (pages : List KeptPage) (warm acc acc1 at : ℕ) (bytes : List ℕ) (unwritten : Bool) → IsOrdered (order setup (first ∷ pages) warm acc) → position (has_name at (length bytes)) (first ∷ pages) ≡ None
    → nat_le setup.blocks (length (first ∷ pages)) ≡ true → acc1 ≡ raised 1 acc
    → IsOrdered (order setup (insert pages (max warm 1 - 1) (new_page at bytes unwritten acc1)) (max warm 1) acc1)
    × Inserted (order setup (first ∷ pages) warm acc) (order setup (insert pages (max warm 1 - 1) (new_page at bytes unwritten acc1)) (max warm 1) acc1) at bytes unwritten
unfolding Pairs
full_taken setup first pages warm acc acc1 at bytes unwritten held none full acc_is =
    let n : KeptPage = new_page at bytes unwritten acc1 in
    let le : warm ≤ suc (length pages) = held.warm in
    let few : suc (length pages) ≤ setup.blocks = held.few in
    let fails = not_there (has_name at (length bytes)) (first ∷ pages) none in
    let all = others_differ at bytes unwritten pages fails.1 in (
      ordered_insert setup pages (max warm 1) acc1 (max warm 1 - 1) n (order setup (first ∷ pages) warm acc) held refl held.differ.1 all (omega (arith, le)) (omega (arith, few)),
      record {
        lists = sym (ap (λ (k : ℕ). taken_in setup at (length bytes) (record (lists_in (order setup (first ∷ pages) warm acc)) { accesses = k })) (sym acc_is) ∙ taken_in_full setup first pages warm acc acc1 at bytes unwritten le full);
        setup = refl;
        alike = subst (λ l. Alike (page_of at bytes unwritten ∷ l) (contents_of (insert pages (max warm 1 - 1) n))) (sym (ap (λ (b : Bool). if b then contents_of pages else first.page ∷ contents_of pages) full)) (alike_insert pages (max warm 1 - 1) n);
      },
    )

-- ---- the fields with the page

-- what is said of the fields once the page is in
abbrev pub TookIn : CacheSetup → List (PageName × Block) → Linked → ℕ → Order → ℕ → List ℕ → Bool → Type 0
TookIn setup es lists acc o at bytes unwritten = HoldsPages setup es lists acc × Inserted o (ordered_by setup es lists acc) at bytes unwritten

-- there is room for more pages
pub holds_room : (setup : CacheSetup) (es : List (PageName × Block)) (lists lists1 : Linked) (acc : ℕ) (o : Order) → ordered_by setup es lists acc ≡ o → lists1.warm ≡ lists.warm → lists1.hot ≡ lists.hot → lists.room ≤ lists1.room → HoldsPages setup es lists acc
    → HoldsPages setup es lists1 acc × (ordered_by setup es lists1 acc ≡ o)
holds_room setup es lists lists1 acc o view warm hot le held =
    let room = held.room in (
      record {
        stored = held.stored;
        listed = subst (SameNumbers (below (length es))) (λ i. sym warm i ++ sym hot i) held.listed;
        room = omega (arith, room, le);
        ordered = subst IsOrdered (λ i. record { setup = setup; pages = map (page_at es) (sym warm i ++ sym hot i); warm = length (sym warm i); accesses = acc }) held.ordered;
      },
      (λ i. record { setup = setup; pages = map (page_at es) (warm i ++ hot i); warm = length (warm i); accesses = acc }) ∙ view,
    )

stored_push : (es : List (PageName × Block)) (e : PageName × Block) → IsStored e → AllByRecursion IsStored es → AllByRecursion IsStored (es ++ e ∷ [])
stored_push [] e here all = (here, tt)
stored_push (x ∷ es) e here all = (all.0, stored_push es e here all.1)

stored_put : (front : List (PageName × Block)) (old e : PageName × Block) (back : List (PageName × Block)) → IsStored e → AllByRecursion IsStored (front ++ old ∷ back) → AllByRecursion IsStored (front ++ e ∷ back)
stored_put [] old e back here all = (here, all.1)
stored_put (x ∷ front) old e back here all = (all.0, stored_put front old e back here all.1)

get_left : (es ys : List (PageName × Block)) (m : ℕ) → m < length es → slice_get (es ++ ys) m ≡ slice_get es m
get_left [] ys m lt = absurd (omega arith)
get_left (x ∷ es) ys zero lt = refl
get_left (x ∷ es) ys (suc m) lt = get_left es ys m (omega arith)

get_but : (front : List (PageName × Block)) (old e : PageName × Block) (back : List (PageName × Block)) (m : ℕ) → (m ≡ length front → ⊥) → slice_get (front ++ e ∷ back) m ≡ slice_get (front ++ old ∷ back) m
get_but [] old e back zero ne = absurd (ne refl)
get_but [] old e back (suc m) ne = refl
get_but (f ∷ front) old e back zero ne = refl
get_but (f ∷ front) old e back (suc m) ne = get_but front old e back m (λ same. ne (ap suc same))

inserted_pages : (g : ℕ → KeptPage) (front back all : List ℕ) (at : ℕ) (n : KeptPage) → front ++ back ≡ all → length front ≡ at → map g front ++ n ∷ map g back ≡ insert (map g all) at n
inserted_pages g front back all at n same long =
    let is : map g all ≡ map g front ++ map g back = ap (map g) (sym same) ∙ map-append g front back in
    let front_is : take at (map g all) ≡ map g front = ap (take at) is ∙ take_at (map g front) (map g back) at (length-map front g ∙ long) in
    let back_is : drop at (map g all) ≡ map g back = ap (drop at) is ∙ drop_at (map g front) (map g back) at (length-map front g ∙ long) in
    (λ i. sym front_is i ++ n ∷ sym back_is i)

seen_as : (setup : CacheSetup) (es : List (PageName × Block)) (lists : Linked) (acc : ℕ) (pages : List KeptPage) (warm : ℕ) → map (page_at es) (lists.warm ++ lists.hot) ≡ pages → length lists.warm ≡ warm → ordered_by setup es lists acc ≡ order setup pages warm acc
seen_as setup es lists acc pages warm is long = (λ i. record { setup = setup; pages = is i; warm = long i; accesses = acc })

pub took_room : (setup : CacheSetup) (es es1 : List (PageName × Block)) (lists lists1 : Linked) (acc acc1 at : ℕ) (bytes : List ℕ) (unwritten : Bool) (e : PageName × Block) (o : Order) → ordered_by setup es lists acc ≡ o → HoldsPages setup es lists acc
    → position (has_name at (length bytes)) o.pages ≡ None → nat_le o.setup.blocks (length o.pages) ≡ false → acc1 ≡ raised 1 acc → page_in e ≡ new_page at bytes unwritten acc1 → IsStored e → es1 ≡ es ++ e ∷ []
    → lists1 ≡ record lists { warm = lists.warm ++ length es ∷ [] } → length es < lists.room → TookIn setup es1 lists1 acc1 o at bytes unwritten
took_room setup es es1 lists lists1 acc acc1 at bytes unwritten e o view held none room acc_is page stored es_is lists_is space =
    subst (λ (t : Order). position (has_name at (length bytes)) t.pages ≡ None → nat_le t.setup.blocks (length t.pages) ≡ false → TookIn setup es1 lists1 acc1 t at bytes unwritten) view
    (λ none room. subst (λ (l : Linked). TookIn setup es1 l acc1 (ordered_by setup es lists acc) at bytes unwritten) (sym lists_is) (subst (λ l. TookIn setup l next acc1 (ordered_by setup es lists acc) at bytes unwritten) (sym es_is) (go none room))) none room
  where
    next : Linked
    next = record lists { warm = lists.warm ++ length es ∷ [] }

    now : List (PageName × Block)
    now = es ++ e ∷ []

    go : position (has_name at (length bytes)) (map (page_at es) (lists.warm ++ lists.hot)) ≡ None → nat_le setup.blocks (length (map (page_at es) (lists.warm ++ lists.hot))) ≡ false → TookIn setup now next acc1 (ordered_by setup es lists acc) at bytes unwritten
    go none room =
        let slots : List ℕ = lists.warm ++ lists.hot in
        let pages : List KeptPage = map (page_at es) slots in
        let n : KeptPage = new_page at bytes unwritten acc1 in
        let t = room_taken setup pages (length lists.warm) acc acc1 at bytes unwritten held.ordered none room acc_is in
        let less = slots_less (length es) slots held.listed in
        let parted : (lists.warm ++ length es ∷ []) ++ lists.hot ≡ lists.warm ++ length es ∷ lists.hot = append_assoc lists.warm (length es ∷ []) lists.hot in
        let old = same_pages es now (λ (m : ℕ). m < length es) (λ m lt. get_left es (e ∷ []) m lt) in
        let both = all_parts (λ (m : ℕ). m < length es) lists.warm lists.hot less in
        let here : page_at now (length es) ≡ n = page_is now (length es) e (get_middle es e [] (length es) refl) ∙ page in
        let is : map (page_at now) ((lists.warm ++ length es ∷ []) ++ lists.hot) ≡ insert pages (length lists.warm) n =
        ap (map (page_at now)) parted ∙ map-append (page_at now) lists.warm (length es ∷ lists.hot) ∙ (λ i. old lists.warm both.0 i ++ here i ∷ old lists.hot both.1 i)
        ∙ inserted_pages (page_at es) lists.warm lists.hot slots (length lists.warm) n refl refl in
        let long : length now ≡ suc (length es) = omega (arith, length-append es (e ∷ [])) in
        let seen = seen_as setup now next acc1 (insert pages (length lists.warm) n) (length lists.warm + 1) is (omega (arith, length-append lists.warm (length es ∷ []))) in (
          record {
            stored = stored_push es e stored held.stored;
            listed = subst (λ (k : ℕ). SameNumbers (below k) ((lists.warm ++ length es ∷ []) ++ lists.hot)) (sym long) (subst (SameNumbers (below (suc (length es)))) (sym parted) (same_more (length es) lists.warm lists.hot held.listed));
            room = omega (arith, long, space);
            ordered = subst IsOrdered (sym seen) t.0;
          },
          subst (λ (m : Order). Inserted (ordered_by setup es lists acc) m at bytes unwritten) (sym seen) t.1,
        )

-- the lists once the first page has left and its index is at the warm end
record Swapped (lists lists1 : Linked) (x : ℕ) (rest : List ℕ) : Type 0 where
  front : List ℕ
  back : List ℕ
  slots : lists1.warm ++ lists1.hot ≡ front ++ x ∷ back
  same : front ++ back ≡ rest
  at : length front ≡ max (length lists.warm) 1 - 1
  long : length lists1.warm ≡ max (length lists.warm) 1
  room : lists1.room ≡ lists.room

swapped : (lists lists1 : Linked) (x : ℕ) (rest : List ℕ) → lists.warm ++ lists.hot ≡ x ∷ rest → ToWarm lists lists1 x → Swapped lists lists1 x rest
swapped lists lists1 x rest is to = elim (part_of lists.warm lists.hot [] x rest is) [
  | inl r ↦
      let e = to.0 [] r.0 r.1 in
      let n : length lists.warm ≡ suc (length r.0) = ap length r.1 in
      record {
        front = r.0;
        back = lists.hot;
        slots = ap (λ (l : Linked). l.warm ++ l.hot) e ∙ append_assoc r.0 (x ∷ []) lists.hot;
        same = sym r.2;
        at = omega (arith, n);
        long = ap (λ (l : Linked). length l.warm) e ∙ omega (arith, n, length-append r.0 (x ∷ []));
        room = ap (λ (l : Linked). l.room) e;
      }
  | inr r ↦
      let n = ap length r.1 in
      let none : lists.warm ≡ [] = empty lists.warm (omega (arith, n, length-append lists.warm r.0)) in
      let none1 : r.0 ≡ [] = empty r.0 (omega (arith, n, length-append lists.warm r.0)) in
      let hot : lists.hot ≡ [] ++ x ∷ rest = r.2 ∙ ap (λ (l : List ℕ). l ++ x ∷ rest) none1 in
      let e = to.1 [] rest hot in
      let long : length lists.warm ≡ 0 = ap length none in
      record {
        front = [];
        back = rest;
        slots = ap (λ (l : Linked). l.warm ++ l.hot) e ∙ ap (λ (l : List ℕ). (l ++ x ∷ []) ++ rest) none;
        same = refl;
        at = omega (arith, long);
        long = ap (λ (l : Linked). length l.warm) e ∙ omega (arith, long, length-append lists.warm (x ∷ []));
        room = ap (λ (l : Linked). l.room) e;
      }
]
  where
    empty : (xs : List ℕ) → length xs ≤ 0 → xs ≡ []
    empty [] le = refl
    empty (y ∷ xs) le = absurd (omega arith)

pub took_full : (setup : CacheSetup) (es pushed es1 : List (PageName × Block)) (lists lists1 : Linked) (acc acc1 x at : ℕ) (rest : List ℕ) (bytes : List ℕ) (unwritten : Bool) (e : PageName × Block) (o : Order) → ordered_by setup es lists acc ≡ o → HoldsPages setup es lists acc
    → position (has_name at (length bytes)) o.pages ≡ None → nat_le o.setup.blocks (length o.pages) ≡ true → acc1 ≡ raised 1 acc → page_in e ≡ new_page at bytes unwritten acc1 → IsStored e → pushed ≡ es ++ e ∷ []
    → ((front : List (PageName × Block)) (old : PageName × Block) (back : List (PageName × Block)) (last : PageName × Block) → length front ≡ x → pushed ≡ (front ++ old ∷ back) ++ last ∷ [] → es1 ≡ front ++ last ∷ back)
    → lists.warm ++ lists.hot ≡ x ∷ rest → ToWarm lists lists1 x → TookIn setup es1 lists1 acc1 o at bytes unwritten
took_full setup es pushed es1 lists lists1 acc acc1 x at rest bytes unwritten e o view held none full acc_is page stored pushed_is put slots_is to =
    subst (λ (t : Order). position (has_name at (length bytes)) t.pages ≡ None → nat_le t.setup.blocks (length t.pages) ≡ true → TookIn setup es1 lists1 acc1 t at bytes unwritten) view go none full
  where
    go : position (has_name at (length bytes)) (map (page_at es) (lists.warm ++ lists.hot)) ≡ None → nat_le setup.blocks (length (map (page_at es) (lists.warm ++ lists.hot))) ≡ true → TookIn setup es1 lists1 acc1 (ordered_by setup es lists acc) at bytes unwritten
    go none full =
        let slots : List ℕ = lists.warm ++ lists.hot in
        let g : ℕ → KeptPage = page_at es in
        let n : KeptPage = new_page at bytes unwritten acc1 in
        let w = swapped lists lists1 x rest slots_is to in
        let less = slots_less (length es) slots held.listed in
        let lt : x < length es = (subst (AllByRecursion (λ (m : ℕ). m < length es)) slots_is less).0 in
        let p = parts es x lt in
        let es_is : es1 ≡ p.front ++ e ∷ p.back = put p.front p.x p.back e p.long (pushed_is ∙ ap (λ l. l ++ e ∷ []) p.is) in
        let long : length es1 ≡ length es = omega (arith, ap length es_is, ap length p.is, length-append p.front (e ∷ p.back), length-append p.front (p.x ∷ p.back)) in
        let pages_is : map g slots ≡ g x ∷ map g rest = ap (map g) slots_is in
        let t = full_taken setup (g x) (map g rest) (length lists.warm) acc acc1 at bytes unwritten (subst (λ l. IsOrdered (order setup l (length lists.warm) acc)) pages_is held.ordered) (subst (λ l. position (has_name at (length bytes)) l ≡ None) pages_is none) (subst (λ (l : List KeptPage). nat_le setup.blocks (length l) ≡ true) pages_is full) acc_is in
        let a = (alone (length es) slots [] x rest held.listed slots_is).1 in
        let b = absent_parts x w.front w.back (subst (IsAbsent x) (sym w.same) a) in
        let other : (m : ℕ) → (m ≡ x → ⊥) → slice_get es1 m ≡ slice_get es m = λ m ne. ap (λ l. slice_get l m) es_is ∙ get_but p.front p.x e p.back m (λ same. ne (same ∙ p.long)) ∙ ap (λ l. slice_get l m) (sym p.is) in
        let old = same_pages es es1 (λ (m : ℕ). m ≡ x → ⊥) other in
        let here : page_at es1 x ≡ n = page_is es1 x e (ap (λ l. slice_get l x) es_is ∙ get_middle p.front e p.back x p.long) ∙ page in
        let is : map (page_at es1) (lists1.warm ++ lists1.hot) ≡ insert (map g rest) (max (length lists.warm) 1 - 1) n =
        ap (map (page_at es1)) w.slots ∙ map-append (page_at es1) w.front (x ∷ w.back) ∙ (λ i. old w.front b.0 i ++ here i ∷ old w.back b.1 i)
        ∙ inserted_pages g w.front w.back rest (max (length lists.warm) 1 - 1) n w.same w.at in
        let seen = seen_as setup es1 lists1 acc1 (insert (map g rest) (max (length lists.warm) 1 - 1) n) (max (length lists.warm) 1) is w.long in
        let room = held.room in
        let listed : SameNumbers (below (length es)) (lists1.warm ++ lists1.hot) =
        subst (SameNumbers (below (length es))) (sym w.slots) (same_then (below (length es)) (x ∷ rest) (w.front ++ x ∷ w.back) (subst (SameNumbers (below (length es))) slots_is held.listed) (same_moved [] x rest w.front w.back (sym w.same))) in (
          record {
            stored = subst (AllByRecursion IsStored) (sym es_is) (stored_put p.front p.x e p.back stored (subst (AllByRecursion IsStored) p.is held.stored));
            listed = subst (λ (k : ℕ). SameNumbers (below k) (lists1.warm ++ lists1.hot)) (sym long) listed;
            room = omega (arith, long, room, w.room);
            ordered = subst IsOrdered (sym seen) t.0;
          },
          subst (λ (m : Order). Inserted (ordered_by setup es lists acc) m at bytes unwritten) (sym seen)
              (subst (λ l. Inserted (order setup l (length lists.warm) acc) (order setup (insert (map g rest) (max (length lists.warm) 1 - 1) n) (max (length lists.warm) 1) acc1) at bytes unwritten) (sym pages_is) t.1),
        )

pub no_order : (setup : CacheSetup) (es : List (PageName × Block)) (lists : Linked) → es ≡ [] → lists ≡ record { warm = []; hot = []; room = 0 } → IsSetup setup → HoldsPages setup es lists 0
unfolding Pairs
no_order setup es lists none empty is =
    subst (λ (l : Linked). HoldsPages setup es l 0) (sym empty) (subst (λ l. HoldsPages setup l (record { warm = []; hot = []; room = 0 }) 0) (sym none) (record {
      stored = tt;
      listed = λ test. IsPermutation-refl [];
      room = omega arith;
      ordered = record { setup = is; differ = tt; warm = omega arith; few = omega arith };
    }))

-- the last entry comes in the place of another
set_middle : (front : List (PageName × Block)) (x : PageName × Block) (back : List (PageName × Block)) (i : ℕ) (v : PageName × Block) → length front ≡ i → set (front ++ x ∷ back) i v ≡ front ++ v ∷ back
set_middle [] x back zero v e = refl
set_middle [] x back (suc i) v e = absurd (omega arith)
set_middle (f ∷ front) x back zero v e = absurd (omega arith)
set_middle (f ∷ front) x back (suc i) v e = ap (λ (l : List (PageName × Block)). f ∷ l) (set_middle front x back i v (omega arith))

pub last_replaces : (es es1 : List (PageName × Block)) (index : ℕ) (front : List (PageName × Block)) (old : PageName × Block) (back : List (PageName × Block)) (last : PageName × Block) (r : Option (PageName × Block)) → length front ≡ index → es ≡ (front ++ old ∷ back) ++ last ∷ []
    → r ≡ slice_get es index → IfSome r (λ p. es1 ≡ swap_remove es index p) → es1 ≡ front ++ last ∷ back
last_replaces es es1 index front old back last r long is r_is removed =
    let parted : es ≡ front ++ old ∷ (back ++ last ∷ []) = is ∙ append_assoc front (old ∷ back) (last ∷ []) in
    let got : r ≡ Some old = r_is ∙ ap (λ l. slice_get l index) parted ∙ get_middle front old (back ++ last ∷ []) index long in
    let n : length (front ++ old ∷ back) ≡ length es - 1 = omega (arith, ap length is, length-append (front ++ old ∷ back) (last ∷ [])) in
    let end : get_or es (length es - 1) old ≡ last = get_or_from_slice_get es (length es - 1) last old (ap (λ l. slice_get l (length es - 1)) is ∙ get_middle (front ++ old ∷ back) last [] (length es - 1) n) in
    let put : set es index last ≡ (front ++ last ∷ back) ++ last ∷ [] = ap (λ l. set l index last) parted ∙ set_middle front old (back ++ last ∷ []) index last long ∙ sym (append_assoc front (last ∷ back) (last ∷ [])) in
    let m : length (front ++ last ∷ back) ≡ length es - 1 = omega (arith, n, length-append front (old ∷ back), length-append front (last ∷ back)) in
    let all : es1 ≡ swap_remove es index old = subst (λ o. IfSome o (λ p. es1 ≡ swap_remove es index p)) got removed in
    all ∙ ap (λ v. take (length es - 1) (set es index v)) end ∙ ap (take (length es - 1)) put ∙ take_at (front ++ last ∷ back) (last ∷ []) (length es - 1) m

-- ---- an access to a page that was not there

pub record Taken (o new : Order) (at : ℕ) (bytes : List ℕ) (unwritten : Bool) : Type 0 where
  pub lists : lists_in new ≡ midpoint o.setup (lists_in o) at (length bytes)
  pub setup : new.setup ≡ o.setup
  pub alike : Alike (page_of at bytes unwritten ∷ room_in o) (contents_of new.pages)

none_listed : (at len : ℕ) (pages : List KeptPage) → AllByRecursion (λ p. has_name at len p ≡ false) pages → listed at len (map listed_as pages) ≡ None
none_listed at len [] all = refl
none_listed at len (p ∷ pages) all = rw all.0 (none_listed at len pages all.1)

all_taken : (P : KeptPage → Type 0) (n : ℕ) (pages : List KeptPage) → AllByRecursion P pages → AllByRecursion P (take n pages) × AllByRecursion P (drop n pages)
all_taken P zero pages all = (tt, all)
all_taken P (suc n) [] all = (tt, tt)
all_taken P (suc n) (p ∷ pages) all = let r = all_taken P n pages all.1 in ((all.0, r.0), r.1)

missed : (setup : CacheSetup) (at len : ℕ) (a : Lists) → listed at len a.warm ≡ None → listed at len a.hot ≡ None → aged setup (taken_in setup at len (record a { accesses = raised 1 a.accesses })) ≡ midpoint setup a at len
unfolding midpoint
missed setup at len a w h = rw (w, h) refl

pub taken : (o mid new : Order) (at : ℕ) (bytes : List ℕ) (unwritten : Bool) → position (has_name at (length bytes)) o.pages ≡ None → Inserted o mid at bytes unwritten → Aged mid new → Taken o new at bytes unwritten
taken o mid new at bytes unwritten none i a =
    let all = all_taken _ o.warm o.pages (not_there (has_name at (length bytes)) o.pages none) in
    record {
      lists = a.lists ∙ ap (λ s. aged s (lists_in mid)) i.setup ∙ ap (aged o.setup) i.lists ∙ missed o.setup at (length bytes) (lists_in o) (none_listed at (length bytes) (take o.warm o.pages) all.0) (none_listed at (length bytes) (drop o.warm o.pages) all.1);
      setup = a.setup ∙ i.setup;
      alike = alike_then _ _ _ i.alike a.alike;
    }
