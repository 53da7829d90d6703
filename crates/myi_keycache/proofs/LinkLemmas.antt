-- The two lists as one ring of nodes.
use Rattle.std.proofs.Common.{◌≡◌, ◌<◌, ◌≤◌, ◌+◌, ◌-◌, ℕ, zero, suc, Bool, true, false, List, [], ◌∷◌, ◌++◌, length, map, reverse, set, slice_get, Option, Some, refl, sym, ap, subst, ◌∙◌, arith, append-nil, append_assoc, inl, inr}
use Rattle.std.specs.Prelude.{unwrap_or}
use Rattle.std.proofs.lemmas.List.{map-append, length-map, length-append}
use Rattle.std.proofs.lemmas.Option.{same_Some}
use Rattle.myi_keycache.specs.declared.lists.Link.{Link}
use Rattle.myi_keycache.specs.Ring.{Follows, IsAbsent, first_node, before_of, behind_of, hot_of, IsRing, CanLink, Linked, node_of, ring_of, walk, linked_by, AreMarked, IsLinked, IsOn, IsOff}
use Rattle.myi_keycache.proofs.RingLemmas.{get_set, get_other, get_mapped, absent_parts, absent_both, once_out, follows_split, follows_first, node_behind, link_there, same_links, ring_same}

-- ---- nodes of indexes

pub ring_warm : (front back hot : List ℕ) → ring_of (front ++ back) hot ≡ map node_of front ++ ring_of back hot
ring_warm front back hot = ap (λ l. l ++ 1 ∷ map node_of hot) (map-append node_of front back) ∙ append_assoc (map node_of front) (map node_of back) (1 ∷ map node_of hot)

pub ring_hot : (warm front back : List ℕ) → ring_of warm (front ++ back) ≡ ring_of warm front ++ map node_of back
ring_hot warm front back = ap (λ l. map node_of warm ++ 1 ∷ l) (map-append node_of front back) ∙ sym (append_assoc (map node_of warm) (1 ∷ map node_of front) (map node_of back))

absent_index : (i : ℕ) (xs : List ℕ) → IsAbsent (node_of i) (map node_of xs) → IsAbsent i xs
absent_index i [] all = tt
absent_index i (x ∷ xs) all = ((λ e. all.0 (ap node_of e)), absent_index i xs all.1)

absent_node : (i : ℕ) (xs : List ℕ) → IsAbsent i xs → IsAbsent (node_of i) (map node_of xs)
absent_node i [] all = tt
absent_node i (x ∷ xs) all = ((λ e. all.0 (omega (arith, e))), absent_node i xs all.1)

pub absent_ring : (i : ℕ) (warm hot : List ℕ) → IsAbsent i warm → IsAbsent i hot → IsAbsent (node_of i) (0 ∷ ring_of warm hot)
absent_ring i warm hot a b =
    ((λ e. absurd (omega (arith, e))), absent_both (node_of i) (map node_of warm) (1 ∷ map node_of hot) (absent_node i warm a) ((λ e. absurd (omega (arith, e))), absent_node i hot b))

ring_absent : (i : ℕ) (warm hot : List ℕ) → IsAbsent (node_of i) (ring_of warm hot) → IsAbsent i warm × IsAbsent i hot
ring_absent i warm hot all =
    let p = absent_parts (node_of i) (map node_of warm) (1 ∷ map node_of hot) all in
    (absent_index i warm p.0, absent_index i hot p.1.1)

-- ---- marks

pub mark_there : (t : List Bool) (v : Bool) (front : List ℕ) (i : ℕ) (back : List ℕ) → AreMarked t v (front ++ i ∷ back) → slice_get t (node_of i) ≡ Some v
mark_there t v [] i back m = m.0
mark_there t v (x ∷ front) i back m = mark_there t v front i back m.1

marks_out : (t : List Bool) (v : Bool) (front : List ℕ) (i : ℕ) (back : List ℕ) → AreMarked t v (front ++ i ∷ back) → AreMarked t v (front ++ back)
marks_out t v [] i back m = m.1
marks_out t v (x ∷ front) i back m = (m.0, marks_out t v front i back m.1)

marks_keep : (t : List Bool) (v u : Bool) (i : ℕ) (xs : List ℕ) → IsAbsent i xs → AreMarked t v xs → AreMarked (set t (node_of i) u) v xs
marks_keep t v u i [] all m = tt
marks_keep t v u i (x ∷ xs) all m = (get_other t (node_of i) (node_of x) u (λ e. all.0 (omega (arith, e))) ∙ m.0, marks_keep t v u i xs all.1 m.1)

marks_in : (t : List Bool) (v : Bool) (front : List ℕ) (i : ℕ) (back : List ℕ) → node_of i < length t → IsAbsent i (front ++ back) → AreMarked t v (front ++ back) → AreMarked (set t (node_of i) v) v (front ++ i ∷ back)
marks_in t v [] i back lt all m = (get_set t (node_of i) v lt, marks_keep t v v i back all m)
marks_in t v (x ∷ front) i back lt all m = (get_other t (node_of i) (node_of x) v (λ e. all.0 (omega (arith, e))) ∙ m.0, marks_in t v front i back lt all.1 m.1)

-- ---- what the links give

walk_is : (t : List ℕ) (a : ℕ) (xs : List ℕ) (z : ℕ) → Follows t a xs z → walk t (length xs) a ≡ xs
walk_is t a [] z h = refl
walk_is t a (x ∷ xs) z h =
    let to : unwrap_or (slice_get t a) 0 ≡ x = ap (λ (o : Option ℕ). unwrap_or o 0) h.0 in
    ap (λ (n : ℕ). n ∷ walk t (length xs) n) to ∙ ap (λ (l : List ℕ). x ∷ l) (walk_is t x xs z h.1)

indexes_back : (xs : List ℕ) → map (λ (n : ℕ). n - 2) (map node_of xs) ≡ xs
indexes_back [] = refl
indexes_back (x ∷ xs) = let e : x + 2 - 2 ≡ x = omega arith in (λ i. e i ∷ indexes_back xs i)

linked_is : (links : List Link) (w h : ℕ) (lists : Linked) → IsLinked links w h lists → linked_by links w h ≡ record lists { room = length links - 2 }
linked_is links w h lists l =
    let s = follows_split (behind_of links) 0 (map node_of lists.warm) 1 (map node_of lists.hot) 0 l.ring.behind in
    let a : walk (behind_of links) w 0 ≡ map node_of lists.warm = ap (λ (n : ℕ). walk (behind_of links) n 0) (sym l.warm_long ∙ sym (length-map lists.warm node_of)) ∙ walk_is (behind_of links) 0 (map node_of lists.warm) 1 s.0 in
    let b : walk (behind_of links) h 1 ≡ map node_of lists.hot = ap (λ (n : ℕ). walk (behind_of links) n 1) (sym l.hot_long ∙ sym (length-map lists.hot node_of)) ∙ walk_is (behind_of links) 1 (map node_of lists.hot) 0 s.1 in
    let c : map (λ (n : ℕ). n - 2) (walk (behind_of links) w 0) ≡ lists.warm = ap (map (λ (n : ℕ). n - 2)) a ∙ indexes_back lists.warm in
    let d : map (λ (n : ℕ). n - 2) (walk (behind_of links) h 1) ≡ lists.hot = ap (map (λ (n : ℕ). n - 2)) b ∙ indexes_back lists.hot in
    (λ i. record { warm = c i; hot = d i; room = length links - 2 })

-- the value and the invariant after a call
pub record Now (links : List Link) (w h : ℕ) (lists : Linked) : Type 0 where
  pub holds : IsLinked links w h (linked_by links w h)
  pub is : linked_by links w h ≡ lists

pub linked_now : (links : List Link) (w h : ℕ) (lists : Linked) → IsLinked links w h lists → length links - 2 ≡ lists.room → Now links w h lists
linked_now links w h lists l room =
    let e : linked_by links w h ≡ lists = linked_is links w h lists l ∙ (λ i. record lists { room = room i }) in
    record { holds = subst (IsLinked links w h) (sym e) l; is = e }

-- node 0 and node 1 are there
pub first_links : (links : List Link) (w h : ℕ) (lists : Linked) → IsLinked links w h lists → 1 < length links
first_links links w h lists l = link_there links (map node_of lists.warm) 1 (map node_of lists.hot) l.ring

-- ---- the first pages

pub first_warm : (links : List Link) (w h : ℕ) (lists : Linked) (i : ℕ) (rest : List ℕ) → IsLinked links w h lists → lists.warm ≡ i ∷ rest → slice_get (behind_of links) 0 ≡ Some (node_of i)
first_warm links w h lists i rest l is = follows_first (behind_of links) 0 (ring_of lists.warm lists.hot) l.ring.behind ∙ ap (λ (xs : List ℕ). Some (first_node (ring_of xs lists.hot))) is

pub first_hot : (links : List Link) (w h : ℕ) (lists : Linked) (i : ℕ) (rest : List ℕ) → IsLinked links w h lists → lists.hot ≡ i ∷ rest → slice_get (behind_of links) 1 ≡ Some (node_of i)
first_hot links w h lists i rest l is = node_behind links (map node_of lists.warm) 1 (map node_of lists.hot) l.ring ∙ ap (λ (xs : List ℕ). Some (first_node (map node_of xs))) is

pub behind_at : (links : List Link) (n to : ℕ) (l : Link) → slice_get (behind_of links) n ≡ Some to → slice_get links n ≡ Some l → l.behind ≡ to
behind_at links n to l is at = same_Some l.behind to (sym (get_mapped (λ (l : Link). l.behind) links n l at) ∙ is)

pub hot_at : (links : List Link) (n : ℕ) (v : Bool) (l : Link) → slice_get (hot_of links) n ≡ Some v → slice_get links n ≡ Some l → l.hot ≡ v
hot_at links n v l is at = same_Some l.hot v (sym (get_mapped (λ (l : Link). l.hot) links n l at) ∙ is)

-- ---- a page that is taken off

-- the node of a page that is on a list
pub record Stands (links : List Link) (lists : Linked) (i : ℕ) (front back : List ℕ) : Type 0 where
  pub ring : IsRing links (front ++ node_of i ∷ back)
  pub is : ring_of lists.warm lists.hot ≡ front ++ node_of i ∷ back

pub stands_warm : (links : List Link) (w h : ℕ) (lists : Linked) (front : List ℕ) (i : ℕ) (back : List ℕ) → IsLinked links w h lists → lists.warm ≡ front ++ i ∷ back → Stands links lists i (map node_of front) (ring_of back lists.hot)
stands_warm links w h lists front i back l is =
    let e : ring_of lists.warm lists.hot ≡ map node_of front ++ node_of i ∷ ring_of back lists.hot = ap (λ (xs : List ℕ). ring_of xs lists.hot) is ∙ ring_warm front (i ∷ back) lists.hot in
    record { ring = subst (IsRing links) e l.ring; is = e }

pub stands_hot : (links : List Link) (w h : ℕ) (lists : Linked) (front : List ℕ) (i : ℕ) (back : List ℕ) → IsLinked links w h lists → lists.hot ≡ front ++ i ∷ back → Stands links lists i (ring_of lists.warm front) (map node_of back)
stands_hot links w h lists front i back l is =
    let e : ring_of lists.warm lists.hot ≡ ring_of lists.warm front ++ node_of i ∷ map node_of back = ap (ring_of lists.warm) is ∙ ring_hot lists.warm front (i ∷ back) in
    record { ring = subst (IsRing links) e l.ring; is = e }

pub stands_on : (links : List Link) (w h : ℕ) (lists : Linked) (i : ℕ) → IsLinked links w h lists → IsOn lists i → (front : List ℕ) × (back : List ℕ) × IsRing links (front ++ node_of i ∷ back)
stands_on links w h lists i l (inl o) = let s = stands_warm links w h lists o.0 i o.1 l o.2 in (map node_of o.0, ring_of o.1 lists.hot, s.ring)
stands_on links w h lists i l (inr o) = let s = stands_hot links w h lists o.0 i o.1 l o.2 in (ring_of lists.warm o.0, map node_of o.1, s.ring)

abbrev pub Unlinks : List Link → List Link → ℕ → Type 0
Unlinks links new node = (front back : List ℕ) → IsRing links (front ++ node ∷ back) → IsRing new (front ++ back)

pub warm_off : (links new : List Link) (w h w1 : ℕ) (lists : Linked) (front : List ℕ) (i : ℕ) (back : List ℕ) → IsLinked links w h lists → lists.warm ≡ front ++ i ∷ back → Unlinks links new (node_of i) → hot_of new ≡ hot_of links → w1 + 1 ≡ w
    → IsLinked new w1 h (record lists { warm = front ++ back })
warm_off links new w h w1 lists front i back l is unlinks marks w1_is =
    let s = stands_warm links w h lists front i back l is in
    let long = l.warm_long in
    record {
      ring = subst (IsRing new) (sym (ring_warm front back lists.hot)) (unlinks (map node_of front) (ring_of back lists.hot) s.ring);
      warm_long = omega (arith, long, ap length is, length-append front (i ∷ back), length-append front back, w1_is);
      hot_long = l.hot_long;
      warm_marked = subst (λ t. AreMarked t false (front ++ back)) (sym marks) (marks_out (hot_of links) false front i back (subst (AreMarked (hot_of links) false) is l.warm_marked));
      hot_marked = subst (λ t. AreMarked t true lists.hot) (sym marks) l.hot_marked;
    }

pub hot_off : (links new : List Link) (w h h1 : ℕ) (lists : Linked) (front : List ℕ) (i : ℕ) (back : List ℕ) → IsLinked links w h lists → lists.hot ≡ front ++ i ∷ back → Unlinks links new (node_of i) → hot_of new ≡ hot_of links → h1 + 1 ≡ h
    → IsLinked new w h1 (record lists { hot = front ++ back })
hot_off links new w h h1 lists front i back l is unlinks marks h1_is =
    let s = stands_hot links w h lists front i back l is in
    let long = l.hot_long in
    record {
      ring = subst (IsRing new) (sym (ring_hot lists.warm front back)) (unlinks (ring_of lists.warm front) (map node_of back) s.ring);
      warm_long = l.warm_long;
      hot_long = omega (arith, long, ap length is, length-append front (i ∷ back), length-append front back, h1_is);
      warm_marked = subst (λ t. AreMarked t false lists.warm) (sym marks) l.warm_marked;
      hot_marked = subst (λ t. AreMarked t true (front ++ back)) (sym marks) (marks_out (hot_of links) true front i back (subst (AreMarked (hot_of links) true) is l.hot_marked));
    }

pub warm_is_off : (links : List Link) (w h : ℕ) (lists : Linked) (front : List ℕ) (i : ℕ) (back : List ℕ) → IsLinked links w h lists → lists.warm ≡ front ++ i ∷ back → lists.room ≡ length links - 2 → IsOff (record lists { warm = front ++ back }) i
warm_is_off links w h lists front i back l is room =
    let s = stands_warm links w h lists front i back l is in
    let lt = link_there links (map node_of front) (node_of i) (ring_of back lists.hot) s.ring in
    let none = (once_out (0 ∷ map node_of front) (node_of i) (ring_of back lists.hot) s.ring.once).1 in
    let r = ring_absent i (front ++ back) lists.hot (subst (IsAbsent (node_of i)) (sym (ring_warm front back lists.hot)) none.1) in
    record { there = omega (arith, lt, room); warm = r.0; hot = r.1 }

pub hot_is_off : (links : List Link) (w h : ℕ) (lists : Linked) (front : List ℕ) (i : ℕ) (back : List ℕ) → IsLinked links w h lists → lists.hot ≡ front ++ i ∷ back → lists.room ≡ length links - 2 → IsOff (record lists { hot = front ++ back }) i
hot_is_off links w h lists front i back l is room =
    let s = stands_hot links w h lists front i back l is in
    let lt = link_there links (ring_of lists.warm front) (node_of i) (map node_of back) s.ring in
    let none = (once_out (0 ∷ ring_of lists.warm front) (node_of i) (map node_of back) s.ring.once).1 in
    let r = ring_absent i lists.warm (front ++ back) (subst (IsAbsent (node_of i)) (sym (ring_hot lists.warm front back)) none.1) in
    record { there = omega (arith, lt, room); warm = r.0; hot = r.1 }

-- ---- a page that is put on a list

pub can_warm : (links : List Link) (w h : ℕ) (lists : Linked) (front back : List ℕ) (i : ℕ) → IsLinked links w h lists → lists.warm ≡ front ++ back → IsOff lists i → lists.room ≡ length links - 2
    → CanLink links (node_of i) (first_node (ring_of back lists.hot)) (map node_of front) (ring_of back lists.hot)
can_warm links w h lists front back i l is off room =
    let e : ring_of lists.warm lists.hot ≡ map node_of front ++ ring_of back lists.hot = ap (λ (xs : List ℕ). ring_of xs lists.hot) is ∙ ring_warm front back lists.hot in
    let two = first_links links w h lists l in
    let lt = off.there in
    record {
      ring = subst (IsRing links) e l.ring;
      here = refl;
      new = subst (λ (xs : List ℕ). IsAbsent (node_of i) (0 ∷ xs)) e (absent_ring i lists.warm lists.hot off.warm off.hot);
      there = omega (arith, two, lt, room);
    }

pub can_hot : (links : List Link) (w h : ℕ) (lists : Linked) (i : ℕ) → IsLinked links w h lists → IsOff lists i → lists.room ≡ length links - 2 → CanLink links (node_of i) 0 (ring_of lists.warm lists.hot) []
can_hot links w h lists i l off room =
    let e : ring_of lists.warm lists.hot ≡ ring_of lists.warm lists.hot ++ [] = sym (append-nil (ring_of lists.warm lists.hot)) in
    let two = first_links links w h lists l in
    let lt = off.there in
    record {
      ring = subst (IsRing links) e l.ring;
      here = refl;
      new = subst (λ (xs : List ℕ). IsAbsent (node_of i) (0 ∷ xs)) e (absent_ring i lists.warm lists.hot off.warm off.hot);
      there = omega (arith, two, lt, room);
    }

pub warm_on : (links new : List Link) (w h w1 : ℕ) (lists : Linked) (front back : List ℕ) (i : ℕ) → IsLinked links w h lists → lists.warm ≡ front ++ back → IsOff lists i → lists.room ≡ length links - 2
    → IsRing new (map node_of front ++ node_of i ∷ ring_of back lists.hot) → hot_of new ≡ set (hot_of links) (node_of i) false → w1 ≡ w + 1 → IsLinked new w1 h (record lists { warm = front ++ i ∷ back })
warm_on links new w h w1 lists front back i l is off room ring marks w1_is =
    let long = l.warm_long in
    let two = first_links links w h lists l in
    let there = off.there in
    let lt : node_of i < length (hot_of links) = omega (arith, two, there, room, length-map links (λ (l : Link). l.hot)) in
    record {
      ring = subst (IsRing new) (sym (ring_warm front (i ∷ back) lists.hot)) ring;
      warm_long = omega (arith, long, ap length is, length-append front (i ∷ back), length-append front back, w1_is);
      hot_long = l.hot_long;
      warm_marked = subst (λ t. AreMarked t false (front ++ i ∷ back)) (sym marks) (marks_in (hot_of links) false front i back lt (subst (IsAbsent i) is off.warm) (subst (AreMarked (hot_of links) false) is l.warm_marked));
      hot_marked = subst (λ t. AreMarked t true lists.hot) (sym marks) (marks_keep (hot_of links) true false i lists.hot off.hot l.hot_marked);
    }

pub hot_on : (links new : List Link) (w h h1 : ℕ) (lists : Linked) (i : ℕ) → IsLinked links w h lists → IsOff lists i → lists.room ≡ length links - 2
    → IsRing new (ring_of lists.warm lists.hot ++ node_of i ∷ []) → hot_of new ≡ set (hot_of links) (node_of i) true → h1 ≡ h + 1 → IsLinked new w h1 (record lists { hot = lists.hot ++ i ∷ [] })
hot_on links new w h h1 lists i l off room ring marks h1_is =
    let long = l.hot_long in
    let two = first_links links w h lists l in
    let there = off.there in
    let lt : node_of i < length (hot_of links) = omega (arith, two, there, room, length-map links (λ (l : Link). l.hot)) in
    let none : lists.hot ++ [] ≡ lists.hot = append-nil lists.hot in
    record {
      ring = subst (IsRing new) (sym (ring_hot lists.warm lists.hot (i ∷ []))) ring;
      warm_long = l.warm_long;
      hot_long = omega (arith, long, length-append lists.hot (i ∷ []), h1_is);
      warm_marked = subst (λ t. AreMarked t false lists.warm) (sym marks) (marks_keep (hot_of links) false true i lists.warm off.warm l.warm_marked);
      hot_marked = subst (λ t. AreMarked t true (lists.hot ++ i ∷ [])) (sym marks) (marks_in (hot_of links) true lists.hot i [] lt (subst (IsAbsent i) (sym none) off.hot) (subst (AreMarked (hot_of links) true) (sym none) l.hot_marked));
    }

-- ---- no pages, and room for one more

pub no_pages : (links : List Link) → links ≡ record { before = 1; behind = 1; hot = false } ∷ record { before = 0; behind = 0; hot = false } ∷ [] → IsLinked links 0 0 (record { warm = []; hot = []; room = 0 })
no_pages links is = subst (λ l. IsLinked l 0 0 (record { warm = []; hot = []; room = 0 })) (sym is) (record {
  ring = record { behind = (refl, refl); before = (refl, refl); once = (((λ e. absurd (omega (arith, e))), tt), (tt, tt)) };
  warm_long = refl;
  hot_long = refl;
  warm_marked = tt;
  hot_marked = tt;
})

get_more : {X : Type 0} (xs ys : List X) (i : ℕ) (x : X) → slice_get xs i ≡ Some x → slice_get (xs ++ ys) i ≡ Some x
get_more [] ys i x at = absurd cc
get_more (y ∷ xs) ys zero x at = at
get_more (y ∷ xs) ys (suc i) x at = get_more xs ys i x at

follows_more : (t ys : List ℕ) (a : ℕ) (xs : List ℕ) (z : ℕ) → Follows t a xs z → Follows (t ++ ys) a xs z
follows_more t ys a [] z h = get_more t ys a z h
follows_more t ys a (x ∷ xs) z h = (get_more t ys a x h.0, follows_more t ys x xs z h.1)

marks_more : (t ys : List Bool) (v : Bool) (xs : List ℕ) → AreMarked t v xs → AreMarked (t ++ ys) v xs
marks_more t ys v [] m = tt
marks_more t ys v (x ∷ xs) m = (get_more t ys (node_of x) v m.0, marks_more t ys v xs m.1)

pub linked_more : (links new : List Link) (w h : ℕ) (lists : Linked) (l : Link) → new ≡ links ++ l ∷ [] → IsLinked links w h lists → IsLinked new w h lists
linked_more links new w h lists l is k = subst (λ t. IsLinked t w h lists) (sym is) (record {
  ring = record {
    behind = subst (λ t. Follows t 0 (ring_of lists.warm lists.hot) 0) (sym (map-append (λ (l : Link). l.behind) links (l ∷ []))) (follows_more (behind_of links) (l.behind ∷ []) 0 (ring_of lists.warm lists.hot) 0 k.ring.behind);
    before = subst (λ t. Follows t 0 (reverse (ring_of lists.warm lists.hot)) 0) (sym (map-append (λ (l : Link). l.before) links (l ∷ []))) (follows_more (before_of links) (l.before ∷ []) 0 (reverse (ring_of lists.warm lists.hot)) 0 k.ring.before);
    once = k.ring.once;
  };
  warm_long = k.warm_long;
  hot_long = k.hot_long;
  warm_marked = subst (λ t. AreMarked t false lists.warm) (sym (map-append (λ (l : Link). l.hot) links (l ∷ []))) (marks_more (hot_of links) (l.hot ∷ []) false lists.warm k.warm_marked);
  hot_marked = subst (λ t. AreMarked t true lists.hot) (sym (map-append (λ (l : Link). l.hot) links (l ∷ []))) (marks_more (hot_of links) (l.hot ∷ []) true lists.hot k.hot_marked);
})

-- ---- what the calls need

pub linked_room : (links : List Link) (w h : ℕ) (lists : Linked) (n : ℕ) → IsLinked links w h lists → IsLinked links w h (record lists { room = n })
linked_room links w h lists n l = record { ring = l.ring; warm_long = l.warm_long; hot_long = l.hot_long; warm_marked = l.warm_marked; hot_marked = l.hot_marked }

pub on_there : (links : List Link) (w h : ℕ) (lists : Linked) (i : ℕ) → IsLinked links w h lists → IsOn lists i → i + 2 < length links
on_there links w h lists i l on = let s = stands_on links w h lists i l on in link_there links s.0 (node_of i) s.1 s.2

pub warm_mark : (links : List Link) (w h : ℕ) (lists : Linked) (front : List ℕ) (i : ℕ) (back : List ℕ) → IsLinked links w h lists → lists.warm ≡ front ++ i ∷ back → slice_get (hot_of links) (i + 2) ≡ Some false
warm_mark links w h lists front i back l is = mark_there (hot_of links) false front i back (subst (AreMarked (hot_of links) false) is l.warm_marked)

pub hot_mark : (links : List Link) (w h : ℕ) (lists : Linked) (front : List ℕ) (i : ℕ) (back : List ℕ) → IsLinked links w h lists → lists.hot ≡ front ++ i ∷ back → slice_get (hot_of links) (i + 2) ≡ Some true
hot_mark links w h lists front i back l is = mark_there (hot_of links) true front i back (subst (AreMarked (hot_of links) true) is l.hot_marked)

pub hot_first : (links : List Link) (w h : ℕ) (lists : Linked) (l : Link) → IsLinked links w h lists → 0 < h → slice_get links 1 ≡ Some l → (2 ≤ l.behind) × (Some (l.behind - 2) ≡ slice_get lists.hot 0)
hot_first links w h lists l k lt at = by lists.hot refl
  where
    by : (hot : List ℕ) → lists.hot ≡ hot → (2 ≤ l.behind) × (Some (l.behind - 2) ≡ slice_get lists.hot 0)
    by [] is = let long = k.hot_long in absurd (omega (arith, long, lt, ap length is))
    by (i ∷ rest) is =
        let e = behind_at links 1 (node_of i) l (first_hot links w h lists i rest k is) at in
        (omega (arith, e), ap (λ (n : ℕ). Some n) (omega (arith, e)) ∙ sym (ap (λ (l : List ℕ). slice_get l 0) is))

long_same : (links new : List Link) → before_of new ≡ before_of links → length new ≡ length links
long_same links new same = sym (length-map new (λ (l : Link). l.before)) ∙ ap length same ∙ length-map links (λ (l : Link). l.before)

abbrev pub LinksIn : List Link → List Link → ℕ → ℕ → Type 0
LinksIn links mid node behind = (front back : List ℕ) → CanLink links node behind front back → IsRing mid (front ++ node ∷ back)

-- a node was put in, and its mark was set
pub record Marked (links mid new : List Link) (node : ℕ) (mark : Bool) : Type 0 where
  pub mid_hot : hot_of mid ≡ hot_of links
  pub before : before_of new ≡ before_of mid
  pub behind : behind_of new ≡ behind_of mid
  pub hot : hot_of new ≡ set (hot_of mid) node mark

marked_long : (links mid new : List Link) (node : ℕ) (hot : Bool) → Marked links mid new node hot → length new ≡ length links
marked_long links mid new node hot m = long_same mid new m.before ∙ same_links links mid m.mid_hot

marked_is : (links mid new : List Link) (node : ℕ) (hot : Bool) → Marked links mid new node hot → hot_of new ≡ set (hot_of links) node hot
marked_is links mid new node hot m = m.hot ∙ ap (λ (t : List Bool). set t node hot) m.mid_hot

pub put_warm_end : (links mid new : List Link) (w h w1 : ℕ) (lists : Linked) (i : ℕ) → IsLinked links w h lists → lists.room ≡ length links - 2 → IsOff lists i → LinksIn links mid (i + 2) 1 → Marked links mid new (i + 2) false → w1 ≡ w + 1
    → Now new w1 h (record lists { warm = lists.warm ++ i ∷ [] })
put_warm_end links mid new w h w1 lists i l room off links_in m w1_is =
    let none = sym (append-nil lists.warm) in
    let ring = ring_same mid new _ m.before m.behind (links_in (map node_of lists.warm) (ring_of [] lists.hot) (can_warm links w h lists lists.warm [] i l none off room)) in
    linked_now new w1 h (record lists { warm = lists.warm ++ i ∷ [] }) (warm_on links new w h w1 lists lists.warm [] i l none off room ring (marked_is links mid new (i + 2) false m) w1_is) (omega (arith, room, marked_long links mid new (i + 2) false m))

pub put_warm_beginning : (links mid new : List Link) (w h w1 : ℕ) (lists : Linked) (i behind : ℕ) → IsLinked links w h lists → lists.room ≡ length links - 2 → IsOff lists i → behind ≡ first_node (ring_of lists.warm lists.hot) → LinksIn links mid (i + 2) behind → Marked links mid new (i + 2) false → w1 ≡ w + 1
    → Now new w1 h (record lists { warm = i ∷ lists.warm })
put_warm_beginning links mid new w h w1 lists i behind l room off is links_in m w1_is =
    let ring = ring_same mid new _ m.before m.behind (subst (LinksIn links mid (i + 2)) is links_in [] (ring_of lists.warm lists.hot) (can_warm links w h lists [] lists.warm i l refl off room)) in
    linked_now new w1 h (record lists { warm = i ∷ lists.warm }) (warm_on links new w h w1 lists [] lists.warm i l refl off room ring (marked_is links mid new (i + 2) false m) w1_is) (omega (arith, room, marked_long links mid new (i + 2) false m))

pub put_hot_end : (links mid new : List Link) (w h h1 : ℕ) (lists : Linked) (i : ℕ) → IsLinked links w h lists → lists.room ≡ length links - 2 → IsOff lists i → LinksIn links mid (i + 2) 0 → Marked links mid new (i + 2) true → h1 ≡ h + 1
    → Now new w h1 (record lists { hot = lists.hot ++ i ∷ [] })
put_hot_end links mid new w h h1 lists i l room off links_in m h1_is =
    let ring = ring_same mid new _ m.before m.behind (links_in (ring_of lists.warm lists.hot) [] (can_hot links w h lists i l off room)) in
    linked_now new w h1 (record lists { hot = lists.hot ++ i ∷ [] }) (hot_on links new w h h1 lists i l off room ring (marked_is links mid new (i + 2) true m) h1_is) (omega (arith, room, marked_long links mid new (i + 2) true m))

pub first_behind_is : (links : List Link) (w h : ℕ) (lists : Linked) (l : Link) → IsLinked links w h lists → slice_get links 0 ≡ Some l → l.behind ≡ first_node (ring_of lists.warm lists.hot)
first_behind_is links w h lists l k at = behind_at links 0 (first_node (ring_of lists.warm lists.hot)) l (follows_first (behind_of links) 0 (ring_of lists.warm lists.hot) k.ring.behind) at

-- a page that was taken off, by its mark
pub record TakenOff (links new : List Link) (w h : ℕ) (lists : Linked) (i : ℕ) (hot : Bool) : Type 0 where
  pub from_warm : hot ≡ false → (w1 : ℕ) → w1 + 1 ≡ w → (now : Linked) × Now new w1 h now × IsOff now i × ((front back : List ℕ) → lists.warm ≡ front ++ i ∷ back → now ≡ record lists { warm = front ++ back })
  pub from_hot : hot ≡ true → (h1 : ℕ) → h1 + 1 ≡ h → (now : Linked) × Now new w h1 now × IsOff now i × ((front back : List ℕ) → lists.hot ≡ front ++ i ∷ back → now ≡ record lists { hot = front ++ back })
  pub warm_some : hot ≡ false → 1 ≤ w
  pub hot_some : hot ≡ true → 1 ≤ h
  pub not_warm : hot ≡ true → (front back : List ℕ) → lists.warm ≡ front ++ i ∷ back → ⊥
  pub not_hot : hot ≡ false → (front back : List ℕ) → lists.hot ≡ front ++ i ∷ back → ⊥

-- a number that stands once stands at one place
one_place : (front : List ℕ) (i : ℕ) (back front1 back1 : List ℕ) → IsAbsent i front → IsAbsent i back → front ++ i ∷ back ≡ front1 ++ i ∷ back1 → front1 ++ back1 ≡ front ++ back
one_place [] i back [] back1 a b e = let same : back ≡ back1 = cc in sym same
one_place [] i back (y ∷ front1) back1 a b e =
    let rest : back ≡ front1 ++ i ∷ back1 = cc in
    let p = absent_parts i front1 (i ∷ back1) (subst (IsAbsent i) rest b) in
    absurd (p.1.0 refl)
one_place (x ∷ front) i back [] back1 a b e = let same : x ≡ i = cc in absurd (a.0 same)
one_place (x ∷ front) i back (y ∷ front1) back1 a b e =
    let same : x ≡ y = cc in
    let rest : front ++ i ∷ back ≡ front1 ++ i ∷ back1 = cc in
    (λ j. sym same j ∷ one_place front i back front1 back1 a.1 b rest j)

pub taken_off : (links new : List Link) (w h : ℕ) (lists : Linked) (i : ℕ) (hot : Bool) → IsLinked links w h lists → lists.room ≡ length links - 2 → IsOn lists i → Unlinks links new (i + 2) → hot_of new ≡ hot_of links → slice_get (hot_of new) (i + 2) ≡ Some hot → TakenOff links new w h lists i hot
taken_off links new w h lists i hot l room (inl o) unlinks marks at =
    let mark = same_Some hot false (sym at ∙ ap (λ (t : List Bool). slice_get t (i + 2)) marks ∙ warm_mark links w h lists o.0 i o.1 l o.2) in
    let long = l.warm_long in
    let room1 : length new - 2 ≡ lists.room = omega (arith, room, same_links links new marks) in
    let off = warm_is_off links w h lists o.0 i o.1 l o.2 room in
    let p = absent_parts i o.0 o.1 off.warm in
    record {
      from_warm = λ _ w1 w1_is. (
        record lists { warm = o.0 ++ o.1 },
        linked_now new w1 h (record lists { warm = o.0 ++ o.1 }) (warm_off links new w h w1 lists o.0 i o.1 l o.2 unlinks marks w1_is) room1,
        off,
        (λ front back is. ap (λ (xs : List ℕ). record lists { warm = xs }) (sym (one_place o.0 i o.1 front back p.0 p.1 (sym o.2 ∙ is)))),
      );
      from_hot = λ is. let both : true ≡ false = sym is ∙ mark in absurd cc;
      warm_some = λ _. omega (arith, long, ap length o.2, length-append o.0 (i ∷ o.1));
      hot_some = λ is. let both : true ≡ false = sym is ∙ mark in absurd cc;
      not_warm = λ is. let both : true ≡ false = sym is ∙ mark in absurd cc;
      not_hot = λ _ front back is.
          let other = same_Some hot true (sym at ∙ ap (λ (t : List Bool). slice_get t (i + 2)) marks ∙ hot_mark links w h lists front i back l is) in
          let both : true ≡ false = sym other ∙ mark in absurd cc;
    }
taken_off links new w h lists i hot l room (inr o) unlinks marks at =
    let mark = same_Some hot true (sym at ∙ ap (λ (t : List Bool). slice_get t (i + 2)) marks ∙ hot_mark links w h lists o.0 i o.1 l o.2) in
    let long = l.hot_long in
    let room1 : length new - 2 ≡ lists.room = omega (arith, room, same_links links new marks) in
    let off = hot_is_off links w h lists o.0 i o.1 l o.2 room in
    let p = absent_parts i o.0 o.1 off.hot in
    record {
      from_warm = λ is. let both : true ≡ false = sym mark ∙ is in absurd cc;
      from_hot = λ _ h1 h1_is. (
        record lists { hot = o.0 ++ o.1 },
        linked_now new w h1 (record lists { hot = o.0 ++ o.1 }) (hot_off links new w h h1 lists o.0 i o.1 l o.2 unlinks marks h1_is) room1,
        off,
        (λ front back is. ap (λ (xs : List ℕ). record lists { hot = xs }) (sym (one_place o.0 i o.1 front back p.0 p.1 (sym o.2 ∙ is)))),
      );
      warm_some = λ is. let both : true ≡ false = sym mark ∙ is in absurd cc;
      hot_some = λ _. omega (arith, long, ap length o.2, length-append o.0 (i ∷ o.1));
      not_warm = λ _ front back is.
          let other = same_Some hot false (sym at ∙ ap (λ (t : List Bool). slice_get t (i + 2)) marks ∙ warm_mark links w h lists front i back l is) in
          let both : true ≡ false = sym mark ∙ other in absurd cc;
      not_hot = λ is. let both : true ≡ false = sym mark ∙ is in absurd cc;
    }
