-- Writing pairs on pages.
use Rattle.std.proofs.Common.{◌≡◌, ◌⊎◌, ℕ, zero, suc, ◌+◌, ◌<◌, ◌≤◌, true, false, not, eqb, cond, ltb, Some, None, List, [], ◌∷◌, ◌++◌, length, map, take, drop, refl, sym, ap, subst, ◌∙◌, append_assoc, arith, inl, inr}
use Rattle.std.specs.List.{AllByRecursion, Contains}
use Rattle.std.proofs.lemmas.List.Elements.{Contains-append_left, Contains-append_right, Contains-append_cases}
use Rattle.std.proofs.lemmas.Option.{same_Some, cond_some}
use Rattle.std.proofs.lemmas.Bool.{ltb-true, ne_eqb, lt-ltb}
use Rattle.std.proofs.lemmas.List.{map-append, append-nil, length-append, length-take, length-drop, take-append-drop}
use Rattle.myi_btree.specs.Walk.{◌>>=◌, Places, Node, node_with, Walked, between_pairs, each, at_node, as_leaf, walk_of, content}
use Rattle.myi_btree.specs.declared.place.Room.{Room}
use Rattle.myi_btree.proofs.CallerLemmas.{bind_some}
use Rattle.myi_keylist.specs.declared.pair.Pair.{Pair}
use Rattle.myi_insertion.specs.Strips.{contents, all_pages, weave, IsStrip, IsLeft, IsRight, StandFor, Branches}
use Rattle.myi_insertion.specs.Covers.{within, cover, stock, AreClear, StillStands, Spares, Grows}
use Rattle.myi_insertion.specs.Settling.{IsPartly}
use Rattle.myi_insertion.proofs.FrameLaws.{same_walk, same_each}
use Rattle.myi_insertion.proofs.CoverLaws.{no_one}
use Rattle.myi_insertion.proofs.StripLaws.{each_append, each_parts, each_length, length-contents, all_pages-append, left_more, left_last}

pub cover-append : (block : ℕ) (us vs : List ℕ) (x : ℕ) → cover block (us ++ vs) x ≡ cover block us x + cover block vs x
cover-append block [] vs x = omega arith
cover-append block (u ∷ us) vs x = omega (arith, cover-append block us vs x)

pub spares_still : (block : ℕ) (old new : Places) (touched : ℕ → ℕ) (pages : List ℕ) → Spares block old new touched → ((x : ℕ) → cover block pages x + touched x ≤ 1) → AllByRecursion (StillStands old new) pages
spares_still block old new touched [] k h = tt
spares_still block old new touched (p ∷ ps) k h =
    (k p (λ x. let hx = h x in omega arith), spares_still block old new touched ps k (λ x. let hx = h x in omega arith))

pub spares_then : (block : ℕ) (old mid new : Places) (more less : ℕ → ℕ) → Spares block old mid more → Spares block mid new less → ((x : ℕ) → less x ≤ more x) → Spares block old new more
spares_then block old mid new more less k m h = λ p off node e. m p (λ x. let a = off x in let b = h x in omega arith) node (k p off node e)

pub all_of : {A : Type 0} (P : A → Type 0) (xs : List A) (x : A) → AllByRecursion P xs → Contains xs x → P x
all_of P [] x all (k, lt, is) = absurd (omega arith)
all_of P (y ∷ xs) x all (zero, lt, is) = subst P is all.0
all_of P (y ∷ xs) x all (suc k, lt, is) = all_of P xs x all.1 (k, omega arith, is)

-- ---- frames

pub left_frame : (one two : Places) (h : ℕ) (places : List ℕ) (separators xs : List Pair) (pages : List ℕ) → IsLeft one h places separators xs pages → AllByRecursion (StillStands one two) pages → IsLeft two h places separators xs pages
left_frame one two h places separators xs pages l agree =
    record { walks = l.walks; are = same_each one two h (same_walk one two h) places l.walks l.are (subst (λ (t : List ℕ). AllByRecursion (StillStands one two) t) (sym l.pages_are) agree); content_is = l.content_is; pages_are = l.pages_are; count = l.count }

pub right_frame : (one two : Places) (h : ℕ) (places : List ℕ) (separators xs : List Pair) (pages : List ℕ) → IsRight one h places separators xs pages → AllByRecursion (StillStands one two) pages → IsRight two h places separators xs pages
right_frame one two h places separators xs pages l agree =
    record { walks = l.walks; are = same_each one two h (same_walk one two h) places l.walks l.are (subst (λ (t : List ℕ). AllByRecursion (StillStands one two) t) (sym l.pages_are) agree); content_is = l.content_is; pages_are = l.pages_are; count = l.count }

pub has_frame : (one two : Places) (h : ℕ) (places : List ℕ) (separators xs : List Pair) (pages : List ℕ) → IsStrip one h places separators xs pages → AllByRecursion (StillStands one two) pages → IsStrip two h places separators xs pages
has_frame one two h places separators xs pages l agree =
    record { walks = l.walks; are = same_each one two h (same_walk one two h) places l.walks l.are (subst (λ (t : List ℕ). AllByRecursion (StillStands one two) t) (sym l.pages_are) agree); content_is = l.content_is; pages_are = l.pages_are; count = l.count }

pub stand_frame : (one two : Places) (h : ℕ) (separators : List Pair) (children : List ℕ) (xs : List Pair) (pages : List ℕ) → StandFor one h separators children xs pages → AllByRecursion (StillStands one two) pages → StandFor two h separators children xs pages
stand_frame one two zero separators children xs pages m agree = m
stand_frame one two (suc h) separators children xs pages m agree = has_frame one two h children separators xs pages m agree

-- ---- a page

abbrev plain_pair : (Pair × ℕ) → Pair
plain_pair x = x.0

weave-between : (place : ℕ) (cs : List (List (Pair × ℕ))) (ps : List Pair) → map plain_pair (between_pairs place cs ps) ≡ weave (map (map plain_pair) cs) ps
weave-between place [] ps = refl
weave-between place (c ∷ cs) [] = map-append plain_pair c _ ∙ ap (λ (t : List Pair). map plain_pair c ++ t) (weave-between place cs [])
weave-between place (c ∷ cs) (p ∷ ps) = map-append plain_pair c _ ∙ ap (λ (t : List Pair). map plain_pair c ++ p ∷ t) (weave-between place cs ps)

maps : (ws : List Walked) → map (map plain_pair) (map (λ (w : Walked). w.pairs) ws) ≡ contents ws
maps [] = refl
maps (w ∷ ws) = ap (λ (t : List (List Pair)). content w ∷ t) (maps ws)

plain : (place : ℕ) (separators : List Pair) → map plain_pair (map (λ (p : Pair). (p, place)) separators) ≡ separators
plain place [] = refl
plain place (p ∷ ps) = ap (λ (t : List Pair). p ∷ t) (plain place ps)

-- a page at its place is a tree with that content
pub page_walks : (read : Places) (h place : ℕ) (separators : List Pair) (children : List ℕ) (xs : List Pair) (pages : List ℕ) → StandFor read h separators children xs pages → read place ≡ Some (node_with separators children)
    → (w : Walked) × (walk_of read h place ≡ Some w) × (content w ≡ xs) × (w.pages ≡ place ∷ pages)
page_walks read zero place separators children xs pages m at =
    (record { pairs = map (λ p. (p, place)) separators; pages = place ∷ [] }, rw (at, m.0) refl, plain place separators ∙ sym m.1, ap (λ (t : List ℕ). place ∷ t) (sym m.2))
page_walks read (suc h) place separators children xs pages m at =
    let ws = m.walks in
    let some : ltb 0 (length children) ≡ true = lt-ltb 0 (length children) (omega (arith, m.count)) in
    (at_node place (node_with separators children) ws, rw (at, m.are, some) refl, weave-between place (map (λ (w : Walked). w.pairs) ws) separators ∙ ap (λ (t : List (List Pair)). weave t separators) (maps ws) ∙ m.content_is, ap (λ (t : List ℕ). place ∷ t) m.pages_are)

-- and what the page of a tree stands for
pub record Below (read : Places) (h place : ℕ) (w : Walked) (node : Node) : Type 0 where
  pub pages : List ℕ
  pub stand : StandFor read h node.pairs node.children (content w) pages
  pub pages_are : w.pages ≡ place ∷ pages

leaf_below : (read : Places) (place : ℕ) (w : Walked) (node : Node) (cs : List ℕ) → as_leaf place node cs ≡ Some w → node.children ≡ cs → Below read zero place w node
leaf_below read place w node [] e z =
    let is = same_Some _ _ e in
    record {
      pages = [];
      stand = (z, ap content (sym is) ∙ plain place node.pairs, refl);
      pages_are = ap (λ (w : Walked). w.pages) (sym is);
    }
leaf_below read place w node (c ∷ cs) e z = absurd cc

node_below : (read : Places) (h place : ℕ) (w : Walked) (node : Node) (ws : List Walked) → each (walk_of read h) node.children ≡ Some ws → at_node place node ws ≡ w → length node.children ≡ suc (length node.pairs) → Below read (suc h) place w node
node_below read h place w node ws e is n =
    record {
      pages = all_pages ws;
      stand = record {
        walks = ws;
        are = e;
        content_is = sym (weave-between place (map (λ (w : Walked). w.pairs) ws) node.pairs ∙ ap (λ (t : List (List Pair)). weave t node.pairs) (maps ws)) ∙ ap content is;
        pages_are = refl;
        count = n;
      };
      pages_are = ap (λ (w : Walked). w.pages) (sym is);
    }

pub below : (read : Places) (h place : ℕ) (w : Walked) (node : Node) → walk_of read h place ≡ Some w → read place ≡ Some node → Branches node.pairs node.children → Below read h place w node
below read zero place w node e at b =
    let a = bind_some (read place) (λ node. as_leaf place node node.children) w e in
    let same : a.0 ≡ node = same_Some a.0 node (sym a.1 ∙ at) in
    leaf_below read place w node node.children (subst (λ (n : Node). as_leaf place n n.children ≡ Some w) same a.2) refl
below read (suc h) place w node e at b =
    let a = bind_some (read place) (λ node. each (walk_of read h) node.children >>= λ ws. cond (ltb 0 (length node.children)) (Some (at_node place node ws)) None) w e in
    let same : a.0 ≡ node = same_Some a.0 node (sym a.1 ∙ at) in
    let e2 = subst (λ (n : Node). (each (walk_of read h) n.children >>= λ ws. cond (ltb 0 (length n.children)) (Some (at_node place n ws)) None) ≡ Some w) same a.2 in
    let c = bind_some (each (walk_of read h) node.children) (λ ws. cond (ltb 0 (length node.children)) (Some (at_node place node ws)) None) w e2 in
    let g = cond_some _ _ _ c.2 in
    let some : 0 < length node.children = ltb-true _ _ g.0 in
    node_below read h place w node c.0 c.1 g.1 (elim b [ inl none ↦ absurd (omega (arith, ap length none)) | inr n ↦ n ])

-- ---- two parts of a page

weave_join : (cs ds : List (List Pair)) (a : List Pair) (s : Pair) (r : List Pair) → length cs ≡ suc (length a) → weave (cs ++ ds) (a ++ s ∷ r) ≡ weave cs a ++ s ∷ weave ds r
weave_join [] ds a s r e = absurd (omega arith)
weave_join (c ∷ []) ds [] s r e = ap (λ (t : List Pair). t ++ s ∷ weave ds r) (sym (append-nil c))
weave_join (c ∷ d ∷ cs) ds [] s r e = absurd (omega arith)
weave_join (c ∷ cs) ds (p ∷ a) s r e = ap (λ (t : List Pair). c ++ p ∷ t) (weave_join cs ds a s r (omega arith)) ∙ sym (append_assoc c (p ∷ weave cs a) (s ∷ weave ds r))

pub has_join : (read : Places) (h : ℕ) (cs ds : List ℕ) (a : List Pair) (s : Pair) (r x y : List Pair) (p q : List ℕ) → IsStrip read h cs a x p → IsStrip read h ds r y q → IsStrip read h (cs ++ ds) (a ++ s ∷ r) (x ++ s ∷ y) (p ++ q)
has_join read h cs ds a s r x y p q l m =
    let n = each_length (walk_of read h) cs l.walks l.are in
    record {
      walks = l.walks ++ m.walks;
      are = each_append (walk_of read h) cs ds l.walks m.walks l.are m.are;
      content_is = ap (λ (t : List (List Pair)). weave t (a ++ s ∷ r)) (map-append content l.walks m.walks) ∙ weave_join (contents l.walks) (contents m.walks) a s r (omega (arith, length-contents l.walks, n, l.count))
          ∙ ap (λ (t : List Pair). t ++ s ∷ weave (contents m.walks) r) l.content_is ∙ ap (λ (t : List Pair). x ++ s ∷ t) m.content_is;
      pages_are = all_pages-append l.walks m.walks ∙ ap (λ (t : List ℕ). t ++ all_pages m.walks) l.pages_are ∙ ap (λ (t : List ℕ). p ++ t) m.pages_are;
      count = omega (arith, length-append cs ds, length-append a (s ∷ r), l.count, m.count);
    }

pub record Halves (read : Places) (h : ℕ) (a : List Pair) (s : Pair) (r : List Pair) (cs ds : List ℕ) (xs : List Pair) (pages : List ℕ) : Type 0 where
  pub x : List Pair
  pub y : List Pair
  pub p : List ℕ
  pub q : List ℕ
  pub front : StandFor read h a cs x p
  pub back : StandFor read h r ds y q
  pub content_is : xs ≡ x ++ s ∷ y
  pub pages_are : pages ≡ p ++ q

-- a separator parts what a page stands for
pub stand_split : (read : Places) (h : ℕ) (a : List Pair) (s : Pair) (r : List Pair) (children cs ds : List ℕ) (xs : List Pair) (pages : List ℕ) → StandFor read h (a ++ s ∷ r) children xs pages → cs ≡ take (suc (length a)) children → ds ≡ drop (suc (length a)) children
    → Halves read h a s r cs ds xs pages
stand_split read zero a s r children cs ds xs pages m c d =
    record { x = a; y = r; p = []; q = []; front = (c ∙ rw m.0 refl, refl, refl); back = (d ∙ rw m.0 refl, refl, refl); content_is = m.1; pages_are = m.2 }
stand_split read (suc h) a s r children cs ds xs pages m c d =
    let whole : cs ++ ds ≡ children = rw (c, d) (take-append-drop (suc (length a)) children) in
    let len : length cs ≡ suc (length a) = omega (arith, m.count, length-append a (s ∷ r), ap length c, length-take (suc (length a)) children) in
    let len2 : length ds ≡ suc (length r) = omega (arith, m.count, length-append a (s ∷ r), ap length d, length-drop (suc (length a)) children) in
    let e = each_parts (walk_of read h) cs ds m.walks (ap (each (walk_of read h)) whole ∙ m.are) in
    let n = each_length (walk_of read h) cs e.0 e.2 in
    record {
      x = weave (contents e.0) a;
      y = weave (contents e.1) r;
      p = all_pages e.0;
      q = all_pages e.1;
      front = record { walks = e.0; are = e.2; content_is = refl; pages_are = refl; count = len };
      back = record { walks = e.1; are = e.3; content_is = refl; pages_are = refl; count = len2 };
      content_is = sym m.content_is ∙ ap (λ (t : List Walked). weave (contents t) (a ++ s ∷ r)) e.4 ∙ ap (λ (t : List (List Pair)). weave t (a ++ s ∷ r)) (map-append content e.0 e.1)
          ∙ weave_join (contents e.0) (contents e.1) a s r (omega (arith, length-contents e.0, n, len));
      pages_are = sym m.pages_are ∙ ap all_pages e.4 ∙ all_pages-append e.0 e.1;
    }

pub stand_join : (read : Places) (h : ℕ) (a : List Pair) (s : Pair) (r : List Pair) (cs ds : List ℕ) (x y : List Pair) (p q : List ℕ) → StandFor read h a cs x p → StandFor read h r ds y q → StandFor read h (a ++ s ∷ r) (cs ++ ds) (x ++ s ∷ y) (p ++ q)
stand_join read zero a s r cs ds x y p q l m = (rw (l.0, m.0) refl, rw (l.1, m.1) refl, rw (l.2, m.2) refl)
stand_join read (suc h) a s r cs ds x y p q l m = has_join read h cs ds a s r x y p q l m

-- ---- the loop

-- what was written before a page and what is still to be written stand as they stood, and the pages before it and behind it were these
pub record Passed (now new : Places) (done rest : List ℕ) (at : ℕ) (next left : List ℕ) : Type 0 where
  pub done_still : (p : ℕ) → Contains done p → StillStands now new p
  pub rest_still : (p : ℕ) → Contains rest p → StillStands now new p
  pub from : (p : ℕ) → Contains next p → Contains done p ⊎ ((p ≡ at) ⊎ Contains rest p)
  pub to : (p : ℕ) → Contains left p → Contains rest p

pub was_first : (p q : ℕ) (ps : List ℕ) → Contains (q ∷ ps) p → (p ≡ q) ⊎ Contains ps p
was_first p q ps (zero, lt, is) = inl (sym is)
was_first p q ps (suc k, lt, is) = inr (k, omega arith, is)

passed_from : (done own front ws : List ℕ) (at : ℕ) → ws ≡ at ∷ front → ((p : ℕ) → Contains front p → Contains own p) → (p : ℕ) → Contains (done ++ ws) p → Contains done p ⊎ ((p ≡ at) ⊎ Contains own p)
passed_from done own front ws at is among p here = elim (Contains-append_cases done ws p here) [
  | inl a ↦ inl a
  | inr b ↦ elim (was_first p at front (subst (λ (t : List ℕ). Contains t p) is b)) [ inl e ↦ inr (inl e) | inr c ↦ inr (inr (among p c)) ]
]

pub part_first : (block : ℕ) (read : Places) (h : ℕ) (xs : List Pair) (pages : List ℕ) (room : Room) (at : ℕ) (pairs : List Pair) (children : List ℕ) → StandFor read h pairs children xs pages → (r : IsPartly block read read h xs (at ∷ pages) room room at [] [] pairs children) × (r.done_pages ++ at ∷ r.rest_pages ≡ at ∷ pages) × (r.done_pages ≡ []) × (r.rest_pages ≡ pages)
part_first block read h xs pages room at pairs children m = (
  record {
    done = [];
    rest = xs;
    done_pages = [];
    rest_pages = pages;
    left = record { walks = []; are = refl; content_is = refl; pages_are = refl; count = refl };
    stand = m;
    content_is = refl;
    balance = λ x. omega arith;
    spares = λ p off node e. e;
  },
  refl,
  refl,
  refl,
)

pub part_next : (block : ℕ) (old now new : Places) (h : ℕ) (xs : List Pair) (olds : List ℕ) (before after next : Room) (at q : ℕ) (places : List ℕ) (separators front : List Pair) (s : Pair) (rest : List Pair) (children cs ds : List ℕ)
    → AreClear block olds before → (part : IsPartly block old now h xs olds before after at places separators (front ++ s ∷ rest) children) → cs ≡ take (suc (length front)) children → ds ≡ drop (suc (length front)) children
    → new at ≡ Some (node_with front cs) → Spares block now new (λ x. within at block x) → ((x : ℕ) → within q block x + stock next x ≡ stock after x)
    → (r : IsPartly block old new h xs olds before next q (places ++ at ∷ []) (separators ++ s ∷ []) rest ds) × (r.done_pages ++ r.rest_pages ≡ part.done_pages ++ at ∷ part.rest_pages) × Passed now new part.done_pages part.rest_pages at r.done_pages r.rest_pages
part_next block old now new h xs olds before after next at q places separators front s rest children cs ds apart part c d there others taken =
    let two = stand_split now h front s rest children cs ds part.rest part.rest_pages part.stand c d in
    let room_at : (x : ℕ) → cover block part.done_pages x + (within at block x + (cover block two.p x + cover block two.q x)) + stock after x ≤ 1 = λ x.
    let a = apart x in let b = part.balance x in let e = ap (λ (t : List ℕ). cover block t x) two.pages_are in omega (arith, cover-append block two.p two.q x) in
    let agree_left : AllByRecursion (StillStands now new) part.done_pages = spares_still block now new (λ x. within at block x) part.done_pages others (λ x. let r = room_at x in omega arith) in
    let agree_front : AllByRecursion (StillStands now new) two.p = spares_still block now new (λ x. within at block x) two.p others (λ x. let r = room_at x in omega arith) in
    let agree_back : AllByRecursion (StillStands now new) two.q = spares_still block now new (λ x. within at block x) two.q others (λ x. let r = room_at x in omega arith) in
    let w = page_walks new h at front cs two.x two.p (stand_frame now new h front cs two.x two.p two.front agree_front) there in (
      record {
        done = part.done ++ content w.0 ++ s ∷ [];
        rest = two.y;
        done_pages = part.done_pages ++ w.0.pages;
        rest_pages = two.q;
        left = left_more new h places separators part.done part.done_pages at w.0 s (left_frame now new h places separators part.done part.done_pages part.left agree_left) w.1;
        stand = stand_frame now new h rest ds two.y two.q two.back agree_back;
        content_is = part.content_is ∙ ap (λ (t : List Pair). part.done ++ t) two.content_is ∙ ap (λ (t : List Pair). part.done ++ (t ++ s ∷ two.y)) (sym w.2)
            ∙ sym (append_assoc part.done (content w.0) (s ∷ two.y)) ∙ sym (append_assoc (part.done ++ content w.0) (s ∷ []) two.y);
        balance = λ x. let b = part.balance x in let e = ap (λ (t : List ℕ). cover block t x) two.pages_are in let f = ap (λ (t : List ℕ). cover block t x) w.3 in let t = taken x in
            omega (arith, cover-append block two.p two.q x, cover-append block part.done_pages w.0.pages x);
        spares = spares_then block old now new _ (λ x. within at block x) part.spares others (λ x. let b = part.balance x in omega arith);
      },
      append_assoc part.done_pages w.0.pages two.q ∙ ap (λ (t : List ℕ). part.done_pages ++ (t ++ two.q)) w.3 ∙ ap (λ (t : List ℕ). part.done_pages ++ at ∷ t) (sym two.pages_are),
      record {
        done_still = λ p here. all_of (StillStands now new) part.done_pages p agree_left here;
        rest_still = λ p here. elim (Contains-append_cases two.p two.q p (subst (λ (t : List ℕ). Contains t p) two.pages_are here)) [
          | inl a ↦ all_of (StillStands now new) two.p p agree_front a
          | inr b ↦ all_of (StillStands now new) two.q p agree_back b
        ];
        from = passed_from part.done_pages part.rest_pages two.p w.0.pages at w.3 (λ p here. subst (λ (t : List ℕ). Contains t p) (sym two.pages_are) (Contains-append_left two.p two.q p here));
        to = λ p here. subst (λ (t : List ℕ). Contains t p) (sym two.pages_are) (Contains-append_right two.p two.q p here);
      },
    )

pub part_last : (block : ℕ) (old now new : Places) (h : ℕ) (xs : List Pair) (olds : List ℕ) (before after : Room) (at : ℕ) (places : List ℕ) (separators pairs : List Pair) (children : List ℕ) (sp : List ℕ) (ss : List Pair)
    → AreClear block olds before → (part : IsPartly block old now h xs olds before after at places separators pairs children)
    → new at ≡ Some (node_with pairs children) → Spares block now new (λ x. within at block x) → sp ≡ places ++ at ∷ [] → ss ≡ separators
    → (r : Grows block old new h xs olds before after sp ss) × (r.pages ≡ part.done_pages ++ at ∷ part.rest_pages) × Passed now new part.done_pages part.rest_pages at r.pages []
part_last block old now new h xs olds before after at places separators pairs children sp ss apart part there others ps_is ss_is =
    let room_at : (x : ℕ) → cover block part.done_pages x + (within at block x + cover block part.rest_pages x) + stock after x ≤ 1 = λ x.
    let a = apart x in let b = part.balance x in omega arith in
    let agree_left : AllByRecursion (StillStands now new) part.done_pages = spares_still block now new (λ x. within at block x) part.done_pages others (λ x. let r = room_at x in omega arith) in
    let agree_rest : AllByRecursion (StillStands now new) part.rest_pages = spares_still block now new (λ x. within at block x) part.rest_pages others (λ x. let r = room_at x in omega arith) in
    let w = page_walks new h at pairs children part.rest part.rest_pages (stand_frame now new h pairs children part.rest part.rest_pages part.stand agree_rest) there in
    let h1 = left_last new h places separators part.done part.done_pages at w.0 (left_frame now new h places separators part.done part.done_pages part.left agree_left) w.1 in
    let xs_is : part.done ++ content w.0 ≡ xs = ap (λ (t : List Pair). part.done ++ t) w.2 ∙ sym part.content_is in (
      record {
        pages = part.done_pages ++ w.0.pages;
        strip = rw (ps_is, ss_is, ← xs_is) h1;
        trades = record {
          balance = λ x. let b = part.balance x in let f = ap (λ (t : List ℕ). cover block t x) w.3 in omega (arith, cover-append block part.done_pages w.0.pages x);
          spares = spares_then block old now new _ (λ x. within at block x) part.spares others (λ x. let b = part.balance x in omega arith);
        };
      },
      ap (λ (t : List ℕ). part.done_pages ++ t) w.3,
      record {
        done_still = λ p here. all_of (StillStands now new) part.done_pages p agree_left here;
        rest_still = λ p here. all_of (StillStands now new) part.rest_pages p agree_rest here;
        from = passed_from part.done_pages part.rest_pages part.rest_pages w.0.pages at w.3 (λ p here. here);
        to = λ p here. absurd (no_one p here);
      },
    )

pub branches_step : (front : List Pair) (s : Pair) (rest : List Pair) (children ds : List ℕ) → Branches (front ++ s ∷ rest) children → ds ≡ drop (suc (length front)) children
    → Branches rest ds × (not (eqb (length children) 0) ≡ not (eqb (length ds) 0))
branches_step front s rest children ds (inl none) d =
    let e : ds ≡ [] = d ∙ rw none refl in (inl e, rw (none, e) refl)
branches_step front s rest children ds (inr n) d =
    let len : length ds ≡ suc (length rest) = omega (arith, n, length-append front (s ∷ rest), ap length d, length-drop (suc (length front)) children) in
    let one : eqb (length children) 0 ≡ false = ne_eqb (length children) 0 (omega arith) in
    let two : eqb (length ds) 0 ≡ false = ne_eqb (length ds) 0 (omega arith) in
    (inr len, rw (one, two) refl)

-- the laws, in the words that stand in the contracts
pub page_below : (read : Places) (h place : ℕ) (w : Walked) (node : Node) → walk_of read h place ≡ Some w → read place ≡ Some node → Branches node.pairs node.children → (pages : List ℕ) × StandFor read h node.pairs node.children (content w) pages × (w.pages ≡ place ∷ pages)
page_below read h place w node e at br = let b = below read h place w node e at br in (b.pages, b.stand, b.pages_are)

pub cut_parts : (read : Places) (h : ℕ) (a : List Pair) (s : Pair) (r : List Pair) (children : List ℕ) (xs : List Pair) (pages : List ℕ) → StandFor read h (a ++ s ∷ r) children xs pages
    → (x y : List Pair) × (p q : List ℕ) × StandFor read h a (take (suc (length a)) children) x p × StandFor read h r (drop (suc (length a)) children) y q × (xs ≡ x ++ s ∷ y) × (pages ≡ p ++ q)
cut_parts read h a s r children xs pages m = let k = stand_split read h a s r children _ _ xs pages m refl refl in (k.x, k.y, k.p, k.q, k.front, k.back, k.content_is, k.pages_are)
