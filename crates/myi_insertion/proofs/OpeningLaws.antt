-- A node of which a child is not written: what it becomes when the child is, alone or with the tree beside it.
use Rattle.std.proofs.Common.{◌≡◌, ℕ, zero, suc, ◌+◌, ◌<◌, ◌≤◌, eqb, Some, List, [], ◌∷◌, ◌++◌, length, get_or, take, drop, refl, sym, ap, subst, ◌∙◌, append_assoc, arith}
use Rattle.std.specs.List.{AllByRecursion, Contains}
use Rattle.std.proofs.Math.Seq.{drop-cons}
use Rattle.std.proofs.lemmas.Option.{same_Some}
use Rattle.std.proofs.lemmas.List.{append-nil, map-append, length-append}
use Rattle.std.proofs.lemmas.List.Elements.{Contains-append_left, Contains-append_right}
use Rattle.std.proofs.lemmas.Bool.{ne_eqb}
use Rattle.myi_base.specs.Holding.{Holding}
use Rattle.myi_keycache.specs.Caching.{Caching, IsCurrent}
use Rattle.myi_keylist.specs.declared.pair.Pair.{Pair}
use Rattle.myi_btree.specs.declared.place.Place.{Place}
use Rattle.myi_btree.specs.declared.place.Room.{Room}
use Rattle.myi_btree.specs.Walk.{◌>>=◌, Places, node_with, Walked, each, walk_of, content}
use Rattle.myi_btree.proofs.CallerLemmas.{bind_some}
use Rattle.myi_insertion.specs.Strips.{contents, all_pages, lefts, rights, IsStrip, IsLeft, IsRight, StandFor, Branches}
use Rattle.myi_insertion.specs.Covers.{within, cover, stock, AreClear, StillStands, Trades}
use Rattle.myi_insertion.specs.CachedChanges.{Changes}
use Rattle.myi_insertion.specs.Openings.{Opening}
use Rattle.myi_insertion.proofs.StripLaws.{whole, each_parts, each_length, length-contents, all_pages-append, lefts_more}
use Rattle.myi_insertion.proofs.SettleLaws.{cover-append, spares_still, left_frame, right_frame, stand_frame, stand_join, page_below}
use Rattle.myi_insertion.proofs.CoverLaws.{first_one}
use Rattle.myi_insertion.proofs.CachedLaws.{all_from, change_front, change_part}
use Rattle.myi_insertion.proofs.InsertLaws.{Child}
use Rattle.myi_insertion.proofs.PageLaws.{take_next, no_pair}
use Rattle.myi_insertion.proofs.PuttingLaws.{root_page}

-- where everything still stands, the node is as before
pub opening_stays : (old new : Places) (h i : ℕ) (ps : List Pair) (cs : List ℕ) (ips : List Pair) (ics : List ℕ) (xs : List Pair) (pages : List ℕ) → ((p : ℕ) → StillStands old new p) → Opening old h i ps cs ips ics xs pages → Opening new h i ps cs ips ics xs pages
opening_stays old new h i ps cs ips ics xs pages stays o =
    let all : (qs : List ℕ) → AllByRecursion (StillStands old new) qs = λ qs. all_from (StillStands old new) qs (λ p here. stays p) in
    record {
      x = o.x;
      y = o.y;
      z = o.z;
      a = o.a;
      below = o.below;
      c = o.c;
      left = left_frame old new h (take i cs) (take i ps) o.x o.a o.left (all o.a);
      middle = stand_frame old new h ips ics o.y o.below o.middle (all o.below);
      right = right_frame old new h (drop (suc i) cs) (drop i ps) o.z o.c o.right (all o.c);
      content_is = o.content_is;
      pages_are = o.pages_are;
    }

-- a child of a node that stands became one that is not written
pub opened_child : (block : ℕ) (old new : Places) (h at : ℕ) (w : Walked) (ps : List Pair) (cs : List ℕ) (i : ℕ) (r0 r1 : Room) (c : Child old h at w ps cs i (get_or cs i 0)) (ips : List Pair) (ics : List ℕ) (ys : List Pair) (below : List ℕ) → AreClear block w.pages r0
    → StandFor new h ips ics ys below → Trades block old new c.v.pages r0 r1 (get_or cs i 0 ∷ below)
    → (o : Opening new h i ps cs ips ics ((c.part.x ++ ys) ++ c.part.z) ((c.part.a ++ get_or cs i 0 ∷ below) ++ c.part.c)) × (o.x ++ o.y ≡ c.part.x ++ ys) × (o.z ≡ c.part.z)
opened_child block old new h at w ps cs i r0 r1 c ips ics ys below clear stand t =
    let part = c.part in
    let all : (x : ℕ) → within at block x + (cover block part.a x + cover block c.v.pages x + cover block part.c x) + stock r0 x ≤ 1 = λ x.
    let k = clear x in let w = ap (λ (t : List ℕ). cover block t x) c.all_are in let e = ap (λ (t : List ℕ). cover block t x) part.pages_are in let v = ap (λ (t : List ℕ). cover block t x) c.pages_are in
    omega (arith, cover-append block (part.a ++ part.b) part.c x, cover-append block part.a part.b x) in
    let left : AllByRecursion (StillStands old new) part.a = spares_still block old new (λ x. cover block c.v.pages x + stock r0 x) part.a t.spares (λ x. let k = all x in omega arith) in
    let right : AllByRecursion (StillStands old new) part.c = spares_still block old new (λ x. cover block c.v.pages x + stock r0 x) part.c t.spares (λ x. let k = all x in omega arith) in (
      record {
        x = part.x;
        y = ys;
        z = part.z;
        a = part.a;
        below = below;
        c = part.c;
        left = left_frame old new h (take i cs) (take i ps) part.x part.a part.left left;
        middle = stand;
        right = right_frame old new h (drop (suc i) cs) (drop i ps) part.z part.c part.right right;
        content_is = refl;
        pages_are = refl;
      },
      refl,
      refl,
    )

-- trees were written between those to the left and those to the right
pub between_sides : (block : ℕ) (old new : Places) (h : ℕ) (lcs rcs : List ℕ) (lps rps x y z : List Pair) (a b c : List ℕ) (r0 r1 : Room) (sp : List ℕ) (ss : List Pair) (b2 : List ℕ) → IsLeft old h lcs lps x a → IsRight old h rcs rps z c → IsStrip new h sp ss y b2
    → ((p : ℕ) → cover block a p + cover block b p + cover block c p + stock r0 p ≤ 1) → Trades block old new b r0 r1 b2 → IsStrip new h ((lcs ++ sp) ++ rcs) ((lps ++ ss) ++ rps) ((x ++ y) ++ z) ((a ++ b2) ++ c)
between_sides block old new h lcs rcs lps rps x y z a b c r0 r1 sp ss b2 l r strip clear t =
    let left : AllByRecursion (StillStands old new) a = spares_still block old new (λ x. cover block b x + stock r0 x) a t.spares (λ x. let k = clear x in omega arith) in
    let right : AllByRecursion (StillStands old new) c = spares_still block old new (λ x. cover block b x + stock r0 x) c t.spares (λ x. let k = clear x in omega arith) in
    whole new h lcs sp rcs lps ss rps x y z a b2 c (left_frame old new h lcs lps x a l left) strip (right_frame old new h rcs rps z c r right)

-- the first of the trees to the right, and the pair before it
pub record First (read : Places) (h next : ℕ) (es : List ℕ) (s : Pair) (rs z : List Pair) (c : List ℕ) : Type 0 where
  pub v : Walked
  pub walk : walk_of read h next ≡ Some v
  pub z2 : List Pair
  pub c2 : List ℕ
  pub right : IsRight read h es rs z2 c2
  pub content_is : z ≡ (s ∷ content v) ++ z2
  pub pages_are : c ≡ v.pages ++ c2

pub right_first : (read : Places) (h next : ℕ) (es : List ℕ) (s : Pair) (rs z : List Pair) (c : List ℕ) → IsRight read h (next ∷ es) (s ∷ rs) z c → First read h next es s rs z c
right_first read h next es s rs z c r =
    let a = bind_some (walk_of read h next) (λ y. each (walk_of read h) es >>= λ ys. Some (y ∷ ys)) r.walks r.are in
    let b = bind_some (each (walk_of read h) es) (λ ys. Some (a.0 ∷ ys)) r.walks a.2 in
    let is : a.0 ∷ b.0 ≡ r.walks = same_Some (a.0 ∷ b.0) r.walks b.2 in
    record {
      v = a.0;
      walk = a.1;
      z2 = rights rs (contents b.0);
      c2 = all_pages b.0;
      right = record { walks = b.0; are = b.1; content_is = refl; pages_are = refl; count = let k = r.count in omega arith };
      content_is = sym r.content_is ∙ ap (λ (t : List Walked). rights (s ∷ rs) (contents t)) (sym is);
      pages_are = sym r.pages_are ∙ ap all_pages (sym is);
    }

-- the last of the trees to the left, and the pair behind it
pub record Last (read : Places) (h last : ℕ) (cs : List ℕ) (s : Pair) (ps x : List Pair) (a : List ℕ) : Type 0 where
  pub v : Walked
  pub walk : walk_of read h last ≡ Some v
  pub x2 : List Pair
  pub a2 : List ℕ
  pub left : IsLeft read h cs ps x2 a2
  pub content_is : x ≡ x2 ++ content v ++ s ∷ []
  pub pages_are : a ≡ a2 ++ v.pages

pub left_end : (read : Places) (h last : ℕ) (cs : List ℕ) (s : Pair) (ps x : List Pair) (a : List ℕ) → IsLeft read h (cs ++ last ∷ []) (ps ++ s ∷ []) x a → Last read h last cs s ps x a
left_end read h last cs s ps x a l =
    let o = each_parts (walk_of read h) cs (last ∷ []) l.walks l.are in
    let b = bind_some (walk_of read h last) (λ y. Some (y ∷ [])) o.1 o.3 in
    let is : b.0 ∷ [] ≡ o.1 = same_Some (b.0 ∷ []) o.1 b.2 in
    let walks_are : l.walks ≡ o.0 ++ b.0 ∷ [] = o.4 ∙ ap (λ (t : List Walked). o.0 ++ t) (sym is) in
    let n = each_length (walk_of read h) cs o.0 o.2 in
    let count : length cs ≡ length ps = omega (arith, l.count, length-append cs (last ∷ []), length-append ps (s ∷ [])) in
    record {
      v = b.0;
      walk = b.1;
      x2 = lefts (contents o.0) ps;
      a2 = all_pages o.0;
      left = record { walks = o.0; are = o.2; content_is = refl; pages_are = refl; count = count };
      content_is = sym l.content_is ∙ ap (λ (t : List Walked). lefts (contents t) (ps ++ s ∷ [])) walks_are ∙ ap (λ (t : List (List Pair)). lefts t (ps ++ s ∷ [])) (map-append content o.0 (b.0 ∷ []))
          ∙ lefts_more (contents o.0) ps (content b.0) s (omega (arith, length-contents o.0, n, count));
      pages_are = sym l.pages_are ∙ ap all_pages walks_are ∙ all_pages-append o.0 (b.0 ∷ []) ∙ ap (λ (t : List ℕ). all_pages o.0 ++ t) (append-nil b.0.pages);
    }

-- what is to stand beside a child that has no pair: with it, of the child and the tree beside it, and the pair between them
pub record Joint (read : Places) (h left : ℕ) (ps : List Pair) (cs : List ℕ) (child beside : ℕ) (bps : List Pair) (bcs : List ℕ) (xs : List Pair) (pages : List ℕ) : Type 0 where
  pub x : List Pair
  pub y : List Pair
  pub z : List Pair
  pub a : List ℕ
  pub below : List ℕ
  pub c : List ℕ
  pub sides_left : IsLeft read h (take left cs) (take left ps) x a
  pub middle : StandFor read h bps bcs y below
  pub sides_right : IsRight read h (drop (left + 2) cs) (drop (left + 1) ps) z c
  pub content_is : xs ≡ (x ++ y) ++ z
  pub order : (place : Place) (cache : Caching) (m : Holding) (room : Room) (at : ℕ) → IsCurrent cache m → Changes place cache m (at ∷ pages) room cache m (at ∷ ((a ++ child ∷ beside ∷ below) ++ c)) room

pub apart_is : (at child : ℕ) (a q c : List ℕ) → ((at ∷ (a ++ child ∷ [])) ++ q) ++ c ≡ at ∷ ((a ++ child ∷ q) ++ c)
apart_is at child a q c = ap (λ (t : List ℕ). at ∷ (t ++ c)) (append_assoc a (child ∷ []) q)

-- the tree beside it to the right
pub joint_right : (read : Places) (h i next : ℕ) (ps : List Pair) (cs : List ℕ) (s : Pair) (ips : List Pair) (ics : List ℕ) (ops : List Pair) (ocs : List ℕ) (xs : List Pair) (pages : List ℕ) → Opening read h i ps cs ips ics xs pages → i < length ps → suc i < length cs → s ≡ get_or ps i no_pair → next ≡ get_or cs (suc i) 0
    → read next ≡ Some (node_with ops ocs) → Branches ops ocs → ips ≡ [] → Joint read h i ps cs (get_or cs i 0) next (ips ++ s ∷ ops) (ics ++ ocs) xs pages
joint_right read h i next ps cs s ips ics ops ocs xs pages o lt ltc is nis there br none =
    let rs : List Pair = drop (suc i) ps in
    let es : List ℕ = drop (suc (suc i)) cs in
    let child : ℕ = get_or cs i 0 in
    let ps_are : drop i ps ≡ s ∷ rs = drop-cons ps i no_pair lt ∙ ap (λ (t : Pair). t ∷ rs) (sym is) in
    let cs_are : drop (suc i) cs ≡ next ∷ es = drop-cons cs (suc i) 0 ltc ∙ ap (λ (t : ℕ). t ∷ es) (sym nis) in
    let right : IsRight read h (next ∷ es) (s ∷ rs) o.z o.c = subst (λ (t : List Pair). IsRight read h (next ∷ es) t o.z o.c) ps_are (subst (λ (t : List ℕ). IsRight read h t (drop i ps) o.z o.c) cs_are o.right) in
    let f = right_first read h next es s rs o.z o.c right in
    let b = page_below read h next f.v (node_with ops ocs) f.walk there br in
    let stand : StandFor read h (ips ++ s ∷ ops) (ics ++ ocs) (o.y ++ s ∷ content f.v) (o.below ++ b.0) = stand_join read h ips s ops ics ocs o.y (content f.v) o.below b.0 o.middle b.1 in
    let one : i + 1 ≡ suc i = omega arith in
    let two : i + 2 ≡ suc (suc i) = omega arith in
    let c_is : o.c ≡ (next ∷ b.0) ++ f.c2 = f.pages_are ∙ ap (λ (t : List ℕ). t ++ f.c2) b.2 in
    let pages_are : pages ≡ (o.a ++ child ∷ (o.below ++ next ∷ b.0)) ++ f.c2 =
    o.pages_are ∙ ap (λ (t : List ℕ). (o.a ++ child ∷ o.below) ++ t) c_is ∙ sym (append_assoc (o.a ++ child ∷ o.below) (next ∷ b.0) f.c2) ∙ ap (λ (t : List ℕ). t ++ f.c2) (append_assoc o.a (child ∷ o.below) (next ∷ b.0)) in
    record {
      x = o.x;
      y = o.y ++ s ∷ content f.v;
      z = f.z2;
      a = o.a;
      below = o.below ++ b.0;
      c = f.c2;
      sides_left = o.left;
      middle = stand;
      sides_right = subst (λ (n : ℕ). IsRight read h (drop n cs) (drop (i + 1) ps) f.z2 f.c2) (sym two) (subst (λ (n : ℕ). IsRight read h es (drop n ps) f.z2 f.c2) (sym one) f.right);
      content_is = o.content_is ∙ ap (λ (t : List Pair). (o.x ++ o.y) ++ t) f.content_is ∙ sym (append_assoc (o.x ++ o.y) (s ∷ content f.v) f.z2) ∙ ap (λ (t : List Pair). t ++ f.z2) (append_assoc o.x o.y (s ∷ content f.v));
      order = λ place cache m room at current.
          let front = change_part place cache m (at ∷ (o.a ++ child ∷ [])) (o.below ++ next ∷ b.0) f.c2 room cache m (next ∷ (o.below ++ b.0)) room (change_front place cache m o.below b.0 room next current) in
          subst (λ (t : List ℕ). Changes place cache m t room cache m (at ∷ ((o.a ++ child ∷ next ∷ (o.below ++ b.0)) ++ f.c2)) room) (apart_is at child o.a (o.below ++ next ∷ b.0) f.c2 ∙ ap (λ (t : List ℕ). at ∷ t) (sym pages_are))
          (subst (λ (t : List ℕ). Changes place cache m (((at ∷ (o.a ++ child ∷ [])) ++ (o.below ++ next ∷ b.0)) ++ f.c2) room cache m t room) (apart_is at child o.a (next ∷ (o.below ++ b.0)) f.c2) front);
    }

-- the tree beside it to the left
pub joint_left : (read : Places) (h left last : ℕ) (ps : List Pair) (cs : List ℕ) (s : Pair) (ips : List Pair) (ics : List ℕ) (ops : List Pair) (ocs : List ℕ) (xs : List Pair) (pages : List ℕ) → Opening read h (suc left) ps cs ips ics xs pages → left < length ps → left < length cs → s ≡ get_or ps left no_pair → last ≡ get_or cs left 0
    → read last ≡ Some (node_with ops ocs) → Branches ops ocs → Joint read h left ps cs (get_or cs (suc left) 0) last (ops ++ s ∷ ips) (ocs ++ ics) xs pages
joint_left read h left last ps cs s ips ics ops ocs xs pages o lt ltc is lis there br =
    let child : ℕ = get_or cs (suc left) 0 in
    let ps_are : take (suc left) ps ≡ take left ps ++ s ∷ [] = take_next left ps no_pair lt ∙ ap (λ (t : Pair). take left ps ++ t ∷ []) (sym is) in
    let cs_are : take (suc left) cs ≡ take left cs ++ last ∷ [] = take_next left cs 0 ltc ∙ ap (λ (t : ℕ). take left cs ++ t ∷ []) (sym lis) in
    let sides : IsLeft read h (take left cs ++ last ∷ []) (take left ps ++ s ∷ []) o.x o.a = subst (λ (t : List Pair). IsLeft read h (take left cs ++ last ∷ []) t o.x o.a) ps_are (subst (λ (t : List ℕ). IsLeft read h t (take (suc left) ps) o.x o.a) cs_are o.left) in
    let f = left_end read h last (take left cs) s (take left ps) o.x o.a sides in
    let b = page_below read h last f.v (node_with ops ocs) f.walk there br in
    let stand : StandFor read h (ops ++ s ∷ ips) (ocs ++ ics) (content f.v ++ s ∷ o.y) (b.0 ++ o.below) = stand_join read h ops s ips ocs ics (content f.v) o.y b.0 o.below b.1 o.middle in
    let one : left + 1 ≡ suc left = omega arith in
    let two : left + 2 ≡ suc (suc left) = omega arith in
    let a_is : o.a ≡ f.a2 ++ last ∷ b.0 = f.pages_are ∙ ap (λ (t : List ℕ). f.a2 ++ t) b.2 in
    let pages_are : pages ≡ (f.a2 ++ ((last ∷ b.0) ++ child ∷ o.below)) ++ o.c = o.pages_are ∙ ap (λ (t : List ℕ). (t ++ child ∷ o.below) ++ o.c) a_is ∙ ap (λ (t : List ℕ). t ++ o.c) (append_assoc f.a2 (last ∷ b.0) (child ∷ o.below)) in
    let x_is : o.x ++ o.y ≡ f.x2 ++ (content f.v ++ s ∷ o.y) = ap (λ (t : List Pair). t ++ o.y) f.content_is ∙ append_assoc (f.x2 ++ content f.v) (s ∷ []) o.y ∙ append_assoc f.x2 (content f.v) (s ∷ o.y) in
    record {
      x = f.x2;
      y = content f.v ++ s ∷ o.y;
      z = o.z;
      a = f.a2;
      below = b.0 ++ o.below;
      c = o.c;
      sides_left = f.left;
      middle = stand;
      sides_right = subst (λ (n : ℕ). IsRight read h (drop n cs) (drop (left + 1) ps) o.z o.c) (sym two) (subst (λ (n : ℕ). IsRight read h (drop (suc (suc left)) cs) (drop n ps) o.z o.c) (sym one) o.right);
      content_is = o.content_is ∙ ap (λ (t : List Pair). t ++ o.z) x_is;
      order = λ place cache m room at current.
          let front = change_part place cache m (at ∷ f.a2) ((last ∷ b.0) ++ child ∷ o.below) o.c room cache m (child ∷ ((last ∷ b.0) ++ o.below)) room (change_front place cache m (last ∷ b.0) o.below room child current) in
          subst (λ (t : List ℕ). Changes place cache m t room cache m (at ∷ ((f.a2 ++ child ∷ last ∷ (b.0 ++ o.below)) ++ o.c)) room) (ap (λ (t : List ℕ). at ∷ t) (sym pages_are)) front;
    }

-- the tree beside a child stands, on pages of the node's tree
pub next_stands : (read : Places) (h i next : ℕ) (ps : List Pair) (cs : List ℕ) (ips : List Pair) (ics : List ℕ) (xs : List Pair) (pages : List ℕ) → Opening read h i ps cs ips ics xs pages → i < length ps → suc i < length cs → next ≡ get_or cs (suc i) 0 → (v : Walked) × (walk_of read h next ≡ Some v) × Contains pages next
next_stands read h i next ps cs ips ics xs pages o lt ltc nis =
    let s : Pair = get_or ps i no_pair in
    let ps_are : drop i ps ≡ s ∷ drop (suc i) ps = drop-cons ps i no_pair lt in
    let cs_are : drop (suc i) cs ≡ next ∷ drop (suc (suc i)) cs = drop-cons cs (suc i) 0 ltc ∙ ap (λ (t : ℕ). t ∷ drop (suc (suc i)) cs) (sym nis) in
    let right : IsRight read h (next ∷ drop (suc (suc i)) cs) (s ∷ drop (suc i) ps) o.z o.c = subst (λ (t : List Pair). IsRight read h (next ∷ drop (suc (suc i)) cs) t o.z o.c) ps_are (subst (λ (t : List ℕ). IsRight read h t (drop i ps) o.z o.c) cs_are o.right) in
    let f = right_first read h next (drop (suc (suc i)) cs) s (drop (suc i) ps) o.z o.c right in
    let r = root_page read h next f.v f.walk in
    let c_is : o.c ≡ next ∷ (r.0 ++ f.c2) = f.pages_are ∙ ap (λ (t : List ℕ). t ++ f.c2) r.1 in (
      f.v,
      f.walk,
      subst (λ (t : List ℕ). Contains t next) (sym o.pages_are) (Contains-append_right (o.a ++ get_or cs i 0 ∷ o.below) o.c next (subst (λ (t : List ℕ). Contains t next) (sym c_is) (first_one next (r.0 ++ f.c2)))),
    )

pub last_stands : (read : Places) (h left last : ℕ) (ps : List Pair) (cs : List ℕ) (ips : List Pair) (ics : List ℕ) (xs : List Pair) (pages : List ℕ) → Opening read h (suc left) ps cs ips ics xs pages → left < length ps → left < length cs → last ≡ get_or cs left 0 → (v : Walked) × (walk_of read h last ≡ Some v) × Contains pages last
last_stands read h left last ps cs ips ics xs pages o lt ltc lis =
    let s : Pair = get_or ps left no_pair in
    let ps_are : take (suc left) ps ≡ take left ps ++ s ∷ [] = take_next left ps no_pair lt in
    let cs_are : take (suc left) cs ≡ take left cs ++ last ∷ [] = take_next left cs 0 ltc ∙ ap (λ (t : ℕ). take left cs ++ t ∷ []) (sym lis) in
    let sides : IsLeft read h (take left cs ++ last ∷ []) (take left ps ++ s ∷ []) o.x o.a = subst (λ (t : List Pair). IsLeft read h (take left cs ++ last ∷ []) t o.x o.a) ps_are (subst (λ (t : List ℕ). IsLeft read h t (take (suc left) ps) o.x o.a) cs_are o.left) in
    let f = left_end read h last (take left cs) s (take left ps) o.x o.a sides in
    let r = root_page read h last f.v f.walk in
    let a_is : o.a ≡ f.a2 ++ last ∷ r.0 = f.pages_are ∙ ap (λ (t : List ℕ). f.a2 ++ t) r.1 in
    let in_a : Contains o.a last = subst (λ (t : List ℕ). Contains t last) (sym a_is) (Contains-append_right f.a2 (last ∷ r.0) last (first_one last r.0)) in (
      f.v,
      f.walk,
      subst (λ (t : List ℕ). Contains t last) (sym o.pages_are) (Contains-append_left (o.a ++ get_or cs (suc left) 0 ∷ o.below) o.c last (Contains-append_left o.a (get_or cs (suc left) 0 ∷ o.below) last in_a)),
    )

-- pages of trees of one height are leaves both, or nodes both
pub same_shape : (read : Places) (h : ℕ) (ps qs : List Pair) (cs ds : List ℕ) (xs ys : List Pair) (p q : List ℕ) → StandFor read h ps cs xs p → StandFor read h qs ds ys q → eqb (length cs) 0 ≡ eqb (length ds) 0
same_shape read zero ps qs cs ds xs ys p q a b = ap (λ (t : List ℕ). eqb (length t) 0) a.0 ∙ ap (λ (t : List ℕ). eqb (length t) 0) (sym b.0)
same_shape read (suc h) ps qs cs ds xs ys p q a b = ne_eqb (length cs) 0 (λ e. omega (arith, a.count)) ∙ sym (ne_eqb (length ds) 0 (λ e. omega (arith, b.count)))

-- another pair in the place of the one behind the child
pub other_behind : (read : Places) (h i : ℕ) (ps : List Pair) (cs : List ℕ) (s q : Pair) (rs ips : List Pair) (ics : List ℕ) (xs : List Pair) (pages : List ℕ) (o : Opening read h i ps cs ips ics xs pages) → drop i ps ≡ s ∷ rs
    → (back : List Pair) × (o.z ≡ s ∷ back) × ((ps2 : List Pair) → take i ps2 ≡ take i ps → drop i ps2 ≡ q ∷ rs → Opening read h i ps2 cs ips ics ((o.x ++ o.y) ++ q ∷ back) pages)
other_behind read h i ps cs s q rs ips ics xs pages o is =
    let right : IsRight read h (drop (suc i) cs) (s ∷ rs) o.z o.c = subst (λ (t : List Pair). IsRight read h (drop (suc i) cs) t o.z o.c) is o.right in
    let b = behind (contents right.walks) right.content_is (omega (arith, right.count, length-contents right.walks, each_length (walk_of read h) (drop (suc i) cs) right.walks right.are)) in (
      b.0,
      b.1,
      λ ps2 t d. record {
        x = o.x;
        y = o.y;
        z = q ∷ b.0;
        a = o.a;
        below = o.below;
        c = o.c;
        left = subst (λ (t : List Pair). IsLeft read h (take i cs) t o.x o.a) (sym t) o.left;
        middle = o.middle;
        right = subst (λ (t : List Pair). IsRight read h (drop (suc i) cs) t (q ∷ b.0) o.c) (sym d) (record { walks = right.walks; are = right.are; content_is = b.2; pages_are = right.pages_are; count = right.count });
        content_is = refl;
        pages_are = o.pages_are;
      },
    )
  where
    behind : (ws : List (List Pair)) → rights (s ∷ rs) ws ≡ o.z → 0 < length ws → (back : List Pair) × (o.z ≡ s ∷ back) × (rights (q ∷ rs) ws ≡ q ∷ back)
    behind [] e some = absurd (omega arith)
    behind (w ∷ ws) e some = (w ++ rights rs ws, sym e, refl)
