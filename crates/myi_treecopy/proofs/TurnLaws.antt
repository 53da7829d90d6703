-- Trees that are laid one behind the other, and the page above them.
use Rattle.std.proofs.Common.{◌≡◌, ℕ, zero, suc, ◌+◌, ◌*◌, ◌^◌, ◌<◌, ◌≤◌, cond, ltb, Option, Some, None, List, [], ◌∷◌, ◌++◌, length, map, refl, sym, ap, subst, ◌∙◌, append_assoc, append-nil, length-append, arith}
use native.Mathlib.Nat.{two-pow-succ}
use Rattle.std.specs.Prelude.{option_map}
use Rattle.std.specs.List.{AllByRecursion}
use Rattle.std.proofs.lemmas.Bool.{lt-ltb, ltb-true}
use Rattle.std.proofs.lemmas.List.{map-append}
use Rattle.std.proofs.lemmas.Option.{same_Some, cond_some}
use Rattle.myi_keylist.specs.declared.pair.Pair.{Pair}
use Rattle.myi_btree.specs.Walk.{◌>>=◌, Node, node_with, Places, Walked, between_pairs, each, at_node, as_leaf, walk_of, content, Agree, AreNodes}
use Rattle.myi_btree.specs.LaidPages.{places_from}
use Rattle.myi_btree.proofs.CallerLemmas.{bind_some}
use Rattle.myi_treecopy.specs.Copying.{pairs_on, StandsAnew}
use Rattle.myi_treecopy.specs.Turns.{pages_of, StandInTurn}

-- a walk depends on its own pages alone
abbrev pub Frame : Type 0
Frame = (one two : Places) (height place : ℕ) (w : Walked) → walk_of one height place ≡ Some w → Agree one two w.pages → walk_of two height place ≡ Some w

-- ---- walks of several places

cons_each : {A B : Type 0} (f : A → Option B) (x : A) (xs : List A) (y : B) (ys : List B) → f x ≡ Some y → each f xs ≡ Some ys → each f (x ∷ xs) ≡ Some (y ∷ ys)
cons_each f x xs y ys e h = rw (e, h) refl

each_last : {A B : Type 0} (f : A → Option B) (xs : List A) (x : A) (ys : List B) (y : B) → each f xs ≡ Some ys → f x ≡ Some y → each f (xs ++ x ∷ []) ≡ Some (ys ++ y ∷ [])
each_last f [] x ys y e h = cons_each f x [] y [] h refl ∙ ap (λ (t : List _). Some (t ++ y ∷ [])) (same_Some [] ys e)
each_last f (z ∷ xs) x ys y e h =
    let a = bind_some (f z) (λ u. each f xs >>= λ us. Some (u ∷ us)) ys e in
    let b = bind_some (each f xs) (λ us. Some (a.0 ∷ us)) ys a.2 in
    cons_each f z (xs ++ x ∷ []) a.0 (b.0 ++ y ∷ []) a.1 (each_last f xs x b.0 y b.1 h) ∙ ap (λ (t : List _). Some (t ++ y ∷ [])) (same_Some (a.0 ∷ b.0) ys b.2)

all_first : {A : Type 0} (P : A → Type 0) (xs ys : List A) → AllByRecursion P (xs ++ ys) → AllByRecursion P xs
all_first P [] ys h = tt
all_first P (x ∷ xs) ys h = (h.0, all_first P xs ys h.1)

all_second : {A : Type 0} (P : A → Type 0) (xs ys : List A) → AllByRecursion P (xs ++ ys) → AllByRecursion P ys
all_second P [] ys h = h
all_second P (x ∷ xs) ys h = all_second P xs ys h.1

each_stays : Frame → (one two : Places) (h : ℕ) (cs : List ℕ) (ws : List Walked) → each (walk_of one h) cs ≡ Some ws → Agree one two (pages_of ws) → each (walk_of two h) cs ≡ Some ws
each_stays frame one two h [] ws e agree = e
each_stays frame one two h (c ∷ cs) ws e agree =
    let a = bind_some (walk_of one h c) (λ y. each (walk_of one h) cs >>= λ ys. Some (y ∷ ys)) ws e in
    let b = bind_some (each (walk_of one h) cs) (λ ys. Some (a.0 ∷ ys)) ws a.2 in
    let is : a.0 ∷ b.0 ≡ ws = same_Some _ _ b.2 in
    let both : Agree one two (a.0.pages ++ pages_of b.0) = subst (λ (t : List Walked). Agree one two (pages_of t)) (sym is) agree in
    let first = frame one two h c a.0 a.1 (all_first (λ p. one p ≡ two p) a.0.pages (pages_of b.0) both) in
    let others = each_stays frame one two h cs b.0 b.1 (all_second (λ p. one p ≡ two p) a.0.pages (pages_of b.0) both) in
    rw (first, others) b.2

pages_last : (ws : List Walked) (w : Walked) → pages_of (ws ++ w ∷ []) ≡ pages_of ws ++ w.pages
pages_last [] w = append-nil w.pages
pages_last (v ∷ ws) w = ap (λ (t : List ℕ). v.pages ++ t) (pages_last ws w) ∙ sym (append_assoc v.pages (pages_of ws) w.pages)

pub pairs_agree : (one two : Places) (ps : List ℕ) → Agree one two ps → map (pairs_on one) ps ≡ map (pairs_on two) ps
pairs_agree one two [] agree = refl
pairs_agree one two (p ∷ ps) agree = ap (λ (o : Option Node). option_map (λ (node : Node). node.pairs) o ∷ map (pairs_on one) ps) agree.0 ∙ ap (λ t. pairs_on two p ∷ t) (pairs_agree one two ps agree.1)

places_more : (a b block first : ℕ) → places_from (a + b) block first ≡ places_from a block first ++ places_from b block (first + block * a)
places_more zero b block first = ap (λ n. places_from n block first) (let e : 0 + b ≡ b = omega arith in e) ∙ ap (places_from b block) (let e : first ≡ first + block * 0 = omega arith in e)
places_more (suc a) b block first =
    ap (λ n. places_from n block first) (let e : suc a + b ≡ suc (a + b) = omega arith in e)
    ∙ ap (λ t. first ∷ t) (places_more a b block (first + block) ∙ ap (λ n. places_from a block (first + block) ++ places_from b block n) (let e : first + block + block * a ≡ first + block * suc a = omega arith in e))

-- ---- trees in turn

pub no_tree : (block : ℕ) (old new : Places) (height first : ℕ) → StandInTurn block old new height first [] []
no_tree block old new height first = record { walked = []; walks = refl; laid = refl; pages = refl; pairs = refl }

pub one_more : Frame → (block : ℕ) (old one two : Places) (height first start : ℕ) (places : List ℕ) (ws : List Walked) (w : Walked)
    → (s : StandInTurn block old one height first places ws) → Agree one two (pages_of s.walked) → start ≡ first + block * length (pages_of ws)
    → StandsAnew block old two height start w → StandInTurn block old two height first (places ++ start ∷ []) (ws ++ w ∷ [])
one_more frame block old one two height first start places ws w s agree is t = record {
  walked = s.walked ++ t.walked ∷ [];
  walks = each_last (walk_of two height) places start s.walked t.walked (each_stays frame one two height places s.walked s.walks agree) t.walk;
  laid = pages_last s.walked t.walked
      ∙ ap (λ (ps : List ℕ). ps ++ t.walked.pages) s.laid
      ∙ ap (λ (ps : List ℕ). places_from (length (pages_of ws)) block first ++ ps) (t.places ∙ ap (places_from (length w.pages) block) is)
      ∙ sym (places_more (length (pages_of ws)) (length w.pages) block first)
      ∙ ap (λ n. places_from n block first) (sym (ap length (pages_last ws w) ∙ length-append (pages_of ws) w.pages));
  pages = ap (map (pairs_on two)) (pages_last s.walked t.walked)
      ∙ map-append (pairs_on two) (pages_of s.walked) t.walked.pages
      ∙ ap (λ ps. ps ++ map (pairs_on two) t.walked.pages) (sym (pairs_agree one two (pages_of s.walked) agree) ∙ s.pages)
      ∙ ap (λ ps. map (pairs_on old) (pages_of ws) ++ ps) t.pages
      ∙ sym (map-append (pairs_on old) (pages_of ws) w.pages)
      ∙ ap (map (pairs_on old)) (sym (pages_last ws w));
  pairs = map-append content s.walked (t.walked ∷ []) ∙ ap (λ xs. xs ++ content t.walked ∷ []) s.pairs ∙ ap (λ xs. map content ws ++ xs ∷ []) t.pairs ∙ sym (map-append content ws (w ∷ []));
}

-- ---- the page above them

abbrev firsts : List (Pair × ℕ) → List Pair
firsts xs = map (λ (x : Pair × ℕ). x.0) xs

same_between : (one two : ℕ) (cs ds : List (List (Pair × ℕ))) (ps : List Pair) → map firsts cs ≡ map firsts ds → firsts (between_pairs one cs ps) ≡ firsts (between_pairs two ds ps)
same_between one two [] [] ps e = refl
same_between one two [] (d ∷ ds) ps e = absurd cc
same_between one two (c ∷ cs) [] ps e = absurd cc
same_between one two (c ∷ cs) (d ∷ ds) [] e =
    map-append (λ (x : Pair × ℕ). x.0) c (between_pairs one cs []) ∙ ap (λ t. t ++ firsts (between_pairs one cs [])) (head_of e) ∙ ap (λ t. firsts d ++ t) (same_between one two cs ds [] (tail_of e)) ∙ sym (map-append (λ (x : Pair × ℕ). x.0) d (between_pairs two ds []))
  where
    head_of : {A : Type 0} {x y : A} {xs ys : List A} → x ∷ xs ≡ y ∷ ys → x ≡ y
    head_of e = cc

    tail_of : {A : Type 0} {x y : A} {xs ys : List A} → x ∷ xs ≡ y ∷ ys → xs ≡ ys
    tail_of e = cc
same_between one two (c ∷ cs) (d ∷ ds) (p ∷ ps) e =
    map-append (λ (x : Pair × ℕ). x.0) c ((p, one) ∷ between_pairs one cs ps) ∙ ap (λ t. t ++ p ∷ firsts (between_pairs one cs ps)) (head_of e) ∙ ap (λ t. firsts d ++ p ∷ t) (same_between one two cs ds ps (tail_of e)) ∙ sym (map-append (λ (x : Pair × ℕ). x.0) d ((p, two) ∷ between_pairs two ds ps))
  where
    head_of : {A : Type 0} {x y : A} {xs ys : List A} → x ∷ xs ≡ y ∷ ys → x ≡ y
    head_of e = cc

    tail_of : {A : Type 0} {x y : A} {xs ys : List A} → x ∷ xs ≡ y ∷ ys → xs ≡ ys
    tail_of e = cc

contents_are : (ws : List Walked) → map content ws ≡ map firsts (map (λ (w : Walked). w.pairs) ws)
contents_are [] = refl
contents_are (w ∷ ws) = ap (λ t. content w ∷ t) (contents_are ws)

pub above_trees : (block : ℕ) (old new : Places) (height at start : ℕ) (node : Node) (places : List ℕ) (ws : List Walked) → old at ≡ Some node → 0 < length places
    → StandInTurn block old new height (start + block) places ws → new start ≡ Some (node_with node.pairs places) → StandsAnew block old new (suc height) start (at_node at node ws)
above_trees block old new height at start node places ws there some s here = record {
  walked = at_node start (node_with node.pairs places) s.walked;
  walk = rw (here, s.walks, lt-ltb 0 (length places) some) refl;
  places = ap (λ ps. start ∷ ps) s.laid;
  pages = ap (λ (o : Option Node). option_map (λ (n : Node). n.pairs) o ∷ map (pairs_on new) (pages_of s.walked)) here ∙ ap (λ ps. Some node.pairs ∷ ps) s.pages ∙ ap (λ (o : Option Node). option_map (λ (n : Node). n.pairs) o ∷ map (pairs_on old) (pages_of ws)) (sym there);
  pairs = same_between start at (map (λ (w : Walked). w.pairs) s.walked) (map (λ (w : Walked). w.pairs) ws) node.pairs (sym (contents_are s.walked) ∙ s.pairs ∙ contents_are ws);
}

firsts_are : (place : ℕ) (ps : List Pair) → firsts (map (λ p. (p, place)) ps) ≡ ps
firsts_are place [] = refl
firsts_are place (p ∷ ps) = ap (λ t. p ∷ t) (firsts_are place ps)

-- the walk of a leaf
pub leaf_walk : (read : Places) (at : ℕ) (node : Node) → read at ≡ Some node → node.children ≡ [] → walk_of read 0 at ≡ Some (record { pairs = map (λ p. (p, at)) node.pairs; pages = at ∷ [] })
leaf_walk read at node there none = rw (there, none) refl

pub alone : (block : ℕ) (old new : Places) (at start : ℕ) (node : Node) (w : Walked) → old at ≡ Some node → node.children ≡ [] → new start ≡ Some (node_with node.pairs []) → walk_of old 0 at ≡ Some w
    → StandsAnew block old new 0 start w × (length w.pages ≡ 1)
alone block old new at start node w there none here walk =
    let is : record { pairs = map (λ p. (p, at)) node.pairs; pages = at ∷ [] } ≡ w = same_Some _ _ (sym (leaf_walk old at node there none) ∙ walk) in
    subst (λ (v : Walked). StandsAnew block old new 0 start v × (length v.pages ≡ 1)) is (
      record {
        walked = record { pairs = map (λ p. (p, start)) node.pairs; pages = start ∷ [] };
        walk = leaf_walk new start (node_with node.pairs []) here refl;
        places = refl;
        pages = ap (λ (o : Option Node). option_map (λ (n : Node). n.pairs) o ∷ []) here ∙ ap (λ (o : Option Node). option_map (λ (n : Node). n.pairs) o ∷ []) (sym there);
        pairs = firsts_are start node.pairs ∙ sym (firsts_are at node.pairs);
      },
      refl,
    )

-- ---- what a walk is, by its page

-- a node's walk is made of those of its children
pub of_node : (read : Places) (height at : ℕ) (node : Node) (w : Walked) → read at ≡ Some node → walk_of read (suc height) at ≡ Some w
    → (ws : List Walked) × (each (walk_of read height) node.children ≡ Some ws) × (w ≡ at_node at node ws) × (0 < length node.children)
of_node read height at node w there walk =
    let a = bind_some (read at) (λ node. each (walk_of read height) node.children >>= λ ws. cond (ltb 0 (length node.children)) (Some (at_node at node ws)) None) w walk in
    let same : a.0 ≡ node = same_Some _ _ (sym a.1 ∙ there) in
    let rest = subst (λ (n : Node). (each (walk_of read height) n.children >>= λ ws. cond (ltb 0 (length n.children)) (Some (at_node at n ws)) None) ≡ Some w) same a.2 in
    let b = bind_some (each (walk_of read height) node.children) (λ ws. cond (ltb 0 (length node.children)) (Some (at_node at node ws)) None) w rest in
    let g = cond_some _ _ _ b.2 in
    (b.0, b.1, sym g.1, ltb-true 0 (length node.children) g.0)

-- a leaf's walk has no level below it
pub of_leaf : (read : Places) (at : ℕ) (node : Node) (w : Walked) → read at ≡ Some node → walk_of read 0 at ≡ Some w → node.children ≡ []
of_leaf read at node w there walk =
    let a = bind_some (read at) (λ node. as_leaf at node node.children) w walk in
    let same : a.0 ≡ node = same_Some _ _ (sym a.1 ∙ there) in
    none at node node.children w (subst (λ (n : Node). as_leaf at n n.children ≡ Some w) same a.2)
  where
    none : (at : ℕ) (node : Node) (cs : List ℕ) (w : Walked) → as_leaf at node cs ≡ Some w → cs ≡ []
    none at node [] w e = refl
    none at node (c ∷ cs) w e = absurd cc

-- a walk has its page
pub some_node : (read : Places) (height at : ℕ) (w : Walked) → walk_of read height at ≡ Some w → (node : Node) × (read at ≡ Some node)
some_node read zero at w walk = let a = bind_some (read at) (λ node. as_leaf at node node.children) w walk in (a.0, a.1)
some_node read (suc height) at w walk = let a = bind_some (read at) (λ node. each (walk_of read height) node.children >>= λ ws. cond (ltb 0 (length node.children)) (Some (at_node at node ws)) None) w walk in (a.0, a.1)

-- ---- walks in parts

pub each_parts : {A B : Type 0} (f : A → Option B) (xs : List A) (x : A) (ys : List A) (zs : List B) → each f (xs ++ x ∷ ys) ≡ Some zs
    → (us : List B) × (v : B) × (bs : List B) × (each f xs ≡ Some us) × (f x ≡ Some v) × (each f ys ≡ Some bs) × (zs ≡ us ++ v ∷ bs)
each_parts f [] x ys zs e =
    let a = bind_some (f x) (λ y. each f ys >>= λ us. Some (y ∷ us)) zs e in
    let b = bind_some (each f ys) (λ us. Some (a.0 ∷ us)) zs a.2 in
    ([], a.0, b.0, refl, a.1, b.1, sym (same_Some (a.0 ∷ b.0) zs b.2))
each_parts f (z ∷ xs) x ys zs e =
    let a = bind_some (f z) (λ y. each f (xs ++ x ∷ ys) >>= λ us. Some (y ∷ us)) zs e in
    let b = bind_some (each f (xs ++ x ∷ ys)) (λ us. Some (a.0 ∷ us)) zs a.2 in
    let again = each_parts f xs x ys b.0 b.1 in
    (a.0 ∷ again.0, again.1, again.2, cons_each f z xs a.0 again.0 a.1 again.3, again.4, again.5, sym (same_Some (a.0 ∷ b.0) zs b.2) ∙ ap (λ (t : List _). a.0 ∷ t) again.6)

-- how many pages walks have
pub each_long : (us : List Walked) (w : Walked) (vs : List Walked) → length (pages_of (us ++ w ∷ vs)) ≡ length (pages_of us) + length w.pages + length (pages_of vs)
each_long [] w vs = length-append w.pages (pages_of vs) ∙ (let e : length w.pages + length (pages_of vs) ≡ 0 + length w.pages + length (pages_of vs) = omega arith in e)
each_long (u ∷ us) w vs = length-append u.pages (pages_of (us ++ w ∷ vs)) ∙ omega (arith, each_long us w vs, length-append u.pages (pages_of us))

-- trees in turn stay where their pages do
pub trees_stay : Frame → (block : ℕ) (old one two : Places) (height first : ℕ) (places : List ℕ) (ws : List Walked) → StandInTurn block old one height first places ws → Agree one two (places_from (length (pages_of ws)) block first)
    → StandInTurn block old two height first places ws
trees_stay frame block old one two height first places ws s same =
    let agree : Agree one two (pages_of s.walked) = subst (λ ps. Agree one two ps) (sym s.laid) same in
    record {
      walked = s.walked;
      walks = each_stays frame one two height places s.walked s.walks agree;
      laid = s.laid;
      pages = sym (pairs_agree one two (pages_of s.walked) agree) ∙ s.pages;
      pairs = s.pairs;
    }

-- a walk has a page, and a leaf's no other
pub leaf_pages : (read : Places) (at : ℕ) (node : Node) (w : Walked) → read at ≡ Some node → walk_of read 0 at ≡ Some w → length w.pages ≡ 1
leaf_pages read at node w there walk = ap (λ (v : Walked). length v.pages) (sym (same_Some _ w (sym (leaf_walk read at node there (of_leaf read at node w there walk)) ∙ walk)))

pub some_pages : (read : Places) (height at : ℕ) (w : Walked) → walk_of read height at ≡ Some w → (n : ℕ) × (length w.pages ≡ suc n)
some_pages read zero at w walk = let s = some_node read 0 at w walk in (0, leaf_pages read at s.0 w s.1 walk)
some_pages read (suc height) at w walk =
    let s = some_node read (suc height) at w walk in
    let o = of_node read height at s.0 w s.1 walk in
    (length (pages_of o.0), ap (λ (v : Walked). length v.pages) o.2)

-- a tree of this height has so many pages and more, since a page above others has two children at least
pub many_pages : (read : Places) (n height at : ℕ) (w : Walked) → AreNodes read → n ≤ height → walk_of read height at ≡ Some w → 2 ^ n ≤ length w.pages
many_pages read zero height at w nodes low walk = let s = some_pages read height at w walk in omega (arith, s.1)
many_pages read (suc n) zero at w nodes low walk = absurd (omega (arith, low))
many_pages read (suc n) (suc height) at w nodes low walk =
    let s = some_node read (suc height) at w walk in
    let o = of_node read height at s.0 w s.1 walk in
    let is = nodes at s.0 s.1 in
    let two : 2 ≤ length s.0.children = omega (arith, is.some, is.branching o.3) in
    omega (arith, two-pow-succ n, ap (λ (v : Walked). length v.pages) o.2, of_two s.0.children o.0 (λ c v e. many_pages read n height c v nodes (omega (arith, low)) e) two o.1)
  where
    of_two : (cs : List ℕ) (ws : List Walked) → ((c : ℕ) (v : Walked) → walk_of read height c ≡ Some v → 2 ^ n ≤ length v.pages) → 2 ≤ length cs → each (walk_of read height) cs ≡ Some ws → 2 ^ n + 2 ^ n ≤ length (pages_of ws)
    of_two [] ws below two e = absurd (omega (arith, two))
    of_two (c ∷ []) ws below two e = absurd (omega (arith, two))
    of_two (c ∷ d ∷ cs) ws below two e =
        let p = each_parts (walk_of read height) [] c (d ∷ cs) ws e in
        let q = each_parts (walk_of read height) [] d cs p.2 p.5 in
        omega (
          arith,
          below c p.1 p.4,
          below d q.1 q.4,
          ap (λ (vs : List Walked). length (pages_of vs)) p.6,
          each_long p.0 p.1 p.2,
          ap (λ (vs : List Walked). length (pages_of vs)) q.6,
          each_long q.0 q.1 q.2,
        )
