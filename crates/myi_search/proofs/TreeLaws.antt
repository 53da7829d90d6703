-- A search down from the root of a tree finds the first pair that it does not pass by.
use Rattle.std.proofs.Common.{◌≡◌, ℕ, zero, suc, ◌<◌, Bool, true, false, cond, ltb, Option, Some, None, List, [], ◌∷◌, ◌++◌, length, map, refl, sym, ap, subst, ◌∙◌, append_assoc, arith, inl, inr}
use Rattle.std.specs.List.{AllByRecursion}
use Rattle.std.specs.Option.{option_or, option_to_list}
use Rattle.std.proofs.lemmas.Option.{same_Some, cond_some}
use Rattle.std.proofs.lemmas.Bool.{cases_Bool, ltb-true}
use Rattle.std.proofs.lemmas.List.{append-nil, map-append}
use Rattle.myi_keylist.specs.declared.pair.Pair.{Pair}
use Rattle.myi_btree.specs.Walk.{◌>>=◌, Node, Places, Walked, between_pairs, each, at_node, as_leaf, walk_of, content, IsNode}
use Rattle.myi_btree.proofs.CallerLemmas.{bind_some}
use Rattle.myi_search.specs.Path.{next_child}
use Rattle.myi_search.specs.Passing.{first_kept, IsParted}
use Rattle.myi_search.specs.Cursor.{from_kept}

abbrev pub Test : Type 0
Test = Pair → Bool

-- ---- the pairs of a tree, child by child

contents : List Walked → List (List Pair)
contents ws = map content ws

-- child, pair, child, .. , child
weave : List (List Pair) → List Pair → List Pair
weave [] ps = []
weave (c ∷ cs) [] = c ++ weave cs []
weave (c ∷ cs) (p ∷ ps) = c ++ p ∷ weave cs ps

weave-between : (place : ℕ) (cs : List (List (Pair × ℕ))) (ps : List Pair) → map (λ (x : Pair × ℕ). x.0) (between_pairs place cs ps) ≡ weave (map (map (λ (x : Pair × ℕ). x.0)) cs) ps
unfolding weave
weave-between place [] ps = refl
weave-between place (c ∷ cs) [] = map-append (λ (x : Pair × ℕ). x.0) c _ ∙ ap (λ (t : List Pair). map (λ (x : Pair × ℕ). x.0) c ++ t) (weave-between place cs [])
weave-between place (c ∷ cs) (p ∷ ps) = map-append (λ (x : Pair × ℕ). x.0) c _ ∙ ap (λ (t : List Pair). map (λ (x : Pair × ℕ). x.0) c ++ p ∷ t) (weave-between place cs ps)

maps : (ws : List Walked) → map (map (λ (x : Pair × ℕ). x.0)) (map (λ (w : Walked). w.pairs) ws) ≡ contents ws
unfolding contents
maps [] = refl
maps (w ∷ ws) = ap (λ (t : List (List Pair)). content w ∷ t) (maps ws)

plain : (place : ℕ) (pairs : List Pair) → map (λ (x : Pair × ℕ). x.0) (map (λ (p : Pair). (p, place)) pairs) ≡ pairs
plain place [] = refl
plain place (p ∷ ps) = ap (λ (t : List Pair). p ∷ t) (plain place ps)

-- ---- the first pair that is kept

all_left : (P : Pair → Type 0) (xs ys : List Pair) → AllByRecursion P (xs ++ ys) → AllByRecursion P xs
all_left P [] ys h = tt
all_left P (x ∷ xs) ys h = (h.0, all_left P xs ys h.1)

all_right : (P : Pair → Type 0) (xs ys : List Pair) → AllByRecursion P (xs ++ ys) → AllByRecursion P ys
all_right P [] ys h = h
all_right P (x ∷ xs) ys h = all_right P xs ys h.1

parted_left : (test : Test) (xs ys : List Pair) → IsParted test (xs ++ ys) → IsParted test xs
parted_left test [] ys h = tt
parted_left test (x ∷ xs) ys h = (λ e. all_left (λ q. test q ≡ false) xs ys (h.0 e), parted_left test xs ys h.1)

parted_right : (test : Test) (xs ys : List Pair) → IsParted test (xs ++ ys) → IsParted test ys
parted_right test [] ys h = h
parted_right test (x ∷ xs) ys h = parted_right test xs ys h.1

kept-append : (test : Test) (xs ys : List Pair) → first_kept test (xs ++ ys) ≡ option_or (first_kept test xs) (first_kept test ys)
kept-append test [] ys = refl
kept-append test (x ∷ xs) ys = elim (cases_Bool (test x)) [
  | inl is ↦ rw is (kept-append test xs ys)
  | inr other ↦ rw other refl
]

-- before a pair that is passed by none is kept
none_before : (test : Test) (xs : List Pair) (s : Pair) (ys : List Pair) → IsParted test (xs ++ s ∷ ys) → test s ≡ true → first_kept test xs ≡ None
none_before test [] s ys h is = refl
none_before test (x ∷ xs) s ys h is = elim (cases_Bool (test x)) [
  | inl passed ↦ rw passed (none_before test xs s ys h.1 is)
  | inr kept ↦
      let off : test s ≡ false = (all_right (λ q. test q ≡ false) xs (s ∷ ys) (h.0 kept)).0 in
      let k : true ≡ false = sym is ∙ off in absurd cc
]

pub or_none : {A : Type 0} (o : Option A) → option_or o None ≡ o
or_none None = refl
or_none (Some x) = refl

pub or_or : {A : Type 0} (a b c : Option A) → option_or (option_or a b) c ≡ option_or a (option_or b c)
or_or None b c = refl
or_or (Some x) b c = refl

-- ---- all from the first that is kept on

-- a front that is passed by
pub past_front : (test : Test) (xs ys : List Pair) → first_kept test xs ≡ None → from_kept test (xs ++ ys) ≡ from_kept test ys
past_front test [] ys e = refl
past_front test (x ∷ xs) ys e = by (test x) e (λ f. past_front test xs ys f)
  where
    by : (b : Bool) → cond b (first_kept test xs) (Some x) ≡ None → (first_kept test xs ≡ None → from_kept test (xs ++ ys) ≡ from_kept test ys) → cond b (from_kept test (xs ++ ys)) (x ∷ (xs ++ ys)) ≡ from_kept test ys
    by true f again = again f
    by false f again = absurd cc

-- what comes behind a pair that is kept does not matter before it
pub stops_at : (test : Test) (xs : List Pair) (p : Pair) (ys : List Pair) → test p ≡ false → from_kept test (xs ++ p ∷ ys) ≡ from_kept test (xs ++ p ∷ []) ++ ys
stops_at test [] p ys off = rw off refl
stops_at test (x ∷ xs) p ys off = by (test x) (stops_at test xs p ys off)
  where
    by : (b : Bool) → from_kept test (xs ++ p ∷ ys) ≡ from_kept test (xs ++ p ∷ []) ++ ys → cond b (from_kept test (xs ++ p ∷ ys)) (x ∷ (xs ++ p ∷ ys)) ≡ cond b (from_kept test (xs ++ p ∷ [])) (x ∷ (xs ++ p ∷ [])) ++ ys
    by true e = e
    by false e = ap (λ (t : List Pair). x ∷ t) (sym (append_assoc xs (p ∷ []) ys))

-- what a list keeps with a pair behind it begins with what a part of it does, with the first pair behind that part that is kept
pub record Follows (test : Test) (xs : List Pair) (behind : Option Pair) (part : List Pair) (kept : Option Pair) : Type 0 where
  pub rest : List Pair
  pub is : from_kept test (xs ++ option_to_list behind) ≡ from_kept test (part ++ option_to_list (option_or kept behind)) ++ rest
  pub none : kept ≡ None → rest ≡ []

-- ---- the child that is next

-- a tree stands at the child that is next, and what it keeps comes before the pair behind it
pub record Chosen (read : Places) (test : Test) (h : ℕ) (child : Option ℕ) (kept : Option Pair) (xs : List Pair) : Type 0 where
  pub at : ℕ
  pub is : child ≡ Some at
  pub part : Walked
  pub walks : walk_of read h at ≡ Some part
  pub parted : IsParted test xs → IsParted test (content part)
  pub first : IsParted test xs → first_kept test xs ≡ option_or (first_kept test (content part)) kept
  pub ahead : IsParted test xs → (behind : Option Pair) → Follows test xs behind (content part) kept

chosen : (read : Places) (test : Test) (h : ℕ) (ps : List Pair) (cs : List ℕ) (ws : List Walked) → each (walk_of read h) cs ≡ Some ws → length cs ≡ suc (length ps)
    → Chosen read test h (next_child test ps cs) (first_kept test ps) (weave (contents ws) ps)
unfolding weave contents
chosen read test h ps [] ws e len = absurd (omega arith)
chosen read test h [] (c ∷ d ∷ cs) ws e len = absurd (omega arith)
chosen read test h [] (c ∷ []) ws e len =
    let a = bind_some (walk_of read h c) (λ y. Some (y ∷ [])) ws e in
    let is : a.0 ∷ [] ≡ ws = same_Some (a.0 ∷ []) ws a.2 in
    let all : weave (contents ws) [] ≡ content a.0 = ap (λ (t : List Walked). weave (contents t) []) (sym is) ∙ append-nil (content a.0) in
    record {
      at = c;
      is = refl;
      part = a.0;
      walks = a.1;
      parted = λ h. subst (IsParted test) all h;
      first = λ h. ap (first_kept test) all ∙ sym (or_none (first_kept test (content a.0)));
      ahead = λ h o. record { rest = []; is = ap (λ (t : List Pair). from_kept test (t ++ option_to_list o)) all ∙ sym (append-nil (from_kept test (content a.0 ++ option_to_list o))); none = λ e. refl };
    }
chosen read test h (p ∷ ps) (c ∷ cs) ws e len =
    let a = bind_some (walk_of read h c) (λ y. each (walk_of read h) cs >>= λ ys. Some (y ∷ ys)) ws e in
    let b = bind_some (each (walk_of read h) cs) (λ ys. Some (a.0 ∷ ys)) ws a.2 in
    let is : a.0 ∷ b.0 ≡ ws = same_Some _ _ b.2 in
    let rest : List Pair = weave (contents b.0) ps in
    subst (λ (t : List Walked). Chosen read test h (next_child test (p ∷ ps) (c ∷ cs)) (first_kept test (p ∷ ps)) (weave (contents t) (p ∷ ps))) is
    (by (test p) refl a.0 a.1 rest (chosen read test h ps cs b.0 b.1 (omega arith)))
  where
    by : (t : Bool) → test p ≡ t → (w : Walked) → walk_of read h c ≡ Some w → (rest : List Pair) → Chosen read test h (next_child test ps cs) (first_kept test ps) rest
        → Chosen read test h (cond t (next_child test ps cs) (Some c)) (cond t (first_kept test ps) (Some p)) (content w ++ p ∷ rest)
    by true is w walks rest k =
        let passed : first_kept test (p ∷ rest) ≡ first_kept test rest = rw is refl in
        record {
          at = k.at;
          is = k.is;
          part = k.part;
          walks = k.walks;
          parted = λ h. k.parted (parted_right test (content w) (p ∷ rest) h).1;
          first = λ h. kept-append test (content w) (p ∷ rest) ∙ rw (none_before test (content w) p rest h is) (passed ∙ k.first (parted_right test (content w) (p ∷ rest) h).1);
          ahead = λ h o.
              let l : List Pair = option_to_list o in
              let f = k.ahead (parted_right test (content w) (p ∷ rest) h).1 o in
              let by_it : from_kept test (p ∷ (rest ++ l)) ≡ from_kept test (rest ++ l) = rw is refl in
              record {
                rest = f.rest;
                is = ap (from_kept test) (append_assoc (content w) (p ∷ rest) l) ∙ past_front test (content w) (p ∷ (rest ++ l)) (none_before test (content w) p rest h is) ∙ by_it ∙ f.is;
                none = f.none;
              };
        }
    by false is w walks rest k =
        let here : first_kept test (p ∷ rest) ≡ Some p = rw is refl in
        record {
          at = c;
          is = refl;
          part = w;
          walks = walks;
          parted = λ h. parted_left test (content w) (p ∷ rest) h;
          first = λ h. kept-append test (content w) (p ∷ rest) ∙ ap (option_or (first_kept test (content w))) here;
          ahead = λ h o. record {
            rest = rest ++ option_to_list o;
            is = ap (from_kept test) (append_assoc (content w) (p ∷ rest) (option_to_list o)) ∙ stops_at test (content w) p (rest ++ option_to_list o) is;
            none = λ e. absurd cc;
          };
        }

-- ---- a page of a tree

leaf_content : (place : ℕ) (node : Node) (cs : List ℕ) (w : Walked) → as_leaf place node cs ≡ Some w → (cs ≡ []) × (content w ≡ node.pairs)
leaf_content place node [] w e = (refl, ap content (sym (same_Some _ _ e)) ∙ plain place node.pairs)
leaf_content place node (c ∷ cs) w e = absurd cc

pub in_leaf : (read : Places) (test : Test) (place : ℕ) (w : Walked) (node : Node) → walk_of read zero place ≡ Some w → read place ≡ Some node → (next_child test node.pairs node.children ≡ None) × (content w ≡ node.pairs) × (node.children ≡ [])
in_leaf read test place w node e stands =
    let a = bind_some (read place) (λ node. as_leaf place node node.children) w e in
    let same : a.0 ≡ node = same_Some a.0 node (sym a.1 ∙ stands) in
    subst (λ (n : Node). (next_child test n.pairs n.children ≡ None) × (content w ≡ n.pairs) × (n.children ≡ [])) same
    (let k = leaf_content place a.0 a.0.children w a.2 in (ap (next_child test a.0.pairs) k.0, k.1, k.0))

pub in_node : (read : Places) (test : Test) (h place : ℕ) (w : Walked) (node : Node) → walk_of read (suc h) place ≡ Some w → read place ≡ Some node → IsNode node
    → Chosen read test h (next_child test node.pairs node.children) (first_kept test node.pairs) (content w)
in_node read test h place w node e stands shape =
    let a = bind_some (read place) (λ node. each (walk_of read h) node.children >>= λ ws. cond (ltb 0 (length node.children)) (Some (at_node place node ws)) None) w e in
    let b = bind_some (each (walk_of read h) a.0.children) (λ ws. cond (ltb 0 (length a.0.children)) (Some (at_node place a.0 ws)) None) w a.2 in
    let g = cond_some _ _ _ b.2 in
    let is : content w ≡ weave (contents b.0) a.0.pairs = ap content (sym g.1) ∙ weave-between place (map (λ (w : Walked). w.pairs) b.0) a.0.pairs ∙ ap (λ (t : List (List Pair)). weave t a.0.pairs) (maps b.0) in
    let same : node ≡ a.0 = same_Some node a.0 (sym stands ∙ a.1) in
    let shape2 : IsNode a.0 = subst IsNode same shape in
    let k = chosen read test h a.0.pairs a.0.children b.0 b.1 (omega (arith, shape2.branching (ltb-true _ _ g.0))) in
    subst (λ (n : Node). Chosen read test h (next_child test n.pairs n.children) (first_kept test n.pairs) (content w)) (sym same)
    (subst (λ (t : List Pair). Chosen read test h (next_child test a.0.pairs a.0.children) (first_kept test a.0.pairs) t) (sym is) k)

-- ---- a tree has one height

no_children : (place : ℕ) (node : Node) (cs : List ℕ) (w : Walked) → as_leaf place node cs ≡ Some w → length cs ≡ 0
no_children place node [] w e = refl
no_children place node (c ∷ cs) w e = absurd cc

-- a place with a walk has a page
pub has_page : (read : Places) (h place : ℕ) (w : Walked) → walk_of read h place ≡ Some w → (node : Node) × (read place ≡ Some node)
has_page read zero place w e = let a = bind_some (read place) (λ node. as_leaf place node node.children) w e in (a.0, a.1)
has_page read (suc h) place w e =
    let a = bind_some (read place) (λ node. each (walk_of read h) node.children >>= λ ws. cond (ltb 0 (length node.children)) (Some (at_node place node ws)) None) w e in
    (a.0, a.1)

-- the children of a page that is no leaf, of which there is one
record HasChild (read : Places) (h place : ℕ) : Type 0 where
  pub node : Node
  pub stands : read place ≡ Some node
  pub child : ℕ
  pub others : List ℕ
  pub is : node.children ≡ child ∷ others
  pub w : Walked
  pub walks : walk_of read h child ≡ Some w

first_child : (read : Places) (h place : ℕ) (w : Walked) → walk_of read (suc h) place ≡ Some w → HasChild read h place
first_child read h place w e =
    let a = bind_some (read place) (λ node. each (walk_of read h) node.children >>= λ ws. cond (ltb 0 (length node.children)) (Some (at_node place node ws)) None) w e in
    let b = bind_some (each (walk_of read h) a.0.children) (λ ws. cond (ltb 0 (length a.0.children)) (Some (at_node place a.0 ws)) None) w a.2 in
    let g = cond_some _ _ _ b.2 in
    by a.0 a.1 a.0.children refl b.0 b.1 (ltb-true _ _ g.0)
  where
    by : (node : Node) → read place ≡ Some node → (cs : List ℕ) → node.children ≡ cs → (ws : List Walked) → each (walk_of read h) cs ≡ Some ws → 0 < length cs → HasChild read h place
    by node stands [] is ws walks some = absurd (omega arith)
    by node stands (c ∷ cs) is ws walks some =
        let x = bind_some (walk_of read h c) (λ y. each (walk_of read h) cs >>= λ ys. Some (y ∷ ys)) ws walks in
        record { node = node; stands = stands; child = c; others = cs; is = is; w = x.0; walks = x.1 }

leaf_and_node : (read : Places) (k place : ℕ) (w v : Walked) → walk_of read zero place ≡ Some w → walk_of read (suc k) place ≡ Some v → ⊥
leaf_and_node read k place w v e f =
    let a = bind_some (read place) (λ node. as_leaf place node node.children) w e in
    let b = first_child read k place v f in
    let same : a.0 ≡ b.node = same_Some a.0 b.node (sym a.1 ∙ b.stands) in
    let none : length a.0.children ≡ 0 = no_children place a.0 a.0.children w a.2 in
    omega (arith, none, ap (λ (n : Node). length n.children) same, ap length b.is)

pub one_height : (read : Places) (h k place : ℕ) (w v : Walked) → walk_of read h place ≡ Some w → walk_of read k place ≡ Some v → h ≡ k
one_height read zero zero place w v e f = refl
one_height read zero (suc k) place w v e f = absurd (leaf_and_node read k place w v e f)
one_height read (suc h) zero place w v e f = absurd (leaf_and_node read h place v w f e)
one_height read (suc h) (suc k) place w v e f =
    let a = first_child read h place w e in
    let b = first_child read k place v f in
    let same : a.node ≡ b.node = same_Some a.node b.node (sym a.stands ∙ b.stands) in
    let one : a.child ∷ a.others ≡ b.child ∷ b.others = sym a.is ∙ ap (λ (n : Node). n.children) same ∙ b.is in
    let child : a.child ≡ b.child = cc in
    ap suc (one_height read h k a.child a.w b.w a.walks (subst (λ (p : ℕ). walk_of read k p ≡ Some b.w) (sym child) b.walks))
