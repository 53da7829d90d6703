-- On each page of a tree a node stands.
use Rattle.std.proofs.Common.{◌≡◌, ℕ, zero, suc, ◌<◌, cond, ltb, Option, Some, None, List, [], ◌∷◌, ◌++◌, length, sym, subst}
use Rattle.std.specs.List.{AllByRecursion}
use Rattle.std.proofs.lemmas.Option.{same_Some, cond_some}
use Rattle.myi_base.specs.Holding.{Holding}
use Rattle.myi_keycache.specs.Caching.{Caching}
use Rattle.myi_keylist.specs.declared.pair.Pair.{Pair}
use Rattle.myi_btree.specs.declared.place.Place.{Place}
use Rattle.myi_btree.specs.Walk.{◌>>=◌, Places, Node, Walked, AreNodes, each, at_node, as_leaf, walk_of}
use Rattle.myi_btree.specs.CachedTrees.{node_lent}
use Rattle.myi_btree.proofs.CallerLemmas.{bind_some}
use Rattle.myi_insertion.specs.Strips.{all_pages}
use Rattle.myi_insertion.specs.CachedTree.{IsTree}

-- a node with a pair stands there
abbrev pub HasSome : Places → ℕ → Type 0
HasSome read at = (node : Node) × (read at ≡ Some node) × (0 < length node.pairs)

all_both : {A : Type 0} (P : A → Type 0) (xs ys : List A) → AllByRecursion P xs → AllByRecursion P ys → AllByRecursion P (xs ++ ys)
all_both P [] ys h k = k
all_both P (x ∷ xs) ys h k = (h.0, all_both P xs ys h.1 k)

filled_each : (read : Places) (h : ℕ) → ((place : ℕ) (w : Walked) → walk_of read h place ≡ Some w → AllByRecursion (HasSome read) w.pages) → (cs : List ℕ) (ws : List Walked) → each (walk_of read h) cs ≡ Some ws → AllByRecursion (HasSome read) (all_pages ws)
filled_each read h ih [] ws e = subst (λ (t : List Walked). AllByRecursion (HasSome read) (all_pages t)) (same_Some [] ws e) tt
filled_each read h ih (c ∷ cs) ws e =
    let a = bind_some (walk_of read h c) (λ y. each (walk_of read h) cs >>= λ ys. Some (y ∷ ys)) ws e in
    let b = bind_some (each (walk_of read h) cs) (λ ys. Some (a.0 ∷ ys)) ws a.2 in
    subst (λ (t : List Walked). AllByRecursion (HasSome read) (all_pages t)) (same_Some (a.0 ∷ b.0) ws b.2)
    (all_both (HasSome read) a.0.pages (all_pages b.0) (ih c a.0 a.1) (filled_each read h ih cs b.0 b.1))

leaf_filled : (read : Places) (place : ℕ) (node : Node) (cs : List ℕ) (w : Walked) → HasSome read place → as_leaf place node cs ≡ Some w → AllByRecursion (HasSome read) w.pages
leaf_filled read place node [] w has e = subst (λ (t : Walked). AllByRecursion (HasSome read) t.pages) (same_Some _ w e) (has, tt)
leaf_filled read place node (c ∷ cs) w has e = absurd cc

filled : (read : Places) (h place : ℕ) (w : Walked) → AreNodes read → walk_of read h place ≡ Some w → AllByRecursion (HasSome read) w.pages
filled read zero place w nodes e =
    let a = bind_some (read place) (λ node. as_leaf place node node.children) w e in
    leaf_filled read place a.0 a.0.children w (a.0, a.1, (nodes place a.0 a.1).some) a.2
filled read (suc h) place w nodes e =
    let a = bind_some (read place) (λ node. each (walk_of read h) node.children >>= λ ws. cond (ltb 0 (length node.children)) (Some (at_node place node ws)) None) w e in
    let b = bind_some (each (walk_of read h) a.0.children) (λ ws. cond (ltb 0 (length a.0.children)) (Some (at_node place a.0 ws)) None) w a.2 in
    let g = cond_some _ _ _ b.2 in
    subst (λ (t : Walked). AllByRecursion (HasSome read) t.pages) g.1
    ((a.0, a.1, (nodes place a.0 a.1).some), filled_each read h (λ c v walks. filled read h c v nodes walks) a.0.children b.0 b.1)

pub tree_filled : (place : Place) (cache : Caching) (m : Holding) (root : Option ℕ) (xs : List Pair) (pages : List ℕ) → AreNodes (node_lent place cache m) → IsTree place cache m root xs pages → AllByRecursion (HasSome (node_lent place cache m)) pages
tree_filled place cache m None xs pages nodes tree = subst (λ (t : List ℕ). AllByRecursion (HasSome (node_lent place cache m)) t) (sym tree.1) tt
tree_filled place cache m (Some root) xs pages nodes tree = subst (λ (t : List ℕ). AllByRecursion (HasSome (node_lent place cache m)) t) (sym tree.4) (filled (node_lent place cache m) tree.0 root tree.1 nodes tree.2)
