-- Places that are named from the root on.
use Rattle.std.proofs.Common.{◌≡◌, ℕ, zero, suc, Bool, true, cond, ltb, Some, None, List, [], ◌∷◌, ◌++◌, length, refl, sym, ap, subst, ◌∙◌}
use Rattle.std.specs.List.{list_all, flat_map, AllByRecursion}
use Rattle.std.proofs.lemmas.Bool.{and_parts, and_from}
use Rattle.std.proofs.lemmas.List.Folds.{list_all-append}
use Rattle.std.proofs.lemmas.Option.{same_Some, cond_some}
use Rattle.myi_btree.specs.Walk.{◌>>=◌, Node, Places, Walked, each, at_node, as_leaf, walk_of}
use Rattle.myi_btree.specs.Visit.{entered}
use Rattle.myi_btree.specs.CachedTrees.{IsClosed}
use Rattle.myi_btree.proofs.Frames.{bind_some}
use Rattle.myi_btree.proofs.EventLaws.{entered_is, leaf_pages, leaf_none}

all_parts : (asked : ℕ → Bool) (xs ys : List ℕ) → list_all asked (xs ++ ys) ≡ true → (list_all asked xs ≡ true) × (list_all asked ys ≡ true)
all_parts asked xs ys e = and_parts (list_all asked xs) (list_all asked ys) (sym (list_all-append asked xs ys) ∙ e)

all_join : (asked : ℕ → Bool) (xs ys : List ℕ) → list_all asked xs ≡ true → list_all asked ys ≡ true → list_all asked (xs ++ ys) ≡ true
all_join asked xs ys a b = list_all-append asked xs ys ∙ and_from (list_all asked xs) (list_all asked ys) a b

-- ---- the pages that code goes into

pub children_asked : (block : ℕ) (read : Places) (at : ℕ) (met : List ℕ) (node : Node) (asked : ℕ → Bool) → IsClosed read asked → entered block read at met ≡ Some node → asked at ≡ true → list_all asked node.children ≡ true
children_asked block read at met node asked closed e a = closed at node a (entered_is block read at met node e).1

-- ---- the pages of a walk

each_named : (read : Places) (named : ℕ → Bool) (h : ℕ) → ((place : ℕ) (w : Walked) → walk_of read h place ≡ Some w → named place ≡ true → list_all named w.pages ≡ true) → (places : List ℕ) (ws : List Walked) → each (walk_of read h) places ≡ Some ws → list_all named places ≡ true
    → list_all named (flat_map (λ (w : Walked). w.pages) ws) ≡ true
each_named read named h ih [] ws e a = ap (λ (t : List Walked). list_all named (flat_map (λ (w : Walked). w.pages) t)) (sym (same_Some [] ws e))
each_named read named h ih (p ∷ ps) ws e a =
    let x = bind_some (walk_of read h p) (λ y. each (walk_of read h) ps >>= λ ys. Some (y ∷ ys)) ws e in
    let y = bind_some (each (walk_of read h) ps) (λ ys. Some (x.0 ∷ ys)) ws x.2 in
    let k = and_parts (named p) (list_all named ps) a in
    ap (λ (t : List Walked). list_all named (flat_map (λ (w : Walked). w.pages) t)) (sym (same_Some _ _ y.2))
    ∙ all_join named x.0.pages (flat_map (λ (w : Walked). w.pages) y.0) (ih p x.0 x.1 k.0) (each_named read named h ih ps y.0 y.1 k.1)

-- each page of a walk is named from its root on
pub walk_named : (read : Places) (named : ℕ → Bool) → IsClosed read named → (h place : ℕ) (w : Walked) → walk_of read h place ≡ Some w → named place ≡ true → list_all named w.pages ≡ true
walk_named read named closed zero place w e a =
    let x = bind_some (read place) (λ node. as_leaf place node node.children) w e in
    ap (list_all named) (leaf_pages place x.0 x.0.children w x.2) ∙ and_from (named place) true a refl
walk_named read named closed (suc h) place w e a =
    let x = bind_some (read place) (λ node. each (walk_of read h) node.children >>= λ ws. cond (ltb 0 (length node.children)) (Some (at_node place node ws)) None) w e in
    let y = bind_some (each (walk_of read h) x.0.children) (λ ws. cond (ltb 0 (length x.0.children)) (Some (at_node place x.0 ws)) None) w x.2 in
    let g = cond_some _ _ _ y.2 in
    let below = each_named read named h (walk_named read named closed h) x.0.children y.0 y.1 (closed place x.0 a x.1) in
    ap (λ (t : Walked). list_all named t.pages) (sym g.1) ∙ and_from (named place) (list_all named (flat_map (λ (w : Walked). w.pages) y.0)) a below

-- the page of a place is one of its walk
pub walk_first : (read : Places) (asked : ℕ → Bool) (h place : ℕ) (w : Walked) → walk_of read h place ≡ Some w → list_all asked w.pages ≡ true → asked place ≡ true
walk_first read asked zero place w e a =
    let x = bind_some (read place) (λ node. as_leaf place node node.children) w e in
    (and_parts (asked place) true (ap (list_all asked) (sym (leaf_pages place x.0 x.0.children w x.2)) ∙ a)).0
walk_first read asked (suc h) place w e a =
    let x = bind_some (read place) (λ node. each (walk_of read h) node.children >>= λ ws. cond (ltb 0 (length node.children)) (Some (at_node place node ws)) None) w e in
    let y = bind_some (each (walk_of read h) x.0.children) (λ ws. cond (ltb 0 (length x.0.children)) (Some (at_node place x.0 ws)) None) w x.2 in
    let g = cond_some _ _ _ y.2 in
    (and_parts (asked place) (list_all asked (flat_map (λ (w : Walked). w.pages) y.0)) (ap (λ (t : Walked). list_all asked t.pages) g.1 ∙ a)).0

-- the children of the page at a place may be asked for
abbrev pub HasChildren : Places → (ℕ → Bool) → ℕ → Type 0
HasChildren read asked p = (node : Node) → read p ≡ Some node → list_all asked node.children ≡ true

all_both : (P : ℕ → Type 0) (xs ys : List ℕ) → AllByRecursion P xs → AllByRecursion P ys → AllByRecursion P (xs ++ ys)
all_both P [] ys a b = b
all_both P (x ∷ xs) ys a b = (a.0, all_both P xs ys a.1 b)

each_children : (read : Places) (asked : ℕ → Bool) (h : ℕ) → ((place : ℕ) (w : Walked) → walk_of read h place ≡ Some w → list_all asked w.pages ≡ true → AllByRecursion (HasChildren read asked) w.pages) → (places : List ℕ) (ws : List Walked) → each (walk_of read h) places ≡ Some ws
    → list_all asked (flat_map (λ (w : Walked). w.pages) ws) ≡ true → (list_all asked places ≡ true) × AllByRecursion (HasChildren read asked) (flat_map (λ (w : Walked). w.pages) ws)
each_children read asked h ih [] ws e a = (refl, subst (λ (t : List Walked). AllByRecursion (HasChildren read asked) (flat_map (λ (w : Walked). w.pages) t)) (same_Some [] ws e) tt)
each_children read asked h ih (p ∷ ps) ws e a =
    let x = bind_some (walk_of read h p) (λ y. each (walk_of read h) ps >>= λ ys. Some (y ∷ ys)) ws e in
    let y = bind_some (each (walk_of read h) ps) (λ ys. Some (x.0 ∷ ys)) ws x.2 in
    let is : x.0 ∷ y.0 ≡ ws = same_Some _ _ y.2 in
    let k = all_parts asked x.0.pages (flat_map (λ (w : Walked). w.pages) y.0) (ap (λ (t : List Walked). list_all asked (flat_map (λ (w : Walked). w.pages) t)) is ∙ a) in
    let others = each_children read asked h ih ps y.0 y.1 k.1 in (
      and_from (asked p) (list_all asked ps) (walk_first read asked h p x.0 x.1 k.0) others.0,
      subst (λ (t : List Walked). AllByRecursion (HasChildren read asked) (flat_map (λ (w : Walked). w.pages) t)) is (all_both (HasChildren read asked) x.0.pages (flat_map (λ (w : Walked). w.pages) y.0) (ih p x.0 x.1 k.0) others.1),
    )

-- the children of the pages of a walk are pages of it
pub walk_children : (read : Places) (asked : ℕ → Bool) (h place : ℕ) (w : Walked) → walk_of read h place ≡ Some w → list_all asked w.pages ≡ true → AllByRecursion (HasChildren read asked) w.pages
walk_children read asked zero place w e a =
    let x = bind_some (read place) (λ node. as_leaf place node node.children) w e in
    let here : HasChildren read asked place = λ node r.
    let same : x.0 ≡ node = same_Some x.0 node (sym x.1 ∙ r) in
    ap (λ (n : Node). list_all asked n.children) (sym same) ∙ ap (list_all asked) (leaf_none place x.0 x.0.children w x.2) in
    subst (λ (t : List ℕ). AllByRecursion (HasChildren read asked) t) (sym (leaf_pages place x.0 x.0.children w x.2)) (here, tt)
walk_children read asked (suc h) place w e a =
    let x = bind_some (read place) (λ node. each (walk_of read h) node.children >>= λ ws. cond (ltb 0 (length node.children)) (Some (at_node place node ws)) None) w e in
    let y = bind_some (each (walk_of read h) x.0.children) (λ ws. cond (ltb 0 (length x.0.children)) (Some (at_node place x.0 ws)) None) w x.2 in
    let g = cond_some _ _ _ y.2 in
    let k = and_parts (asked place) (list_all asked (flat_map (λ (w : Walked). w.pages) y.0)) (ap (λ (t : Walked). list_all asked t.pages) g.1 ∙ a) in
    let below = each_children read asked h (walk_children read asked h) x.0.children y.0 y.1 k.1 in
    let here : HasChildren read asked place = λ node r.
    let same : x.0 ≡ node = same_Some x.0 node (sym x.1 ∙ r) in
    ap (λ (n : Node). list_all asked n.children) (sym same) ∙ below.0 in
    subst (λ (t : Walked). AllByRecursion (HasChildren read asked) t.pages) g.1 (here, below.1)
