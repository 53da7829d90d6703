-- A walk depends on its own pages alone: where each still stands, so does the walk.
use Rattle.std.proofs.Common.{◌≡◌, ℕ, zero, suc, cond, ltb, Some, None, List, [], ◌∷◌, ◌++◌, length, sym, ap, subst}
use Rattle.std.specs.List.{AllByRecursion}
use Rattle.std.proofs.lemmas.Option.{same_Some, cond_some}
use Rattle.myi_btree.specs.Walk.{◌>>=◌, Places, Node, Walked, each, at_node, as_leaf, walk_of}
use Rattle.myi_btree.proofs.CallerLemmas.{bind_some}
use Rattle.myi_insertion.specs.Strips.{all_pages}
use Rattle.myi_insertion.specs.Covers.{StillStands}

pub all_left : {A : Type 0} (P : A → Type 0) (xs ys : List A) → AllByRecursion P (xs ++ ys) → AllByRecursion P xs
all_left P [] ys h = tt
all_left P (x ∷ xs) ys h = (h.0, all_left P xs ys h.1)

pub all_right : {A : Type 0} (P : A → Type 0) (xs ys : List A) → AllByRecursion P (xs ++ ys) → AllByRecursion P ys
all_right P [] ys h = h
all_right P (x ∷ xs) ys h = all_right P xs ys h.1

leaf_pages : (place : ℕ) (node : Node) (cs : List ℕ) (w : Walked) → as_leaf place node cs ≡ Some w → (ps : List ℕ) × (w.pages ≡ place ∷ ps)
leaf_pages place node [] w e = ([], ap (λ (w : Walked). w.pages) (sym (same_Some _ _ e)))
leaf_pages place node (c ∷ cs) w e = absurd cc

pub same_each : (one two : Places) (h : ℕ) → ((place : ℕ) (w : Walked) → walk_of one h place ≡ Some w → AllByRecursion (StillStands one two) w.pages → walk_of two h place ≡ Some w)
    → (cs : List ℕ) (ws : List Walked) → each (walk_of one h) cs ≡ Some ws → AllByRecursion (StillStands one two) (all_pages ws) → each (walk_of two h) cs ≡ Some ws
same_each one two h ih [] ws e still = e
same_each one two h ih (c ∷ cs) ws e still =
    let a = bind_some (walk_of one h c) (λ y. each (walk_of one h) cs >>= λ ys. Some (y ∷ ys)) ws e in
    let b = bind_some (each (walk_of one h) cs) (λ ys. Some (a.0 ∷ ys)) ws a.2 in
    let is : a.0 ∷ b.0 ≡ ws = same_Some _ _ b.2 in
    let still2 : AllByRecursion (StillStands one two) (a.0.pages ++ all_pages b.0) = subst (λ (t : List Walked). AllByRecursion (StillStands one two) (all_pages t)) (sym is) still in
    let first = ih c a.0 a.1 (all_left (StillStands one two) a.0.pages _ still2) in
    let others = same_each one two h ih cs b.0 b.1 (all_right (StillStands one two) a.0.pages _ still2) in
    rw (first, others) b.2

pub same_walk : (one two : Places) (h place : ℕ) (w : Walked) → walk_of one h place ≡ Some w → AllByRecursion (StillStands one two) w.pages → walk_of two h place ≡ Some w
same_walk one two zero place w e still =
    let a = bind_some (one place) (λ node. as_leaf place node node.children) w e in
    let l = leaf_pages place a.0 a.0.children w a.2 in
    let still2 : AllByRecursion (StillStands one two) (place ∷ l.0) = subst (λ (ps : List ℕ). AllByRecursion (StillStands one two) ps) l.1 still in
    let two_is : two place ≡ Some a.0 = still2.0 a.0 a.1 in
    rw two_is a.2
same_walk one two (suc h) place w e still =
    let a = bind_some (one place) (λ node. each (walk_of one h) node.children >>= λ ws. cond (ltb 0 (length node.children)) (Some (at_node place node ws)) None) w e in
    let b = bind_some (each (walk_of one h) a.0.children) (λ ws. cond (ltb 0 (length a.0.children)) (Some (at_node place a.0 ws)) None) w a.2 in
    let g = cond_some _ _ _ b.2 in
    let still2 : AllByRecursion (StillStands one two) (place ∷ all_pages b.0) = subst (λ (t : Walked). AllByRecursion (StillStands one two) t.pages) (sym g.1) still in
    let two_is : two place ≡ Some a.0 = still2.0 a.0 a.1 in
    let others = same_each one two h (same_walk one two h) a.0.children b.0 b.1 still2.1 in
    rw (two_is, others) b.2
