-- A place has one walk at most, whatever its height.
use Rattle.std.proofs.Common.{◌≡◌, ℕ, zero, suc, ◌<◌, cond, ltb, Option, Some, None, List, [], ◌∷◌, length, refl, sym, ap, subst, ◌∙◌, arith}
use Rattle.std.proofs.lemmas.Option.{same_Some, cond_some}
use Rattle.std.proofs.lemmas.Bool.{ltb-true}
use Rattle.myi_btree.specs.Walk.{◌>>=◌, Node, Walked, each, at_node, as_leaf, walk_of}
use Rattle.myi_btree.proofs.Frames.{bind_some}

no_children : (place : ℕ) (node : Node) (cs : List ℕ) (w : Walked) → as_leaf place node cs ≡ Some w → length cs ≡ 0
no_children place node [] w e = refl
no_children place node (c ∷ cs) w e = absurd cc

leaf_or_node : (read : ℕ → Option Node) (k place : ℕ) (w v : Walked) → walk_of read zero place ≡ Some w → walk_of read (suc k) place ≡ Some v → ⊥
leaf_or_node read k place w v e f =
    let a = bind_some (read place) (λ node. as_leaf place node node.children) w e in
    let b = bind_some (read place) (λ node. each (walk_of read k) node.children >>= λ ws. cond (ltb 0 (length node.children)) (Some (at_node place node ws)) None) v f in
    let c = bind_some (each (walk_of read k) b.0.children) (λ ws. cond (ltb 0 (length b.0.children)) (Some (at_node place b.0 ws)) None) v b.2 in
    let g = cond_some _ _ _ c.2 in
    let same : a.0 ≡ b.0 = same_Some a.0 b.0 (sym a.1 ∙ b.1) in
    let none : length a.0.children ≡ 0 = no_children place a.0 a.0.children w a.2 in
    let none2 : length b.0.children ≡ 0 = subst (λ (n : Node). length n.children ≡ 0) same none in
    let some : 0 < length b.0.children = ltb-true _ _ g.0 in
    omega arith

one_each : (read : ℕ → Option Node) (h k : ℕ) → ((place : ℕ) (w v : Walked) → walk_of read h place ≡ Some w → walk_of read k place ≡ Some v → w ≡ v)
    → (cs : List ℕ) (ws vs : List Walked) → each (walk_of read h) cs ≡ Some ws → each (walk_of read k) cs ≡ Some vs → ws ≡ vs
one_each read h k ih [] ws vs e f = same_Some ws vs (sym e ∙ f)
one_each read h k ih (c ∷ cs) ws vs e f =
    let a = bind_some (walk_of read h c) (λ y. each (walk_of read h) cs >>= λ ys. Some (y ∷ ys)) ws e in
    let b = bind_some (each (walk_of read h) cs) (λ ys. Some (a.0 ∷ ys)) ws a.2 in
    let x = bind_some (walk_of read k c) (λ y. each (walk_of read k) cs >>= λ ys. Some (y ∷ ys)) vs f in
    let y = bind_some (each (walk_of read k) cs) (λ ys. Some (x.0 ∷ ys)) vs x.2 in
    let first : a.0 ≡ x.0 = ih c a.0 x.0 a.1 x.1 in
    let others : b.0 ≡ y.0 = one_each read h k ih cs b.0 y.0 b.1 y.1 in
    sym (same_Some (a.0 ∷ b.0) ws b.2) ∙ ap (λ (t : Walked). t ∷ b.0) first ∙ ap (λ (t : List Walked). x.0 ∷ t) others ∙ same_Some (x.0 ∷ y.0) vs y.2

pub one_walk : (read : ℕ → Option Node) (h k place : ℕ) (w v : Walked) → walk_of read h place ≡ Some w → walk_of read k place ≡ Some v → w ≡ v
one_walk read zero zero place w v e f = same_Some w v (sym e ∙ f)
one_walk read zero (suc k) place w v e f = absurd (leaf_or_node read k place w v e f)
one_walk read (suc h) zero place w v e f = absurd (leaf_or_node read h place v w f e)
one_walk read (suc h) (suc k) place w v e f =
    let a = bind_some (read place) (λ node. each (walk_of read h) node.children >>= λ ws. cond (ltb 0 (length node.children)) (Some (at_node place node ws)) None) w e in
    let b = bind_some (each (walk_of read h) a.0.children) (λ ws. cond (ltb 0 (length a.0.children)) (Some (at_node place a.0 ws)) None) w a.2 in
    let g = cond_some _ _ _ b.2 in
    let x = bind_some (read place) (λ node. each (walk_of read k) node.children >>= λ ws. cond (ltb 0 (length node.children)) (Some (at_node place node ws)) None) v f in
    let y = bind_some (each (walk_of read k) x.0.children) (λ ws. cond (ltb 0 (length x.0.children)) (Some (at_node place x.0 ws)) None) v x.2 in
    let z = cond_some _ _ _ y.2 in
    let same : x.0 ≡ a.0 = same_Some x.0 a.0 (sym x.1 ∙ a.1) in
    let there : each (walk_of read k) a.0.children ≡ Some y.0 = subst (λ (n : Node). each (walk_of read k) n.children ≡ Some y.0) same y.1 in
    let children : b.0 ≡ y.0 = one_each read h k (one_walk read h k) a.0.children b.0 y.0 b.1 there in
    sym g.1 ∙ ap (at_node place a.0) children ∙ ap (λ (n : Node). at_node place n y.0) (sym same) ∙ z.1
