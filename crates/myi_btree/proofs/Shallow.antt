-- A tree of this height has so many pairs.
use Rattle.std.proofs.Common.{◌≡◌, ℕ, zero, suc, ◌+◌, ◌*◌, ◌^◌, ◌<◌, ◌≤◌, cond, ltb, Option, Some, None, List, [], ◌∷◌, ◌++◌, length, map, sym, ap, subst, ◌∙◌, arith}
use Rattle.std.proofs.lemmas.Option.{same_Some, cond_some}
use Rattle.std.proofs.lemmas.Bool.{ltb-true}
use Rattle.std.proofs.lemmas.List.{length-append, length-map}
use Rattle.myi_btree.specs.Walk.{◌>>=◌, Node, Walked, between_pairs, each, at_node, as_leaf, walk_of, AreNodes}
use Rattle.myi_btree.proofs.Frames.{bind_some}
use Rattle.myi_keylist.specs.declared.pair.Pair.{Pair}

leaf_len : (place : ℕ) (node : Node) (cs : List ℕ) (w : Walked) → as_leaf place node cs ≡ Some w → length w.pairs ≡ length node.pairs
leaf_len place node [] w e = ap (λ (w : Walked). length w.pairs) (sym (same_Some _ _ e)) ∙ length-map node.pairs (λ (p : Pair). (p, place))
leaf_len place node (c ∷ cs) w e = absurd cc

-- two children and the pair between them suffice
between_len : (place k : ℕ) (a b : List (Pair × ℕ)) (cs : List (List (Pair × ℕ))) (p : Pair) (ps : List Pair) → k ≤ length a + 1 → k ≤ length b + 1 → 2 * k ≤ length (between_pairs place (a ∷ b ∷ cs) (p ∷ ps)) + 1
between_len place k a b cs p [] ha hb = omega (arith, length-append a ((p, place) ∷ (b ++ between_pairs place cs [])), length-append b (between_pairs place cs []))
between_len place k a b cs p (q ∷ ps) ha hb = omega (arith, length-append a ((p, place) ∷ (b ++ (q, place) ∷ between_pairs place cs ps)), length-append b ((q, place) ∷ between_pairs place cs ps))

node_len : (read : ℕ → Option Node) (h place : ℕ) (ps : List Pair) (cs : List ℕ) (ws : List Walked) → ((c : ℕ) (w : Walked) → walk_of read h c ≡ Some w → 2 ^ suc h ≤ length w.pairs + 1) → 0 < length ps → length cs ≡ suc (length ps) → each (walk_of read h) cs ≡ Some ws
    → 2 * 2 ^ suc h ≤ length (between_pairs place (map (λ (w : Walked). w.pairs) ws) ps) + 1
node_len read h place [] cs ws ih some len e = absurd (omega arith)
node_len read h place (p ∷ ps) [] ws ih some len e = absurd (omega arith)
node_len read h place (p ∷ ps) (c ∷ []) ws ih some len e = absurd (omega arith)
node_len read h place (p ∷ ps) (c ∷ d ∷ cs) ws ih some len e =
    let a = bind_some (walk_of read h c) (λ y. each (walk_of read h) (d ∷ cs) >>= λ ys. Some (y ∷ ys)) ws e in
    let b = bind_some (each (walk_of read h) (d ∷ cs)) (λ ys. Some (a.0 ∷ ys)) ws a.2 in
    let x = bind_some (walk_of read h d) (λ y. each (walk_of read h) cs >>= λ ys. Some (y ∷ ys)) b.0 b.1 in
    let y = bind_some (each (walk_of read h) cs) (λ ys. Some (x.0 ∷ ys)) b.0 x.2 in
    let is : a.0 ∷ x.0 ∷ y.0 ≡ ws = ap (λ (t : List Walked). a.0 ∷ t) (same_Some (x.0 ∷ y.0) b.0 y.2) ∙ same_Some (a.0 ∷ b.0) ws b.2 in
    subst (λ (t : List Walked). 2 * 2 ^ suc h ≤ length (between_pairs place (map (λ (w : Walked). w.pairs) t) (p ∷ ps)) + 1) is
    (between_len place (2 ^ suc h) a.0.pairs x.0.pairs (map (λ (w : Walked). w.pairs) y.0) p ps (ih c a.0 a.1) (ih d x.0 x.1))

-- height counted with the leaves
pub depth_bound : (read : ℕ → Option Node) (h place : ℕ) (w : Walked) → AreNodes read → walk_of read h place ≡ Some w → 2 ^ suc h ≤ length w.pairs + 1
depth_bound read zero place w nodes e =
    let a = bind_some (read place) (λ node. as_leaf place node node.children) w e in
    omega (arith, leaf_len place a.0 a.0.children w a.2, (nodes place a.0 a.1).some)
depth_bound read (suc h) place w nodes e =
    let a = bind_some (read place) (λ node. each (walk_of read h) node.children >>= λ ws. cond (ltb 0 (length node.children)) (Some (at_node place node ws)) None) w e in
    let b = bind_some (each (walk_of read h) a.0.children) (λ ws. cond (ltb 0 (length a.0.children)) (Some (at_node place a.0 ws)) None) w a.2 in
    let g = cond_some _ _ _ b.2 in
    subst (λ (t : Walked). 2 ^ suc (suc h) ≤ length t.pairs + 1) g.1
    (omega (arith, node_len read h place a.0.pairs a.0.children b.0 (λ c v walks. depth_bound read h c v nodes walks) ((nodes place a.0 a.1).some) (omega (arith, (nodes place a.0 a.1).branching (ltb-true _ _ g.0))) b.1))
