-- The events of a walk are its pairs and pages where it has no bad place.
use Rattle.std.proofs.Common.{◌≡◌, ℕ, zero, suc, ◌+◌, ◌<◌, Bool, true, false, cond, ltb, Option, Some, None, List, [], ◌∷◌, ◌++◌, length, map, refl, sym, ap, subst, ◌∙◌, append_assoc, append-nil, arith, inl, inr, ◌⊎◌}
use Rattle.std.specs.List.{flat_map}
use Rattle.std.proofs.lemmas.Bool.{lt-ltb, ltb-true}
use Rattle.std.proofs.lemmas.Option.{same_Some, cond_some}
use Rattle.myi_keylist.specs.declared.pair.Pair.{Pair}
use Rattle.myi_btree.specs.Walk.{◌>>=◌, Node, Places, Walked, between_pairs, each, at_node, as_leaf, walk_of, AreNodes}
use Rattle.myi_btree.specs.Visit.{is_new, AreNew, entered, HasFirst, IsDepth}
use Rattle.myi_btree.specs.Events.{Event, page, pair, bad, met_on, met_nothing, on_leaf, on_node, on_page, events, up_to_bad, Meets, first_bad, pairs_in, pages_in}
use Rattle.myi_btree.proofs.Frames.{bind_some}
use Rattle.myi_btree.proofs.LaidWalks.{cons_each}

-- ---- events one behind the other

pub record Shows (es : List Event) (shown : List (Pair × ℕ)) (places : List ℕ) : Type 0 where
  pub none : first_bad es ≡ None
  pub pairs : pairs_in es ≡ shown
  pub pages : pages_in es ≡ places

pub none-append : (a b : List Event) → first_bad a ≡ None → first_bad b ≡ None → first_bad (a ++ b) ≡ None
none-append [] b e f = f
none-append (page at ∷ es) b e f = none-append es b e f
none-append (pair p at ∷ es) b e f = none-append es b e f
none-append (bad at ∷ es) b e f = absurd cc

none-parts : (a b : List Event) → first_bad (a ++ b) ≡ None → (first_bad a ≡ None) × (first_bad b ≡ None)
none-parts [] b e = (refl, e)
none-parts (page at ∷ es) b e = none-parts es b e
none-parts (pair p at ∷ es) b e = none-parts es b e
none-parts (bad at ∷ es) b e = absurd cc

pub pairs-append : (a b : List Event) → pairs_in (a ++ b) ≡ pairs_in a ++ pairs_in b
pairs-append [] b = refl
pairs-append (page at ∷ es) b = pairs-append es b
pairs-append (pair p at ∷ es) b = ap (λ (t : List (Pair × ℕ)). (p, at) ∷ t) (pairs-append es b)
pairs-append (bad at ∷ es) b = pairs-append es b

pub pages-append : (a b : List Event) → pages_in (a ++ b) ≡ pages_in a ++ pages_in b
pages-append [] b = refl
pages-append (page at ∷ es) b = ap (λ (t : List ℕ). at ∷ t) (pages-append es b)
pages-append (pair p at ∷ es) b = pages-append es b
pages-append (bad at ∷ es) b = pages-append es b

shows_both : (a b : List Event) (p r : List (Pair × ℕ)) (q s : List ℕ) → Shows a p q → Shows b r s → Shows (a ++ b) (p ++ r) (q ++ s)
shows_both a b p r q s x y = record {
  none = none-append a b x.none y.none;
  pairs = pairs-append a b ∙ rw (x.pairs, y.pairs) refl;
  pages = pages-append a b ∙ rw (x.pages, y.pages) refl;
}

pub leaf_pages : (place : ℕ) (node : Node) (cs : List ℕ) (w : Walked) → as_leaf place node cs ≡ Some w → w.pages ≡ place ∷ []
leaf_pages place node [] w e = ap (λ (w : Walked). w.pages) (sym (same_Some _ _ e))
leaf_pages place node (c ∷ cs) w e = absurd cc

-- ---- the walk of a tree

-- what stands behind the first child
after_first : ℕ → List (List (Pair × ℕ)) → List Pair → List (Pair × ℕ)
after_first place ws [] = between_pairs place ws []
after_first place ws (p ∷ ps) = (p, place) ∷ between_pairs place ws ps

between_first : (place : ℕ) (d : List (Pair × ℕ)) (ws : List (List (Pair × ℕ))) (ps : List Pair) → between_pairs place (d ∷ ws) ps ≡ d ++ after_first place ws ps
unfolding after_first
between_first place d ws [] = refl
between_first place d ws (p ∷ ps) = refl

abbrev pub AllShow : Places → ℕ → Type 0
AllShow read h = (place : ℕ) (w : Walked) → walk_of read h place ≡ Some w → Shows (events read h place) w.pairs w.pages

met_shows : (read : Places) (h : ℕ) → AllShow read h → (place : ℕ) (ps : List Pair) (cs : List ℕ) (ws : List Walked) → length ps ≡ length cs → each (walk_of read h) cs ≡ Some ws
    → Shows (met_on place (events read h) ps cs) (after_first place (map (λ (w : Walked). w.pairs) ws) ps) (flat_map (λ (w : Walked). w.pages) ws)
unfolding after_first
met_shows read h ih place [] [] ws len e = subst (λ (t : List Walked). Shows [] (between_pairs place (map (λ (w : Walked). w.pairs) t) []) (flat_map (λ (w : Walked). w.pages) t)) (same_Some [] ws e) (record { none = refl; pairs = refl; pages = refl })
met_shows read h ih place [] (c ∷ cs) ws len e = absurd (omega (arith, len))
met_shows read h ih place (p ∷ ps) [] ws len e = absurd (omega (arith, len))
met_shows read h ih place (p ∷ ps) (c ∷ cs) ws len e =
    let a = bind_some (walk_of read h c) (λ y. each (walk_of read h) cs >>= λ ys. Some (y ∷ ys)) ws e in
    let b = bind_some (each (walk_of read h) cs) (λ ys. Some (a.0 ∷ ys)) ws a.2 in
    let more = met_shows read h ih place ps cs b.0 (omega (arith, len)) b.1 in
    let both = shows_both (events read h c) (met_on place (events read h) ps cs) a.0.pairs (after_first place (map (λ (w : Walked). w.pairs) b.0) ps) a.0.pages (flat_map (λ (w : Walked). w.pages) b.0) (ih c a.0 a.1) more in
    subst (λ (t : List Walked). Shows (pair p place ∷ (events read h c ++ met_on place (events read h) ps cs)) ((p, place) ∷ between_pairs place (map (λ (w : Walked). w.pairs) t) ps) (flat_map (λ (w : Walked). w.pages) t)) (same_Some (a.0 ∷ b.0) ws b.2)
    (record {
      none = both.none;
      pairs = ap (λ (t : List (Pair × ℕ)). (p, place) ∷ t) (both.pairs ∙ sym (between_first place a.0.pairs (map (λ (w : Walked). w.pairs) b.0) ps));
      pages = both.pages;
    })

leaf_shows : (place : ℕ) (ps : List Pair) → Shows (met_on place met_nothing ps []) (map (λ p. (p, place)) ps) []
leaf_shows place [] = record { none = refl; pairs = refl; pages = refl }
leaf_shows place (p ∷ ps) =
    let more = leaf_shows place ps in
    record { none = more.none; pairs = ap (λ (t : List (Pair × ℕ)). (p, place) ∷ t) more.pairs; pages = more.pages }

on_leaf_shows : (place : ℕ) (node : Node) (cs : List ℕ) (w : Walked) → as_leaf place node cs ≡ Some w → Shows (on_leaf place node cs) w.pairs w.pages
on_leaf_shows place node [] w e =
    let more = leaf_shows place node.pairs in
    subst (λ (t : Walked). Shows (page place ∷ met_on place met_nothing node.pairs []) t.pairs t.pages) (same_Some _ w e)
    (record { none = more.none; pairs = more.pairs; pages = ap (λ (t : List ℕ). place ∷ t) more.pages })
on_leaf_shows place node (c ∷ cs) w e = absurd cc

on_node_shows : (read : Places) (h : ℕ) → AllShow read h → (place : ℕ) (node : Node) (cs : List ℕ) (ws : List Walked) → 0 < length cs → length cs ≡ length node.pairs + 1 → each (walk_of read h) cs ≡ Some ws
    → Shows (on_node place node (events read h) cs) (at_node place node ws).pairs (at_node place node ws).pages
on_node_shows read h ih place node [] ws some len e = absurd (omega (arith, some))
on_node_shows read h ih place node (c ∷ cs) ws some len e =
    let a = bind_some (walk_of read h c) (λ y. each (walk_of read h) cs >>= λ ys. Some (y ∷ ys)) ws e in
    let b = bind_some (each (walk_of read h) cs) (λ ys. Some (a.0 ∷ ys)) ws a.2 in
    let more = met_shows read h ih place node.pairs cs b.0 (omega (arith, len)) b.1 in
    let both = shows_both (events read h c) (met_on place (events read h) node.pairs cs) a.0.pairs (after_first place (map (λ (w : Walked). w.pairs) b.0) node.pairs) a.0.pages (flat_map (λ (w : Walked). w.pages) b.0) (ih c a.0 a.1) more in
    subst (λ (t : List Walked). Shows (page place ∷ (events read h c ++ met_on place (events read h) node.pairs cs)) (at_node place node t).pairs (at_node place node t).pages) (same_Some (a.0 ∷ b.0) ws b.2)
    (record {
      none = both.none;
      pairs = both.pairs ∙ sym (between_first place a.0.pairs (map (λ (w : Walked). w.pairs) b.0) node.pairs);
      pages = ap (λ (t : List ℕ). place ∷ t) both.pages;
    })

shown_leaf : (read : Places) (place : ℕ) (node : Node) (w : Walked) → read place ≡ Some node → Shows (on_leaf place node node.children) w.pairs w.pages → Shows (events read zero place) w.pairs w.pages
shown_leaf read place node w e s = rw e s

shown_node : (read : Places) (h place : ℕ) (node : Node) (w : Walked) → read place ≡ Some node → Shows (on_node place node (events read h) node.children) w.pairs w.pages → Shows (events read (suc h) place) w.pairs w.pages
shown_node read h place node w e s = rw e s

pub walk_shows : (read : Places) → AreNodes read → (h : ℕ) → AllShow read h
walk_shows read nodes zero place w e =
    let a = bind_some (read place) (λ node. as_leaf place node node.children) w e in
    shown_leaf read place a.0 w a.1 (on_leaf_shows place a.0 a.0.children w a.2)
walk_shows read nodes (suc h) place w e =
    let a = bind_some (read place) (λ node. each (walk_of read h) node.children >>= λ ws. cond (ltb 0 (length node.children)) (Some (at_node place node ws)) None) w e in
    let b = bind_some (each (walk_of read h) a.0.children) (λ ws. cond (ltb 0 (length a.0.children)) (Some (at_node place a.0 ws)) None) w a.2 in
    let g = cond_some _ _ _ b.2 in
    let some : 0 < length a.0.children = ltb-true _ _ g.0 in
    shown_node read h place a.0 w a.1
    (subst (λ (t : Walked). Shows (on_node place a.0 (events read h) a.0.children) t.pairs t.pages) g.1
    (on_node_shows read h (walk_shows read nodes h) place a.0 a.0.children b.0 some ((nodes place a.0 a.1).branching some) b.1))

-- ---- events without a bad place are a walk

below_walks : (read : Places) (h : ℕ) → ((place : ℕ) → first_bad (events read h place) ≡ None → (w : Walked) × (walk_of read h place ≡ Some w)) → (cs : List ℕ) → first_bad (flat_map (events read h) cs) ≡ None → (ws : List Walked) × (each (walk_of read h) cs ≡ Some ws)
below_walks read h ih [] e = ([], refl)
below_walks read h ih (c ∷ cs) e =
    let k = none-parts (events read h c) (flat_map (events read h) cs) e in
    let w = ih c k.0 in
    let ws = below_walks read h ih cs k.1 in
    (w.0 ∷ ws.0, cons_each (walk_of read h) c cs w.0 ws.0 w.1 ws.1)

met_walks : (read : Places) (h : ℕ) → ((place : ℕ) → first_bad (events read h place) ≡ None → (w : Walked) × (walk_of read h place ≡ Some w)) → (place : ℕ) (ps : List Pair) (cs : List ℕ) → first_bad (met_on place (events read h) ps cs) ≡ None → (ws : List Walked) × (each (walk_of read h) cs ≡ Some ws)
met_walks read h ih place [] cs e = below_walks read h ih cs e
met_walks read h ih place (p ∷ ps) [] e = ([], refl)
met_walks read h ih place (p ∷ ps) (c ∷ cs) e =
    let k = none-parts (events read h c) (met_on place (events read h) ps cs) e in
    let w = ih c k.0 in
    let ws = met_walks read h ih place ps cs k.1 in
    (w.0 ∷ ws.0, cons_each (walk_of read h) c cs w.0 ws.0 w.1 ws.1)

leaf_is : (place : ℕ) (node : Node) (cs : List ℕ) → first_bad (on_leaf place node cs) ≡ None → (w : Walked) × (as_leaf place node cs ≡ Some w)
leaf_is place node [] e = (record { pairs = map (λ p. (p, place)) node.pairs; pages = place ∷ [] }, refl)
leaf_is place node (c ∷ cs) e = absurd cc

node_is : (read : Places) (h : ℕ) → ((place : ℕ) → first_bad (events read h place) ≡ None → (w : Walked) × (walk_of read h place ≡ Some w)) → (place : ℕ) (node : Node) (cs : List ℕ) → first_bad (on_node place node (events read h) cs) ≡ None
    → (0 < length cs) × ((ws : List Walked) × (each (walk_of read h) cs ≡ Some ws))
node_is read h ih place node [] e = absurd cc
node_is read h ih place node (c ∷ cs) e =
    let k = none-parts (events read h c) (met_on place (events read h) node.pairs cs) e in
    let w = ih c k.0 in
    let ws = met_walks read h ih place node.pairs cs k.1 in
    (omega arith, (w.0 ∷ ws.0, cons_each (walk_of read h) c cs w.0 ws.0 w.1 ws.1))

page_is : (place : ℕ) (o : Option Node) (on : Node → List Event) → first_bad (on_page place o on) ≡ None → (node : Node) × (o ≡ Some node) × (first_bad (on node) ≡ None)
page_is place None on e = absurd cc
page_is place (Some node) on e = (node, refl, e)

leaf_walk : (read : Places) (place : ℕ) (node : Node) (w : Walked) → read place ≡ Some node → as_leaf place node node.children ≡ Some w → walk_of read zero place ≡ Some w
leaf_walk read place node w e f = rw (e, f) refl

node_walk : (read : Places) (h place : ℕ) (node : Node) (ws : List Walked) → read place ≡ Some node → each (walk_of read h) node.children ≡ Some ws → ltb 0 (length node.children) ≡ true → walk_of read (suc h) place ≡ Some (at_node place node ws)
node_walk read h place node ws e f g = rw (e, f, g) refl

pub shown_walk : (read : Places) (h place : ℕ) → first_bad (events read h place) ≡ None → (w : Walked) × (walk_of read h place ≡ Some w)
shown_walk read zero place e =
    let a = page_is place (read place) (λ node. on_leaf place node node.children) e in
    let b = leaf_is place a.0 a.0.children a.2 in
    (b.0, leaf_walk read place a.0 b.0 a.1 b.1)
shown_walk read (suc h) place e =
    let a = page_is place (read place) (λ node. on_node place node (events read h) node.children) e in
    let b = node_is read h (shown_walk read h) place a.0 a.0.children a.2 in
    (at_node place a.0 b.1.0, node_walk read h place a.0 b.1.0 a.1 b.1.1 (lt-ltb 0 (length a.0.children) b.0))

-- ---- up to the first bad place

passes_on : (block : ℕ) (met : List ℕ) (es more : List Event) → first_bad es ≡ None → AreNew block met (pages_in es) → up_to_bad block met (es ++ more) ≡ es ++ up_to_bad block (met ++ pages_in es) more
passes_on block met [] more e new = ap (λ (t : List ℕ). up_to_bad block t more) (sym (append-nil met))
passes_on block met (page at ∷ es) more e new =
    rw new.0 (ap (λ (t : List Event). page at ∷ t) (passes_on block (met ++ at ∷ []) es more e new.1 ∙ ap (λ (t : List ℕ). es ++ up_to_bad block t more) (append_assoc met (at ∷ []) (pages_in es))))
passes_on block met (pair p at ∷ es) more e new = ap (λ (t : List Event). pair p at ∷ t) (passes_on block met es more e new)
passes_on block met (bad at ∷ es) more e new = absurd cc

pub passes : (block : ℕ) (met : List ℕ) (es : List Event) → first_bad es ≡ None → AreNew block met (pages_in es) → up_to_bad block met es ≡ es
passes block met [] e new = refl
passes block met (page at ∷ es) e new = rw new.0 (ap (λ (t : List Event). page at ∷ t) (passes block (met ++ at ∷ []) es e new.1))
passes block met (pair p at ∷ es) e new = ap (λ (t : List Event). pair p at ∷ t) (passes block met es e new)
passes block met (bad at ∷ es) e new = absurd cc

pub record Passed (block : ℕ) (met : List ℕ) (es : List Event) : Type 0 where
  pub none : first_bad es ≡ None
  pub new : AreNew block met (pages_in es)
  pub same : up_to_bad block met es ≡ es

new_page : (b : Bool) (at : ℕ) (es : List Event) → first_bad (cond b (page at ∷ es) (bad at ∷ [])) ≡ None → (b ≡ true) × (first_bad es ≡ None)
new_page true at es e = (refl, e)
new_page false at es e = absurd cc

pub passed : (block : ℕ) (met : List ℕ) (es : List Event) → first_bad (up_to_bad block met es) ≡ None → Passed block met es
passed block met [] e = record { none = refl; new = tt; same = refl }
passed block met (page at ∷ es) e =
    let k = new_page (is_new block at met) at (up_to_bad block (met ++ at ∷ []) es) e in
    let more = passed block (met ++ at ∷ []) es k.1 in
    record { none = more.none; new = (k.0, more.new); same = rw k.0 (ap (λ (t : List Event). page at ∷ t) more.same) }
passed block met (pair p at ∷ es) e =
    let more = passed block met es e in
    record { none = more.none; new = more.new; same = ap (λ (t : List Event). pair p at ∷ t) more.same }
passed block met (bad at ∷ es) e = absurd cc

-- ---- the depth of the leaves

-- two depths that fit, if they are two, lead to one bad place
abbrev SameOn : ℕ → Places → ℕ → ℕ → ℕ → List ℕ → Type 0
SameOn block read h k place met = (r s : List Event) → up_to_bad block met (events read h place ++ r) ≡ up_to_bad block met (events read k place ++ s)

pub entered_is : (block : ℕ) (read : Places) (place : ℕ) (met : List ℕ) (node : Node) → entered block read place met ≡ Some node → (is_new block place met ≡ true) × (read place ≡ Some node)
entered_is block read place met node e = by (is_new block place met) e
  where
    by : (b : Bool) → cond b (read place) None ≡ Some node → (b ≡ true) × (read place ≡ Some node)
    by false e = absurd cc
    by true e = (refl, e)

pub leaf_events : (read : Places) (place : ℕ) (node : Node) → read place ≡ Some node → node.children ≡ [] → events read zero place ≡ page place ∷ met_on place met_nothing node.pairs []
leaf_events read place node e f = rw (e, f) refl

pub node_events : (read : Places) (h place : ℕ) (node : Node) (c : ℕ) (cs : List ℕ) → read place ≡ Some node → node.children ≡ c ∷ cs → events read (suc h) place ≡ page place ∷ (events read h c ++ met_on place (events read h) node.pairs cs)
node_events read h place node c cs e f = rw (e, f) refl

-- a leaf that stands too high, and a node that stands too low
pub high_leaf : (read : Places) (h place : ℕ) (node : Node) → read place ≡ Some node → node.children ≡ [] → events read (suc h) place ≡ bad place ∷ []
high_leaf read h place node e f = rw (e, f) refl

pub low_node : (read : Places) (place : ℕ) (node : Node) (c : ℕ) (cs : List ℕ) → read place ≡ Some node → node.children ≡ c ∷ cs → events read zero place ≡ bad place ∷ []
low_node read place node c cs e f = rw (e, f) refl

pub no_page : (read : Places) (h place : ℕ) → read place ≡ None → events read h place ≡ bad place ∷ []
no_page read zero place e = rw e refl
no_page read (suc h) place e = rw e refl

pub begins_so : (read : Places) (h place : ℕ) → ((es : List Event) × (events read h place ≡ page place ∷ es)) ⊎ (events read h place ≡ bad place ∷ [])
begins_so read h place = by h (read place) refl
  where
    leaf : (node : Node) (cs : List ℕ) → ((es : List Event) × (on_leaf place node cs ≡ page place ∷ es)) ⊎ (on_leaf place node cs ≡ bad place ∷ [])
    leaf node [] = inl (met_on place met_nothing node.pairs [], refl)
    leaf node (c ∷ cs) = inr refl

    inner : (h : ℕ) (node : Node) (cs : List ℕ) → ((es : List Event) × (on_node place node (events read h) cs ≡ page place ∷ es)) ⊎ (on_node place node (events read h) cs ≡ bad place ∷ [])
    inner h node [] = inr refl
    inner h node (c ∷ cs) = inl (events read h c ++ met_on place (events read h) node.pairs cs, refl)

    by : (h : ℕ) (o : Option Node) → read place ≡ o → ((es : List Event) × (events read h place ≡ page place ∷ es)) ⊎ (events read h place ≡ bad place ∷ [])
    by h None e = inr (no_page read h place e)
    by zero (Some node) e = rw e (leaf node node.children)
    by (suc h) (Some node) e = rw e (inner h node node.children)

-- where no new page stands the walk ends
pub not_entered : (block : ℕ) (read : Places) (h place : ℕ) (met : List ℕ) (more : List Event) → entered block read place met ≡ None → up_to_bad block met (events read h place ++ more) ≡ bad place ∷ []
not_entered block read h place met more e = by (is_new block place met) refl
  where
    by : (b : Bool) → is_new block place met ≡ b → up_to_bad block met (events read h place ++ more) ≡ bad place ∷ []
    by true new = rw (no_page read h place (rw new at e)) refl
    by false old = elim (begins_so read h place) [
      | inl s ↦ rw (s.1, old) refl
      | inr is ↦ rw is refl
    ]

both_first : (P : ℕ → Type 0) (Q : ℕ → Type 0) (cs : List ℕ) → HasFirst P cs → HasFirst Q cs → (c : ℕ) × (ds : List ℕ) × (cs ≡ c ∷ ds) × P c × Q c
both_first P Q [] p q = absurd p
both_first P Q (c ∷ cs) p q = (c, cs, refl, p, q)

-- the events of a node from its first child on
goes_on : (block : ℕ) (read : Places) (h place : ℕ) (met : List ℕ) (node : Node) (c : ℕ) (cs : List ℕ) (more : List Event) → entered block read place met ≡ Some node → node.children ≡ c ∷ cs
    → up_to_bad block met (events read (suc h) place ++ more) ≡ page place ∷ up_to_bad block (met ++ place ∷ []) (events read h c ++ (met_on place (events read h) node.pairs cs ++ more))
goes_on block read h place met node c cs more e f =
    let k = entered_is block read place met node e in
    rw (node_events read h place node c cs k.1 f, k.0) (ap (λ (t : List Event). page place ∷ up_to_bad block (met ++ place ∷ []) t) (append_assoc (events read h c) (met_on place (events read h) node.pairs cs) more))

pub two_depths : (block : ℕ) (read : Places) (h k place : ℕ) (met : List ℕ) → IsDepth block read h place met → IsDepth block read k place met → (h ≡ k) ⊎ SameOn block read h k place met
two_depths block read zero zero place met d e = inl refl
two_depths block read zero (suc k) place met d e = by (entered block read place met) refl
  where
    by : (o : Option Node) → entered block read place met ≡ o → (zero ≡ suc k) ⊎ SameOn block read zero (suc k) place met
    by None is = inr (λ r s. not_entered block read zero place met r is ∙ sym (not_entered block read (suc k) place met s is))
    by (Some node) is = absurd (subst (λ (t : List ℕ). HasFirst (λ child. IsDepth block read k child (met ++ place ∷ [])) t) (d node is) (e node is))
two_depths block read (suc h) zero place met d e = by (entered block read place met) refl
  where
    by : (o : Option Node) → entered block read place met ≡ o → (suc h ≡ zero) ⊎ SameOn block read (suc h) zero place met
    by None is = inr (λ r s. not_entered block read (suc h) place met r is ∙ sym (not_entered block read zero place met s is))
    by (Some node) is = absurd (subst (λ (t : List ℕ). HasFirst (λ child. IsDepth block read h child (met ++ place ∷ [])) t) (e node is) (d node is))
two_depths block read (suc h) (suc k) place met d e = by (two_depths block read h k) (entered block read place met) refl
  where
    by : ((c : ℕ) (met : List ℕ) → IsDepth block read h c met → IsDepth block read k c met → (h ≡ k) ⊎ SameOn block read h k c met) → (o : Option Node) → entered block read place met ≡ o → (suc h ≡ suc k) ⊎ SameOn block read (suc h) (suc k) place met
    by ih None is = inr (λ r s. not_entered block read (suc h) place met r is ∙ sym (not_entered block read (suc k) place met s is))
    by ih (Some node) is =
        let (c, cs, f, p, q) = both_first (λ child. IsDepth block read h child (met ++ place ∷ [])) (λ child. IsDepth block read k child (met ++ place ∷ [])) node.children (d node is) (e node is) in
        elim (ih c (met ++ place ∷ []) p q) [
          | inl same ↦ inl (ap suc same)
          | inr same ↦ inr (λ r s. goes_on block read h place met node c cs r is f ∙ ap (λ (t : List Event). page place ∷ t) (same (met_on place (events read h) node.pairs cs ++ r) (met_on place (events read k) node.pairs cs ++ s)) ∙ sym (goes_on block read k place met node c cs s is f))
        ]

pub meets_once : (block : ℕ) (read : Places) (place : ℕ) (es others : List Event) → Meets block read place es → Meets block read place others → es ≡ others
meets_once block read place es others m n = m.is ∙ elim (two_depths block read m.height n.height place [] m.depth n.depth) [
  | inl same ↦ ap (λ (h : ℕ). up_to_bad block [] (events read h place)) same
  | inr same ↦ ap (up_to_bad block []) (sym (append-nil (events read m.height place))) ∙ same [] [] ∙ ap (up_to_bad block []) (append-nil (events read n.height place))
] ∙ sym n.is

-- ---- the walk

first_walk : (read : Places) (h : ℕ) (cs : List ℕ) (ws : List Walked) → 0 < length cs → each (walk_of read h) cs ≡ Some ws → HasFirst (λ c. (w : Walked) × (walk_of read h c ≡ Some w)) cs
first_walk read h [] ws some e = absurd (omega (arith, some))
first_walk read h (c ∷ cs) ws some e = let a = bind_some (walk_of read h c) (λ y. each (walk_of read h) cs >>= λ ys. Some (y ∷ ys)) ws e in (a.0, a.1)

first_weaker : (P : ℕ → Type 0) (Q : ℕ → Type 0) → ((c : ℕ) → P c → Q c) → (cs : List ℕ) → HasFirst P cs → HasFirst Q cs
first_weaker P Q f [] h = absurd h
first_weaker P Q f (c ∷ cs) h = f c h

pub leaf_none : (place : ℕ) (node : Node) (cs : List ℕ) (w : Walked) → as_leaf place node cs ≡ Some w → cs ≡ []
leaf_none place node [] w e = refl
leaf_none place node (c ∷ cs) w e = absurd cc

pub walk_depth : (block : ℕ) (read : Places) (h place : ℕ) (met : List ℕ) (w : Walked) → walk_of read h place ≡ Some w → IsDepth block read h place met
walk_depth block read zero place met w e = λ node f.
    let a = bind_some (read place) (λ node. as_leaf place node node.children) w e in
    let same : a.0 ≡ node = same_Some a.0 node (sym a.1 ∙ (entered_is block read place met node f).1) in
    subst (λ (n : Node). n.children ≡ []) same (leaf_none place a.0 a.0.children w a.2)
walk_depth block read (suc h) place met w e = λ node f.
    let a = bind_some (read place) (λ node. each (walk_of read h) node.children >>= λ ws. cond (ltb 0 (length node.children)) (Some (at_node place node ws)) None) w e in
    let b = bind_some (each (walk_of read h) a.0.children) (λ ws. cond (ltb 0 (length a.0.children)) (Some (at_node place a.0 ws)) None) w a.2 in
    let some : 0 < length a.0.children = ltb-true _ _ (cond_some _ _ _ b.2).0 in
    let same : a.0 ≡ node = same_Some a.0 node (sym a.1 ∙ (entered_is block read place met node f).1) in
    subst (λ (n : Node). HasFirst (λ child. IsDepth block read h child (met ++ place ∷ [])) n.children) same
    (first_weaker (λ c. (w : Walked) × (walk_of read h c ≡ Some w)) (λ child. IsDepth block read h child (met ++ place ∷ [])) (λ c v. walk_depth block read h c (met ++ place ∷ []) v.0 v.1) a.0.children
    (first_walk read h a.0.children b.0 some b.1))
