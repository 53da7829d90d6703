-- Each step of a walk meets the first of the events that are left.
use Rattle.std.proofs.Common.{◌≡◌, ◌≢◌, ℕ, zero, suc, ◌+◌, ◌-◌, ◌<◌, ◌≤◌, Option, Some, None, List, [], ◌∷◌, ◌++◌, length, refl, sym, ap, subst, ◌∙◌, append_assoc, append-nil, arith, inl, inr, ◌⊎◌}
use Rattle.std.proofs.lemmas.List.{length-append}
use Rattle.std.proofs.lemmas.Option.{same_Some}
use Rattle.myi_keylist.specs.declared.pair.Pair.{Pair}
use Rattle.myi_btree.specs.Walk.{Node, node_with, Places}
use Rattle.myi_btree.specs.Visit.{entered, HasFirst, IsDepth}
use Rattle.myi_btree.specs.Events.{Event, page, pair, bad, met_nothing, met_on, events, up_to_bad, Meets}
use Rattle.myi_btree.specs.Going.{below, left_of, IsHeight, IsLeft, Fits}
use Rattle.myi_btree.proofs.EventLaws.{entered_is, leaf_events, node_events, high_leaf, low_node, not_entered}

last_left : (read : Places) (n : ℕ) (path : List (ℕ × Node)) (p : ℕ × Node) → left_of read n (path ++ p ∷ []) ≡ met_on p.0 (below read n) p.1.pairs p.1.children ++ left_of read (suc n) path
last_left read n [] p = ap (λ (k : ℕ). met_on p.0 (below read k) p.1.pairs p.1.children) same ∙ sym (append-nil _)
  where
    same : n + 0 ≡ n
    same = omega arith
last_left read n (q ∷ path) p =
    let same : n + length (path ++ p ∷ []) ≡ suc n + length path = omega (arith, length-append path (p ∷ [])) in
    ap (λ (t : List Event). t ++ met_on q.0 (below read (n + length (path ++ p ∷ []))) q.1.pairs q.1.children) (last_left read n path p)
    ∙ ap (λ (k : ℕ). (met_on p.0 (below read n) p.1.pairs p.1.children ++ left_of read (suc n) path) ++ met_on q.0 (below read k) q.1.pairs q.1.children) same
    ∙ append_assoc (met_on p.0 (below read n) p.1.pairs p.1.children) (left_of read (suc n) path) (met_on q.0 (below read (suc n + length path)) q.1.pairs q.1.children)

-- ---- where a walk begins and ends

pub starts : (block : ℕ) (read : Places) (root : ℕ) (es : List Event) → IsLeft block read [] None (Some root) [] es → Meets block read root es
starts block read root es l =
    let (h, n, d) = l.height_is in
    record { height = h; depth = d; is = l.is ∙ ap (λ (k : ℕ). up_to_bad block [] (below read k root ++ [])) n ∙ ap (up_to_bad block []) (append-nil (events read h root)) }

pub ends : (block : ℕ) (read : Places) (met : List ℕ) (height : Option ℕ) → IsLeft block read met height None [] []
ends block read met None = record { level = 0; height_is = tt; is = refl }
ends block read met (Some height) = record { level = height; height_is = omega arith; is = refl }

-- ---- going into a page

same_level : (height len n : ℕ) → n + suc len ≡ height → suc n + len ≡ height
same_level height len n e = omega (arith, e)

-- the level of a page that is gone into, whose leaves stand so many levels below it
old_level : (block : ℕ) (read : Places) (met : List ℕ) (height : Option ℕ) (c n : ℕ) (path : List (ℕ × Node)) (p : ℕ × Node) → (height ≡ None → IsDepth block read n c met) → IsHeight block read (met ++ c ∷ []) height None (path ++ p ∷ []) n → IsHeight block read met height (Some c) path (suc n)
old_level block read met None c n path p depth e = (n, refl, depth refl)
old_level block read met (Some height) c n path p depth e = omega (arith, e, length-append path (p ∷ []))

into : (block : ℕ) (met : List ℕ) (c : ℕ) (read : Places) (node : Node) (es rest more : List Event) → entered block read c met ≡ Some node → es ≡ page c ∷ rest → up_to_bad block met (es ++ more) ≡ page c ∷ up_to_bad block (met ++ c ∷ []) (rest ++ more)
into block met c read node es rest more e is = rw (is, (entered_is block read c met node e).0) refl

-- a leaf
pub into_leaf : (block : ℕ) (read : Places) (met : List ℕ) (height : Option ℕ) (c : ℕ) (path : List (ℕ × Node)) (node : Node) (es : List Event) → entered block read c met ≡ Some node → node.children ≡ [] → (height ≡ None) ⊎ (height ≡ Some (suc (length path)))
    → IsLeft block read (met ++ c ∷ []) (Some (suc (length path))) None (path ++ (c, node) ∷ []) es → IsLeft block read met height (Some c) path (page c ∷ es)
into_leaf block read met height c path node es e none fits l =
    let zero_is : l.level ≡ 0 = omega (arith, l.height_is, length-append path ((c, node) ∷ [])) in
    let rest : List Event = met_on c met_nothing node.pairs [] in
    let first : events read zero c ≡ page c ∷ rest = leaf_events read c node (entered_is block read c met node e).1 none in
    let same : met_on c (below read zero) node.pairs node.children ≡ rest = ap (met_on c met_nothing node.pairs) none in
    record {
      level = 1;
      height_is = level_is height fits;
      is = ap (λ (t : List Event). page c ∷ t) (l.is ∙ ap (λ (k : ℕ). up_to_bad block (met ++ c ∷ []) (left_of read k (path ++ (c, node) ∷ []))) zero_is ∙ ap (up_to_bad block (met ++ c ∷ [])) (last_left read zero path (c, node) ∙ ap (λ (t : List Event). t ++ left_of read 1 path) same))
          ∙ sym (into block met c read node (events read zero c) rest (left_of read 1 path) e first);
    }
  where
    level_is : (height : Option ℕ) → (height ≡ None) ⊎ (height ≡ Some (suc (length path))) → IsHeight block read met height (Some c) path 1
    level_is None f = (zero, refl, λ n f. subst (λ (t : Node). t.children ≡ []) (same_Some node n (sym e ∙ f)) none)
    level_is (Some h) (inl f) = absurd cc
    level_is (Some h) (inr f) = let k : h ≡ suc (length path) = same_Some h (suc (length path)) f in omega (arith, k)

-- a node
pub into_node : (block : ℕ) (read : Places) (met : List ℕ) (height : Option ℕ) (c : ℕ) (path : List (ℕ × Node)) (node : Node) (d : ℕ) (ds : List ℕ) (es : List Event) → entered block read c met ≡ Some node → node.children ≡ d ∷ ds
    → ((h : ℕ) → height ≡ Some h → suc (length path) < h)
    → IsLeft block read (met ++ c ∷ []) height (Some d) (path ++ (c, node_with node.pairs ds) ∷ []) es → IsLeft block read met height (Some c) path (page c ∷ es)
into_node block read met height c path node d ds es e some fits l =
    let k = levels height fits l.level l.height_is in
    let rest : List Event = events read k.0 d ++ met_on c (events read k.0) node.pairs ds in
    let first : events read (suc k.0) c ≡ page c ∷ rest = node_events read k.0 c node d ds (entered_is block read c met node e).1 some in
    record {
      level = suc (suc k.0);
      height_is = k.2;
      is = ap (λ (t : List Event). page c ∷ t) (l.is ∙ ap (λ (n : ℕ). up_to_bad block (met ++ c ∷ []) (below read n d ++ left_of read n (path ++ (c, node_with node.pairs ds) ∷ []))) k.1
          ∙ ap (λ (t : List Event). up_to_bad block (met ++ c ∷ []) (events read k.0 d ++ t)) (last_left read (suc k.0) path (c, node_with node.pairs ds))
          ∙ ap (up_to_bad block (met ++ c ∷ [])) (sym (append_assoc (events read k.0 d) (met_on c (events read k.0) node.pairs ds) (left_of read (suc (suc k.0)) path))))
          ∙ sym (into block met c read node (events read (suc k.0) c) rest (left_of read (suc (suc k.0)) path) e first);
    }
  where
    levels : (height : Option ℕ) → ((h : ℕ) → height ≡ Some h → suc (length path) < h) → (n : ℕ) → IsHeight block read (met ++ c ∷ []) height (Some d) (path ++ (c, node_with node.pairs ds) ∷ []) n → (h : ℕ) × (n ≡ suc h) × IsHeight block read met height (Some c) path (suc (suc h))
    levels None fits n (h, is, depth) = (h, is, (suc h, refl, λ other f. subst (λ (t : Node). HasFirst (λ child. IsDepth block read h child (met ++ c ∷ [])) t.children) (same_Some node other (sym e ∙ f)) (subst (λ (t : List ℕ). HasFirst (λ child. IsDepth block read h child (met ++ c ∷ [])) t) (sym some) depth)))
    levels (Some height) fits zero is = absurd (omega (arith, fits height refl, is, length-append path ((c, node_with node.pairs ds) ∷ [])))
    levels (Some height) fits (suc h) is = (h, refl, omega (arith, is, length-append path ((c, node_with node.pairs ds) ∷ [])))

-- ---- a bad page

stop : (block : ℕ) (met : List ℕ) (c : ℕ) (es more : List Event) → es ≡ bad c ∷ [] → bad c ∷ [] ≡ up_to_bad block met (es ++ more)
stop block met c es more e = rw e refl

-- what is met of the next page, where no new page stands there
none_there : (block : ℕ) (read : Places) (n c : ℕ) (met : List ℕ) (more : List Event) → entered block read c met ≡ None → bad c ∷ [] ≡ up_to_bad block met (below read n c ++ more)
none_there block read zero c met more e = refl
none_there block read (suc h) c met more e = sym (not_entered block read h c met more e)

pub into_none : (block : ℕ) (read : Places) (met : List ℕ) (height : Option ℕ) (c : ℕ) (path : List (ℕ × Node)) → Fits height (Some c) path → entered block read c met ≡ None → IsLeft block read met height (Some c) path (bad c ∷ [])
into_none block read met None c path fits e = record { level = 1; height_is = (zero, refl, λ node f. absurd (none_some node (sym e ∙ f))); is = none_there block read 1 c met (left_of read 1 path) e }
  where
    none_some : (node : Node) → None ≡ Some node → ⊥
    none_some node f = cc
into_none block read met (Some height) c path fits e = by height fits
  where
    by : (height : ℕ) → length path ≤ height → IsLeft block read met (Some height) (Some c) path (bad c ∷ [])
    by height le = record { level = height - length path; height_is = omega (arith, le); is = none_there block read (height - length path) c met (left_of read (height - length path) path) e }

pub into_high : (block : ℕ) (read : Places) (met : List ℕ) (height c : ℕ) (path : List (ℕ × Node)) (node : Node) → length path ≤ height → entered block read c met ≡ Some node → node.children ≡ [] → suc (length path) ≢ height → IsLeft block read met (Some height) (Some c) path (bad c ∷ [])
into_high block read met height c path node le e none other = record { level = height - length path; height_is = omega (arith, le); is = by (height - length path) (λ f. other (omega (arith, f, le))) }
  where
    by : (n : ℕ) → (n ≢ 1) → bad c ∷ [] ≡ up_to_bad block met (below read n c ++ left_of read n path)
    by zero f = refl
    by (suc zero) f = absurd (f refl)
    by (suc (suc h)) f = stop block met c (events read (suc h) c) (left_of read (suc (suc h)) path) (high_leaf read h c node (entered_is block read c met node e).1 none)

pub into_low : (block : ℕ) (read : Places) (met : List ℕ) (height c : ℕ) (path : List (ℕ × Node)) (node : Node) (d : ℕ) (ds : List ℕ) → length path ≤ height → entered block read c met ≡ Some node → node.children ≡ d ∷ ds → height ≤ suc (length path) → IsLeft block read met (Some height) (Some c) path (bad c ∷ [])
into_low block read met height c path node d ds le e some low = record { level = height - length path; height_is = omega (arith, le); is = by (height - length path) (omega (arith, low, le)) }
  where
    by : (n : ℕ) → n ≤ 1 → bad c ∷ [] ≡ up_to_bad block met (below read n c ++ left_of read n path)
    by zero f = refl
    by (suc zero) f = stop block met c (events read zero c) (left_of read 1 path) (low_node read c node d ds (entered_is block read c met node e).1 some)
    by (suc (suc h)) f = absurd (omega (arith, f))

-- ---- a page that is open

same_height : (block : ℕ) (read : Places) (met : List ℕ) (height : ℕ) (d e : Option ℕ) (path others : List (ℕ × Node)) (n : ℕ) → length path ≡ length others → IsHeight block read met (Some height) d path n → IsHeight block read met (Some height) e others n
same_height block read met height d e path others n same h = omega (arith, same, h)

-- its next pair, and its next child
pub gives_pair : (block : ℕ) (read : Places) (met : List ℕ) (height : ℕ) (path : List (ℕ × Node)) (at : ℕ) (p : Pair) (ps : List Pair) (c : ℕ) (cs : List ℕ) (es : List Event)
    → IsLeft block read met (Some height) (Some c) (path ++ (at, node_with ps cs) ∷ []) es → IsLeft block read met (Some height) None (path ++ (at, node_with (p ∷ ps) (c ∷ cs)) ∷ []) (pair p at ∷ es)
gives_pair block read met height path at p ps c cs es l = record {
  level = l.level;
  height_is = omega (arith, l.height_is, length-append path ((at, node_with ps cs) ∷ []), length-append path ((at, node_with (p ∷ ps) (c ∷ cs)) ∷ []));
  is = ap (λ (t : List Event). pair p at ∷ t) (l.is ∙ ap (λ (t : List Event). up_to_bad block met (below read l.level c ++ t)) (last_left read l.level path (at, node_with ps cs))
      ∙ ap (up_to_bad block met) (sym (append_assoc (below read l.level c) (met_on at (below read l.level) ps cs) (left_of read (suc l.level) path))))
      ∙ ap (up_to_bad block met) (sym (last_left read l.level path (at, node_with (p ∷ ps) (c ∷ cs))));
}

pub gives_last : (block : ℕ) (read : Places) (met : List ℕ) (height : ℕ) (path : List (ℕ × Node)) (at : ℕ) (p : Pair) (ps : List Pair) (es : List Event)
    → IsLeft block read met (Some height) None (path ++ (at, node_with ps []) ∷ []) es → IsLeft block read met (Some height) None (path ++ (at, node_with (p ∷ ps) []) ∷ []) (pair p at ∷ es)
gives_last block read met height path at p ps es l = record {
  level = l.level;
  height_is = omega (arith, l.height_is, length-append path ((at, node_with ps []) ∷ []), length-append path ((at, node_with (p ∷ ps) []) ∷ []));
  is = ap (λ (t : List Event). pair p at ∷ t) (l.is ∙ ap (up_to_bad block met) (last_left read l.level path (at, node_with ps [])))
      ∙ ap (up_to_bad block met) (sym (last_left read l.level path (at, node_with (p ∷ ps) [])));
}

pub gives_child : (block : ℕ) (read : Places) (met : List ℕ) (height : ℕ) (path : List (ℕ × Node)) (at c : ℕ) (cs : List ℕ) (es : List Event)
    → IsLeft block read met (Some height) (Some c) (path ++ (at, node_with [] cs) ∷ []) es → IsLeft block read met (Some height) None (path ++ (at, node_with [] (c ∷ cs)) ∷ []) es
gives_child block read met height path at c cs es l = record {
  level = l.level;
  height_is = omega (arith, l.height_is, length-append path ((at, node_with [] cs) ∷ []), length-append path ((at, node_with [] (c ∷ cs)) ∷ []));
  is = l.is ∙ ap (λ (t : List Event). up_to_bad block met (below read l.level c ++ t)) (last_left read l.level path (at, node_with [] cs))
      ∙ ap (up_to_bad block met) (sym (append_assoc (below read l.level c) (met_on at (below read l.level) [] cs) (left_of read (suc l.level) path)))
      ∙ ap (up_to_bad block met) (sym (last_left read l.level path (at, node_with [] (c ∷ cs))));
}

pub gives_none : (block : ℕ) (read : Places) (met : List ℕ) (height : ℕ) (path : List (ℕ × Node)) (at : ℕ) (es : List Event) → suc (length path) ≤ height
    → IsLeft block read met (Some height) None path es → IsLeft block read met (Some height) None (path ++ (at, node_with [] []) ∷ []) es
gives_none block read met height path at es le l = by l.level l.height_is l.is
  where
    by : (n : ℕ) → n + length path ≡ height → es ≡ up_to_bad block met (left_of read n path) → IsLeft block read met (Some height) None (path ++ (at, node_with [] []) ∷ []) es
    by zero h is = absurd (omega (arith, h, le))
    by (suc n) h is = record {
      level = n;
      height_is = omega (arith, h, length-append path ((at, node_with [] []) ∷ []));
      is = is ∙ ap (up_to_bad block met) (sym (last_left read n path (at, node_with [] [])));
    }
