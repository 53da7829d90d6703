-- A walk up to the first page that has a byte of a used range is the walk of the reading that has no such pages.
use Rattle.std.proofs.Common.{◌≡◌, ℕ, zero, suc, Bool, true, false, cond, Option, Some, None, List, [], ◌∷◌, ◌++◌, refl, sym, ap, subst, ◌∙◌, append_assoc, append-nil, inl, inr}
use Rattle.std.specs.List.{flat_map}
use Rattle.myi_base.specs.Ranges.{Range, is_apart}
use Rattle.myi_keylist.specs.declared.pair.Pair.{Pair}
use Rattle.myi_btree.specs.Walk.{Node, Places}
use Rattle.myi_btree.specs.Visit.{page_range, is_new, entered, HasFirst, IsDepth}
use Rattle.myi_btree.specs.Events.{Event, page, pair, bad, met_on, met_nothing, events, up_to_bad, Meets}
use Rattle.myi_btree.specs.Used.{up_to_used, apart_from}
use Rattle.myi_btree.proofs.EventLaws.{entered_is, leaf_events, node_events, high_leaf, low_node, no_page, begins_so}

-- cut at the first used page, one list is the other, whatever was met before
abbrev Same : ℕ → List Range → List Event → List Event → Type 0
Same block used es fs = (met : List ℕ) → up_to_used block used (up_to_bad block met es) ≡ up_to_bad block met fs

-- also before lists that are so
abbrev Cut : ℕ → List Range → List Event → List Event → Type 0
Cut block used es fs = (more rest : List Event) → Same block used more rest → Same block used (es ++ more) (fs ++ rest)

cut_pair : (block : ℕ) (used : List Range) (p : Pair) (at : ℕ) (es fs : List Event) → Cut block used es fs → Cut block used (pair p at ∷ es) (pair p at ∷ fs)
cut_pair block used p at es fs c more rest same met = ap (λ (t : List Event). pair p at ∷ t) (c more rest same met)

cut_page : (block : ℕ) (used : List Range) (at : ℕ) (es fs : List Event) → is_apart (page_range block at) used ≡ true → Cut block used es fs → Cut block used (page at ∷ es) (page at ∷ fs)
cut_page block used at es fs apart c more rest same met = by (is_new block at met) refl
  where
    by : (b : Bool) → is_new block at met ≡ b → up_to_used block used (up_to_bad block met (page at ∷ es ++ more)) ≡ up_to_bad block met (page at ∷ fs ++ rest)
    by true e = rw (e, apart) (ap (λ (t : List Event). page at ∷ t) (c more rest same (met ++ at ∷ [])))
    by false e = rw e refl

cut_bad : (block : ℕ) (used : List Range) (at : ℕ) (es fs : List Event) → Cut block used (bad at ∷ es) (bad at ∷ fs)
cut_bad block used at es fs more rest same met = refl

cut_both : (block : ℕ) (used : List Range) (a b c d : List Event) → Cut block used a b → Cut block used c d → Cut block used (a ++ c) (b ++ d)
cut_both block used a b c d x y more rest same met =
    ap (λ (t : List Event). up_to_used block used (up_to_bad block met t)) (append_assoc a c more) ∙ x (c ++ more) (d ++ rest) (y more rest same) met ∙ ap (up_to_bad block met) (sym (append_assoc b d rest))

cut_none : (block : ℕ) (used : List Range) → Cut block used [] []
cut_none block used more rest same = same

cut_all : (block : ℕ) (used : List Range) (f g : ℕ → List Event) → ((c : ℕ) → Cut block used (f c) (g c)) → (cs : List ℕ) → Cut block used (flat_map f cs) (flat_map g cs)
cut_all block used f g ih [] = cut_none block used
cut_all block used f g ih (c ∷ cs) = cut_both block used (f c) (g c) (flat_map f cs) (flat_map g cs) (ih c) (cut_all block used f g ih cs)

cut_met : (block : ℕ) (used : List Range) (f g : ℕ → List Event) → ((c : ℕ) → Cut block used (f c) (g c)) → (place : ℕ) (ps : List Pair) (cs : List ℕ) → Cut block used (met_on place f ps cs) (met_on place g ps cs)
cut_met block used f g ih place [] cs = cut_all block used f g ih cs
cut_met block used f g ih place (p ∷ ps) [] = cut_pair block used p place (met_on place f ps []) (met_on place g ps []) (cut_met block used f g ih place ps [])
cut_met block used f g ih place (p ∷ ps) (c ∷ cs) = cut_pair block used p place (f c ++ met_on place f ps cs) (g c ++ met_on place g ps cs)
    (cut_both block used (f c) (g c) (met_on place f ps cs) (met_on place g ps cs) (ih c) (cut_met block used f g ih place ps cs))

cut_is : (block : ℕ) (used : List Range) (a b c d : List Event) → a ≡ c → b ≡ d → Cut block used c d → Cut block used a b
cut_is block used a b c d e f x = subst (λ (t : List Event). Cut block used t b) (sym e) (subst (λ (t : List Event). Cut block used c t) (sym f) x)

-- where a page is used both end
cut_used : (block : ℕ) (used : List Range) (read : Places) (h place : ℕ) → is_apart (page_range block place) used ≡ false → Cut block used (events read h place) (events (apart_from block used read) h place)
cut_used block used read h place off more rest same met =
    let none : apart_from block used read place ≡ None = rw off refl in
    let end : up_to_bad block met (events (apart_from block used read) h place ++ rest) ≡ bad place ∷ [] = ap (λ (t : List Event). up_to_bad block met (t ++ rest)) (no_page (apart_from block used read) h place none) in
    elim (begins_so read h place) [
      | inl s ↦ ap (λ (t : List Event). up_to_used block used (up_to_bad block met (t ++ more))) s.1 ∙ by s.0 (is_new block place met) refl ∙ sym end
      | inr is ↦ ap (λ (t : List Event). up_to_used block used (up_to_bad block met (t ++ more))) is ∙ sym end
    ]
  where
    by : (es : List Event) (b : Bool) → is_new block place met ≡ b → up_to_used block used (up_to_bad block met (page place ∷ es ++ more)) ≡ bad place ∷ []
    by es true e = rw (e, off) refl
    by es false e = rw e refl

same_node : (block : ℕ) (used : List Range) (read : Places) (place : ℕ) (o : Option Node) → is_apart (page_range block place) used ≡ true → read place ≡ o → apart_from block used read place ≡ o
same_node block used read place o on e = rw (on, e) refl

cut_leaf : (block : ℕ) (used : List Range) (read : Places) (place : ℕ) (node : Node) (cs : List ℕ) → is_apart (page_range block place) used ≡ true → read place ≡ Some node → node.children ≡ cs → Cut block used (events read zero place) (events (apart_from block used read) zero place)
cut_leaf block used read place node [] on e f = cut_is block used _ _ _ _ (leaf_events read place node e f) (leaf_events (apart_from block used read) place node (same_node block used read place (Some node) on e) f)
    (cut_page block used place (met_on place met_nothing node.pairs []) (met_on place met_nothing node.pairs []) on (cut_met block used met_nothing met_nothing (λ c. cut_bad block used c [] []) place node.pairs []))
cut_leaf block used read place node (c ∷ cs) on e f =
    cut_is block used _ _ _ _ (low_node read place node c cs e f) (low_node (apart_from block used read) place node c cs (same_node block used read place (Some node) on e) f) (cut_bad block used place [] [])

cut_node : (block : ℕ) (used : List Range) (read : Places) (h place : ℕ) → ((c : ℕ) → Cut block used (events read h c) (events (apart_from block used read) h c)) → (node : Node) (cs : List ℕ) → is_apart (page_range block place) used ≡ true → read place ≡ Some node → node.children ≡ cs
    → Cut block used (events read (suc h) place) (events (apart_from block used read) (suc h) place)
cut_node block used read h place ih node [] on e f =
    cut_is block used _ _ _ _ (high_leaf read h place node e f) (high_leaf (apart_from block used read) h place node (same_node block used read place (Some node) on e) f) (cut_bad block used place [] [])
cut_node block used read h place ih node (c ∷ cs) on e f = cut_is block used _ _ _ _ (node_events read h place node c cs e f) (node_events (apart_from block used read) h place node c cs (same_node block used read place (Some node) on e) f)
    (cut_page block used place (events read h c ++ met_on place (events read h) node.pairs cs) (events (apart_from block used read) h c ++ met_on place (events (apart_from block used read) h) node.pairs cs) on
    (cut_both block used (events read h c) (events (apart_from block used read) h c) (met_on place (events read h) node.pairs cs) (met_on place (events (apart_from block used read) h) node.pairs cs) (ih c)
    (cut_met block used (events read h) (events (apart_from block used read) h) ih place node.pairs cs)))

cut_gone : (block : ℕ) (used : List Range) (read : Places) (h place : ℕ) → is_apart (page_range block place) used ≡ true → read place ≡ None → Cut block used (events read h place) (events (apart_from block used read) h place)
cut_gone block used read h place on e = cut_is block used _ _ _ _ (no_page read h place e) (no_page (apart_from block used read) h place (same_node block used read place None on e)) (cut_bad block used place [] [])

cut_events : (block : ℕ) (used : List Range) (read : Places) (h place : ℕ) → Cut block used (events read h place) (events (apart_from block used read) h place)
cut_events block used read zero place = by (is_apart (page_range block place) used) refl (read place) refl
  where
    by : (b : Bool) → is_apart (page_range block place) used ≡ b → (o : Option Node) → read place ≡ o → Cut block used (events read zero place) (events (apart_from block used read) zero place)
    by false off o e = cut_used block used read zero place off
    by true on None e = cut_gone block used read zero place on e
    by true on (Some node) e = cut_leaf block used read place node node.children on e refl
cut_events block used read (suc h) place = by (cut_events block used read h) (is_apart (page_range block place) used) refl (read place) refl
  where
    by : ((c : ℕ) → Cut block used (events read h c) (events (apart_from block used read) h c)) → (b : Bool) → is_apart (page_range block place) used ≡ b → (o : Option Node) → read place ≡ o → Cut block used (events read (suc h) place) (events (apart_from block used read) (suc h) place)
    by ih false off o e = cut_used block used read (suc h) place off
    by ih true on None e = cut_gone block used read (suc h) place on e
    by ih true on (Some node) e = cut_node block used read h place ih node node.children on e refl

-- ---- the depth

entered_more : (block : ℕ) (used : List Range) (read : Places) (place : ℕ) (met : List ℕ) (node : Node) → entered block (apart_from block used read) place met ≡ Some node → entered block read place met ≡ Some node
entered_more block used read place met node e =
    let k = entered_is block (apart_from block used read) place met node e in
    let r : read place ≡ Some node = by (is_apart (page_range block place) used) k.1 in
    rw (k.0, r) refl
  where
    by : (b : Bool) → cond b (read place) None ≡ Some node → read place ≡ Some node
    by true e = e
    by false e = absurd cc

first_so : (P : ℕ → Type 0) (Q : ℕ → Type 0) → ((c : ℕ) → P c → Q c) → (cs : List ℕ) → HasFirst P cs → HasFirst Q cs
first_so P Q f [] h = absurd h
first_so P Q f (c ∷ cs) h = f c h

depth_apart : (block : ℕ) (used : List Range) (read : Places) (h place : ℕ) (met : List ℕ) → IsDepth block read h place met → IsDepth block (apart_from block used read) h place met
depth_apart block used read zero place met d = λ node e. d node (entered_more block used read place met node e)
depth_apart block used read (suc h) place met d = λ node e.
    first_so (λ child. IsDepth block read h child (met ++ place ∷ [])) (λ child. IsDepth block (apart_from block used read) h child (met ++ place ∷ [])) (λ c p. depth_apart block used read h c (met ++ place ∷ []) p) node.children
    (d node (entered_more block used read place met node e))

pub meets_apart : (block : ℕ) (used : List Range) (read : Places) (place : ℕ) (es : List Event) → Meets block read place es → Meets block (apart_from block used read) place (up_to_used block used es)
meets_apart block used read place es m = record {
  height = m.height;
  depth = depth_apart block used read m.height place [] m.depth;
  is = ap (up_to_used block used) (m.is ∙ ap (up_to_bad block []) (sym (append-nil (events read m.height place)))) ∙ cut_events block used read m.height place [] [] (λ met. refl) []
      ∙ ap (up_to_bad block []) (append-nil (events (apart_from block used read) m.height place));
}
