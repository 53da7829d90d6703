-- The steps that are counted down the first children lead to the first leaf: pages that are gone into have no byte in
-- common, so there are no more of them than bytes.
use Rattle.std.proofs.Common.{◌≡◌, ℕ, zero, suc, ◌+◌, ◌≤◌, ◌<◌, true, Option, Some, None, List, [], ◌∷◌, ◌++◌, length, map, refl, sym, ap, subst, ◌∙◌, arith, length-append}
use Rattle.std.specs.List.{AllByRecursion}
use Rattle.std.proofs.lemmas.Bool.{and_parts}
use Rattle.std.proofs.lemmas.Option.{same_Some}
use Rattle.myi_base.specs.Ranges.{are_apart, is_apart, AreDisjoint}
use Rattle.myi_btree.specs.Walk.{Node, Places}
use Rattle.myi_btree.specs.Visit.{page_range, is_new, entered, HasFirst, IsDepth}
use Rattle.myi_btree.specs.Events.{Meets, MeetsTree}
use Rattle.myi_btree.specs.TreeEvents.{below_first, below_page, first_depth, events_from, tree_events, AreWithin}
use Rattle.myi_btree.proofs.EventLaws.{entered_is}
use Rattle.myi_btree.proofs.EventWalks.{apart_from, apart_both}
use Rattle.myi_btree.proofs.FewBytes.{filled, few_bytes}

none_some : {A : Type 0} {x : A} → None ≡ Some x → ⊥
none_some e = cc

-- pages that were gone into
record AreMet (len block : ℕ) (met : List ℕ) : Type 0 where
  pub disjoint : AreDisjoint (map (page_range block) met)
  pub inside : AllByRecursion (λ p. p + block ≤ len) met

disjoint_more : (block : ℕ) (met : List ℕ) (p : ℕ) → AreDisjoint (map (page_range block) met) → is_new block p met ≡ true → AreDisjoint (map (page_range block) (met ++ p ∷ []))
disjoint_more block [] p d new = (refl, tt)
disjoint_more block (q ∷ met) p d new =
    let k = and_parts (are_apart (page_range block p) (page_range block q)) (is_apart (page_range block p) (map (page_range block) met)) new in
    (apart_from block (page_range block q) met p d.0 (apart_both (page_range block p) (page_range block q) k.0), disjoint_more block met p d.1 k.1)

inside_more : (len block : ℕ) (met : List ℕ) (p : ℕ) → AllByRecursion (λ q. q + block ≤ len) met → p + block ≤ len → AllByRecursion (λ q. q + block ≤ len) (met ++ p ∷ [])
inside_more len block [] p all here = (here, tt)
inside_more len block (q ∷ met) p all here = (all.0, inside_more len block met p all.1 here)

filled_pages : (len block : ℕ) (met : List ℕ) → 0 < block → AllByRecursion (λ p. p + block ≤ len) met → length met ≤ filled len (map (page_range block) met)
filled_pages len block [] some inside = omega arith
filled_pages len block (p ∷ met) some inside = omega (arith, inside.0, filled_pages len block met some inside.1)

few_pages : (len block : ℕ) (met : List ℕ) → 0 < block → AreMet len block met → length met ≤ len
few_pages len block met some m = omega (arith, filled_pages len block met some m.inside, few_bytes len (map (page_range block) met) m.disjoint)

entered_more : (len block : ℕ) (read : Places) (place : ℕ) (met : List ℕ) (node : Node) → AreWithin len block read → AreMet len block met → entered block read place met ≡ Some node → AreMet len block (met ++ place ∷ [])
entered_more len block read place met node within m e =
    let k = entered_is block read place met node e in
    record { disjoint = disjoint_more block met place m.disjoint k.0; inside = inside_more len block met place m.inside (within place node k.1) }

depth_is : (most len block : ℕ) (read : Places) (place : ℕ) (met : List ℕ) → 0 < block → AreWithin len block read → AreMet len block met → len ≤ most + length met → IsDepth block read (first_depth most block read place met) place met
depth_is zero len block read place met some within m few = λ node e.
    absurd (omega (arith, few_pages len block (met ++ place ∷ []) some (entered_more len block read place met node within m e), length-append met (place ∷ [])))
depth_is (suc most) len block read place met some within m few =
    by (λ c after. depth_is most len block read c (met ++ place ∷ []) some within after (omega (arith, few, length-append met (place ∷ [])))) (entered block read place met) refl
  where
    by : ((c : ℕ) → AreMet len block (met ++ place ∷ []) → IsDepth block read (first_depth most block read c (met ++ place ∷ [])) c (met ++ place ∷ [])) → (o : Option Node) → entered block read place met ≡ o
        → IsDepth block read (below_page (λ child. first_depth most block read child (met ++ place ∷ [])) o) place met
    by below None e = λ node f. absurd (none_some (sym e ∙ f))
    by below (Some node) e = of node.children refl
      where
        of : (cs : List ℕ) → node.children ≡ cs → IsDepth block read (below_first (λ child. first_depth most block read child (met ++ place ∷ [])) cs) place met
        of [] is = λ other f. ap (λ (n : Node). n.children) (sym (same_Some _ _ (sym e ∙ f))) ∙ is
        of (c ∷ cs) is = λ other f.
            subst (HasFirst (λ child. IsDepth block read (first_depth most block read c (met ++ place ∷ [])) child (met ++ place ∷ []))) (sym is ∙ ap (λ (n : Node). n.children) (same_Some _ _ (sym e ∙ f)))
            (below c (entered_more len block read place met node within m e))

pub events_met : (len block : ℕ) (read : Places) (place : ℕ) → 0 < block → AreWithin len block read → Meets block read place (events_from len block read place)
unfolding events_from
events_met len block read place some within = record {
  height = first_depth len block read place [];
  depth = depth_is len len block read place [] some within (record { disjoint = tt; inside = tt }) (omega arith);
  is = refl;
}

pub tree_met : (len block : ℕ) (read : Places) (root : Option ℕ) → 0 < block → AreWithin len block read → MeetsTree block read root (tree_events len block read root)
tree_met len block read None some within = refl
tree_met len block read (Some root) some within = events_met len block read root some within
