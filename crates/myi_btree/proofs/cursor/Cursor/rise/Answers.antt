use Rattle.std.proofs.Common.{◌≡◌, ◌∙◌, ◌∷◌, ◌-◌, ℕ, suc, length, take, vec_len, List, Option, Some, None, [], sym, subst, refl, arith}
use Rattle.std.specs.Vec.{with_item}
use Rattle.std.specs.Vec.Iter.{into_iter_items}
use Rattle.myi_keylist.specs.declared.pair.Pair.{Pair}
use Rattle.myi_btree.specs.declared.cursor.Cursor.{Cursor}
use Rattle.myi_btree.specs.declared.visited.OpenPage.{OpenPage}
use Rattle.myi_btree.specs.Events.{pair}
use Rattle.myi_btree.specs.Visited.{Takes}
use Rattle.myi_btree.proofs.StepLaws.{steps_hand, steps_gone}
use Rattle.myi_btree.proofs.LastPage.{last_is, last_set, front_set}
use Rattle.myi_btree.proofs.CursorLaws.{none_of, steps_of, rises_pair, rises_child, rises_none, rises_on, rises_same, some_of, not_some}
use Rattle.myi_btree.proofs.cursor.Cursor.rise.Goals as goal

pub returns-then-is_some-clause-rises : goal.returns-then-is_some-clause-rises
returns-then-is_some-clause-rises c = rises_same c.args.self.now

pub returns-in-Some-pair-clause-rises : goal.returns-in-Some-pair-clause-rises
returns-in-Some-pair-clause-rises c =
    let old : Cursor = c.loop-page.self in
    let n : ℕ = vec_len old.path - 1 in
    let some = (c.in-Some.ensures.variant).0 refl in
    let long : length old.path.items ≡ suc n = omega (arith, old.path.ok.0, some) in
    let front : List OpenPage = take n old.path.items in
    let new : Cursor = record c.loop-page.self { down = c.next_child-self.result; path = with_item old.path n c.next_child-self.new.self } in
    let takes : Takes (Some c.in-Some-pair.pair) (into_iter_items c.in-Some.page.now.pairs) (into_iter_items c.next_pair-pair.new.self.pairs) = subst (λ (o : Option Pair). Takes o (into_iter_items c.in-Some.page.now.pairs) (into_iter_items c.next_pair-pair.new.self.pairs)) c.in-Some-pair.is c.next_pair-pair.ensures.pair in
    let s = steps_of old new front c.in-Some.page.now c.next_pair-pair.new.self c.next_child-self.new.self (Some c.in-Some-pair.pair) (last_is old.path.items n c.in-Some.page.now long c.in-Some.ensures.value) c.loop-page.invariant.down takes c.next_pair-pair.ensures.at c.next_pair-pair.ensures.children c.next_child-self.ensures.child c.next_child-self.ensures.at c.next_child-self.ensures.pairs refl in
    rises_on c.args.self.now old new (pair c.in-Some-pair.pair c.in-Some.page.now.at ∷ []) c.loop-page.invariant.rises
    (rises_pair old new front c.in-Some.page.now c.next_child-self.new.self c.in-Some-pair.pair s (last_set old.path.items n c.next_child-self.new.self long))

pub returns-in-Some-pair-clause-hand : goal.returns-in-Some-pair-clause-hand
returns-in-Some-pair-clause-hand c =
    let old : Cursor = c.loop-page.self in
    let n : ℕ = vec_len old.path - 1 in
    let some = (c.in-Some.ensures.variant).0 refl in
    let long : length old.path.items ≡ suc n = omega (arith, old.path.ok.0, some) in
    let front : List OpenPage = take n old.path.items in
    let new : Cursor = record c.loop-page.self { down = c.next_child-self.result; path = with_item old.path n c.next_child-self.new.self } in
    let takes : Takes (Some c.in-Some-pair.pair) (into_iter_items c.in-Some.page.now.pairs) (into_iter_items c.next_pair-pair.new.self.pairs) = subst (λ (o : Option Pair). Takes o (into_iter_items c.in-Some.page.now.pairs) (into_iter_items c.next_pair-pair.new.self.pairs)) c.in-Some-pair.is c.next_pair-pair.ensures.pair in
    let s = steps_of old new front c.in-Some.page.now c.next_pair-pair.new.self c.next_child-self.new.self (Some c.in-Some-pair.pair) (last_is old.path.items n c.in-Some.page.now long c.in-Some.ensures.value) c.loop-page.invariant.down takes c.next_pair-pair.ensures.at c.next_pair-pair.ensures.children c.next_child-self.ensures.child c.next_child-self.ensures.at c.next_child-self.ensures.pairs refl in
    omega (arith, c.loop-page.invariant.hand, steps_hand old new front c.in-Some.page.now c.next_child-self.new.self (Some c.in-Some-pair.pair) s (last_set old.path.items n c.next_child-self.new.self long))

pub returns-then-is_some-2-clause-rises : goal.returns-then-is_some-2-clause-rises
returns-then-is_some-2-clause-rises c =
    let old : Cursor = c.loop-page.self in
    let n : ℕ = vec_len old.path - 1 in
    let some = (c.in-Some.ensures.variant).0 refl in
    let long : length old.path.items ≡ suc n = omega (arith, old.path.ok.0, some) in
    let front : List OpenPage = take n old.path.items in
    let new : Cursor = record c.loop-page.self { down = c.next_child-self.result; path = with_item old.path n c.next_child-self.new.self } in
    let none = none_of c.next_pair-pair.result c.in_default-pair.not-Some in
    let child = some_of c.next_child-self.result (sym c.is_some-in-Some.ensures ∙ c.if-is_some-2.true) in
    let takes : Takes None (into_iter_items c.in-Some.page.now.pairs) (into_iter_items c.next_pair-pair.new.self.pairs) = subst (λ (o : Option Pair). Takes o (into_iter_items c.in-Some.page.now.pairs) (into_iter_items c.next_pair-pair.new.self.pairs)) none c.next_pair-pair.ensures.pair in
    let s = steps_of old new front c.in-Some.page.now c.next_pair-pair.new.self c.next_child-self.new.self None (last_is old.path.items n c.in-Some.page.now long c.in-Some.ensures.value) c.loop-page.invariant.down takes c.next_pair-pair.ensures.at c.next_pair-pair.ensures.children c.next_child-self.ensures.child c.next_child-self.ensures.at c.next_child-self.ensures.pairs refl in
    rises_on c.args.self.now old new [] c.loop-page.invariant.rises
    (rises_child old new front c.in-Some.page.now c.next_child-self.new.self child.0 s child.1 (last_set old.path.items n c.next_child-self.new.self long))

pub returns-then-is_some-2-clause-hand : goal.returns-then-is_some-2-clause-hand
returns-then-is_some-2-clause-hand c =
    let old : Cursor = c.loop-page.self in
    let n : ℕ = vec_len old.path - 1 in
    let some = (c.in-Some.ensures.variant).0 refl in
    let long : length old.path.items ≡ suc n = omega (arith, old.path.ok.0, some) in
    let front : List OpenPage = take n old.path.items in
    let new : Cursor = record c.loop-page.self { down = c.next_child-self.result; path = with_item old.path n c.next_child-self.new.self } in
    let none = none_of c.next_pair-pair.result c.in_default-pair.not-Some in
    let child = some_of c.next_child-self.result (sym c.is_some-in-Some.ensures ∙ c.if-is_some-2.true) in
    let takes : Takes None (into_iter_items c.in-Some.page.now.pairs) (into_iter_items c.next_pair-pair.new.self.pairs) = subst (λ (o : Option Pair). Takes o (into_iter_items c.in-Some.page.now.pairs) (into_iter_items c.next_pair-pair.new.self.pairs)) none c.next_pair-pair.ensures.pair in
    let s = steps_of old new front c.in-Some.page.now c.next_pair-pair.new.self c.next_child-self.new.self None (last_is old.path.items n c.in-Some.page.now long c.in-Some.ensures.value) c.loop-page.invariant.down takes c.next_pair-pair.ensures.at c.next_pair-pair.ensures.children c.next_child-self.ensures.child c.next_child-self.ensures.at c.next_child-self.ensures.pairs refl in
    omega (arith, c.loop-page.invariant.hand, steps_hand old new front c.in-Some.page.now c.next_child-self.new.self None s (last_set old.path.items n c.next_child-self.new.self long))

pub loop-page-preserved-else-is_some-2 : goal.loop-page-preserved-else-is_some-2
loop-page-preserved-else-is_some-2 c =
    let i = c.loop-page.invariant in
    let old : Cursor = c.loop-page.self in
    let n : ℕ = vec_len old.path - 1 in
    let some = (c.in-Some.ensures.variant).0 refl in
    let long : length old.path.items ≡ suc n = omega (arith, old.path.ok.0, some) in
    let front : List OpenPage = take n old.path.items in
    let new : Cursor = record c.loop-page.self { down = c.next_child-self.result; path = c.pop.new.self } in
    let none = none_of c.next_pair-pair.result c.in_default-pair.not-Some in
    let childless : c.next_child-self.result ≡ None = not_some c.next_child-self.result (sym c.is_some-in-Some.ensures ∙ c.if-is_some-2.false) in
    let takes : Takes None (into_iter_items c.in-Some.page.now.pairs) (into_iter_items c.next_pair-pair.new.self.pairs) = subst (λ (o : Option Pair). Takes o (into_iter_items c.in-Some.page.now.pairs) (into_iter_items c.next_pair-pair.new.self.pairs)) none c.next_pair-pair.ensures.pair in
    let s = steps_of old new front c.in-Some.page.now c.next_pair-pair.new.self c.next_child-self.new.self None (last_is old.path.items n c.in-Some.page.now long c.in-Some.ensures.value) i.down takes c.next_pair-pair.ensures.at c.next_pair-pair.ensures.children c.next_child-self.ensures.child c.next_child-self.ensures.at c.next_child-self.ensures.pairs refl in
    record {
      down = childless;
      visited = i.visited;
      setup = i.setup;
      rises = rises_on c.args.self.now old new [] i.rises (rises_none old new front c.in-Some.page.now c.next_child-self.new.self s childless (c.pop.ensures.rest ∙ front_set old.path.items n c.next_child-self.new.self));
      hand = omega (arith, i.hand, steps_gone old new front c.in-Some.page.now c.next_child-self.new.self s childless (c.pop.ensures.rest ∙ front_set old.path.items n c.next_child-self.new.self));
    }

pub returns-clause-rises : goal.returns-clause-rises
returns-clause-rises c = c.loop-page.invariant.rises
