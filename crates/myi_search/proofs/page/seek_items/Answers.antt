use Rattle.std.proofs.Common.{◌≡◌, List, ◌∷◌, drop, refl, sym, ap, subst, ◌∙◌}
use Rattle.std.specs.Prelude.{is_some}
use Rattle.myi_keypage.specs.PageItems.{Item, key_after}
use Rattle.myi_keys.specs.Comparing.{key_front}
use Rattle.myi_keylist.specs.PairOrder.{pair_with}
use Rattle.myi_btree.specs.Nodes.{key_in}
use Rattle.myi_search.specs.Passing.{passes}
use Rattle.myi_search.specs.Seeking.{Seeking}
use Rattle.myi_search.proofs.SeekLaws.{AreAlike, HasShape, view_shape, seek_start, seek_step, seek_failed, seek_kept_at, seek_ended_at, reached_is, first_item, none_is}
use Rattle.myi_search.proofs.page.seek_items.Goals as goal

pub loop-item-init : goal.loop-item-init
loop-item-init c =
    let shape : HasShape c.args.view.now = view_shape c.args.view.now c.requires in
    record {
      node = shape.node;
      child = ap is_some c.first_child-child.ensures ∙ shape.first;
      alike = subst (λ (t : List Item). AreAlike shape.node t) (sym c.walk-walk.ensures) shape.items;
      seeking = rw (c.walk-walk.ensures, c.first_child-child.ensures) (seek_start (passes c.args.bound.now) c.args.view.now c.begin_page.new.self.code.items c.begin_page.ensures.code);
      best = c.begin_page.ensures.best;
      row = c.begin_page.ensures.row;
      gathers = c.begin_page.ensures.gathers;
      run = c.begin_page.ensures.run;
    }

pub returns-then-not-is_code-clause-seeks : goal.returns-then-not-is_code-clause-seeks
returns-then-not-is_code-clause-seeks c =
    let it : Item = record { prefix = c.in-Some.item.prefix; rest = c.in-Some.item.rest.now; row = c.in-Some.item.row; child = c.in-Some.item.child } in
    let items_are : c.loop-item.walk ≡ it ∷ drop 1 c.loop-item.walk = first_item c.loop-item.walk _ it c.in-Some.ensures.item refl in
    let code_now = c.deref.ensures.value ∙ c.in_ok-read.ensures.code in
    seek_failed (passes c.args.bound.now) c.args.view.now c.loop-item.reached.code.items it (drop 1 c.loop-item.walk) c.loop-item.child _ _
    (subst (λ (t : List Item). Seeking (passes c.args.bound.now) c.args.view.now c.loop-item.reached.code.items t c.loop-item.child) items_are c.loop-item.invariant.seeking)
    (none_is (key_in (key_after c.loop-item.reached.code.items it)) (sym c.if-not-is_code.true ∙ c.is_code.ensures.read ∙ ap (λ t. is_some (key_in t)) code_now))

pub returns-then-all-clause-seeks : goal.returns-then-all-clause-seeks
returns-then-all-clause-seeks c =
    let it : Item = record { prefix = c.in-Some.item.prefix; rest = c.in-Some.item.rest.now; row = c.in-Some.item.row; child = c.in-Some.item.child } in
    let rest : List Item = drop 1 c.loop-item.walk in
    let items_are : c.loop-item.walk ≡ it ∷ rest = first_item c.loop-item.walk _ it c.in-Some.ensures.item refl in
    let code_now = c.deref.ensures.value ∙ c.in_ok-read.ensures.code in
    seek_kept_at (passes c.args.bound.now) c.args.view.now c.loop-item.invariant.node c.loop-item.reached.code.items c.reach.new.self.code.items it rest c.next_item.new.self c.loop-item.child (key_front c.deref.result.now) _ _ c.way_to.result
    (subst (λ (t : List Item). Seeking (passes c.args.bound.now) c.args.view.now c.loop-item.reached.code.items t c.loop-item.child) items_are c.loop-item.invariant.seeking)
    (ap key_in (sym code_now) ∙ c.is_code.ensures.key c.if-not-is_code.false)
    (ap (λ t. passes c.args.bound.now (pair_with (key_front t) c.in-Some.item.row)) (c.deref.ensures.value ∙ sym c.deref-in-Some.ensures.value) ∙ sym c.passes.ensures ∙ c.if-not-passes.true)
    c.loop-item.invariant.child
    (subst (λ (t : List Item). AreAlike c.loop-item.invariant.node t) items_are c.loop-item.invariant.alike)
    (ap (λ v. v.items) c.in_ok-reach.ensures.code ∙ c.in_ok-read.ensures.code)
    c.next_item.ensures.rest
    (sym c.in_ok-all.ensures.all ∙ c.if-all.true)
    (reached_is c.are_codes.new.reached c.deref.result.now c.in-Some.item.row (ap (λ v. v.items) c.in_ok-all.ensures.best ∙ c.in_ok-reach.ensures.best ∙ sym c.deref.ensures.value) (c.in_ok-all.ensures.row ∙ c.in_ok-reach.ensures.row))
    c.way_to.ensures

pub returns-else-all-clause-seeks : goal.returns-else-all-clause-seeks
returns-else-all-clause-seeks c =
    let it : Item = record { prefix = c.in-Some.item.prefix; rest = c.in-Some.item.rest.now; row = c.in-Some.item.row; child = c.in-Some.item.child } in
    let rest : List Item = drop 1 c.loop-item.walk in
    let items_are : c.loop-item.walk ≡ it ∷ rest = first_item c.loop-item.walk _ it c.in-Some.ensures.item refl in
    let code_now = c.deref.ensures.value ∙ c.in_ok-read.ensures.code in
    seek_ended_at (passes c.args.bound.now) c.args.view.now c.loop-item.reached.code.items c.reach.new.self.code.items it rest c.next_item.new.self c.loop-item.child (key_front c.deref.result.now) _ _ _
    (subst (λ (t : List Item). Seeking (passes c.args.bound.now) c.args.view.now c.loop-item.reached.code.items t c.loop-item.child) items_are c.loop-item.invariant.seeking)
    (ap key_in (sym code_now) ∙ c.is_code.ensures.key c.if-not-is_code.false)
    (ap (λ v. v.items) c.in_ok-reach.ensures.code ∙ c.in_ok-read.ensures.code)
    c.next_item.ensures.rest
    (sym c.in_ok-all.ensures.all ∙ c.if-all.false)
    refl

pub loop-item-preserved : goal.loop-item-preserved
loop-item-preserved c =
    let it : Item = record { prefix = c.in-Some.item.prefix; rest = c.in-Some.item.rest.now; row = c.in-Some.item.row; child = c.in-Some.item.child } in
    let rest : List Item = drop 1 c.loop-item.walk in
    let items_are : c.loop-item.walk ≡ it ∷ rest = first_item c.loop-item.walk _ it c.in-Some.ensures.item refl in
    let code_now = c.deref.ensures.value ∙ c.in_ok-read.ensures.code in
    let alike : AreAlike c.loop-item.invariant.node (it ∷ rest) = subst (λ (t : List Item). AreAlike c.loop-item.invariant.node t) items_are c.loop-item.invariant.alike in
    let step = seek_step (passes c.args.bound.now) c.args.view.now c.loop-item.invariant.node c.loop-item.reached.code.items it rest c.loop-item.child (key_front c.deref.result.now)
    (subst (λ (t : List Item). Seeking (passes c.args.bound.now) c.args.view.now c.loop-item.reached.code.items t c.loop-item.child) items_are c.loop-item.invariant.seeking)
    (ap key_in (sym code_now) ∙ c.is_code.ensures.key c.if-not-is_code.false)
    (ap (λ t. passes c.args.bound.now (pair_with (key_front t) c.in-Some.item.row)) (c.deref.ensures.value ∙ sym c.deref-in-Some.ensures.value) ∙ sym c.passes.ensures ∙ c.if-not-passes.false)
    c.loop-item.invariant.child alike in
    record {
      node = c.loop-item.invariant.node;
      child = alike.0;
      alike = subst (λ (t : List Item). AreAlike c.loop-item.invariant.node t) (sym c.next_item.ensures.rest) alike.1;
      seeking = rw (c.in_ok-read.ensures.code, c.next_item.ensures.rest) step;
      best = c.in_ok-read.ensures.best ∙ c.loop-item.invariant.best;
      row = c.in_ok-read.ensures.row ∙ c.loop-item.invariant.row;
      gathers = c.in_ok-read.ensures.gathers ∙ c.loop-item.invariant.gathers;
      run = c.in_ok-read.ensures.run ∙ c.loop-item.invariant.run;
    }
