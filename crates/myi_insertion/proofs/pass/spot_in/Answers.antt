use Rattle.std.proofs.Common.{◌≡◌, ℕ, List, ◌∷◌, drop, refl, sym, ap, ◌∙◌, arith}
use Rattle.std.specs.Ordering.{is_gt}
use Rattle.myi_base.specs.Numbers.{AreBytes}
use Rattle.myi_keypage.specs.PageItems.{Item}
use Rattle.myi_keys.specs.Comparing.{key_front}
use Rattle.myi_keylist.specs.declared.pair.Pair.{Pair}
use Rattle.myi_keylist.specs.PairOrder.{pair_with, pair_cmp}
use Rattle.myi_insertion.proofs.PageLaws.{first_item, no_item, node_none}
use Rattle.myi_insertion.proofs.SpotLaws.{ReadBack, read_start, read_more, spot_stop, spot_end, on_page, index_few}
use Rattle.myi_insertion.proofs.pass.spot_in.Goals as goal

pub returns-in_default-clause-none : goal.returns-in_default-clause-none
returns-in_default-clause-none c = sym (node_none c.args.rec_ref c.args.bytes.now (sym c.in_default.is ∙ c.read_page.ensures.shown))

pub loop-item-init : goal.loop-item-init
loop-item-init c =
    let p : Pair = pair_with (key_front c.args.key.now) c.args.row in
    read_start c.args.rec_ref c.args.bytes.now p c.in-Some.view c.new-code.result.items c.walk-walk.result c.first_child-child.result (sym c.in-Some.is ∙ c.read_page.ensures.shown) c.in-Some.ensures.found c.new-code.ensures.items c.walk-walk.ensures c.first_child-child.ensures

pub overflow_add-index : goal.overflow_add-index
overflow_add-index c =
    let p : Pair = pair_with (key_front c.args.key.now) c.args.row in
    let it : Item = record { prefix = c.in-Some-next_item.item.prefix; rest = c.in-Some-next_item.item.rest.now; row = c.in-Some-next_item.item.row; child = c.in-Some-next_item.item.child } in
    let items_are : c.loop-item.walk ≡ it ∷ drop 1 c.loop-item.walk = first_item c.loop-item.walk _ it c.in-Some-next_item.ensures.item refl in
    omega (arith, index_few c.args.rec_ref c.args.bytes.now p c.loop-item.code.items it c.loop-item.walk (drop 1 c.loop-item.walk) c.loop-item.index c.loop-item.child c.loop-item.invariant items_are)

pub returns-then-not-is_behind-clause-page : goal.returns-then-not-is_behind-clause-page
returns-then-not-is_behind-clause-page c =
    on_page c.args.rec_ref c.args.bytes.now (pair_with (key_front c.args.key.now) c.args.row) c.loop-item.code.items c.loop-item.walk c.loop-item.index c.loop-item.child c.loop-item.invariant

pub returns-then-not-is_behind-clause-spot : goal.returns-then-not-is_behind-clause-spot
returns-then-not-is_behind-clause-spot c = λ some.
    let p : Pair = pair_with (key_front c.args.key.now) c.args.row in
    let it : Item = record { prefix = c.in-Some-next_item.item.prefix; rest = c.in-Some-next_item.item.rest.now; row = c.in-Some-next_item.item.row; child = c.in-Some-next_item.item.child } in
    let items_are : c.loop-item.walk ≡ it ∷ drop 1 c.loop-item.walk = first_item c.loop-item.walk _ it c.in-Some-next_item.ensures.item refl in
    spot_stop (c.codes_read_back.ensures.written, c.codes_read_back.ensures.limits) c.args.rec_ref c.args.bytes.now p c.loop-item.code.items c.change_code.new.code.items it c.loop-item.walk (drop 1 c.loop-item.walk) c.loop-item.index c.loop-item.child
    (λ i. omega (arith, c.type_inv.bytes i)) c.loop-item.invariant items_are c.in_ok-change_code.ensures
    (ap (λ (t : List ℕ). is_gt (pair_cmp p (pair_with (key_front t) it.row))) (sym c.deref.ensures.value) ∙ sym c.is_behind.ensures ∙ c.if-not-is_behind.true) some

pub loop-item-preserved : goal.loop-item-preserved
loop-item-preserved c =
    let p : Pair = pair_with (key_front c.args.key.now) c.args.row in
    let it : Item = record { prefix = c.in-Some-next_item.item.prefix; rest = c.in-Some-next_item.item.rest.now; row = c.in-Some-next_item.item.row; child = c.in-Some-next_item.item.child } in
    let items_are : c.loop-item.walk ≡ it ∷ drop 1 c.loop-item.walk = first_item c.loop-item.walk _ it c.in-Some-next_item.ensures.item refl in
    let whole : c.loop-item.walk ≡ it ∷ c.next_item.new.self = items_are ∙ ap (λ (t : List Item). it ∷ t) (sym c.in-Some-next_item.ensures.rest) in
    read_more c.args.rec_ref c.args.bytes.now p c.loop-item.code.items c.change_code.new.code.items it c.loop-item.walk c.next_item.new.self c.loop-item.index _ c.loop-item.child _ c.loop-item.invariant whole c.in_ok-change_code.ensures
    (ap (λ (t : List ℕ). is_gt (pair_cmp p (pair_with (key_front t) it.row))) (sym c.deref.ensures.value) ∙ sym c.is_behind.ensures ∙ c.if-not-is_behind.false) refl refl

pub returns-clause-page : goal.returns-clause-page
returns-clause-page c =
    on_page c.args.rec_ref c.args.bytes.now (pair_with (key_front c.args.key.now) c.args.row) c.loop-item.code.items c.loop-item.walk c.loop-item.index c.loop-item.child c.loop-item.invariant

pub returns-clause-spot : goal.returns-clause-spot
returns-clause-spot c = λ some.
    let p : Pair = pair_with (key_front c.args.key.now) c.args.row in
    spot_end (c.codes_read_back.ensures.written, c.codes_read_back.ensures.limits) c.args.rec_ref c.args.bytes.now p c.loop-item.code.items c.loop-item.walk c.loop-item.index c.loop-item.child (λ i. omega (arith, c.type_inv.bytes i)) c.loop-item.invariant (no_item c.loop-item.walk c.in_default-next_item.ensures.item) some
