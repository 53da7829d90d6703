use Rattle.std.proofs.Common.{◌≡◌, ℕ, Some, None, List, [], ◌∷◌, ◌++◌, drop, refl, sym, ap, subst, ◌∙◌, append_assoc, append-nil}
use Rattle.std.specs.Prelude.{is_some}
use Rattle.std.specs.Option.{option_to_list}
use Rattle.std.specs.List.{AllByRecursion}
use Rattle.myi_keys.specs.Limits.{IsKey}
use Rattle.myi_keys.specs.Comparing.{key_front}
use Rattle.myi_keypage.specs.PageItems.{Item, key_after}
use Rattle.myi_keypage.specs.Views.{entries_after, children_of, with_child}
use Rattle.myi_keylist.specs.declared.pair.Pair.{Pair}
use Rattle.myi_keylist.specs.PairOrder.{pair_with}
use Rattle.myi_btree.specs.Nodes.{key_in}
use Rattle.myi_insertion.proofs.RoomLaws.{all_both}
use Rattle.myi_insertion.proofs.PageLaws.{Reads, first_item, no_item, none_is, reads_step, reads_none, reads_end, child_first, node_none, node_failed, node_made, can_write_read}
use Rattle.myi_insertion.proofs.page.read_pairs.Goals as goal

pub returns-in_default-clause-node : goal.returns-in_default-clause-node
returns-in_default-clause-node c = node_none c.args.rec_ref c.args.bytes.now (sym c.in_default.is ∙ c.read_page.ensures.shown)

pub returns-then-not-is_code-clause-node : goal.returns-then-not-is_code-clause-node
returns-then-not-is_code-clause-node c =
    let i = c.loop-item.invariant in
    let it : Item = record { prefix = c.in-Some-next_item.item.prefix; rest = c.in-Some-next_item.item.rest.now; row = c.in-Some-next_item.item.row; child = c.in-Some-next_item.item.child } in
    let items_are : c.loop-item.walk ≡ it ∷ drop 1 c.loop-item.walk = first_item c.loop-item.walk (Some it) it c.in-Some-next_item.ensures.item refl in
    let code_now = c.deref.ensures.value ∙ c.in_ok-change_code.ensures in
    let key_is : key_in (key_after c.loop-item.code.items it) ≡ None = none_is (key_in (key_after c.loop-item.code.items it)) (sym c.if-not-is_code.true ∙ c.is_code.ensures.read ∙ ap (λ t. is_some (key_in t)) code_now) in
    node_failed c.args.rec_ref c.args.bytes.now i.s i.shows
    (reads_none (entries_after [] i.s.items) c.loop-item.code.items it (drop 1 c.loop-item.walk) c.loop-item.pairs
    (subst (λ (t : List Item). Reads (entries_after [] i.s.items) c.loop-item.code.items t c.loop-item.pairs) items_are i.reads) key_is)

pub loop-item-preserved : goal.loop-item-preserved
loop-item-preserved c =
    let i = c.loop-item.invariant in
    let it : Item = record { prefix = c.in-Some-next_item.item.prefix; rest = c.in-Some-next_item.item.rest.now; row = c.in-Some-next_item.item.row; child = c.in-Some-next_item.item.child } in
    let rest : List Item = drop 1 c.loop-item.walk in
    let items_are : c.loop-item.walk ≡ it ∷ rest = first_item c.loop-item.walk (Some it) it c.in-Some-next_item.ensures.item refl in
    let code_now = c.deref.ensures.value ∙ c.in_ok-change_code.ensures in
    let key_now : c.change_code.new.code.items ≡ key_after c.loop-item.code.items it = c.in_ok-change_code.ensures in
    let key_is : key_in (key_after c.loop-item.code.items it) ≡ Some (key_front c.deref.result.now) = ap key_in (sym code_now) ∙ c.is_code.ensures.key c.if-not-is_code.false in
    let step = reads_step (entries_after [] i.s.items) c.loop-item.code.items it rest c.loop-item.pairs (key_front c.deref.result.now)
    (subst (λ (t : List Item). Reads (entries_after [] i.s.items) c.loop-item.code.items t c.loop-item.pairs) items_are i.reads) key_is in
    let same : key_front c.deref-in-Some-next_item.result.now ≡ key_front c.deref.result.now = ap key_front (c.deref-in-Some-next_item.ensures.value ∙ sym c.deref.ensures.value) in
    let pushed : c.push.new.self ≡ c.loop-item.pairs ++ pair_with (key_front c.deref.result.now) it.row ∷ [] = c.in_ok-push.ensures.added ∙ ap (λ k. c.loop-item.pairs ++ pair_with k it.row ∷ []) same in
    let code = c.is_code.ensures.code c.if-not-is_code.false in
    let kids : (c.loop-item.children.items ++ option_to_list it.child) ++ children_of rest ≡ with_child i.s.first (children_of i.s.items) =
    append_assoc c.loop-item.children.items (option_to_list it.child) (children_of rest) ∙ ap (λ (t : List ℕ). c.loop-item.children.items ++ t) (sym (child_first it.child (children_of rest)))
    ∙ ap (λ (t : List Item). c.loop-item.children.items ++ children_of t) (sym items_are) ∙ i.kids in
    record {
      s = i.s;
      shows = i.shows;
      page = i.page;
      reads = rw (key_now, c.in-Some-next_item.ensures.rest, pushed) step;
      kids = rw (c.in_ok-push_child-2.ensures, c.in-Some-next_item.ensures.rest) kids;
      keys = subst (AllByRecursion (λ (p : Pair). IsKey p.key)) (sym pushed) (all_both (λ (p : Pair). IsKey p.key) c.loop-item.pairs (pair_with (key_front c.deref.result.now) it.row ∷ []) i.keys (code.key, tt));
    }

pub returns-clause-node : goal.returns-clause-node
returns-clause-node c =
    let i = c.loop-item.invariant in
    let over : c.loop-item.walk ≡ [] = no_item c.loop-item.walk c.in_default-next_item.ensures.item in
    node_made c.args.rec_ref c.args.bytes.now i.s c.loop-item.pairs c.loop-item.children.items i.shows
    (reads_end (entries_after [] i.s.items) c.loop-item.code.items c.loop-item.pairs (subst (λ (t : List Item). Reads (entries_after [] i.s.items) c.loop-item.code.items t c.loop-item.pairs) over i.reads))
    (sym (append-nil c.loop-item.children.items) ∙ ap (λ (t : List Item). c.loop-item.children.items ++ children_of t) (sym over) ∙ i.kids)

pub returns-clause-written : goal.returns-clause-written
returns-clause-written c =
    let i = c.loop-item.invariant in
    let over : c.loop-item.walk ≡ [] = no_item c.loop-item.walk c.in_default-next_item.ensures.item in
    can_write_read c.args.rec_ref c.args.bytes.now i.s c.loop-item.pairs c.loop-item.children.items i.page
    (reads_end (entries_after [] i.s.items) c.loop-item.code.items c.loop-item.pairs (subst (λ (t : List Item). Reads (entries_after [] i.s.items) c.loop-item.code.items t c.loop-item.pairs) over i.reads))
    (sym (append-nil c.loop-item.children.items) ∙ ap (λ (t : List Item). c.loop-item.children.items ++ children_of t) (sym over) ∙ i.kids)
    i.keys
