use Rattle.std.proofs.Common.{◌≡◌, ℕ, Some, None, List, [], ◌∷◌, ◌++◌, drop, refl, sym, ap, subst, ◌∙◌, append_assoc, append-nil}
use Rattle.std.specs.Option.{option_to_list}
use Rattle.myi_keypage.specs.PageItems.{Item, key_after}
use Rattle.myi_keypage.specs.Views.{entries_after, children_of, with_child}
use Rattle.myi_btree.specs.Nodes.{key_in}
use Rattle.myi_btree.proofs.NodeLaws.{Reads, first_item, no_item, reads_step, reads_none, reads_end, child_first, node_none, node_failed, node_made}
use Rattle.myi_btree.proofs.node.read_node.Goals as goal

pub returns-in_default : goal.returns-in_default
returns-in_default c = node_none c.args.rec_ref c.args.bytes.now (sym c.in_default.is ∙ c.read_page.ensures.shown)

pub returns-in_default-2 : goal.returns-in_default-2
returns-in_default-2 c =
    let it : Item = record { prefix = c.in-Some-next_item.item.prefix; rest = c.in-Some-next_item.item.rest.now; row = c.in-Some-next_item.item.row; child = c.in-Some-next_item.item.child } in
    let items_are : c.loop-item.walk ≡ it ∷ drop 1 c.loop-item.walk = first_item c.loop-item.walk (Some it) it c.in-Some-next_item.ensures.item refl in
    let key_is : key_in (key_after c.loop-item.code.items it) ≡ None = sym (c.in_ok-key.ensures ∙ ap key_in (c.deref.ensures.value ∙ c.in_ok-change_code.ensures)) ∙ c.in_default-2.is in
    node_failed c.args.rec_ref c.args.bytes.now c.loop-item.invariant.s c.loop-item.invariant.shows
    (reads_none (entries_after [] c.loop-item.invariant.s.items) c.loop-item.code.items it (drop 1 c.loop-item.walk) c.loop-item.pairs.items
    (subst (λ (t : List Item). Reads (entries_after [] c.loop-item.invariant.s.items) c.loop-item.code.items t c.loop-item.pairs.items) items_are c.loop-item.invariant.reads) key_is)

pub loop-item-preserved : goal.loop-item-preserved
loop-item-preserved c =
    let it : Item = record { prefix = c.in-Some-next_item.item.prefix; rest = c.in-Some-next_item.item.rest.now; row = c.in-Some-next_item.item.row; child = c.in-Some-next_item.item.child } in
    let rest : List Item = drop 1 c.loop-item.walk in
    let items_are : c.loop-item.walk ≡ it ∷ rest = first_item c.loop-item.walk (Some it) it c.in-Some-next_item.ensures.item refl in
    let key_now : c.change_code.new.code.items ≡ key_after c.loop-item.code.items it = c.in_ok-change_code.ensures in
    let key_is : key_in (key_after c.loop-item.code.items it) ≡ Some c.in-Some-2.key = sym (c.in_ok-key.ensures ∙ ap key_in (c.deref.ensures.value ∙ c.in_ok-change_code.ensures)) ∙ c.in-Some-2.is in
    let step = reads_step (entries_after [] c.loop-item.invariant.s.items) c.loop-item.code.items it rest c.loop-item.pairs.items c.in-Some-2.key
    (subst (λ (t : List Item). Reads (entries_after [] c.loop-item.invariant.s.items) c.loop-item.code.items t c.loop-item.pairs.items) items_are c.loop-item.invariant.reads) key_is in
    let kids : (c.loop-item.children.items ++ option_to_list it.child) ++ children_of rest ≡ with_child c.loop-item.invariant.s.first (children_of c.loop-item.invariant.s.items) =
    append_assoc c.loop-item.children.items (option_to_list it.child) (children_of rest) ∙ ap (λ (t : List ℕ). c.loop-item.children.items ++ t) (sym (child_first it.child (children_of rest)))
    ∙ ap (λ (t : List Item). c.loop-item.children.items ++ children_of t) (sym items_are) ∙ c.loop-item.invariant.kids in
    record {
      s = c.loop-item.invariant.s;
      shows = c.loop-item.invariant.shows;
      reads = rw (key_now, c.in-Some-next_item.ensures.rest, c.in_ok-push.ensures.items) step;
      kids = rw (c.in_ok-push_child-2.ensures, c.in-Some-next_item.ensures.rest) kids;
    }

pub returns : goal.returns
returns c =
    let over : c.loop-item.walk ≡ [] = no_item c.loop-item.walk c.in_default-next_item.ensures.item in
    node_made c.args.rec_ref c.args.bytes.now c.loop-item.invariant.s c.loop-item.pairs.items c.loop-item.children.items c.loop-item.invariant.shows
    (reads_end (entries_after [] c.loop-item.invariant.s.items) c.loop-item.code.items c.loop-item.pairs.items (subst (λ (t : List Item). Reads (entries_after [] c.loop-item.invariant.s.items) c.loop-item.code.items t c.loop-item.pairs.items) over c.loop-item.invariant.reads))
    (sym (append-nil c.loop-item.children.items) ∙ ap (λ (t : List Item). c.loop-item.children.items ++ children_of t) (sym over) ∙ c.loop-item.invariant.kids)
