use Rattle.std.proofs.Common.{◌+◌, [], refl, sym, ap, subst, arith, append-nil, map}
use Rattle.myi_keycache.specs.Ring.{IsLinked, Linked, node_of, ring_of}
use Rattle.myi_keycache.proofs.LinkLemmas.{can_warm, put_warm_end}
use Rattle.myi_keycache.proofs.lists.PageLists.put_at_warm_end.Goals as goal

pub overflow_add-node : goal.overflow_add-node
overflow_add-node c =
    let v = c.self.inside.links in
    let there = c.requires.off.there in
    let room = ap (λ (l : Linked). l.room) c.self.view_is in
    omega (arith, there, room, v.ok.0, v.ok.1, v.small)

pub link_before-requires : goal.link_before-requires
link_before-requires c =
    let links = c.self.inside.links.items in
    let o = c.args.self.now in
    let inv = subst (IsLinked links c.self.inside.warm c.self.inside.hot) c.self.view_is c.self.invariant in
    let room = sym (ap (λ (l : Linked). l.room) c.self.view_is) in
    (map node_of o.warm, ring_of [] o.hot, can_warm links c.self.inside.warm c.self.inside.hot o o.warm [] c.args.index inv (sym (append-nil o.warm)) c.requires.off room)

pub invariant_of-self : goal.invariant_of-self
invariant_of-self c =
    let links = c.self.inside.links.items in
    let o = c.args.self.now in
    let inv = subst (IsLinked links c.self.inside.warm c.self.inside.hot) c.self.view_is c.self.invariant in
    let room = sym (ap (λ (l : Linked). l.room) c.self.view_is) in
    (put_warm_end links c.link_before.new.links.items c.set_hot.new.links.items c.self.inside.warm c.self.inside.hot (c.self.inside.warm + 1) o c.args.index inv room c.requires.off c.link_before.ensures.ring (record { mid_hot = c.link_before.ensures.hot; before = c.set_hot.ensures.before; behind = c.set_hot.ensures.behind; hot = c.set_hot.ensures.hot }) refl).holds

pub returns : goal.returns
returns c =
    let links = c.self.inside.links.items in
    let o = c.args.self.now in
    let inv = subst (IsLinked links c.self.inside.warm c.self.inside.hot) c.self.view_is c.self.invariant in
    let room = sym (ap (λ (l : Linked). l.room) c.self.view_is) in
    (put_warm_end links c.link_before.new.links.items c.set_hot.new.links.items c.self.inside.warm c.self.inside.hot (c.self.inside.warm + 1) o c.args.index inv room c.requires.off c.link_before.ensures.ring (record { mid_hot = c.link_before.ensures.hot; before = c.set_hot.ensures.before; behind = c.set_hot.ensures.behind; hot = c.set_hot.ensures.hot }) refl).is
