use Rattle.std.proofs.Common.{◌+◌, [], length, refl, sym, ap, subst, arith}
use Rattle.std.proofs.lemmas.Option.{slice_get_read}
use Rattle.myi_keycache.specs.Ring.{IsLinked, Linked, CanLink, ring_of}
use Rattle.myi_keycache.proofs.LinkLemmas.{first_links, can_warm, first_behind_is, put_warm_beginning}
use Rattle.myi_keycache.proofs.lists.PageLists.put_at_warm_beginning.Goals as goal

pub overflow_add-node : goal.overflow_add-node
overflow_add-node c =
    let v = c.self.inside.links in
    let there = c.requires.off.there in
    let room = ap (λ (l : Linked). l.room) c.self.view_is in
    omega (arith, there, room, v.ok.0, v.ok.1, v.small)

pub link_before-requires : goal.link_before-requires
link_before-requires c =
    let links = c.self.inside.links.items in
    let o = c.args.self.now in
    let inv = subst (IsLinked links c.self.inside.warm c.self.inside.hot) c.self.view_is c.self.invariant in
    let room = sym (ap (λ (l : Linked). l.room) c.self.view_is) in
    ([], ring_of o.warm o.hot, subst (λ n. CanLink links (c.args.index + 2) n [] (ring_of o.warm o.hot)) (sym (first_behind_is links c.self.inside.warm c.self.inside.hot o c.index.result.now inv (slice_get_read links (length links) 0 c.index.result.now refl (omega (arith, first_links links c.self.inside.warm c.self.inside.hot o inv)) c.index.ensures))) (can_warm links c.self.inside.warm c.self.inside.hot o [] o.warm c.args.index inv refl c.requires.off room))

pub invariant_of-self : goal.invariant_of-self
invariant_of-self c =
    let links = c.self.inside.links.items in
    let o = c.args.self.now in
    let inv = subst (IsLinked links c.self.inside.warm c.self.inside.hot) c.self.view_is c.self.invariant in
    let room = sym (ap (λ (l : Linked). l.room) c.self.view_is) in
    (put_warm_beginning links c.link_before.new.links.items c.set_hot.new.links.items c.self.inside.warm c.self.inside.hot (c.self.inside.warm + 1) o c.args.index c.index.result.now.behind inv room c.requires.off (first_behind_is links c.self.inside.warm c.self.inside.hot o c.index.result.now inv (slice_get_read links (length links) 0 c.index.result.now refl (omega (arith, first_links links c.self.inside.warm c.self.inside.hot o inv)) c.index.ensures)) c.link_before.ensures.ring (record { mid_hot = c.link_before.ensures.hot; before = c.set_hot.ensures.before; behind = c.set_hot.ensures.behind; hot = c.set_hot.ensures.hot }) refl).holds

pub returns : goal.returns
returns c =
    let links = c.self.inside.links.items in
    let o = c.args.self.now in
    let inv = subst (IsLinked links c.self.inside.warm c.self.inside.hot) c.self.view_is c.self.invariant in
    let room = sym (ap (λ (l : Linked). l.room) c.self.view_is) in
    (put_warm_beginning links c.link_before.new.links.items c.set_hot.new.links.items c.self.inside.warm c.self.inside.hot (c.self.inside.warm + 1) o c.args.index c.index.result.now.behind inv room c.requires.off (first_behind_is links c.self.inside.warm c.self.inside.hot o c.index.result.now inv (slice_get_read links (length links) 0 c.index.result.now refl (omega (arith, first_links links c.self.inside.warm c.self.inside.hot o inv)) c.index.ensures)) c.link_before.ensures.ring (record { mid_hot = c.link_before.ensures.hot; before = c.set_hot.ensures.before; behind = c.set_hot.ensures.behind; hot = c.set_hot.ensures.hot }) refl).is
