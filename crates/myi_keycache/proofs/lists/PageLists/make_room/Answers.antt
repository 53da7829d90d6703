use Rattle.std.proofs.Common.{◌-◌, List, ◌∷◌, [], false, length, refl, ap, subst, arith}
use Rattle.std.proofs.lemmas.List.{length-append}
use Rattle.myi_keycache.specs.declared.lists.Link.{Link}
use Rattle.myi_keycache.specs.Ring.{IsLinked, Linked}
use Rattle.myi_keycache.proofs.LinkLemmas.{first_links, linked_more, linked_room, linked_now}
use Rattle.myi_keycache.proofs.lists.PageLists.make_room.Goals as goal

pub invariant_of-self : goal.invariant_of-self
invariant_of-self c =
    let links = c.self.inside.links.items in
    let new = c.push.new.self.items in
    let o = c.args.self.now in
    let inv = subst (IsLinked links c.self.inside.warm c.self.inside.hot) c.self.view_is c.self.invariant in
    (linked_now new c.self.inside.warm c.self.inside.hot (record o { room = length new - 2 }) (linked_more links new c.self.inside.warm c.self.inside.hot (record o { room = length new - 2 }) _ c.in_ok-push.ensures.items (linked_room links c.self.inside.warm c.self.inside.hot o (length new - 2) inv)) refl).holds

pub returns-in_ok-push-clause-room : goal.returns-in_ok-push-clause-room
returns-in_ok-push-clause-room c =
    let links = c.self.inside.links.items in
    let inv = subst (IsLinked links c.self.inside.warm c.self.inside.hot) c.self.view_is c.self.invariant in
    let room = ap (λ (l : Linked). l.room) c.self.view_is in
    let two = first_links links c.self.inside.warm c.self.inside.hot c.args.self.now inv in
    omega (arith, two, room, c.requires, ap (λ (l : List Link). length l) c.in_ok-push.ensures.items, length-append links (record { before = 0; behind = 0; hot = false } ∷ []))

pub returns-in_ok-push-clause-warm : goal.returns-in_ok-push-clause-warm
returns-in_ok-push-clause-warm c =
    let links = c.self.inside.links.items in
    let new = c.push.new.self.items in
    let o = c.args.self.now in
    let inv = subst (IsLinked links c.self.inside.warm c.self.inside.hot) c.self.view_is c.self.invariant in
    ap (λ (l : Linked). l.warm) (linked_now new c.self.inside.warm c.self.inside.hot (record o { room = length new - 2 }) (linked_more links new c.self.inside.warm c.self.inside.hot (record o { room = length new - 2 }) _ c.in_ok-push.ensures.items (linked_room links c.self.inside.warm c.self.inside.hot o (length new - 2) inv)) refl).is

pub returns-in_ok-push-clause-hot : goal.returns-in_ok-push-clause-hot
returns-in_ok-push-clause-hot c =
    let links = c.self.inside.links.items in
    let new = c.push.new.self.items in
    let o = c.args.self.now in
    let inv = subst (IsLinked links c.self.inside.warm c.self.inside.hot) c.self.view_is c.self.invariant in
    ap (λ (l : Linked). l.hot) (linked_now new c.self.inside.warm c.self.inside.hot (record o { room = length new - 2 }) (linked_more links new c.self.inside.warm c.self.inside.hot (record o { room = length new - 2 }) _ c.in_ok-push.ensures.items (linked_room links c.self.inside.warm c.self.inside.hot o (length new - 2) inv)) refl).is
