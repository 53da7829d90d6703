use Rattle.std.proofs.Common.{◌+◌, ◌-◌, length, refl, sym, ap, subst, arith, ◌∙◌}
use Rattle.std.proofs.lemmas.Option.{slice_get_read}
use Rattle.myi_keycache.specs.declared.lists.Link.{Link}
use Rattle.myi_keycache.specs.Ring.{IsLinked, IsOff, Linked}
use Rattle.myi_keycache.proofs.RingLemmas.{get_mapped, same_links}
use Rattle.myi_keycache.proofs.LinkLemmas.{on_there, stands_on, taken_off}
use Rattle.myi_keycache.proofs.lists.PageLists.take_off.Goals as goal

pub overflow_add-node : goal.overflow_add-node
overflow_add-node c =
    let v = c.self.inside.links in
    let inv = subst (IsLinked v.items c.self.inside.warm c.self.inside.hot) c.self.view_is c.self.invariant in
    omega (arith, on_there v.items c.self.inside.warm c.self.inside.hot c.args.self.now c.args.index inv c.requires, v.ok.0, v.ok.1, v.small)

pub unlink-requires : goal.unlink-requires
unlink-requires c =
    let links = c.self.inside.links.items in
    let inv = subst (IsLinked links c.self.inside.warm c.self.inside.hot) c.self.view_is c.self.invariant in
    stands_on links c.self.inside.warm c.self.inside.hot c.args.self.now c.args.index inv c.requires

pub index-requires : goal.index-requires
index-requires c =
    let links = c.self.inside.links.items in
    let inv = subst (IsLinked links c.self.inside.warm c.self.inside.hot) c.self.view_is c.self.invariant in
    omega (arith, on_there links c.self.inside.warm c.self.inside.hot c.args.self.now c.args.index inv c.requires, same_links links c.unlink.new.links.items c.unlink.ensures.hot, c.unlink.new.links.ok.0)

pub overflow_sub-self : goal.overflow_sub-self
overflow_sub-self c =
    let links = c.self.inside.links.items in
    let new = c.unlink.new.links.items in
    let inv = subst (IsLinked links c.self.inside.warm c.self.inside.hot) c.self.view_is c.self.invariant in
    let room = sym (ap (λ (l : Linked). l.room) c.self.view_is) in
    let lt = on_there links c.self.inside.warm c.self.inside.hot c.args.self.now c.args.index inv c.requires in
    let got = slice_get_read new (length new) (c.args.index + 2) c.index.result.now refl (omega (arith, lt, same_links links new c.unlink.ensures.hot)) c.index.ensures in
    let t = taken_off links new c.self.inside.warm c.self.inside.hot c.args.self.now c.args.index c.index.result.now.hot inv room c.requires c.unlink.ensures.ring c.unlink.ensures.hot (get_mapped (λ (l : Link). l.hot) new (c.args.index + 2) c.index.result.now got) in
    t.hot_some c.if-index.true

pub overflow_sub-self-else-index : goal.overflow_sub-self-else-index
overflow_sub-self-else-index c =
    let links = c.self.inside.links.items in
    let new = c.unlink.new.links.items in
    let inv = subst (IsLinked links c.self.inside.warm c.self.inside.hot) c.self.view_is c.self.invariant in
    let room = sym (ap (λ (l : Linked). l.room) c.self.view_is) in
    let lt = on_there links c.self.inside.warm c.self.inside.hot c.args.self.now c.args.index inv c.requires in
    let got = slice_get_read new (length new) (c.args.index + 2) c.index.result.now refl (omega (arith, lt, same_links links new c.unlink.ensures.hot)) c.index.ensures in
    let t = taken_off links new c.self.inside.warm c.self.inside.hot c.args.self.now c.args.index c.index.result.now.hot inv room c.requires c.unlink.ensures.ring c.unlink.ensures.hot (get_mapped (λ (l : Link). l.hot) new (c.args.index + 2) c.index.result.now got) in
    t.warm_some c.if-index.false

pub invariant_of-self : goal.invariant_of-self
invariant_of-self c =
    let links = c.self.inside.links.items in
    let new = c.unlink.new.links.items in
    let inv = subst (IsLinked links c.self.inside.warm c.self.inside.hot) c.self.view_is c.self.invariant in
    let room = sym (ap (λ (l : Linked). l.room) c.self.view_is) in
    let lt = on_there links c.self.inside.warm c.self.inside.hot c.args.self.now c.args.index inv c.requires in
    let got = slice_get_read new (length new) (c.args.index + 2) c.index.result.now refl (omega (arith, lt, same_links links new c.unlink.ensures.hot)) c.index.ensures in
    let t = taken_off links new c.self.inside.warm c.self.inside.hot c.args.self.now c.args.index c.index.result.now.hot inv room c.requires c.unlink.ensures.ring c.unlink.ensures.hot (get_mapped (λ (l : Link). l.hot) new (c.args.index + 2) c.index.result.now got) in
    let one = t.hot_some c.if-index.true in
    let n = t.from_hot c.if-index.true (c.self.inside.hot - 1) (omega (arith, one)) in
    n.1.holds

pub invariant_of-self-else-index : goal.invariant_of-self-else-index
invariant_of-self-else-index c =
    let links = c.self.inside.links.items in
    let new = c.unlink.new.links.items in
    let inv = subst (IsLinked links c.self.inside.warm c.self.inside.hot) c.self.view_is c.self.invariant in
    let room = sym (ap (λ (l : Linked). l.room) c.self.view_is) in
    let lt = on_there links c.self.inside.warm c.self.inside.hot c.args.self.now c.args.index inv c.requires in
    let got = slice_get_read new (length new) (c.args.index + 2) c.index.result.now refl (omega (arith, lt, same_links links new c.unlink.ensures.hot)) c.index.ensures in
    let t = taken_off links new c.self.inside.warm c.self.inside.hot c.args.self.now c.args.index c.index.result.now.hot inv room c.requires c.unlink.ensures.ring c.unlink.ensures.hot (get_mapped (λ (l : Link). l.hot) new (c.args.index + 2) c.index.result.now got) in
    let one = t.warm_some c.if-index.false in
    let n = t.from_warm c.if-index.false (c.self.inside.warm - 1) (omega (arith, one)) in
    n.1.holds

pub returns-then-index-clause-warm : goal.returns-then-index-clause-warm
returns-then-index-clause-warm c front back is =
    let links = c.self.inside.links.items in
    let new = c.unlink.new.links.items in
    let inv = subst (IsLinked links c.self.inside.warm c.self.inside.hot) c.self.view_is c.self.invariant in
    let room = sym (ap (λ (l : Linked). l.room) c.self.view_is) in
    let lt = on_there links c.self.inside.warm c.self.inside.hot c.args.self.now c.args.index inv c.requires in
    let got = slice_get_read new (length new) (c.args.index + 2) c.index.result.now refl (omega (arith, lt, same_links links new c.unlink.ensures.hot)) c.index.ensures in
    let t = taken_off links new c.self.inside.warm c.self.inside.hot c.args.self.now c.args.index c.index.result.now.hot inv room c.requires c.unlink.ensures.ring c.unlink.ensures.hot (get_mapped (λ (l : Link). l.hot) new (c.args.index + 2) c.index.result.now got) in
    absurd (t.not_warm c.if-index.true front back is)

pub returns-then-index-clause-hot : goal.returns-then-index-clause-hot
returns-then-index-clause-hot c front back is =
    let links = c.self.inside.links.items in
    let new = c.unlink.new.links.items in
    let inv = subst (IsLinked links c.self.inside.warm c.self.inside.hot) c.self.view_is c.self.invariant in
    let room = sym (ap (λ (l : Linked). l.room) c.self.view_is) in
    let lt = on_there links c.self.inside.warm c.self.inside.hot c.args.self.now c.args.index inv c.requires in
    let got = slice_get_read new (length new) (c.args.index + 2) c.index.result.now refl (omega (arith, lt, same_links links new c.unlink.ensures.hot)) c.index.ensures in
    let t = taken_off links new c.self.inside.warm c.self.inside.hot c.args.self.now c.args.index c.index.result.now.hot inv room c.requires c.unlink.ensures.ring c.unlink.ensures.hot (get_mapped (λ (l : Link). l.hot) new (c.args.index + 2) c.index.result.now got) in
    let one = t.hot_some c.if-index.true in
    let n = t.from_hot c.if-index.true (c.self.inside.hot - 1) (omega (arith, one)) in
    n.1.is ∙ n.3 front back is

pub returns-then-index-clause-off : goal.returns-then-index-clause-off
returns-then-index-clause-off c =
    let links = c.self.inside.links.items in
    let new = c.unlink.new.links.items in
    let inv = subst (IsLinked links c.self.inside.warm c.self.inside.hot) c.self.view_is c.self.invariant in
    let room = sym (ap (λ (l : Linked). l.room) c.self.view_is) in
    let lt = on_there links c.self.inside.warm c.self.inside.hot c.args.self.now c.args.index inv c.requires in
    let got = slice_get_read new (length new) (c.args.index + 2) c.index.result.now refl (omega (arith, lt, same_links links new c.unlink.ensures.hot)) c.index.ensures in
    let t = taken_off links new c.self.inside.warm c.self.inside.hot c.args.self.now c.args.index c.index.result.now.hot inv room c.requires c.unlink.ensures.ring c.unlink.ensures.hot (get_mapped (λ (l : Link). l.hot) new (c.args.index + 2) c.index.result.now got) in
    let one = t.hot_some c.if-index.true in
    let n = t.from_hot c.if-index.true (c.self.inside.hot - 1) (omega (arith, one)) in
    subst (λ (l : Linked). IsOff l c.args.index) (sym n.1.is) n.2

pub returns-else-index-clause-warm : goal.returns-else-index-clause-warm
returns-else-index-clause-warm c front back is =
    let links = c.self.inside.links.items in
    let new = c.unlink.new.links.items in
    let inv = subst (IsLinked links c.self.inside.warm c.self.inside.hot) c.self.view_is c.self.invariant in
    let room = sym (ap (λ (l : Linked). l.room) c.self.view_is) in
    let lt = on_there links c.self.inside.warm c.self.inside.hot c.args.self.now c.args.index inv c.requires in
    let got = slice_get_read new (length new) (c.args.index + 2) c.index.result.now refl (omega (arith, lt, same_links links new c.unlink.ensures.hot)) c.index.ensures in
    let t = taken_off links new c.self.inside.warm c.self.inside.hot c.args.self.now c.args.index c.index.result.now.hot inv room c.requires c.unlink.ensures.ring c.unlink.ensures.hot (get_mapped (λ (l : Link). l.hot) new (c.args.index + 2) c.index.result.now got) in
    let one = t.warm_some c.if-index.false in
    let n = t.from_warm c.if-index.false (c.self.inside.warm - 1) (omega (arith, one)) in
    n.1.is ∙ n.3 front back is

pub returns-else-index-clause-hot : goal.returns-else-index-clause-hot
returns-else-index-clause-hot c front back is =
    let links = c.self.inside.links.items in
    let new = c.unlink.new.links.items in
    let inv = subst (IsLinked links c.self.inside.warm c.self.inside.hot) c.self.view_is c.self.invariant in
    let room = sym (ap (λ (l : Linked). l.room) c.self.view_is) in
    let lt = on_there links c.self.inside.warm c.self.inside.hot c.args.self.now c.args.index inv c.requires in
    let got = slice_get_read new (length new) (c.args.index + 2) c.index.result.now refl (omega (arith, lt, same_links links new c.unlink.ensures.hot)) c.index.ensures in
    let t = taken_off links new c.self.inside.warm c.self.inside.hot c.args.self.now c.args.index c.index.result.now.hot inv room c.requires c.unlink.ensures.ring c.unlink.ensures.hot (get_mapped (λ (l : Link). l.hot) new (c.args.index + 2) c.index.result.now got) in
    absurd (t.not_hot c.if-index.false front back is)

pub returns-else-index-clause-off : goal.returns-else-index-clause-off
returns-else-index-clause-off c =
    let links = c.self.inside.links.items in
    let new = c.unlink.new.links.items in
    let inv = subst (IsLinked links c.self.inside.warm c.self.inside.hot) c.self.view_is c.self.invariant in
    let room = sym (ap (λ (l : Linked). l.room) c.self.view_is) in
    let lt = on_there links c.self.inside.warm c.self.inside.hot c.args.self.now c.args.index inv c.requires in
    let got = slice_get_read new (length new) (c.args.index + 2) c.index.result.now refl (omega (arith, lt, same_links links new c.unlink.ensures.hot)) c.index.ensures in
    let t = taken_off links new c.self.inside.warm c.self.inside.hot c.args.self.now c.args.index c.index.result.now.hot inv room c.requires c.unlink.ensures.ring c.unlink.ensures.hot (get_mapped (λ (l : Link). l.hot) new (c.args.index + 2) c.index.result.now got) in
    let one = t.warm_some c.if-index.false in
    let n = t.from_warm c.if-index.false (c.self.inside.warm - 1) (omega (arith, one)) in
    subst (λ (l : Linked). IsOff l c.args.index) (sym n.1.is) n.2
