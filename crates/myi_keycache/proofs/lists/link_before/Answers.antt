use Rattle.std.proofs.Common.{length, set, refl, sym, ap, ◌∙◌, arith}
use Rattle.std.proofs.lemmas.Option.{slice_get_read}
use Rattle.std.proofs.lemmas.List.{length-map}
use Rattle.myi_keycache.specs.declared.lists.Link.{Link}
use Rattle.myi_keycache.specs.Ring.{first_node, behind_of}
use Rattle.myi_keycache.proofs.RingLemmas.{last_node, before_is, last_there, first_there, same_links, ring_in}
use Rattle.myi_keycache.proofs.lists.link_before.Goals as goal

pub index-requires : goal.index-requires
index-requires c =
    let can = c.requires.2 in
    omega (arith, can.here, first_there c.args.links.now.items c.requires.0 c.requires.1 can.ring, c.args.links.now.ok.0)

pub set_behind-requires-2 : goal.set_behind-requires-2
set_behind-requires-2 c =
    let can = c.requires.2 in
    let links = c.args.links.now.items in
    let lt = first_there links c.requires.0 c.requires.1 can.ring in
    let at = slice_get_read links (length links) c.args.behind c.index.result.now refl (omega (arith, lt, can.here)) c.index.ensures in
    let is = before_is links c.requires.0 c.requires.1 c.args.behind c.index.result.now can.here at can.ring in
    omega (arith, is, last_there links c.requires.0 c.requires.1 can.ring, same_links links c.set_behind.new.links.items c.set_behind.ensures.hot, same_links c.set_behind.new.links.items c.set_before.new.links.items c.set_before.ensures.hot)

pub set_before-requires-2 : goal.set_before-requires-2
set_before-requires-2 c =
    let can = c.requires.2 in
    let links = c.args.links.now.items in
    omega (arith, can.here, first_there links c.requires.0 c.requires.1 can.ring, same_links links c.set_behind.new.links.items c.set_behind.ensures.hot, same_links c.set_behind.new.links.items c.set_before.new.links.items c.set_before.ensures.hot, same_links c.set_before.new.links.items c.set_behind-2.new.links.items c.set_behind-2.ensures.hot)

pub returns-clause-ring : goal.returns-clause-ring
returns-clause-ring c front back can =
    let links = c.args.links.now.items in
    let lt = first_there links front back can.ring in
    let at = slice_get_read links (length links) c.args.behind c.index.result.now refl (omega (arith, lt, can.here)) c.index.ensures in
    let is = before_is links front back c.args.behind c.index.result.now can.here at can.ring in
    let there = can.there in
    ring_in links c.set_before-2.new.links.items front c.args.node back
    (omega (arith, there, length-map links (λ (l : Link). l.behind))) (omega (arith, there, length-map links (λ (l : Link). l.before)))
    (c.set_before-2.ensures.behind ∙ c.set_behind-2.ensures.behind ∙ (λ i. set ((c.set_before.ensures.behind ∙ c.set_behind.ensures.behind) i) (is i) c.args.node) ∙ ap (λ n. set (set (behind_of links) c.args.node n) (last_node 0 front) c.args.node) (sym can.here))
    (c.set_before-2.ensures.before ∙ (λ i. set ((c.set_behind-2.ensures.before ∙ c.set_before.ensures.before) i) (sym can.here i) c.args.node) ∙ (λ i. set (set (c.set_behind.ensures.before i) c.args.node (is i)) (first_node back) c.args.node))
    can.new can.ring
