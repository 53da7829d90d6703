use Rattle.std.proofs.Common.{◌∷◌, length, set, refl, ◌∙◌, arith}
use Rattle.std.proofs.lemmas.Option.{slice_get_read}
use Rattle.myi_keycache.specs.Ring.{behind_of}
use Rattle.myi_keycache.proofs.RingLemmas.{link_there, link_is, last_there, first_behind, same_links, ring_out}
use Rattle.myi_keycache.proofs.lists.unlink.Goals as goal

pub index-requires : goal.index-requires
index-requires c = let lt = link_there c.args.links.now.items c.requires.0 c.args.node c.requires.1 c.requires.2 in omega (arith, lt, c.args.links.now.ok.0)

pub set_behind-requires : goal.set_behind-requires
set_behind-requires c =
    let r = c.requires.2 in
    let lt = link_there c.args.links.now.items c.requires.0 c.args.node c.requires.1 r in
    let at = slice_get_read c.args.links.now.items (length c.args.links.now.items) c.args.node c.index.result.now refl lt c.index.ensures in
    let is = link_is c.args.links.now.items c.requires.0 c.args.node c.requires.1 c.index.result.now at r in
    omega (arith, is.0, last_there c.args.links.now.items c.requires.0 (c.args.node ∷ c.requires.1) r)

pub set_before-requires : goal.set_before-requires
set_before-requires c =
    let r = c.requires.2 in
    let lt = link_there c.args.links.now.items c.requires.0 c.args.node c.requires.1 r in
    let at = slice_get_read c.args.links.now.items (length c.args.links.now.items) c.args.node c.index.result.now refl lt c.index.ensures in
    let is = link_is c.args.links.now.items c.requires.0 c.args.node c.requires.1 c.index.result.now at r in
    omega (arith, is.1, first_behind c.args.links.now.items c.requires.0 c.args.node c.requires.1 r, same_links c.args.links.now.items c.set_behind.new.links.items c.set_behind.ensures.hot)

pub returns-clause-ring : goal.returns-clause-ring
returns-clause-ring c front back r =
    let lt = link_there c.args.links.now.items front c.args.node back r in
    let at = slice_get_read c.args.links.now.items (length c.args.links.now.items) c.args.node c.index.result.now refl lt c.index.ensures in
    let is = link_is c.args.links.now.items front c.args.node back c.index.result.now at r in
    ring_out c.args.links.now.items c.set_before.new.links.items front c.args.node back
    (c.set_before.ensures.behind ∙ c.set_behind.ensures.behind ∙ (λ i. set (behind_of c.args.links.now.items) (is.0 i) (is.1 i)))
    (c.set_before.ensures.before ∙ (λ i. set (c.set_behind.ensures.before i) (is.1 i) (is.0 i))) r
