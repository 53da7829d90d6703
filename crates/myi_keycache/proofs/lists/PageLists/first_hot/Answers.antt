use Rattle.std.proofs.Common.{length, refl, subst, arith}
use Rattle.std.proofs.lemmas.Option.{slice_get_read}
use Rattle.myi_keycache.specs.Ring.{IsLinked}
use Rattle.myi_keycache.proofs.LinkLemmas.{first_links, hot_first}
use Rattle.myi_keycache.proofs.lists.PageLists.first_hot.Goals as goal

pub overflow_sub-result : goal.overflow_sub-result
overflow_sub-result c =
    let links = c.self.inside.links.items in
    let inv = subst (IsLinked links c.self.inside.warm c.self.inside.hot) c.self.view_is c.self.invariant in
    let at = slice_get_read links (length links) 1 c.index.result.now refl (first_links links c.self.inside.warm c.self.inside.hot c.args.self.now inv) c.index.ensures in
    (hot_first links c.self.inside.warm c.self.inside.hot c.args.self.now c.index.result.now inv (omega (arith, c.if-self-eq0.false)) at).0

pub returns : goal.returns
returns c =
    let links = c.self.inside.links.items in
    let inv = subst (IsLinked links c.self.inside.warm c.self.inside.hot) c.self.view_is c.self.invariant in
    let at = slice_get_read links (length links) 1 c.index.result.now refl (first_links links c.self.inside.warm c.self.inside.hot c.args.self.now inv) c.index.ensures in
    (hot_first links c.self.inside.warm c.self.inside.hot c.args.self.now c.index.result.now inv (omega (arith, c.if-self-eq0.false)) at).1
