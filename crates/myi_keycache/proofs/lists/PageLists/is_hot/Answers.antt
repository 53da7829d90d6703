use Rattle.std.proofs.Common.{◌+◌, length, refl, subst, arith}
use Rattle.std.proofs.lemmas.Option.{slice_get_read}
use Rattle.myi_keycache.specs.Ring.{IsLinked}
use Rattle.myi_keycache.proofs.LinkLemmas.{on_there, hot_at, warm_mark, hot_mark}
use Rattle.myi_keycache.proofs.lists.PageLists.is_hot.Goals as goal

pub overflow_add-index : goal.overflow_add-index
overflow_add-index c =
    let v = c.self.inside.links in
    let inv = subst (IsLinked v.items c.self.inside.warm c.self.inside.hot) c.self.view_is c.self.invariant in
    omega (arith, on_there v.items c.self.inside.warm c.self.inside.hot c.args.self.now c.args.index inv c.requires, v.ok.0, v.ok.1, v.small)

pub index-requires : goal.index-requires
index-requires c =
    let v = c.self.inside.links in
    let inv = subst (IsLinked v.items c.self.inside.warm c.self.inside.hot) c.self.view_is c.self.invariant in
    omega (arith, on_there v.items c.self.inside.warm c.self.inside.hot c.args.self.now c.args.index inv c.requires, v.ok.0)

pub returns-clause-warm : goal.returns-clause-warm
returns-clause-warm c front back is =
    let links = c.self.inside.links.items in
    let inv = subst (IsLinked links c.self.inside.warm c.self.inside.hot) c.self.view_is c.self.invariant in
    let at = slice_get_read links (length links) (c.args.index + 2) c.index.result.now refl (on_there links c.self.inside.warm c.self.inside.hot c.args.self.now c.args.index inv c.requires) c.index.ensures in
    hot_at links (c.args.index + 2) _ c.index.result.now (warm_mark links c.self.inside.warm c.self.inside.hot c.args.self.now front c.args.index back inv is) at

pub returns-clause-hot : goal.returns-clause-hot
returns-clause-hot c front back is =
    let links = c.self.inside.links.items in
    let inv = subst (IsLinked links c.self.inside.warm c.self.inside.hot) c.self.view_is c.self.invariant in
    let at = slice_get_read links (length links) (c.args.index + 2) c.index.result.now refl (on_there links c.self.inside.warm c.self.inside.hot c.args.self.now c.args.index inv c.requires) c.index.ensures in
    hot_at links (c.args.index + 2) _ c.index.result.now (hot_mark links c.self.inside.warm c.self.inside.hot c.args.self.now front c.args.index back inv is) at
