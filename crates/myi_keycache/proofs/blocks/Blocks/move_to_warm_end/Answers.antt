use Rattle.std.proofs.Common.{◌++◌, ◌∷◌, [], ap, ◌∙◌, arith}
use Rattle.myi_keycache.specs.Ring.{Linked}
use Rattle.myi_keycache.proofs.OrderLemmas.{split}
use Rattle.myi_keycache.proofs.HitLemmas.{some_index, index_within}
use Rattle.myi_keycache.proofs.SlotLemmas.{named_there, named_found, same_place}
use Rattle.myi_keycache.proofs.MoveLemmas.{side, few_left, to_warm}
use Rattle.myi_keycache.proofs.blocks.Blocks.move_to_warm_end.Goals as goal

pub unwrap-index-requires : goal.unwrap-index-requires
unwrap-index-requires c =
    named_there c.self.inside.setup c.self.inside.pages.entries c.self.inside.lists c.self.inside.accesses c.args.name c.args.self.now c.self.view_is c.self.invariant c.get_index_of.result c.get_index_of.ensures.index c.requires.kept

pub take_off-requires : goal.take_off-requires
take_off-requires c =
    let f = named_found c.self.inside.setup c.self.inside.pages.entries c.self.inside.lists c.self.inside.accesses c.args.name c.unwrap-index.result c.self.invariant c.get_index_of.result c.get_index_of.ensures.index c.unwrap-index.ensures in
    (side c.self.inside.pages.entries c.self.inside.lists c.unwrap-index.result f.i f.placed).on

pub put_at_warm_end-requires-clause-few : goal.put_at_warm_end-requires-clause-few
put_at_warm_end-requires-clause-few c =
    let f = named_found c.self.inside.setup c.self.inside.pages.entries c.self.inside.lists c.self.inside.accesses c.args.name c.unwrap-index.result c.self.invariant c.get_index_of.result c.get_index_of.ensures.index c.unwrap-index.ensures in
    omega (arith, few_left c.self.inside.setup c.self.inside.pages.entries c.self.inside.lists c.take_off.new.self c.self.inside.accesses c.unwrap-index.result f.i c.self.invariant f.placed c.take_off.ensures.warm c.take_off.ensures.hot)

pub invariant_of-self : goal.invariant_of-self
invariant_of-self c =
    let x = some_index _ c.requires.kept in
    let p = same_place c.self.inside.pages.entries c.self.inside.lists c.self.inside.setup c.self.inside.accesses c.args.name.at c.args.name.size c.unwrap-index.result c.args.self.now c.self.view_is (named_found c.self.inside.setup c.self.inside.pages.entries c.self.inside.lists c.self.inside.accesses c.args.name c.unwrap-index.result c.self.invariant c.get_index_of.result c.get_index_of.ensures.index c.unwrap-index.ensures) x.0 x.1 in
    (to_warm c.self.inside.setup c.self.inside.pages.entries c.self.inside.lists c.put_at_warm_end.new.self c.self.inside.accesses c.unwrap-index.result x.0 c.args.self.now c.self.view_is c.self.invariant p ((λ f b e. c.put_at_warm_end.ensures ∙ ap (λ (l : Linked). record l { warm = l.warm ++ c.unwrap-index.result ∷ [] }) (c.take_off.ensures.warm f b e)), (λ f b e. c.put_at_warm_end.ensures ∙ ap (λ (l : Linked). record l { warm = l.warm ++ c.unwrap-index.result ∷ [] }) (c.take_off.ensures.hot f b e))) (c.requires.warm x.0 x.1 (split c.args.self.now.pages x.0 (index_within c.args.name.at c.args.name.size c.args.self.now.pages x.0 x.1)))).0

pub returns : goal.returns
returns c i at s =
    let p = same_place c.self.inside.pages.entries c.self.inside.lists c.self.inside.setup c.self.inside.accesses c.args.name.at c.args.name.size c.unwrap-index.result c.args.self.now c.self.view_is (named_found c.self.inside.setup c.self.inside.pages.entries c.self.inside.lists c.self.inside.accesses c.args.name c.unwrap-index.result c.self.invariant c.get_index_of.result c.get_index_of.ensures.index c.unwrap-index.ensures) i at in
    (to_warm c.self.inside.setup c.self.inside.pages.entries c.self.inside.lists c.put_at_warm_end.new.self c.self.inside.accesses c.unwrap-index.result i c.args.self.now c.self.view_is c.self.invariant p ((λ f b e. c.put_at_warm_end.ensures ∙ ap (λ (l : Linked). record l { warm = l.warm ++ c.unwrap-index.result ∷ [] }) (c.take_off.ensures.warm f b e)), (λ f b e. c.put_at_warm_end.ensures ∙ ap (λ (l : Linked). record l { warm = l.warm ++ c.unwrap-index.result ∷ [] }) (c.take_off.ensures.hot f b e))) (c.requires.warm i at s)).1 s
