use Rattle.std.proofs.Common.{refl}
use Rattle.myi_keycache.specs.Order.{as_written}
use Rattle.myi_keycache.proofs.SlotLemmas.{named_there, named_found, same_place, changed_order, holds_changed}
use Rattle.myi_keycache.proofs.blocks.Blocks.set_written.Goals as goal

pub unwrap-index-requires : goal.unwrap-index-requires
unwrap-index-requires c =
    named_there c.self.inside.setup c.self.inside.pages.entries c.self.inside.lists c.self.inside.accesses c.args.name c.args.self.now c.self.view_is c.self.invariant c.get_index_of.result c.get_index_of.ensures.index c.requires

pub invariant_of-self : goal.invariant_of-self
invariant_of-self c =
    let f = named_found c.self.inside.setup c.self.inside.pages.entries c.self.inside.lists c.self.inside.accesses c.args.name c.unwrap-index.result c.self.invariant c.get_index_of.result c.get_index_of.ensures.index c.unwrap-index.ensures in
    holds_changed c.self.inside.setup c.self.inside.pages.entries c.self.inside.lists c.self.inside.accesses c.self.inside.accesses c.unwrap-index.result f.i (_) (_) c.self.invariant f.placed c.index_mut.ensures.value (refl)

pub returns : goal.returns
returns c i at s =
    let f = named_found c.self.inside.setup c.self.inside.pages.entries c.self.inside.lists c.self.inside.accesses c.args.name c.unwrap-index.result c.self.invariant c.get_index_of.result c.get_index_of.ensures.index c.unwrap-index.ensures in
    let p = same_place c.self.inside.pages.entries c.self.inside.lists c.self.inside.setup c.self.inside.accesses c.args.name.at c.args.name.size c.unwrap-index.result c.args.self.now c.self.view_is f i at in
    changed_order c.self.inside.setup c.self.inside.pages.entries c.self.inside.lists c.self.inside.accesses c.self.inside.accesses c.unwrap-index.result i _ _ as_written (λ n. n) c.args.self.now c.self.view_is c.self.invariant p c.index_mut.ensures.value refl (λ n. refl) s
