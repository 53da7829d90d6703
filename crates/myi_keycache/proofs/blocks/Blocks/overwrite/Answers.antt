use Rattle.std.proofs.Common.{true, length, ap, refl, sym, ◌∙◌}
use Rattle.std.specs.Vec.{with_items}
use Rattle.std.proofs.lemmas.List.{with_items_is}
use Rattle.myi_keycache.specs.declared.blocks.Block.{Block}
use Rattle.myi_keycache.specs.Order.{with_bytes}
use Rattle.myi_keycache.proofs.SlotLemmas.{named_there, named_found, same_place, get_value, changed_order, holds_changed}
use Rattle.myi_keycache.proofs.blocks.Blocks.overwrite.Goals as goal

pub unwrap-index-requires : goal.unwrap-index-requires
unwrap-index-requires c =
    named_there c.self.inside.setup c.self.inside.pages.entries c.self.inside.lists c.self.inside.accesses c.args.name c.args.self.now c.self.view_is c.self.invariant c.get_index_of.result c.get_index_of.ensures.index c.requires.kept

pub copy_from_slice-requires : goal.copy_from_slice-requires
copy_from_slice-requires c =
    let f = named_found c.self.inside.setup c.self.inside.pages.entries c.self.inside.lists c.self.inside.accesses c.args.name c.unwrap-index.result c.self.invariant c.get_index_of.result c.get_index_of.ensures.index c.unwrap-index.ensures in
    let block = get_value c.self.inside.pages.entries c.unwrap-index.result f.placed.entry c.index_mut-block.result.now f.placed.got c.index_mut-block.ensures.value in
    ap length c.as_mut_slice.ensures.value ∙ ap (λ (b : Block). length b.bytes.items) (sym block) ∙ f.size_is ∙ sym c.requires.long

pub invariant_of-self : goal.invariant_of-self
invariant_of-self c =
    let f = named_found c.self.inside.setup c.self.inside.pages.entries c.self.inside.lists c.self.inside.accesses c.args.name c.unwrap-index.result c.self.invariant c.get_index_of.result c.get_index_of.ensures.index c.unwrap-index.ensures in
    holds_changed c.self.inside.setup c.self.inside.pages.entries c.self.inside.lists c.self.inside.accesses c.self.inside.accesses c.unwrap-index.result f.i (record c.index_mut-block.result.now { bytes = with_items c.index_mut-block.result.now.bytes c.copy_from_slice.new.self; unwritten = true }) (c.index_mut-block.result.now) c.self.invariant f.placed c.index_mut-block.ensures.value (ap length (with_items_is c.index_mut-block.result.now.bytes c.copy_from_slice.new.self (c.copy_from_slice.ensures.len ∙ ap length c.as_mut_slice.ensures.value ∙ sym c.index_mut-block.result.now.bytes.ok.0)) ∙ c.copy_from_slice.ensures.len ∙ ap length c.as_mut_slice.ensures.value)

pub returns : goal.returns
returns c i at s =
    let f = named_found c.self.inside.setup c.self.inside.pages.entries c.self.inside.lists c.self.inside.accesses c.args.name c.unwrap-index.result c.self.invariant c.get_index_of.result c.get_index_of.ensures.index c.unwrap-index.ensures in
    let p = same_place c.self.inside.pages.entries c.self.inside.lists c.self.inside.setup c.self.inside.accesses c.args.name.at c.args.name.size c.unwrap-index.result c.args.self.now c.self.view_is f i at in
    changed_order c.self.inside.setup c.self.inside.pages.entries c.self.inside.lists c.self.inside.accesses c.self.inside.accesses c.unwrap-index.result i (record c.index_mut-block.result.now { bytes = with_items c.index_mut-block.result.now.bytes c.copy_from_slice.new.self; unwritten = true }) c.index_mut-block.result.now (λ k. with_bytes k c.args.bytes.now) (λ n. n) c.args.self.now c.self.view_is c.self.invariant p c.index_mut-block.ensures.value refl
    (λ n. (λ j. record { page = record { at = n.at; bytes = (with_items_is c.index_mut-block.result.now.bytes c.copy_from_slice.new.self (c.copy_from_slice.ensures.len ∙ ap length c.as_mut_slice.ensures.value ∙ sym c.index_mut-block.result.now.bytes.ok.0) ∙ c.copy_from_slice.ensures.after) j; unwritten = true }; hits = c.index_mut-block.result.now.hits; last = c.index_mut-block.result.now.last })) s
