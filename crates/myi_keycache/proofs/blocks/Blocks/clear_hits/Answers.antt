use Rattle.std.proofs.Common.{sym, ap, refl, subst, ◌∙◌}
use Rattle.std.specs.Prelude.{is_some}
use Rattle.std.proofs.lemmas.Option.{same_Some, slice_get_within}
use Rattle.myi_keycache.proofs.SlotLemmas.{Placed, changed_order, holds_changed}
use Rattle.myi_keycache.proofs.MoveLemmas.{first_hot_page, first_index}
use Rattle.myi_keycache.proofs.blocks.Blocks.clear_hits.Goals as goal

pub unwrap-index-requires : goal.unwrap-index-requires
unwrap-index-requires c =
    let f = first_hot_page c.self.inside.setup c.self.inside.pages.entries c.self.inside.lists c.self.inside.accesses c.args.self.now c.self.view_is c.self.invariant c.requires in
    ap is_some (first_index c.self.inside.pages.entries c.self.inside.lists c.args.self.now f c.first_hot.result c.first_hot.ensures)

pub index_mut-requires : goal.index_mut-requires
index_mut-requires c =
    let f = first_hot_page c.self.inside.setup c.self.inside.pages.entries c.self.inside.lists c.self.inside.accesses c.args.self.now c.self.view_is c.self.invariant c.requires in
    let p = subst (λ n. Placed c.self.inside.pages.entries c.self.inside.lists n c.args.self.now.warm) (same_Some _ _ (sym (first_index c.self.inside.pages.entries c.self.inside.lists c.args.self.now f c.first_hot.result c.first_hot.ensures) ∙ c.unwrap-index.ensures)) f.placed in
    slice_get_within c.self.inside.pages.entries c.unwrap-index.result p.entry p.got

pub invariant_of-self : goal.invariant_of-self
invariant_of-self c =
    let f = first_hot_page c.self.inside.setup c.self.inside.pages.entries c.self.inside.lists c.self.inside.accesses c.args.self.now c.self.view_is c.self.invariant c.requires in
    let p = subst (λ n. Placed c.self.inside.pages.entries c.self.inside.lists n c.args.self.now.warm) (same_Some _ _ (sym (first_index c.self.inside.pages.entries c.self.inside.lists c.args.self.now f c.first_hot.result c.first_hot.ensures) ∙ c.unwrap-index.ensures)) f.placed in
    holds_changed c.self.inside.setup c.self.inside.pages.entries c.self.inside.lists c.self.inside.accesses c.self.inside.accesses c.unwrap-index.result c.args.self.now.warm _ _ c.self.invariant p c.index_mut.ensures.value refl

pub returns : goal.returns
returns c s =
    let f = first_hot_page c.self.inside.setup c.self.inside.pages.entries c.self.inside.lists c.self.inside.accesses c.args.self.now c.self.view_is c.self.invariant c.requires in
    let p = subst (λ n. Placed c.self.inside.pages.entries c.self.inside.lists n c.args.self.now.warm) (same_Some _ _ (sym (first_index c.self.inside.pages.entries c.self.inside.lists c.args.self.now f c.first_hot.result c.first_hot.ensures) ∙ c.unwrap-index.ensures)) f.placed in
    changed_order c.self.inside.setup c.self.inside.pages.entries c.self.inside.lists c.self.inside.accesses c.self.inside.accesses c.unwrap-index.result c.args.self.now.warm _ _ (λ k. record k { hits = 0 }) (λ n. n) c.args.self.now c.self.view_is c.self.invariant p c.index_mut.ensures.value refl (λ n. refl) s
