use Rattle.std.proofs.Common.{[], ◌∷◌, sym, ap, subst, inr, ◌∙◌, arith}
use Rattle.std.specs.Prelude.{is_some}
use Rattle.std.proofs.lemmas.Option.{same_Some}
use Rattle.myi_keycache.specs.Ring.{Linked}
use Rattle.myi_keycache.proofs.SlotLemmas.{Placed}
use Rattle.myi_keycache.proofs.MoveLemmas.{first_hot_page, first_index, few_left, to_first}
use Rattle.myi_keycache.proofs.blocks.Blocks.move_to_warm_beginning.Goals as goal

pub unwrap-index-requires : goal.unwrap-index-requires
unwrap-index-requires c =
    let f = first_hot_page c.self.inside.setup c.self.inside.pages.entries c.self.inside.lists c.self.inside.accesses c.args.self.now c.self.view_is c.self.invariant c.requires in
    ap is_some (first_index c.self.inside.pages.entries c.self.inside.lists c.args.self.now f c.first_hot.result c.first_hot.ensures)

pub take_off-requires : goal.take_off-requires
take_off-requires c =
    let f = first_hot_page c.self.inside.setup c.self.inside.pages.entries c.self.inside.lists c.self.inside.accesses c.args.self.now c.self.view_is c.self.invariant c.requires in
    let ix = same_Some _ _ (sym (first_index c.self.inside.pages.entries c.self.inside.lists c.args.self.now f c.first_hot.result c.first_hot.ensures) ∙ c.unwrap-index.ensures) in
    inr ([], f.rest, f.hot ∙ ap (λ n. n ∷ f.rest) ix)

pub put_at_warm_beginning-requires-clause-few : goal.put_at_warm_beginning-requires-clause-few
put_at_warm_beginning-requires-clause-few c =
    let f = first_hot_page c.self.inside.setup c.self.inside.pages.entries c.self.inside.lists c.self.inside.accesses c.args.self.now c.self.view_is c.self.invariant c.requires in
    let p = subst (λ n. Placed c.self.inside.pages.entries c.self.inside.lists n c.args.self.now.warm) (same_Some _ _ (sym (first_index c.self.inside.pages.entries c.self.inside.lists c.args.self.now f c.first_hot.result c.first_hot.ensures) ∙ c.unwrap-index.ensures)) f.placed in
    omega (arith, few_left c.self.inside.setup c.self.inside.pages.entries c.self.inside.lists c.take_off.new.self c.self.inside.accesses c.unwrap-index.result c.args.self.now.warm c.self.invariant p c.take_off.ensures.warm c.take_off.ensures.hot)

pub invariant_of-self : goal.invariant_of-self
invariant_of-self c =
    let f = first_hot_page c.self.inside.setup c.self.inside.pages.entries c.self.inside.lists c.self.inside.accesses c.args.self.now c.self.view_is c.self.invariant c.requires in
    let ix = same_Some _ _ (sym (first_index c.self.inside.pages.entries c.self.inside.lists c.args.self.now f c.first_hot.result c.first_hot.ensures) ∙ c.unwrap-index.ensures) in
    (to_first c.self.inside.setup c.self.inside.pages.entries c.self.inside.lists c.put_at_warm_beginning.new.self c.self.inside.accesses c.unwrap-index.result f.rest c.args.self.now c.self.view_is c.self.invariant (f.hot ∙ ap (λ n. n ∷ f.rest) ix) (c.put_at_warm_beginning.ensures ∙ ap (λ (l : Linked). record l { warm = c.unwrap-index.result ∷ l.warm }) (c.take_off.ensures.hot [] f.rest (f.hot ∙ ap (λ n. n ∷ f.rest) ix)))).0

pub returns : goal.returns
returns c =
    let f = first_hot_page c.self.inside.setup c.self.inside.pages.entries c.self.inside.lists c.self.inside.accesses c.args.self.now c.self.view_is c.self.invariant c.requires in
    let ix = same_Some _ _ (sym (first_index c.self.inside.pages.entries c.self.inside.lists c.args.self.now f c.first_hot.result c.first_hot.ensures) ∙ c.unwrap-index.ensures) in
    (to_first c.self.inside.setup c.self.inside.pages.entries c.self.inside.lists c.put_at_warm_beginning.new.self c.self.inside.accesses c.unwrap-index.result f.rest c.args.self.now c.self.view_is c.self.invariant (f.hot ∙ ap (λ n. n ∷ f.rest) ix) (c.put_at_warm_beginning.ensures ∙ ap (λ (l : Linked). record l { warm = c.unwrap-index.result ∷ l.warm }) (c.take_off.ensures.hot [] f.rest (f.hot ∙ ap (λ n. n ∷ f.rest) ix)))).1
