use Rattle.std.proofs.Common.{refl, ◌∙◌, sym, ap, drop, List}
use Rattle.myi_keypage.proofs.view.PageWalk.next_item.Goals as goal
use Rattle.myi_keypage.specs.PageItems.{Item}
use Rattle.myi_keypage.proofs.PageIs.{walk_end, walk_more}

pub returns-in_default-clause-item : goal.returns-in_default-clause-item
returns-in_default-clause-item c =
    let nil = sym c.self.view_is ∙ walk_end _ _ _ c.self.invariant.1 (sym c.in_default.ensures) in
    rw nil refl

pub returns-in_default-clause-rest : goal.returns-in_default-clause-rest
returns-in_default-clause-rest c =
    let nil = sym c.self.view_is ∙ walk_end _ _ _ c.self.invariant.1 (sym c.in_default.ensures) in
    rw nil refl

pub invariant_of-self : goal.invariant_of-self
invariant_of-self c =
    let k = walk_more _ _ _ _ c.self.invariant.2 c.self.invariant.1 (sym c.in-Some.ensures) in
    (c.self.invariant.0, k.1, k.2)

pub returns-clause-item : goal.returns-clause-item
returns-clause-item c =
    let k = walk_more _ _ _ _ c.self.invariant.2 c.self.invariant.1 (sym c.in-Some.ensures) in
    let more = sym c.self.view_is ∙ k.0 in
    rw more refl

pub returns-clause-rest : goal.returns-clause-rest
returns-clause-rest c =
    let k = walk_more _ _ _ _ c.self.invariant.2 c.self.invariant.1 (sym c.in-Some.ensures) in
    let more = sym c.self.view_is ∙ k.0 in
    sym (ap (λ (t : List Item). drop 1 t) more)
