use Rattle.std.proofs.Common.{◌≡◌, true, false, Bool, refl, sym, ap, ◌∙◌}
use Rattle.std.specs.Prelude.{◌&&◌}
use Rattle.myi_base.specs.Ranges.{is_apart}
use Rattle.myi_chain.specs.Used.{last_before, is_behind}
use Rattle.myi_chain.proofs.UsedLemmas.{both_behind}
use Rattle.myi_chain.proofs.ranges.Ranges.is_apart.Goals as goal

first_holds : (a b : Bool) → a ≡ true → b ≡ (a && b)
first_holds a b e = rw e refl

first_fails : (a b : Bool) → a ≡ false → a ≡ (a && b)
first_fails a b e = rw e refl

pub returns-then-is_behind : goal.returns-then-is_behind
returns-then-is_behind c =
    let at = c.args.at in
    let u = c.self.inside in
    let e = both_behind at c.args.end u.near.items u.far.entries c.self.invariant.0 c.self.invariant.1 in
    let near = c.is_behind.ensures ∙ ap (is_behind at) (c.last_near.ensures ∙ ap (last_before c.args.end) c.deref.ensures.value) in
    let far = c.is_behind-then-is_behind.ensures ∙ ap (is_behind at) c.last_far.ensures in
    far ∙ first_holds _ _ (sym near ∙ c.if-is_behind.true) ∙ sym (ap (is_apart (at, c.args.end)) (sym c.self.view_is) ∙ e)

pub returns-else-is_behind : goal.returns-else-is_behind
returns-else-is_behind c =
    let at = c.args.at in
    let u = c.self.inside in
    let e = both_behind at c.args.end u.near.items u.far.entries c.self.invariant.0 c.self.invariant.1 in
    let near = c.is_behind.ensures ∙ ap (is_behind at) (c.last_near.ensures ∙ ap (last_before c.args.end) c.deref.ensures.value) in
    near ∙ first_fails _ _ (sym near ∙ c.if-is_behind.false) ∙ sym (ap (is_apart (at, c.args.end)) (sym c.self.view_is) ∙ e)
