use Rattle.std.proofs.Common.{◌-◌, sym, ap, ◌∙◌}
use Rattle.std.specs.Prelude.{nat_lt}
use Rattle.myi_keycache.specs.Midpoint.{age_limit}
use Rattle.myi_keycache.specs.Order.{Order}
use Rattle.myi_keycache.proofs.MoveLemmas.{hot_at_first, no_hot_page}
use Rattle.myi_keycache.proofs.blocks.Blocks.is_first_old.Goals as goal

pub index-requires : goal.index-requires
index-requires c =
    (hot_at_first c.self.inside.setup c.self.inside.pages.entries c.self.inside.lists c.self.inside.accesses c.in-Some.index c.args.self.now c.self.view_is c.self.invariant (sym c.in-Some.ensures)).1

pub returns-clause-old : goal.returns-clause-old
returns-clause-old c s =
    let h = (hot_at_first c.self.inside.setup c.self.inside.pages.entries c.self.inside.lists c.self.inside.accesses c.in-Some.index c.args.self.now c.self.view_is c.self.invariant (sym c.in-Some.ensures)).0 in
    let last = h c.index.result.now c.index.ensures s in
    (λ i. nat_lt (age_limit (ap (λ (o : Order). o.setup) c.self.view_is i)) ((c.saturating_sub.ensures ∙ (λ j. ap (λ (o : Order). o.accesses) c.self.view_is j - last j)) i))

pub returns-clause-none : goal.returns-clause-none
returns-clause-none c le =
    absurd (no_hot_page c.self.inside.setup c.self.inside.pages.entries c.self.inside.lists c.self.inside.accesses c.args.self.now c.in-Some.index c.self.view_is le (sym c.in-Some.ensures))
