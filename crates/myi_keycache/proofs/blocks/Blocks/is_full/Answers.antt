use Rattle.std.proofs.Common.{ap, ◌∙◌}
use Rattle.std.specs.Prelude.{nat_le}
use Rattle.myi_keycache.specs.Order.{Order}
use Rattle.myi_keycache.proofs.SlotLemmas.{pages_long}
use Rattle.myi_keycache.proofs.blocks.Blocks.is_full.Goals as goal

pub returns-clause-full : goal.returns-clause-full
returns-clause-full c =
    (λ i. nat_le (ap (λ (o : Order). o.setup.blocks) c.self.view_is i) ((c.len.ensures.len ∙ pages_long c.self.inside.setup c.self.inside.pages.entries c.self.inside.lists c.self.inside.accesses c.args.self.now c.self.view_is c.self.invariant) i))
