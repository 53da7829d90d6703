use Rattle.std.proofs.Common.{ap, ◌∙◌}
use Rattle.myi_keycache.specs.Midpoint.{aged}
use Rattle.myi_keycache.specs.Order.{lists_in}
use Rattle.myi_keycache.proofs.StaysLemmas.{alike_then}
use Rattle.myi_keycache.proofs.HitLemmas.{asked_aged}
use Rattle.myi_keycache.proofs.blocks.Blocks.hit.Goals as goal

pub returns-clause-lists : goal.returns-clause-lists
returns-clause-lists c =
    c.age.ensures.lists ∙ ap (λ s. aged s (lists_in c.ask.new.self)) c.ask.ensures.setup ∙ ap (aged c.args.self.now.setup) c.ask.ensures.lists ∙ asked_aged c.args.self.now.setup c.args.name.at c.args.name.size (lists_in c.args.self.now)

pub returns-clause-setup : goal.returns-clause-setup
returns-clause-setup c =
    c.age.ensures.setup ∙ c.ask.ensures.setup

pub returns-clause-alike : goal.returns-clause-alike
returns-clause-alike c =
    alike_then _ _ _ c.ask.ensures.alike c.age.ensures.alike
