use Rattle.std.proofs.Common.{◌∙◌}
use Rattle.myi_keycache.proofs.SlotLemmas.{kept_same, equals, equals_tests}
use Rattle.myi_keycache.proofs.blocks.Blocks.is_kept.Goals as goal

pub returns-clause-kept : goal.returns-clause-kept
returns-clause-kept c =
    c.is_some.ensures ∙ kept_same c.self.inside.setup c.self.inside.pages.entries c.self.inside.lists c.self.inside.accesses c.args.name.at c.args.name.size c.args.self.now c.self.view_is c.self.invariant (equals c.args.name) (equals_tests c.args.name) c.get_index_of.result c.get_index_of.ensures.index
