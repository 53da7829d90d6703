use Rattle.std.proofs.lemmas.List.Sorted.{IsPermutation-trans}
use Rattle.myi_keycache.proofs.NameLemmas.{same_names}
use Rattle.myi_keycache.proofs.blocks.Blocks.unwritten.Goals as goal

pub returns-clause-all : goal.returns-clause-all
returns-clause-all c =
    IsPermutation-trans _ _ _ (same_names c.self.inside.setup c.self.inside.pages.entries c.self.inside.lists c.self.inside.accesses c.args.self.now c.self.view_is c.self.invariant) c.in_ok-found.ensures.all
