use Rattle.std.proofs.Common.{sym, ap}
use Rattle.myi_keycache.specs.Kept.{KeptPage}
use Rattle.myi_keycache.proofs.SlotLemmas.{named_there, named_found, at_index}
use Rattle.myi_keycache.proofs.blocks.Blocks.is_unwritten.Goals as goal

pub unwrap-index-requires : goal.unwrap-index-requires
unwrap-index-requires c =
    named_there c.self.inside.setup c.self.inside.pages.entries c.self.inside.lists c.self.inside.accesses c.args.name c.args.self.now c.self.view_is c.self.invariant c.get_index_of.result c.get_index_of.ensures.index c.requires

pub returns-clause-unwritten : goal.returns-clause-unwritten
returns-clause-unwritten c i at s =
    let p = at_index c.self.inside.setup c.self.inside.pages.entries c.self.inside.lists c.self.inside.accesses c.args.name.at c.args.name.size c.unwrap-index.result c.args.self.now (c.index.result.now) c.self.view_is (named_found c.self.inside.setup c.self.inside.pages.entries c.self.inside.lists c.self.inside.accesses c.args.name c.unwrap-index.result c.self.invariant c.get_index_of.result c.get_index_of.ensures.index c.unwrap-index.ensures) c.index.ensures i at s in
    ap (λ (k : KeptPage). k.page.unwritten) (sym p.page)
