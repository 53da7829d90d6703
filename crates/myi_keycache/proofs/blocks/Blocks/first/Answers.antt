use Rattle.std.proofs.Common.{◌≡◌, Some, slice_get, sym, ap, subst, ◌∙◌, arith}
use Rattle.std.specs.Prelude.{option_map}
use Rattle.std.specs.Map.Iter.{deref_pair}
use Rattle.myi_keycache.proofs.SlotLemmas.{first_there, first_named}
use Rattle.myi_keycache.proofs.blocks.Blocks.first.Goals as goal

pub unwrap-requires : goal.unwrap-requires
unwrap-requires c =
    let f = first_there c.self.inside.setup c.self.inside.pages.entries c.self.inside.lists c.self.inside.accesses c.args.self.now c.self.view_is c.self.invariant c.requires in
    c.get_index.ensures.found.1 (omega (arith, c.first.ensures f.0 f.1 f.2, f.3))

pub returns : goal.returns
returns c =
    let f = first_there c.self.inside.setup c.self.inside.pages.entries c.self.inside.lists c.self.inside.accesses c.args.self.now c.self.view_is c.self.invariant c.requires in
    let got = sym c.get_index.ensures.entry ∙ ap (option_map deref_pair) c.unwrap.ensures in
    let at = subst (λ n. slice_get c.self.inside.pages.entries n ≡ Some (c.unwrap.result.0.now, c.unwrap.result.1.now)) (c.first.ensures f.0 f.1 f.2) got in
    first_named c.self.inside.setup c.self.inside.pages.entries c.self.inside.lists c.self.inside.accesses f.0 f.1 c.args.self.now (c.unwrap.result.0.now, c.unwrap.result.1.now) c.self.view_is c.self.invariant f.2 at
