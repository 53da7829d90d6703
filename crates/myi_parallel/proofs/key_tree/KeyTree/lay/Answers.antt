use Rattle.std.proofs.Common.{◌∙◌, ap, sym, subst}
use Rattle.std.specs.Prelude.{IfSome}
use Rattle.myi_btree.specs.Sizes.{AreSized}
use Rattle.myi_btree.specs.Building.{laid_at, built_at, pages_bytes}
use Rattle.myi_parallel.specs.Asked.{asked}
use Rattle.myi_parallel.specs.LaidTrees.{IsLaid}
use Rattle.myi_parallel.proofs.SortLaws.{sorted_all, same_sorted, sorted_self}
use Rattle.myi_parallel.proofs.key_tree.KeyTree.lay.Goals as goal

pub lay-requires-clause-sized : goal.lay-requires-clause-sized
lay-requires-clause-sized c = subst (AreSized c.args.self.now.place) (sym c.sort.ensures) (sorted_all _ c.args.self.now.pairs c.args.self.now.sized)

pub invariant_of-self : goal.invariant_of-self
invariant_of-self c =
    let t = c.args.self.now in
    let own = sym (sorted_self t.pairs c.sort.new.self c.sort.ensures) in
    record {
      placed = t.placed;
      sized = subst (AreSized t.place) (sym c.sort.ensures) (sorted_all _ t.pairs t.sized);
      right = record { pages = c.in-Ok.ensures.pages ∙ ap (λ ps. pages_bytes t.place (laid_at t.place 0 ps)) own; root = c.in-Ok.ensures.place ∙ ap (λ ps. built_at t.place 0 ps) own };
    }

pub invariant_of-self-in_default : goal.invariant_of-self-in_default
invariant_of-self-in_default c =
    let t = c.args.self.now in
    record {
      placed = t.placed;
      sized = subst (AreSized t.place) (sym c.sort.ensures) (sorted_all _ t.pairs t.sized);
      right = subst (λ ps. IfSome t.laid (IsLaid t.place ps)) (sym (same_sorted t.pairs c.sort.new.self c.sort.ensures)) t.right;
    }

pub returns-in-Ok : goal.returns-in-Ok
returns-in-Ok c = ap (asked c.args.self.now.key c.args.self.now.place) (same_sorted c.args.self.now.pairs c.sort.new.self c.sort.ensures)

pub returns-in_default : goal.returns-in_default
returns-in_default c = ap (asked c.args.self.now.key c.args.self.now.place) (same_sorted c.args.self.now.pairs c.sort.new.self c.sort.ensures)
