use Rattle.std.proofs.Common.{◌∙◌, ap, subst, sym}
use Rattle.myi_btree.specs.Sizes.{AreSized}
use Rattle.myi_repair.proofs.TreeLaws.{sorted_sized}
use Rattle.myi_repair.proofs.trees.build_tree.Goals as goal

pub build-requires-clause-sized : goal.build-requires-clause-sized
build-requires-clause-sized g c κs lives = subst (AreSized c.args.place) (sym c.sort.ensures) (sorted_sized c.args.place c.args.pairs c.requires.sized)

pub returns-in-Ok-clause-laid : goal.returns-in-Ok-clause-laid
returns-in-Ok-clause-laid g c = rw c.sort.ensures at c.in-Ok.ensures.laid

pub returns-in-Ok-clause-root : goal.returns-in-Ok-clause-root
returns-in-Ok-clause-root g c = c.root.ensures ∙ ap (λ t. t.root) (rw c.sort.ensures at c.in-Ok.ensures.root)

pub returns-in-Ok-clause-end : goal.returns-in-Ok-clause-end
returns-in-Ok-clause-end g c = rw c.sort.ensures at c.in-Ok.ensures.end
