use Rattle.std.proofs.Common.{ap, length, arith}
use Rattle.std.proofs.lemmas.List.{length-map}
use Rattle.myi_insertion.proofs.FilledLaws.{tree_filled}
use Rattle.myi_insertion.proofs.laws.trees_stay_shallow.Goals as goal

pub returns-clause-few : goal.returns-clause-few
returns-clause-few c = λ place cache m root xs pages tree.
    let bound = c.trees_are_shallow.ensures.lent place cache m tree.0 root tree.1 tree.2 in
    (tree.0, (tree.1, tree.2, tree.3), omega (arith, bound, ap length tree.3, length-map tree.1.pairs (λ x. x.0)))

pub returns-clause-some : goal.returns-clause-some
returns-clause-some c = λ place cache m root xs pages tree. tree_filled place cache m root xs pages (c.pages_are_nodes.ensures.lent place cache m) tree
