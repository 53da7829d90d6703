use Rattle.std.proofs.Common.{ap, length, arith}
use Rattle.std.proofs.lemmas.List.{length-map}
use Rattle.myi_search.proofs.laws.searches_are_short.Goals as goal

pub returns : goal.returns
returns c = λ place cache m root height pairs tree.
    let bound = c.trees_are_shallow.ensures.lent place cache m height root tree.0 tree.1 in
    omega (arith, bound, ap length tree.2, length-map tree.0.pairs (λ x. x.0))
