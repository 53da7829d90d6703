use Rattle.std.proofs.Common.{ℕ, Option, sym, ap, subst, ◌∙◌}
use Rattle.myi_search.specs.Least.{IsLeastRow}
use Rattle.myi_search.specs.Passing.{first_kept, IsParted, best_of}
use Rattle.myi_search.proofs.TreeLaws.{Test}
use Rattle.myi_search.proofs.LeastLaws.{key_parted, least_row}
use Rattle.myi_search.proofs.search.find.Goals as goal

pub returns-clause-least : goal.returns-clause-least
returns-clause-least g c = λ m held current height pairs has sorted.
    let best = c.in_ok-descend.ensures.found m held current height pairs has (subst (λ (t : Test). IsParted t pairs) (sym c.before_key-bound.ensures) (key_parted c.args.key.now pairs sorted)) in
    subst (λ (row : Option ℕ). IsLeastRow c.args.key.now pairs row) (sym c.row_of.ensures)
    (least_row c.args.key.now pairs (best_of c.descend.new.reached) sorted (best ∙ ap (λ (t : Test). first_kept t pairs) c.before_key-bound.ensures))
