use Rattle.std.proofs.Common.{Option, sym, ap, subst, ◌∙◌}
use Rattle.std.specs.Option.{option_copied}
use Rattle.std.proofs.lemmas.Result.{err_from_is_err_and}
use Rattle.myi_keylist.specs.declared.pair.Pair.{Pair}
use Rattle.myi_btree.specs.CachedTrees.{node_lent}
use Rattle.myi_search.specs.Least.{IsLeastAbove}
use Rattle.myi_search.specs.Path.{IsStopped}
use Rattle.myi_search.specs.Passing.{first_kept, IsParted, best_of}
use Rattle.myi_search.proofs.Serving.{if_err}
use Rattle.myi_search.proofs.TreeLaws.{Test}
use Rattle.myi_search.proofs.LeastLaws.{above_parted, least_above}
use Rattle.myi_search.proofs.search.next_after.Goals as goal

pub returns-in_err-descend-clause-damaged : goal.returns-in_err-descend-clause-damaged
returns-in_err-descend-clause-damaged g c =
    let e = err_from_is_err_and c.from_residual.result c.from_residual.ensures.1 in
    if_err c.from_residual.result e.0 _ e.1 (λ p d m held current. subst (λ (t : Test). IsStopped (node_lent c.args.place.now c.args.cache.now m) t c.args.place.now.root p) c.behind-bound.ensures (c.in_err-descend.ensures.stopped p (sym e.2 ∙ d) m held current))

pub returns-clause-least : goal.returns-clause-least
returns-clause-least g c = λ m held current height pairs has sorted.
    let best = c.in_ok-descend.ensures.found m held current height pairs has (subst (λ (t : Test). IsParted t pairs) (sym c.behind-bound.ensures) (above_parted (option_copied c.args.after) pairs sorted)) in
    subst (λ (pair : Option Pair). IsLeastAbove (option_copied c.args.after) pairs pair) (sym c.into_pair.ensures)
    (least_above (option_copied c.args.after) pairs (best_of c.descend.new.reached) sorted (best ∙ ap (λ (t : Test). first_kept t pairs) c.behind-bound.ensures))
