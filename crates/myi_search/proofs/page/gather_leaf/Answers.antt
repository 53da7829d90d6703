use Rattle.std.proofs.Common.{sym, ap, ◌∙◌}
use Rattle.myi_search.specs.Passing.{best_of}
use Rattle.myi_search.proofs.GatherLaws.{node_gathered, leaf_gathered, none_shown}
use Rattle.myi_search.proofs.page.gather_leaf.Goals as goal

pub returns-clause-none : goal.returns-clause-none
returns-clause-none c = λ e. none_shown c.args.view.now (sym e ∙ c.in_ok-all.ensures.all)

pub returns-clause-run : goal.returns-clause-run
returns-clause-run c = λ on. leaf_gathered c.args.view.now (best_of c.args.reached.now) c.gather.new.reached.run c.in_ok-all.ensures.run
