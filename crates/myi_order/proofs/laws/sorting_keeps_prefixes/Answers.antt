use Rattle.myi_order.proofs.PrefixLaws.{distinct_sorted, per_sorted, each_sorted}
use Rattle.myi_order.proofs.laws.sorting_keeps_prefixes.Goals as goal

pub returns-clause-distinct : goal.returns-clause-distinct
returns-clause-distinct c = distinct_sorted

pub returns-clause-per : goal.returns-clause-per
returns-clause-per c = per_sorted

pub returns-clause-each : goal.returns-clause-each
returns-clause-each c = each_sorted
