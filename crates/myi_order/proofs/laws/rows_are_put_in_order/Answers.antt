use Rattle.myi_order.proofs.OrderLaws.{is_in_order, order_pairs, order_distinct}
use Rattle.myi_order.proofs.laws.rows_are_put_in_order.Goals as goal

pub returns-clause-ordered : goal.returns-clause-ordered
returns-clause-ordered c = is_in_order

pub returns-clause-pairs : goal.returns-clause-pairs
returns-clause-pairs c = order_pairs

pub returns-clause-distinct : goal.returns-clause-distinct
returns-clause-distinct c = order_distinct
