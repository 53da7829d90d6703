use Rattle.myi_btree.proofs.ClearLaws.{clear_still, others_clear}
use Rattle.myi_btree.proofs.laws.walks_leave_trees_clear.Goals as goal

pub returns : goal.returns
returns c = record { this = clear_still; others = others_clear }
