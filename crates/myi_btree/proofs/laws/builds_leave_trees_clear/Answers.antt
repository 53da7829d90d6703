use Rattle.myi_btree.proofs.BuildClear.{built_clear, others_before, others_refused}
use Rattle.myi_btree.proofs.laws.builds_leave_trees_clear.Goals as goal

pub returns : goal.returns
returns c = record { this = built_clear; others = others_before; refused = others_refused }
