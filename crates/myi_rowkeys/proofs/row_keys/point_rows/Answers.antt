use Rattle.std.proofs.Common.{arith, map}
use Rattle.myi_keylist.specs.Columns.{pointed}
use Rattle.myi_rowkeys.proofs.ListLemmas.{changed_next}
use Rattle.myi_rowkeys.proofs.row_keys.point_rows.Goals as goal

pub loop-list-preserved : goal.loop-list-preserved
loop-list-preserved c = changed_next (map (pointed c.args.pointers.now)) c.args.lists.now _ _ _ _ (omega arith) c.loop-list.invariant c.point.ensures
