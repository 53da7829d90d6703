use Rattle.std.proofs.Common.{arith}
use Rattle.std.specs.List.{filter}
use Rattle.myi_keylist.specs.Columns.{has_flag}
use Rattle.myi_rowkeys.proofs.ListLemmas.{changed_next}
use Rattle.myi_rowkeys.proofs.row_keys.retain_rows.Goals as goal

pub loop-list-preserved : goal.loop-list-preserved
loop-list-preserved c = changed_next (filter (has_flag c.args.flags.now)) c.args.lists.now _ _ _ _ (omega arith) c.loop-list.invariant c.retain.ensures
