use Rattle.std.proofs.Common.{arith}
use Rattle.myi_keylist.specs.PairLists.{pointed_mark}
use Rattle.myi_keylist.proofs.PointLaws.{one_more}
use Rattle.myi_keylist.proofs.pair_list.point_marks.Goals as goal

pub loop-mark-preserved : goal.loop-mark-preserved
loop-mark-preserved c =
    one_more (pointed_mark c.args.pointers.now) c.args.marks.now _ _ _ _ (omega arith) c.loop-mark.invariant c.point_mark.ensures
