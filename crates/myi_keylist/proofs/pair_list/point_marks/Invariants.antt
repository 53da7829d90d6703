use Rattle.std.proofs.Common.{◌≡◌, take, drop, map, ◌++◌}
use Rattle.myi_keylist.specs.PairLists.{pointed_mark}
use Rattle.myi_keylist.proofs.pair_list.point_marks.Given as goal

-- those so far have pointers, the others are as before
abbrev pub invariant-loop-mark : goal.invariant-loop-mark
invariant-loop-mark l = l.marks ≡ map (pointed_mark l.pointers) (take l.mark-index l.fn.marks) ++ drop l.mark-index l.fn.marks
