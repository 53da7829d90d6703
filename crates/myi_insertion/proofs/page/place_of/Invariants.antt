use Rattle.std.proofs.Common.{take}
use Rattle.myi_keys.specs.Comparing.{key_front}
use Rattle.myi_keylist.specs.PairOrder.{pair_with}
use Rattle.myi_insertion.specs.Ordered.{AreBefore}
use Rattle.myi_insertion.proofs.page.place_of.Given as goal

abbrev pub invariant-loop-i : goal.invariant-loop-i
invariant-loop-i l = AreBefore (pair_with (key_front l.code) l.row) (take l.i l.pairs)
