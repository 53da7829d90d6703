use Rattle.std.proofs.Common.{◌≡◌, drop}
use Rattle.myi_keylist.specs.Repeats.{has_repeat}
use Rattle.myi_keylist.proofs.pair_list.PairList.has_repeat.Given as goal

-- what is left decides
abbrev pub invariant-loop-i : goal.invariant-loop-i
invariant-loop-i l = has_repeat (drop l.i l.self) ≡ has_repeat l.fn.self
