use Rattle.std.proofs.Common.{◌≡◌}
use Rattle.std.specs.Ordering.{nat_cmp}
use Rattle.std.specs.Cmp.Lexicographic.{slice_cmp}
use Rattle.myi_keys.proofs.WeightLists.{left_cmp}
use Rattle.myi_keys.proofs.comparing.compare_weights.Given as goal

-- what is left decides
abbrev pub invariant-loop-i : goal.invariant-loop-i
invariant-loop-i l = left_cmp l.i l.one l.other ≡ slice_cmp nat_cmp l.one l.other
