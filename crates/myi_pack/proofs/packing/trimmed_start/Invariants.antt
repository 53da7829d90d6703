use Rattle.std.proofs.Common.{◌≡◌, length}
use Rattle.myi_pack.specs.Spelling.{trimmed_start}
use Rattle.myi_pack.proofs.packing.trimmed_start.Given as goal

abbrev pub invariant-loop-rest : goal.invariant-loop-rest
invariant-loop-rest l = trimmed_start l.rest ≡ trimmed_start l.fn.value

abbrev pub decreases-loop-rest : goal.decreases-loop-rest
decreases-loop-rest l = length l.rest
