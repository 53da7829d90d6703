use Rattle.std.proofs.Common.{◌≡◌, length}
use Rattle.myi_script.specs.Reading.{unhex}
use Rattle.myi_script.proofs.ReadingLemmas.{joined}
use Rattle.myi_script.proofs.value.unhex.Given as goal

abbrev pub invariant-loop-rest : goal.invariant-loop-rest
invariant-loop-rest l = joined l.bytes.items (unhex l.rest) ≡ unhex l.word

abbrev pub decreases-loop-rest : goal.decreases-loop-rest
decreases-loop-rest l = length l.rest
