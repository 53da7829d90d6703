use Rattle.std.proofs.Common.{◌≡◌, map}
use Rattle.myi_tail_tests.specs.Jobs.{tail_of}
use Rattle.myi_tail_tests.proofs.run.turn_of_each.Given as goal

abbrev pub invariant-loop-i : goal.invariant-loop-i
invariant-loop-i l = map tail_of l.jobs ≡ map tail_of l.initial.jobs
