use Rattle.std.proofs.Common.{◌≡◌, map}
use Rattle.myi_share_tests.specs.Jobs.{part_of}
use Rattle.myi_share_tests.proofs.run.turn_of_each.Given as goal

abbrev pub invariant-loop-i : goal.invariant-loop-i
invariant-loop-i l = map part_of l.jobs ≡ map part_of l.initial.jobs
