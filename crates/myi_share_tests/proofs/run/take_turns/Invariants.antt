use Rattle.std.proofs.Common.{◌≡◌, map}
use Rattle.myi_share_tests.specs.Jobs.{part_of}
use Rattle.myi_share_tests.proofs.run.take_turns.Given as goal

abbrev pub invariant-loop : goal.invariant-loop
invariant-loop l = map part_of l.jobs ≡ map part_of l.initial.jobs
