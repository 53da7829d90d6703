use Rattle.std.proofs.Common.{◌≡◌, map}
use Rattle.myi_tail_tests.specs.Jobs.{tail_of}
use Rattle.myi_tail_tests.proofs.run.take_turns.Given as goal

abbrev pub invariant-loop : goal.invariant-loop
invariant-loop l = map tail_of l.jobs ≡ map tail_of l.initial.jobs
