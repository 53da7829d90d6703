use Rattle.std.proofs.Common.{◌≡◌, All}
use Rattle.myi_tail_tests.specs.Jobs.{tail_of}
use Rattle.myi_tail_tests.proofs.round.jobs_of.Given as goal

abbrev pub invariant-loop-reader : goal.invariant-loop-reader
invariant-loop-reader l =
    (goal.iterator-loop-reader).can_next l.reader-iterator
    × (goal.iterator-loop-reader).is_finite l.reader-iterator
    × All (λ j. tail_of j ≡ l.fn.tail.appender.tail) l.jobs.items
