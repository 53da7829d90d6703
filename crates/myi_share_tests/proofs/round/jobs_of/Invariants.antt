use Rattle.std.proofs.Common.{◌≡◌, All}
use Rattle.myi_share_tests.specs.Parts.{of_inserter}
use Rattle.myi_share_tests.specs.Jobs.{part_of}
use Rattle.myi_share_tests.proofs.round.jobs_of.Given as goal

abbrev pub invariant-loop-reader : goal.invariant-loop-reader
invariant-loop-reader l =
    (goal.iterator-loop-reader).can_next l.reader-iterator
    × (goal.iterator-loop-reader).is_finite l.reader-iterator
    × All (λ j. part_of j ≡ of_inserter l.fn.shares.inserter.table) l.jobs.items
