use Rattle.std.proofs.Common.{◌≡◌, All, IfSome}
use Rattle.myi_share_tests.specs.Parts.{Part, IsPutPart, IsReadPart}
use Rattle.myi_share_tests.specs.Jobs.{part_of}
use Rattle.myi_share_tests.proofs.round.left_from.Given as goal

abbrev pub invariant-loop-job : goal.invariant-loop-job
invariant-loop-job l =
    (goal.iterator-loop-job).can_next l.job-iterator
    × (goal.iterator-loop-job).is_finite l.job-iterator
    × ((part : Part) → All (λ j. part_of j ≡ part) l.fn.jobs.items
    → IfSome l.inserter (λ i. IsPutPart part i.table) × All (λ r. IsReadPart part r.table) l.readers.items)
