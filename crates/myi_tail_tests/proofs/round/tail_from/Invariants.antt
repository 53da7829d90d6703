use Rattle.std.proofs.Common.{◌≡◌, All, IfSome}
use Rattle.myi_tail.specs.Seats.{TailId}
use Rattle.myi_tail_tests.specs.Jobs.{tail_of}
use Rattle.myi_tail_tests.proofs.round.tail_from.Given as goal

abbrev pub invariant-loop-job : goal.invariant-loop-job
invariant-loop-job l =
    (goal.iterator-loop-job).can_next l.job-iterator
    × (goal.iterator-loop-job).is_finite l.job-iterator
    × ((id : TailId) → All (λ j. tail_of j ≡ id) l.fn.jobs.items → IfSome l.found (λ a. a.tail ≡ id) × All (λ r. r.tail ≡ id) l.readers.items)
