use Rattle.std.proofs.Common.{◌≡◌}
use Rattle.myi_rounds.specs.Backs.{readers_in, went_in, AreWithin}
use Rattle.myi_rounds.proofs.backs.readers_of.Given as goal

abbrev pub invariant-loop-job : goal.invariant-loop-job
invariant-loop-job g l =
    (goal.iterator-loop-job g).can_next l.job-iterator
    × (goal.iterator-loop-job g).is_finite l.job-iterator
    × (l.readers.items ≡ readers_in l.yielded)
    × (l.reads.items ≡ went_in l.yielded)
    × AreWithin l.yielded
