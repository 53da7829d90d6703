use Rattle.std.proofs.Common.{◌≡◌, length, take, vec_len}
use Rattle.myi_rounds.specs.Backs.{jobs_for}
use Rattle.myi_rounds.proofs.backs.jobs_of.Given as goal

abbrev pub invariant-loop-reader : goal.invariant-loop-reader
invariant-loop-reader g l =
    (goal.iterator-loop-reader g).can_next l.reader-iterator
    × (goal.iterator-loop-reader g).is_finite l.reader-iterator
    × (vec_len l.jobs ≡ length l.yielded)
    × (l.jobs.items ≡ jobs_for l.asked.lines.now (take (length l.yielded) l.asked.reads.now) l.yielded)
